-- How long a body may be: texts are longer in a form than in JSON, so places of forms take more.
use Rattle.std.specs.Prelude.{ℕ, Bool, if◌then◌else◌, List, take, codes}
use Rattle.std.specs.Str.{bytes_eq}
use Rattle.message_core.specs.declared.limits.BodyLimit.{BodyLimit}
use Rattle.message_core.specs.declared.limits.BodyLimit.TheVariants.{ByPlace, Plain}

-- the target begins with `/desk/`
abbrev pub takes_long_bodies : List ℕ → Bool
takes_long_bodies target = bytes_eq (take 6 target) (codes "/desk/")

-- the most bytes of the body of a message with this target
abbrev pub limit_at : BodyLimit → List ℕ → ℕ
limit_at Plain target = 65536
limit_at ByPlace target = if takes_long_bodies target then 262144 else 65536

-- the same of any target
abbrev pub most_of : BodyLimit → ℕ
most_of Plain = 65536
most_of ByPlace = 262144
