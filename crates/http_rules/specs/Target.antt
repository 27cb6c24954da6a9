-- The target of a message in origin form: a path, and what is asked there.
use Rattle.std.specs.Prelude.{ℕ, Bool, ◌&&◌, ◌||◌, ◌==◌, nat_le, if◌then◌else◌, List, [], ◌∷◌}
use Rattle.std.specs.Prelude.{Option, Some, None, length, take, drop, codes}
use Rattle.std.specs.Str.{str_eq_ignore_ascii_case}
use Rattle.message_core.specs.declared.request.Request.{Request}

-- in any case of its letters
abbrev pub begins_with : List ℕ → List ℕ → Bool
begins_with scheme target =
    nat_le (length scheme) (length target)
    && str_eq_ignore_ascii_case (take (length scheme) target) scheme

-- what stands behind the scheme of a whole address
abbrev pub behind_scheme : List ℕ → Option (List ℕ)
behind_scheme target =
    if begins_with (codes "http://") target then Some (drop 7 target)
    else (if begins_with (codes "https://") target then Some (drop 8 target) else None)

-- a slash, or the question mark of a query without a path
abbrev pub begins_path : ℕ → Bool
begins_path b = b == 47 || b == 63

-- what stands behind the host
abbrev pub from_path : List ℕ → List ℕ
from_path [] = []
from_path (b ∷ bs) = if begins_path b then b ∷ bs else from_path bs

-- where no path stands there it is a slash
abbrev pub with_slash : List ℕ → List ℕ
with_slash [] = 47 ∷ []
with_slash (b ∷ bs) = if b == 47 then b ∷ bs else 47 ∷ b ∷ bs

abbrev pub origin_by : List ℕ → Option (List ℕ) → List ℕ
origin_by target None = target
origin_by target (Some behind) = with_slash (from_path behind)

-- of a whole address what stands behind its host, and any other target as it is
abbrev pub origin_form : List ℕ → List ℕ
origin_form target = origin_by target (behind_scheme target)

abbrev pub in_origin_form : Request → Request
in_origin_form request =
    record request {
      message = record request.message { target = origin_form request.message.target };
    }
