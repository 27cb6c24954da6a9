-- The keys that what is posted to a path may have.
use Rattle.std.specs.Prelude.{ℕ, Bool, true, false, ◌&&◌, ◌||◌, List, [], ◌∷◌}
use Rattle.std.specs.Prelude.{Option, Some, None}
use Rattle.std.specs.Str.{bytes_eq}
use Rattle.desk_forms.specs.Kinds.{Argument}
use Rattle.desk_forms.specs.Paths.{PathParameter, InQueue, OnRequest}
use Rattle.desk_forms.specs.declared.kinds.Kind.{Kind}
use Rattle.desk_forms.specs.declared.kinds.Kind.TheVariants as kind

-- an argument of the kind is posted, where the path names this
abbrev pub is_posted : PathParameter → Kind → Bool
is_posted b kind.Id = false
is_posted b (kind.Flag letter) = false
is_posted (InQueue name) kind.Queue = false
is_posted b _ = true

-- the key is that of an argument that is posted
abbrev pub is_key : PathParameter → List Argument → List ℕ → Bool
is_key b [] key = false
is_key b (a ∷ rest) key = (is_posted b a.kind && bytes_eq key a.key) || is_key b rest key

-- the request that a path names
abbrev pub request_in : PathParameter → Option ℕ
request_in (OnRequest n) = Some n
request_in _ = None

-- the queue that a path names, or else this one
abbrev pub queue_or : PathParameter → Option (List ℕ) → Option (List ℕ)
queue_or (InQueue name) posted = Some name
queue_or _ posted = posted
