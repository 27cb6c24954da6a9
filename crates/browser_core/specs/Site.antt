-- Whether a post comes from a page of the desk's own.
use Rattle.std.specs.Prelude.{ℕ, ◌==◌, Bool, true, false, ◌||◌, if◌then◌else◌, List, [], ◌∷◌, ◌++◌}
use Rattle.std.specs.Prelude.{codes, length}
use Rattle.std.specs.List.{list_all}
use Rattle.std.specs.Str.{bytes_eq}

-- the bytes are the first and then the second
abbrev pub is_both : List ℕ → List ℕ → List ℕ → Bool
is_both bytes first second = bytes_eq bytes (first ++ second)

-- the origin is that of the host, over HTTP or HTTPS
abbrev pub is_origin_of : List ℕ → List ℕ → Bool
is_origin_of host origin =
    is_both origin (codes "http://") host || is_both origin (codes "https://") host

abbrev pub is_empty : List ℕ → Bool
is_empty value = length value == 0

abbrev pub is_own_site : List ℕ → Bool
is_own_site site =
    is_empty site || (bytes_eq site (codes "same-origin") || bytes_eq site (codes "none"))

-- there is one origin and one host, and it is that of the host
abbrev pub is_one_origin : List (List ℕ) → List (List ℕ) → Bool
is_one_origin (origin ∷ []) (host ∷ []) = is_origin_of host origin
is_one_origin _ _ = false

-- by the values of `Origin` and `Host`: a program that isn't a browser sends no origin
abbrev pub is_own_origin : List (List ℕ) → List (List ℕ) → Bool
is_own_origin origins hosts =
    if list_all is_empty origins then true else is_one_origin origins hosts

-- by the values of `Sec-Fetch-Site`, and where it has none by the other two
abbrev pub is_own_post : List (List ℕ) → List (List ℕ) → List (List ℕ) → Bool
is_own_post sites origins hosts =
    if list_all is_empty sites then is_own_origin origins hosts else list_all is_own_site sites
