-- How a place stands in an address.
use Rattle.std.specs.Prelude.{ℕ, ◌^◌, nat_lt, if◌then◌else◌, List, ◌++◌, codes, decimal}
use Rattle.std.specs.Prelude.{Option, Some, None}
use Rattle.std.specs.Str.{bytes_eq}
use Rattle.desk_forms.specs.Number.{number_of}
use Rattle.find_core.specs.declared.search.Place.{Place}

abbrev pub keyed_text : ℕ → ℕ → List ℕ
keyed_text key id = decimal key ++ (codes "/" ++ decimal id)

abbrev pub unkeyed_text : ℕ → List ℕ
unkeyed_text id = codes "none/" ++ decimal id

-- KEY/N, or none/N for what comes after all that has a key
abbrev pub place_text : Place → List ℕ
place_text place =
    if nat_lt place.key (2 ^ 32) then keyed_text place.key place.id else unkeyed_text place.id

abbrev pub key_in : List ℕ → Option ℕ
key_in word = if bytes_eq word (codes "none") then Some (2 ^ 32) else number_of word

abbrev pub place_with : Option ℕ → Option ℕ → Option Place
place_with (Some key) (Some id) = Some (record { key = key; id = id })
place_with key id = None

abbrev pub place_in : List ℕ → List ℕ → Option Place
place_in key id = place_with (key_in key) (number_of id)
