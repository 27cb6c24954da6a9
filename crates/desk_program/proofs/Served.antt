-- The words of a server, part by part.
use Rattle.std.proofs.Common.{◌≡◌, ℕ, true, List, Option, String, Global, string_bytes}
use Rattle.std.proofs.Common.{codes, drop, length, map, refl, take}
use Rattle.std.proofs.lemmas.List.{drop-map, length-map, take-map}
use Rattle.desk_program.specs.Options.{both_values, is_next, served_with, serving_of}

pub served_as : (words : List (String Global)) (files numbers : Option (List ℕ × List ℕ))
    → length words ≡ 9 → is_next (codes "serve") (map string_bytes (drop 4 words)) ≡ true
    → files ≡ both_values (codes "--db") (codes "--settings") (map string_bytes (take 4 words))
    → numbers ≡ both_values (codes "--port") (codes "--count")
    (map string_bytes (take 4 (drop 5 words)))
    → served_with files numbers ≡ serving_of (map string_bytes words)
served_as words files numbers nine next given_files given_numbers =
    rw (
      length-map words string_bytes,
      nine,
      drop-map string_bytes 4 words,
      next,
      take-map string_bytes 4 words,
      drop-map string_bytes 5 words,
      take-map string_bytes 4 (drop 5 words),
      given_files,
      given_numbers,
    ) refl
