-- The beginning of a path, found one byte after the other.
use Rattle.std.proofs.Common.{◌≡◌, ◌∙◌, ℕ, ◌<◌, ◌+◌, true, false, List, length, drop, get_or, refl}
use Rattle.std.proofs.lemmas.List.{drop_more}
use Rattle.http_rules.specs.Target.{begins_path, from_path}

pub begins : (bytes : List ℕ) (i : ℕ) → i < length bytes → begins_path (get_or bytes i 0) ≡ true
    → from_path bytes ≡ from_path (drop i bytes) → from_path bytes ≡ drop i bytes
begins bytes i within here so_far =
    let all : from_path (drop i bytes) ≡ drop i bytes = rw (drop_more bytes i 0 within, here) refl in
    so_far ∙ all

pub not_yet : (bytes : List ℕ) (i : ℕ) → i < length bytes
    → begins_path (get_or bytes i 0) ≡ false → from_path bytes ≡ from_path (drop i bytes)
    → from_path bytes ≡ from_path (drop (i + 1) bytes)
not_yet bytes i within here so_far =
    let one : from_path (drop i bytes) ≡ from_path (drop (i + 1) bytes) =
    rw (drop_more bytes i 0 within, here) refl in
    so_far ∙ one
