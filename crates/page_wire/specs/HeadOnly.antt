-- The reply to a HEAD.
use Rattle.std.specs.Prelude.{ℕ, Bool, true, false, if◌then◌else◌, List, [], ◌∷◌, codes, take}
use Rattle.std.specs.Str.{bytes_eq}

-- up to the first empty line, and that line
abbrev pub head_in : List ℕ → List ℕ
head_in [] = []
head_in (b ∷ bs) =
    if bytes_eq (take 4 (b ∷ bs)) (codes "\r\n\r\n") then codes "\r\n\r\n" else b ∷ head_in bs

-- what is told of the reply to a GET: its head alone to a HEAD
abbrev pub told_of : Bool → List ℕ → List ℕ
told_of true whole = head_in whole
told_of false whole = whole
