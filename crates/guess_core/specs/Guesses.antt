-- Wrong tokens, by the addresses from which they came.
use Rattle.std.specs.Prelude.{ℕ, Bool, ◌==◌, ◌&&◌, nat_le, nat_lt, if◌then◌else◌, List, [], ◌∷◌, ◌++◌}
use Rattle.std.specs.Prelude.{length}
use Rattle.std.specs.List.{count_by}
use Rattle.std.specs.Str.{bytes_eq}

-- the addresses of the wrong tokens of a minute
pub record Table : Type 0 where
  pub minute : ℕ
  pub wrong : List (List ℕ)

abbrev pub table : ℕ → List (List ℕ) → Table
table minute wrong = record { minute = minute; wrong = wrong }

-- how many of these came from an address
abbrev pub count_of : List (List ℕ) → List ℕ → ℕ
count_of wrong address = count_by (λ other. bytes_eq other address) wrong

-- ten wrong tokens from an address bar it in their minute
abbrev pub is_barred : Table → List ℕ → ℕ → Bool
is_barred t address minute = (t.minute == minute) && nat_le 10 (count_of t.wrong address)

-- those of another minute are forgotten
abbrev pub begun : Table → ℕ → Table
begun t minute = if t.minute == minute then t else table minute []

-- one more, where there is place
abbrev pub one_more : List (List ℕ) → List ℕ → List (List ℕ)
one_more wrong address = if nat_lt (length wrong) 10240 then wrong ++ (address ∷ []) else wrong

abbrev pub with_one : Table → List ℕ → Table
with_one t address = table t.minute (one_more t.wrong address)

abbrev pub noted : Table → List ℕ → ℕ → Table
noted t address minute = with_one (begun t minute) address
