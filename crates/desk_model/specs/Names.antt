-- Names in the order of their bytes, each once.
use Rattle.std.specs.Prelude.{ℕ, Bool, List, [], fold}
use Rattle.std.specs.Ordering.{is_lt, nat_cmp}
use Rattle.std.specs.Cmp.Lexicographic.{slice_cmp}
use Rattle.std.specs.declared.cmp.Ordering.{Ordering}
use Rattle.std.specs.BTreeSet.{insert_key}
use Rattle.desk_model.specs.Rising.{is_rising}

-- by bytes, the shorter of two first where it begins the longer
abbrev pub text_order : List ℕ → List ℕ → Ordering
text_order = slice_cmp nat_cmp

abbrev pub names_rise : List (List ℕ) → Bool
names_rise names = is_rising (λ a b. is_lt (text_order a b)) names

-- the names with this one at its place, where it stands once
abbrev pub with_name : List (List ℕ) → List ℕ → List (List ℕ)
with_name names name = insert_key text_order names name

-- these names in order, each once
abbrev pub in_order : List (List ℕ) → List (List ℕ)
in_order names = fold with_name [] names
