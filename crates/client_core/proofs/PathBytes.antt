-- The bytes of the path that is written for a row.
use Rattle.std.proofs.Common.{◌≡◌, ℕ, ◌<◌, ◌+◌, ◌^◌, ◌==◌, Bool, true, false, ◌&&◌, not}
use Rattle.std.proofs.Common.{List, [], ◌∷◌, length, decimal, nat_le, nat_lt, ◌≤◌}
use Rattle.std.proofs.Common.{refl, arith, length-append}
use Rattle.std.specs.List.{list_all}
use Rattle.std.proofs.lemmas.Bool.{and_from, and_parts, leb-true}
use Rattle.std.proofs.lemmas.Bool.Decides.{nat_tests}
use Rattle.std.proofs.lemmas.Fmt.{length-decimal-le}
use Rattle.text_core.specs.Form.{is_digit, is_name, is_name_byte, is_small_letter}
use Rattle.desk_forms.specs.Paths.{Part, Row, id, lit, queue}
use Rattle.desk_forms.specs.Table.{paths}
use Rattle.desk_forms.specs.Arguments.{Arguments}
use Rattle.client_core.specs.Message.{is_host_byte}
use Rattle.client_core.specs.Spelled.{row_at}
use Rattle.client_core.specs.Target.{part_text, queue_text, target}
use Rattle.client_core.proofs.Numbers.{decimal_digits}
use Rattle.client_core.proofs.Visible.{AreVisible, both_all, each_so}
use Rattle.client_core.proofs.Rows.{of_row}

-- ---- the bytes of a part

-- visible, and neither a slash nor a question mark
abbrev pub is_part_byte : ℕ → Bool
is_part_byte b = is_host_byte b && (not (b == 47) && not (b == 63))

abbrev pub no_question : ℕ → Bool
no_question b = not (b == 63)

abbrev pub is_path_byte : ℕ → Bool
is_path_byte b = is_host_byte b && no_question b

digit_stands : (b : ℕ) → is_digit b ≡ true → is_part_byte b ≡ true
digit_stands b is = grind (arith, nat_tests, is)

name_stands : (b : ℕ) → is_name_byte b ≡ true → is_part_byte b ≡ true
name_stands b is = grind (arith, nat_tests, is)

letter_stands : (b : ℕ) → is_small_letter b ≡ true → is_part_byte b ≡ true
letter_stands b is = grind (arith, nat_tests, is)

in_path : (b : ℕ) → is_part_byte b ≡ true → is_path_byte b ≡ true
in_path b is = grind (arith, nat_tests, is)

seen : (b : ℕ) → is_path_byte b ≡ true → is_host_byte b ≡ true
seen b is = (and_parts (is_host_byte b) (no_question b) is).0

unasked : (b : ℕ) → is_path_byte b ≡ true → no_question b ≡ true
unasked b is = (and_parts (is_host_byte b) (no_question b) is).1

name_all : (name : List ℕ) → is_name name ≡ true → list_all is_part_byte name ≡ true
name_all [] is = absurd (let no : false ≡ true = is in cc)
name_all (b ∷ bs) is =
    let k = and_parts (is_small_letter b && nat_le (length (b ∷ bs)) 20) (list_all is_name_byte bs) is in
    let m = and_parts (is_small_letter b) (nat_le (length (b ∷ bs)) 20) k.0 in
    and_from (is_part_byte b) (list_all is_part_byte bs) (letter_stands b m.0)
    (each_so is_name_byte is_part_byte name_stands bs k.1)

queue_all : (name : List ℕ) (is : Bool) → is_name name ≡ is
    → list_all is_part_byte (queue_text name) ≡ true
queue_all name true is = rw is (name_all name is)
queue_all name false is = rw is refl

-- a text of the table may stand in a path
abbrev pub stands : Part → Bool
stands (lit here) = list_all is_part_byte here
stands queue = true
stands id = true

pub part_all : (p : Part) (v : Arguments) → v.id < 2 ^ 32 → stands p ≡ true
    → list_all is_part_byte (part_text p v) ≡ true
part_all (lit here) v small is = is
part_all queue v small is = queue_all v.queue (is_name v.queue) refl
part_all id v small is =
    each_so is_digit is_part_byte digit_stands (decimal v.id)
    (decimal_digits v.id (omega (arith, small)))

pub parts_stand : list_all (λ (r : Row). list_all stands r.parts) paths ≡ true
unfolding paths
parts_stand = refl

pub some_each : list_all (λ (r : Row). nat_lt 0 (length r.parts)) paths ≡ true
unfolding paths
some_each = refl

-- ---- its path

target_all : (parts : List Part) (v : Arguments) → v.id < 2 ^ 32 → list_all stands parts ≡ true
    → list_all is_path_byte (target parts v) ≡ true
target_all [] v small all = refl
target_all (p ∷ parts) v small all =
    let k = and_parts (stands p) (list_all stands parts) all in
    both_all is_path_byte (part_text p v) (target parts v)
    (each_so is_part_byte is_path_byte in_path (part_text p v) (part_all p v small k.0))
    (target_all parts v small k.1)

some_target : (parts : List Part) (v : Arguments) → nat_lt 0 (length parts) ≡ true
    → 0 < length (target parts v)
some_target [] v some = absurd (let no : false ≡ true = some in cc)
some_target (p ∷ parts) v some = omega arith

pub path_some : (place : ℕ) (v : Arguments) → place < length paths
    → 0 < length (target (row_at place).parts v)
path_some place v within =
    some_target (row_at place).parts v
    (of_row (λ r. nat_lt 0 (length r.parts)) some_each place within)

-- the most bytes of a part behind its slash, and of a path
abbrev most : Part → ℕ
most (lit here) = length here + 1
most queue = 21
most id = 11

abbrev most_of : List Part → ℕ
most_of [] = 0
most_of (p ∷ parts) = most p + most_of parts

name_short : (name : List ℕ) (is : Bool) → is_name name ≡ is → length (queue_text name) + 1 ≤ 21
name_short [] true is = absurd (let no : false ≡ true = is in cc)
name_short (b ∷ bs) true is =
    let k = and_parts (is_small_letter b && nat_le (length (b ∷ bs)) 20) (list_all is_name_byte bs) is in
    let m = and_parts (is_small_letter b) (nat_le (length (b ∷ bs)) 20) k.0 in
    let few = leb-true (length (b ∷ bs)) 20 m.1 in
    rw is (omega (arith, few))
name_short name false is = rw is (omega arith)

part_short : (p : Part) (v : Arguments) → v.id < 2 ^ 32 → length (part_text p v) + 1 ≤ most p
part_short (lit here) v small = omega arith
part_short queue v small = name_short v.queue (is_name v.queue) refl
part_short id v small =
    omega (
      arith,
      length-decimal-le 10 v.id (omega arith) (omega (arith, small)) (omega (arith, small)),
    )

target_short : (parts : List Part) (v : Arguments) → v.id < 2 ^ 32
    → length (target parts v) ≤ most_of parts
target_short [] v small = omega arith
target_short (p ∷ parts) v small =
    omega (
      arith,
      length-append (part_text p v) (target parts v),
      part_short p v small,
      target_short parts v small,
    )

each_short : list_all (λ (r : Row). nat_le (most_of r.parts) 200) paths ≡ true
unfolding paths
each_short = refl

pub path_short : (place : ℕ) (v : Arguments) → place < length paths → v.id < 2 ^ 32
    → length (target (row_at place).parts v) ≤ 200
path_short place v within small =
    let parts = (row_at place).parts in
    let few = leb-true (most_of parts) 200
    (of_row (λ r. nat_le (most_of r.parts) 200) each_short place within) in
    omega (arith, target_short parts v small, few)

path_all : (place : ℕ) (v : Arguments) → place < length paths → v.id < 2 ^ 32
    → list_all is_path_byte (target (row_at place).parts v) ≡ true
path_all place v within small =
    target_all (row_at place).parts v small
    (of_row (λ r. list_all stands r.parts) parts_stand place within)

pub path_visible : (place : ℕ) (v : Arguments) → place < length paths → v.id < 2 ^ 32
    → AreVisible (target (row_at place).parts v)
path_visible place v within small =
    each_so is_path_byte is_host_byte seen (target (row_at place).parts v)
    (path_all place v within small)

pub path_unasked : (place : ℕ) (v : Arguments) → place < length paths → v.id < 2 ^ 32
    → list_all no_question (target (row_at place).parts v) ≡ true
path_unasked place v within small =
    each_so is_path_byte no_question unasked (target (row_at place).parts v)
    (path_all place v within small)
