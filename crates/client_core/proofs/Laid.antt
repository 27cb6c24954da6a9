-- The path that is written for a row of the table leads to that row.
use Rattle.std.proofs.Common.{◌≡◌, ◌∙◌, ℕ, ◌<◌, ◌^◌, ◌==◌, Bool, true, false, not}
use Rattle.std.proofs.Common.{List, [], ◌∷◌, ◌++◌, length, Option, Some, None, nat_lt}
use Rattle.std.proofs.Common.{refl, ap, arith, append-nil, if◌then◌else◌, option_map}
use Rattle.std.specs.List.{list_all}
use Rattle.std.proofs.lemmas.Bool.{and_parts, ne_eqb}
use Rattle.std.proofs.lemmas.Slice.Eq.{bytes_eq-Decides}
use Rattle.text_core.specs.Form.{is_name}
use Rattle.desk_forms.specs.Paths.{PathParameter, InQueue, Nothing, OnRequest, Part, Row, get, id, lit, queue}
use Rattle.desk_forms.specs.Table.{paths}
use Rattle.desk_forms.specs.Arguments.{Arguments}
use Rattle.desk_forms.specs.declared.paths.Method.{Method}
use Rattle.desk_forms.specs.declared.paths.Method.TheVariants.{Get, Post}
use Rattle.desk_forms.specs.declared.table.CommandForm.TheVariants as form
use Rattle.route_core.specs.Commands.{asked_at, path_in}
use Rattle.route_core.specs.Cuts.{cut, onto, text_in}
use Rattle.route_core.specs.Places.{at, bound_at, bound_by, bound_to, is_method, place_on}
use Rattle.route_core.specs.Rows.{OneRowHasAPath}
use Rattle.client_core.specs.Message.{is_host_byte}
use Rattle.client_core.specs.ReadBack.{LeadsToItsRow}
use Rattle.client_core.specs.Spelled.{row_at}
use Rattle.client_core.specs.Target.{named, part_text, queue_text, target}
use Rattle.client_core.proofs.Numbers.{decimal_number}
use Rattle.client_core.proofs.Visible.{each_so, visible_utf8}
use Rattle.client_core.proofs.PathBytes.{is_part_byte, no_question, part_all, parts_stand, path_unasked, some_each, stands}
use Rattle.client_core.proofs.Rows.{of_row}

-- ---- bytes before a stop

cut_on : (stop : ℕ) (b : ℕ) (bytes : List ℕ) → not (b == stop) ≡ true
    → cut stop (b ∷ bytes) ≡ onto (b ∷ []) (cut stop bytes)
cut_on stop b bytes other = rw (not_true (b == stop) other) refl
  where
    not_true : (test : Bool) → not test ≡ true → test ≡ false
    not_true true is = absurd (let no : false ≡ true = is in cc)
    not_true false is = refl

-- no byte of it is a question mark
whole : (bytes : List ℕ) → list_all no_question bytes ≡ true → path_in bytes ≡ bytes
whole [] all = refl
whole (b ∷ bs) all =
    let k = and_parts (no_question b) (list_all no_question bs) all in
    ap (λ (c : List ℕ × Option (List ℕ)). c.0) (cut_on 63 b bs k.0)
    ∙ ap (λ (l : List ℕ). b ∷ l) (whole bs k.1)

path_whole : (place : ℕ) (v : Arguments) → place < length paths → v.id < 2 ^ 32
    → path_in (target (row_at place).parts v) ≡ target (row_at place).parts v
path_whole place v within small =
    whole (target (row_at place).parts v) (path_unasked place v within small)

-- ---- one part

-- what is left of a path where these parts are to come
abbrev left_for : List Part → Arguments → Option (List ℕ)
left_for [] v = None
left_for (p ∷ parts) v = Some (part_text p v ++ target parts v)

cut_behind : (bytes rest : List ℕ) → list_all is_part_byte bytes ≡ true
    → cut 47 (bytes ++ rest) ≡ onto bytes (cut 47 rest)
cut_behind [] rest all = refl
cut_behind (b ∷ bs) rest all =
    let k = and_parts (is_part_byte b) (list_all is_part_byte bs) all in
    let m = and_parts (is_host_byte b) _ k.0 in
    let n = and_parts (not (b == 47)) (no_question b) m.1 in
    cut_on 47 b (bs ++ rest) n.0 ∙ ap (onto (b ∷ [])) (cut_behind bs rest k.1)

cut_part : (p : Part) (parts : List Part) (v : Arguments)
    → list_all is_part_byte (part_text p v) ≡ true
    → cut 47 (part_text p v ++ target parts v) ≡ (part_text p v, left_for parts v)
cut_part p [] v all =
    cut_behind (part_text p v) [] all
    ∙ ap (λ (l : List ℕ). (l, None)) (append-nil (part_text p v))
cut_part p (q ∷ parts) v all =
    cut_behind (part_text p v) (target (q ∷ parts) v) all
    ∙ ap (λ (l : List ℕ). (l, left_for (q ∷ parts) v)) (append-nil (part_text p v))

-- what is named behind a part
abbrev onward : Part → Arguments → PathParameter → PathParameter
onward (lit here) v b = b
onward queue v b = InQueue (queue_text v.queue)
onward id v b = OnRequest v.id

some_name : (name : List ℕ) (is : Bool) → is_name name ≡ is → (length (queue_text name) == 0) ≡ false
some_name [] true is = absurd (let no : false ≡ true = is in cc)
some_name (b ∷ bs) true is = rw is (ne_eqb (length (b ∷ bs)) 0 (λ e. omega (arith, e)))
some_name name false is = rw is refl

bound_part : (p : Part) (v : Arguments) (b : PathParameter) → v.id < 2 ^ 32
    → bound_to p (part_text p v) b ≡ Some (onward p v b)
bound_part (lit here) v b small = rw ((bytes_eq-Decides here here).1 refl) refl
bound_part queue v b small = rw (some_name v.queue (is_name v.queue) refl) refl
bound_part id v b small = ap (option_map OnRequest) (decimal_number v.id small)

part_utf8 : (p : Part) (v : Arguments) → list_all is_part_byte (part_text p v) ≡ true
    → text_in (part_text p v) ≡ Some (part_text p v)
part_utf8 p v all =
    let seen = each_so is_part_byte is_host_byte
    (λ b is. (and_parts (is_host_byte b) _ is).0) (part_text p v) all in
    rw (visible_utf8 (part_text p v) seen) refl

-- ---- all parts

abbrev all_named : List Part → Arguments → PathParameter → PathParameter
all_named [] v b = b
all_named (p ∷ parts) v b = all_named parts v (onward p v b)

laid : (parts : List Part) (v : Arguments) (b : PathParameter) → v.id < 2 ^ 32
    → list_all stands parts ≡ true → bound_by parts (left_for parts v, b) ≡ Some (all_named parts v b)
laid [] v b small all = refl
laid (p ∷ parts) v b small all =
    let k = and_parts (stands p) (list_all stands parts) all in
    let bytes = part_all p v small k.0 in
    rw (cut_part p parts v bytes, part_utf8 p v bytes, bound_part p v b small)
    (laid parts v (onward p v b) small k.1)

-- a path with one part that names something, or none
abbrev names_none : List Part → Bool
names_none [] = true
names_none (lit here ∷ parts) = names_none parts
names_none (p ∷ parts) = false

abbrev names_one : List Part → Bool
names_one [] = true
names_one (lit here ∷ parts) = names_one parts
names_one (p ∷ parts) = names_none parts

none_named : (parts : List Part) (v : Arguments) (b : PathParameter) → names_none parts ≡ true
    → all_named parts v b ≡ b
none_named [] v b none = refl
none_named (lit here ∷ parts) v b none = none_named parts v b none
none_named (queue ∷ parts) v b none = absurd (let no : false ≡ true = none in cc)
none_named (id ∷ parts) v b none = absurd (let no : false ≡ true = none in cc)

one_named : (parts : List Part) (v : Arguments) → names_one parts ≡ true
    → all_named parts v Nothing ≡ named parts v
one_named [] v one = refl
one_named (lit here ∷ parts) v one = one_named parts v one
one_named (queue ∷ parts) v one = none_named parts v (InQueue (queue_text v.queue)) one
one_named (id ∷ parts) v one = none_named parts v (OnRequest v.id) one

bound_back : (parts : List Part) (v : Arguments) → v.id < 2 ^ 32 → list_all stands parts ≡ true
    → names_one parts ≡ true → nat_lt 0 (length parts) ≡ true
    → bound_at parts (target parts v) ≡ Some (named parts v)
bound_back [] v small all one some = absurd (let no : false ≡ true = some in cc)
bound_back (p ∷ parts) v small all one some =
    laid (p ∷ parts) v Nothing small all
    ∙ ap (λ (b : PathParameter). Some b) (one_named (p ∷ parts) v one)

-- ---- a row

on_row : (row : Row) (path : List ℕ) (b : PathParameter) → bound_at row.parts path ≡ Some b
    → place_on row row.method path ≡ Some (at row b)
on_row row path b is = by row.method ∙ ap (option_map (at row)) is
  where
    by : (m : Method)
        → (if is_method m m then option_map (at row) (bound_at row.parts path) else None)
        ≡ option_map (at row) (bound_at row.parts path)
    by Get = refl
    by Post = refl

one_each : list_all (λ (r : Row). names_one r.parts) paths ≡ true
unfolding paths
one_each = refl

pub leads : OneRowHasAPath → LeadsToItsRow
leads one place v within small =
    let row = row_at place in
    let path = target row.parts v in
    let here = bound_back row.parts v small
    (of_row (λ r. list_all stands r.parts) parts_stand place within)
    (of_row (λ r. names_one r.parts) one_each place within)
    (of_row (λ r. nat_lt 0 (length r.parts)) some_each place within) in
    ap (asked_at row.method) (path_whole place v within small)
    ∙ one row.method path place (get [] form.Queues) (at row (named row.parts v)) within
    (on_row row path (named row.parts v) here)
