-- Rows that are apart have no path in common.
use Rattle.std.proofs.Common.{◌≡◌, ◌∙◌, ◌<◌, ℕ, Bool, true, false, ◌||◌, List, [], ◌∷◌}
use Rattle.std.proofs.Common.{◌==◌, zero, suc, Option, Some, None, length, get_or, refl, sym, ap}
use Rattle.std.proofs.Common.{arith}
use Rattle.std.proofs.Common.{option_map, option_and_then, if◌then◌else◌}
use Rattle.std.proofs.Common.{map, subst}
use Rattle.std.specs.List.{list_all}
use Rattle.std.specs.Option.{option_or}
use Rattle.std.specs.Str.{bytes_eq}
use Rattle.std.proofs.lemmas.Bool.{and_parts, false≢true}
use Rattle.std.proofs.lemmas.List.{get_or-map, length-map}
use Rattle.std.proofs.lemmas.Slice.Eq.{bytes_eq-Decides}
use Rattle.desk_forms.specs.Paths.{path_of}
use Rattle.desk_forms.specs.Paths.{PathParameter, Nothing, Part, Row, id, lit, queue}
use Rattle.desk_forms.specs.Table.{paths}
use Rattle.desk_forms.specs.declared.paths.Path.{Path as InCode}
use Rattle.desk_forms.specs.declared.paths.Method.{Method}
use Rattle.desk_forms.specs.declared.paths.Method.TheVariants.{Get, Post}
use Rattle.route_core.specs.Cuts.{cut, text_in}
use Rattle.route_core.specs.Places.{Place, at, bound_at, bound_by, bound_if_text}
use Rattle.route_core.specs.Places.{bound_to, is_method, place_at, place_on}
use Rattle.route_core.specs.Rows.{apart, are_apart, differs, each_apart}

-- ---- parts

if_some : {A : Type 0} (test : Bool) (x y : A) → (if test then Some x else None) ≡ Some y
    → test ≡ true
if_some true x y is = refl
if_some false x y is = absurd cc

opposite : (test : Bool) → (if test then false else true) ≡ true → test ≡ false
opposite true is = absurd cc
opposite false is = refl

-- two texts that differ don't both stand there
clash : (p q : Part) (t : List ℕ) (b c x y : PathParameter) → differs p q ≡ true
    → bound_to q t c ≡ Some y → bound_to p t b ≡ Some x → false ≡ true
clash (lit s) (lit u) t b c x y differ there here =
    let is_u : t ≡ u = (bytes_eq-Decides t u).0 (if_some (bytes_eq t u) c y there) in
    let is_s : t ≡ s = (bytes_eq-Decides t s).0 (if_some (bytes_eq t s) b x here) in
    sym (opposite (bytes_eq s u) differ) ∙ (bytes_eq-Decides s u).1 (sym is_s ∙ is_u)
clash (lit s) queue t b c x y differ there here = absurd cc
clash (lit s) id t b c x y differ there here = absurd cc
clash queue q t b c x y differ there here = absurd cc
clash id q t b c x y differ there here = absurd cc

abbrev after : List Part → Option (List ℕ) → Option PathParameter → Option PathParameter
after parts rest named =
    option_and_then (bound_by parts) (option_map (λ (next : PathParameter). (rest, next)) named)

-- by what both parts name of a text
one_part : (p q : Part) (ps qs : List Part) (t : List ℕ) (rest : Option (List ℕ)) (b c x : PathParameter)
    (o r : Option PathParameter) (far : Bool) → bound_to q t c ≡ o → bound_to p t b ≡ r
    → differs p q ≡ far → (far || apart ps qs) ≡ true
    → (apart ps qs ≡ true → (d e : PathParameter) → bound_by qs (rest, d) ≡ Some x
    → bound_by ps (rest, e) ≡ None)
    → after qs rest o ≡ Some x → after ps rest r ≡ None
one_part p q ps qs t rest b c x None r far there here differ either later is = absurd cc
one_part p q ps qs t rest b c x (Some y) None far there here differ either later is = refl
one_part p q ps qs t rest b c x (Some y) (Some z) true there here differ either later is =
    absurd (false≢true (clash p q t b c z y differ there here))
one_part p q ps qs t rest b c x (Some y) (Some z) false there here differ either later is =
    later either y z is

by_text : (p q : Part) (ps qs : List Part) (text rest : Option (List ℕ)) (b c x : PathParameter)
    → (differs p q || apart ps qs) ≡ true
    → (apart ps qs ≡ true → (d e : PathParameter) → bound_by qs (rest, d) ≡ Some x
    → bound_by ps (rest, e) ≡ None)
    → after qs rest (bound_if_text q text c) ≡ Some x
    → after ps rest (bound_if_text p text b) ≡ None
by_text p q ps qs None rest b c x either later is = absurd cc
by_text p q ps qs (Some t) rest b c x either later is =
    one_part p q ps qs t rest b c x (bound_to q t c) (bound_to p t b) (differs p q) refl refl refl
    either later is

none_of_both : (ps qs : List Part) (left : Option (List ℕ)) (b c x : PathParameter) → apart ps qs ≡ true
    → bound_by qs (left, c) ≡ Some x → bound_by ps (left, b) ≡ None
none_of_both [] [] left b c x far is = absurd cc
none_of_both [] (q ∷ qs) None b c x far is = absurd cc
none_of_both [] (q ∷ qs) (Some path) b c x far is = refl
none_of_both (p ∷ ps) [] None b c x far is = refl
none_of_both (p ∷ ps) [] (Some path) b c x far is = absurd cc
none_of_both (p ∷ ps) (q ∷ qs) None b c x far is = refl
none_of_both (p ∷ ps) (q ∷ qs) (Some path) b c x far is =
    let parts = cut 47 path in
    by_text p q ps qs (text_in parts.0) parts.1 b c x far
    (λ more d e same. none_of_both ps qs parts.1 e d x more same) is

-- ---- paths

by_slash : (ps qs : List Part) (path : List ℕ) (x : PathParameter) (slash : Bool) → apart ps qs ≡ true
    → (if slash then bound_by qs (Some path, Nothing) else None) ≡ Some x
    → (if slash then bound_by ps (Some path, Nothing) else None) ≡ None
by_slash ps qs path x true far is = none_of_both ps qs (Some path) Nothing Nothing x far is
by_slash ps qs path x false far is = refl

none_at : (ps qs : List Part) (path : List ℕ) (x : PathParameter) → apart ps qs ≡ true
    → bound_at qs path ≡ Some x → bound_at ps path ≡ None
none_at ps qs [] x far is = refl
none_at ps qs (b ∷ path) x far is = by_slash ps qs path x (b == 47) far is

-- ---- rows

named : (row : Row) (o : Option PathParameter) (place : Place) → option_map (at row) o ≡ Some place
    → (x : PathParameter) × (o ≡ Some x)
named row None place is = absurd cc
named row (Some x) place is = (x, refl)

by_methods : (a b m : Method) (far : Bool) (o r : Option Place) (place : Place)
    → (if is_method a b then far else true) ≡ true
    → (far ≡ true → o ≡ Some place → r ≡ None)
    → (if is_method b m then o else None) ≡ Some place → (if is_method a m then r else None) ≡ None
by_methods Get Get Get far o r place apart_so later is = later apart_so is
by_methods Get Get Post far o r place apart_so later is = refl
by_methods Get Post Get far o r place apart_so later is = absurd cc
by_methods Get Post Post far o r place apart_so later is = refl
by_methods Post Get Get far o r place apart_so later is = refl
by_methods Post Get Post far o r place apart_so later is = absurd cc
by_methods Post Post Get far o r place apart_so later is = refl
by_methods Post Post Post far o r place apart_so later is = later apart_so is

other_row : (r s : Row) (m : Method) (path : List ℕ) (place : Place) → are_apart r s ≡ true
    → place_on s m path ≡ Some place → place_on r m path ≡ None
other_row r s m path place far is =
    by_methods r.method s.method m (apart r.parts s.parts)
    (option_map (at s) (bound_at s.parts path)) (option_map (at r) (bound_at r.parts path)) place far
    (λ parts found.
    let there = named s (bound_at s.parts path) place found in
    ap (option_map (at r)) (none_at r.parts s.parts path there.0 parts there.1))
    is

at_place : {X : Type 0} (test : X → Bool) (xs : List X) (i : ℕ) (d : X) → list_all test xs ≡ true
    → i < length xs → test (get_or xs i d) ≡ true
at_place test [] i d all low = absurd (omega arith)
at_place test (x ∷ xs) zero d all low = (and_parts (test x) (list_all test xs) all).0
at_place test (x ∷ xs) (suc i) d all low =
    at_place test xs i d (and_parts (test x) (list_all test xs) all).1 (omega arith)

one_row : (rows : List Row) (i : ℕ) (d : Row) (m : Method) (path : List ℕ) (place : Place)
    → each_apart rows ≡ true → i < length rows → place_on (get_or rows i d) m path ≡ Some place
    → place_at rows m path ≡ Some place
one_row [] i d m path place far low is = absurd (omega arith)
one_row (r ∷ rows) zero d m path place far low is =
    ap (λ (o : Option Place). option_or o (place_at rows m path)) is
one_row (r ∷ rows) (suc i) d m path place far low is =
    let parts = and_parts (list_all (are_apart r) rows) (each_apart rows) far in
    let there = at_place (are_apart r) rows i d parts.0 (omega arith) in
    ap (λ (o : Option Place). option_or o (place_at rows m path))
    (other_row r (get_or rows i d) m path place there is)
    ∙ one_row rows i d m path place parts.1 (omega arith) is

each_is_apart : each_apart paths ≡ true
unfolding paths
each_is_apart = refl

pub one_has_a_path : (m : Method) (path : List ℕ) (i : ℕ) (d : Row) (place : Place)
    → i < length paths → place_on (get_or paths i d) m path ≡ Some place
    → place_at paths m path ≡ Some place
one_has_a_path m path i d place low is = one_row paths i d m path place each_is_apart low is

-- the same of the rows as the code holds them
pub found_at : (rows : List InCode) (i : ℕ) (d : InCode) (m : Method) (path : List ℕ)
    (place : Place) → map path_of rows ≡ paths → i < length rows
    → place_on (path_of (get_or rows i d)) m path ≡ Some place → place_at paths m path ≡ Some place
found_at rows i d m path place are low is =
    let all = map path_of rows in
    let far = subst (λ (ps : List Row). each_apart ps ≡ true) (sym are) each_is_apart in
    let within = subst (λ (n : ℕ). i < n) (sym (length-map rows path_of)) low in
    let here =
    ap (λ (r : Row). place_on r m path) (get_or-map path_of rows i d (path_of d) low) ∙ is in
    subst (λ (ps : List Row). place_at ps m path ≡ Some place) are
    (one_row all i (path_of d) m path place far within here)
