-- What grants under names give to a person's groups, found by the names or by the groups.
use Rattle.std.proofs.Common.{◌≡◌, Bool, true, false, ◌&&◌, List, [], ◌∷◌, ℕ, refl, sym, ap}
use Rattle.std.proofs.Common.{Option, Some, None, cond, length, get_or, ◌<◌, ◌∙◌}
use Rattle.std.specs.Prelude.{String, Vec, string_bytes}
use Rattle.std.specs.Cmp.Lexicographic.{nat_list_eq_equiv}
use Rattle.std.specs.HashMap.{HashMap, IsUnique, get_by_text}
use Rattle.std.specs.List.{list_any, slice_get}
use Rattle.std.specs.Map.{lookup}
use Rattle.std.specs.Option.{option_map_or}
use Rattle.std.specs.Str.{bytes_eq}
use Rattle.std.specs.String.{string_eq, string_eq_equiv}
use Rattle.std.proofs.lemmas.Bool.{and_from, and_parts, or_left, or_right}
use Rattle.std.proofs.lemmas.Bool.Decides.{same_from_decides}
use Rattle.std.proofs.lemmas.List.Folds.{Any-from_list_any, list_any-from_Any}
use Rattle.std.proofs.lemmas.Map.Entries.{lookup_from_place}
use Rattle.std.proofs.lemmas.Option.{slice_get_read}
use Rattle.std.proofs.lemmas.Slice.Eq.{bytes_eq-Decides}
use Rattle.text_core.specs.Texts.{is_among}
use Rattle.rights_core.specs.Index.{grants_to}
use Rattle.rights_core.specs.declared.grant.Grant.{Grant}

any_of_kept : {Z : Type 0} (p : Grant → Bool) (o : Option (Vec Grant Z))
    → list_any p (option_map_or (λ v. v.items) o [])
    ≡ option_map_or (λ v. list_any p v.items) o false
any_of_kept p (Some v) = refl
any_of_kept p None = refl

any_first : {K X : Type 0} (at : K → Bool) (f : X → Bool) (q : K × X → Bool) (e : K × X)
    (es : List (K × X)) (b : Bool) → at e.0 ≡ b
    → (at e.0 ≡ true → f e.1 ≡ true → q e ≡ true)
    → (option_map_or f (lookup at es) false ≡ true → list_any q es ≡ true)
    → option_map_or f (cond b (Some e.1) (lookup at es)) false ≡ true
    → list_any q (e ∷ es) ≡ true
any_first at f q e es true here passes rest found =
    or_left (q e) (list_any q es) (passes here found)
any_first at f q e es false other passes rest found = or_right (q e) (list_any q es) (rest found)

-- an entry that is found passes a test
any_found : {K X : Type 0} (at : K → Bool) (f : X → Bool) (q : K × X → Bool)
    → ((e : K × X) → at e.0 ≡ true → f e.1 ≡ true → q e ≡ true)
    → (es : List (K × X))
    → option_map_or f (lookup at es) false ≡ true
    → list_any q es ≡ true
any_found at f q passes [] found = cc
any_found at f q passes (e ∷ es) found =
    any_first at f q e es (at e.0) refl (passes e) (any_found at f q passes es) found

-- the entry of each key is what is kept under its name
kept_under : {Y Z S : Type 0} (given : HashMap (String Y) (Vec Grant Z) S) (i : ℕ)
    → (e : String Y × Vec Grant Z)
    → IsUnique string_eq given
    → i < length given.entries
    → get_or given.entries i e ≡ e
    → grants_to given (string_bytes e.0) ≡ e.1.items
kept_under {Y} {Z} {S} given i e unique inside here =
    let at : slice_get given.entries i ≡ Some e =
    slice_get_read given.entries (length given.entries) i e refl inside (sym here) in
    let found : lookup (string_eq e.0) given.entries ≡ Some e.1 =
    lookup_from_place string_eq_equiv given.entries i e.0 e.1 unique at in
    ap (λ o. option_map_or (λ (v : Vec Grant Z). v.items) o []) found

-- what is granted under names that are among the groups is what is granted to the groups
pub given_to_names : {Y Z S : Type 0} (given : HashMap (String Y) (Vec Grant Z) S)
    → (p : Grant → Bool) (groups : List (List ℕ))
    → IsUnique string_eq given
    → list_any (λ e. is_among groups (string_bytes e.0) && list_any p e.1.items) given.entries
    ≡ list_any (λ name. list_any p (grants_to given name)) groups
given_to_names {Y} {Z} {S} given p groups unique =
    same_from_decides
    {P = list_any by_group groups ≡ true}
    (list_any by_entry given.entries)
    (list_any by_group groups)
    (forth, back)
    ((λ found. found), (λ found. found))
  where
    by_entry : String Y × Vec Grant Z → Bool
    by_entry e = is_among groups (string_bytes e.0) && list_any p e.1.items

    by_group : List ℕ → Bool
    by_group name = list_any p (grants_to given name)

    forth : list_any by_entry given.entries ≡ true → list_any by_group groups ≡ true
    forth found =
        let at = Any-from_list_any by_entry given.entries found in
        let name = string_bytes (at.1).0 in
        let parts = and_parts (is_among groups name) (list_any p (at.1).1.items) at.4 in
        let group = Any-from_list_any (λ g. bytes_eq g name) groups parts.0 in
        let same : group.1 ≡ name = (bytes_eq-Decides group.1 name).0 group.4 in
        list_any-from_Any by_group groups (
          group.0,
          group.1,
          group.2,
          group.3,
          ap by_group same
              ∙ ap (list_any p) (kept_under given at.0 at.1 unique at.2 at.3)
              ∙ parts.1,
        )

    back : list_any by_group groups ≡ true → list_any by_entry given.entries ≡ true
    back found =
        let group = Any-from_list_any by_group groups found in
        let known : is_among groups group.1 ≡ true =
        list_any-from_Any (λ g. bytes_eq g group.1) groups
        (group.0, group.1, group.2, group.3, nat_list_eq_equiv.refl group.1) in
        any_found
        (λ k. bytes_eq group.1 (string_bytes k))
        (λ v. list_any p v.items)
        by_entry
        (λ e here passes.
        and_from (is_among groups (string_bytes e.0)) (list_any p e.1.items)
        (ap (is_among groups) (sym ((bytes_eq-Decides group.1 (string_bytes e.0)).0 here)) ∙ known)
        passes)
        given.entries
        (sym (any_of_kept p (get_by_text given group.1)) ∙ group.4)
