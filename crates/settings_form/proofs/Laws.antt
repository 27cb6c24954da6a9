-- What holds of a text without a fault of form.
use Rattle.std.proofs.Common.{◌≡◌, ℕ, Bool, true, false, not, List, Option, Some, nat_cmp}
use Rattle.std.proofs.Common.{Ordering, Less, Equal, Greater, refl, sym, ◌∙◌, subst, is_eq}
use Rattle.std.specs.Ordering.{match_ordering}
use Rattle.std.specs.Cmp.Lexicographic.{slice_cmp}
use Rattle.std.specs.Str.{bytes_eq}
use Rattle.std.proofs.lemmas.Bool.{or_parts}
use Rattle.std.proofs.lemmas.Slice.Eq.{bytes_eq-Decides}
use Rattle.std.proofs.lemmas.Map.Text.{is_eq-slice_cmp}
use Rattle.toml.specs.Data.{Data, Members, no_members, member, get_member}
use Rattle.settings_form.specs.declared.form.Place.{Place}
use Rattle.settings_form.specs.Kinds.{has_wrong_kind, is_right_at}

list_eq_from : (xs ys : List ℕ) → bytes_eq xs ys ≡ true → xs ≡ ys
list_eq_from xs ys h = (bytes_eq-Decides xs ys).0 h

not_false : (b : Bool) → not b ≡ false → b ≡ true
not_false true h = refl
not_false false h = (cc)

-- what stands at the key is the first member's value, or one of the rest
here_or_there : (o : Ordering) (k l : List ℕ) (d e : Data) (rest : Option Data)
    (Right : Data → List ℕ → Type 0)
    → (is_eq o ≡ true → k ≡ l) → match_ordering o rest (Some e) rest ≡ Some d
    → Right e l → (rest ≡ Some d → Right d k) → Right d k
here_or_there Less k l d e rest Right same found first more = more found
here_or_there Greater k l d e rest Right same found first more = more found
here_or_there Equal k l d e rest Right same found first more =
    let at : e ≡ d = cc in
    let key : k ≡ l = same refl in
    subst (λ x. Right x k) at (subst (λ y. Right e y) (sym key) first)

same_key : (k l : List ℕ) → is_eq (slice_cmp nat_cmp k l) ≡ true → k ≡ l
same_key k l h = list_eq_from k l (sym (is_eq-slice_cmp k l) ∙ h)

-- where no value is of another kind, each value that a look-up finds is right at its key
pub found_is_right : (p : Place) (k : List ℕ) (d : Data) (ms : Members)
    → has_wrong_kind p ms ≡ false → get_member k ms ≡ Some d → is_right_at p k d ≡ true
found_is_right p k d no_members calm found = (cc)
found_is_right p k d (member l e ms) calm found =
    let (first, rest) = or_parts (not (is_right_at p l e)) (has_wrong_kind p ms) calm in
    let Right : Data → List ℕ → Type 0 = λ x y. is_right_at p y x ≡ true in
    here_or_there (slice_cmp nat_cmp k l) k l d e (get_member k ms) Right (same_key k l) found
    (not_false (is_right_at p l e) first) (found_is_right p k d ms rest)
