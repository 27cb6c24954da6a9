-- Where no walk finds a fault of form, the text is right through and through.
use Rattle.std.proofs.Common.{◌≡◌, ℕ, Bool, true, false, not, List, Option}
use Rattle.std.proofs.Common.{Some, None, refl, subst, is_none, if◌then◌else◌}
use Rattle.std.proofs.lemmas.Bool.{and_parts, or_parts}
use Rattle.toml.specs.Data.{Data, array}
use Rattle.toml.specs.Data.{table, Items, no_items, item, Members, no_members, member}
use Rattle.settings_form.specs.Form.{keys, kind_of}
use Rattle.settings_form.specs.Kinds.{has_kind_if_known, has_unknown_key, has_clash}
use Rattle.settings_form.specs.Kinds.{has_wrong_kind, is_key, is_right_at}
use Rattle.settings_form.specs.Walk.{has_at, has_fault, has_in_items}
use Rattle.settings_form.specs.Walk.{has_inside, has_itself, form_fault}
use Rattle.settings_form.specs.declared.form.Place.{Place}
use Rattle.settings_form.specs.declared.form.Place.TheVariants.{Top}
use Rattle.settings_form.specs.declared.form.Item.TheVariants.{Table}
use Rattle.settings_form.specs.declared.form.Kind.{Kind}
use Rattle.settings_form.specs.declared.form.Kind.TheVariants.{One, Many}
use Rattle.settings_form.specs.declared.fault.FormFault.{FormFault}
use Rattle.settings_form.specs.declared.fault.FormFault.TheVariants.{UnknownKey, Missing, WrongKind}
use Rattle.settings_parts.specs.Whole.{IsRightAt, AreRight, IsRightInside, AreRightItems, IsRight}

not_false : (b : Bool) → not b ≡ false → b ≡ true
not_false true h = refl
not_false false h = cc

known : (o : Option Kind) → is_none o ≡ false → (kind : Kind) × (o ≡ Some kind)
known None h = absurd (cc)
known (Some kind) h = (kind, refl)

right_at : (p : Place) (k : List ℕ) (d : Data) (kind : Kind)
    → kind_of p k ≡ Some kind → is_right_at p k d ≡ true → IsRightAt p k d kind
right_at p k d kind is right =
    let parts = and_parts (is_key (keys p) k) (has_kind_if_known (kind_of p k) d) right in
    let P : Option Kind → Type 0 = λ o. has_kind_if_known o d ≡ true in
    record { known = is; key = parts.0; value = subst P is parts.1 }

mutual
  inside : (p : Place) (ms : Members) → has_unknown_key p ms ≡ false → has_wrong_kind p ms ≡ false
      → ((f : FormFault) → has_inside f p ms ≡ false) → AreRight p ms
  inside p no_members unknown wrong calm = tt
  inside p (member k d ms) unknown wrong calm =
      let unknowns = or_parts (is_none (kind_of p k)) (has_unknown_key p ms) unknown in
      let wrongs = or_parts (not (is_right_at p k d)) (has_wrong_kind p ms) wrong in
      let found = known (kind_of p k) unknowns.0 in
      let here : (f : FormFault) → has_at f (Some found.0) d ≡ false =
      λ f. let P : Option Kind → Type 0 = λ o. has_at f o d ≡ false in
      subst P found.1 ((or_parts (has_at f (kind_of p k) d) (has_inside f p ms) (calm f)).0) in
      let right = right_at p k d found.0 found.1 (not_false (is_right_at p k d) wrongs.0) in
      let calm_rest : (f : FormFault) → has_inside f p ms ≡ false =
      λ f. (or_parts (has_at f (kind_of p k) d) (has_inside f p ms) (calm f)).1 in
      ((found.0, right, at found.0 d here), inside p ms unknowns.1 wrongs.1 calm_rest)

  at : (kind : Kind) (d : Data)
      → ((f : FormFault) → has_at f (Some kind) d ≡ false) → IsRightInside kind d
  at (One (Table p)) (table ms) calm =
      let parts = λ (f : FormFault). or_parts (has_itself f p ms) (has_inside f p ms) (calm f) in
      let wrong = or_parts (has_wrong_kind p ms) (has_clash p ms) (parts WrongKind).0 in (
        (parts Missing).0,
        wrong.1,
        inside p ms (parts UnknownKey).0 wrong.0 (λ f. (parts f).1),
      )
  at (Many (Table p)) (array ds) calm = items p ds calm
  at _ _ calm = tt

  items : (p : Place) (ds : Items)
      → ((f : FormFault) → has_in_items f p ds ≡ false) → AreRightItems p ds
  items p no_items calm = tt
  items p (item d ds) calm =
      let parts =
      λ (f : FormFault).
      or_parts (has_at f (Some (One (Table p))) d) (has_in_items f p ds) (calm f) in
      (at (One (Table p)) d (λ f. (parts f).0), items p ds (λ f. (parts f).1))

-- none of three tests in a row passed
none_of : (a b c : Bool)
    → (if a then Some UnknownKey
    else (if b then Some Missing else (if c then Some WrongKind else None))) ≡ None
    → (a ≡ false) × (b ≡ false) × (c ≡ false)
none_of false false false h = (refl, refl, refl)
none_of true b c h = absurd (cc)
none_of false true c h = absurd (cc)
none_of false false true h = absurd (cc)

none_of_form : (ms : Members) → form_fault ms ≡ None
    → (has_fault UnknownKey ms ≡ false) × (has_fault Missing ms ≡ false)
    × (has_fault WrongKind ms ≡ false)
none_of_form ms h =
    none_of (has_fault UnknownKey ms) (has_fault Missing ms) (has_fault WrongKind ms) h

calm_of : (ms : Members) → form_fault ms ≡ None → (f : FormFault) → has_fault f ms ≡ false
calm_of ms h UnknownKey = (none_of_form ms h).0
calm_of ms h Missing = (none_of_form ms h).1
calm_of ms h WrongKind = (none_of_form ms h).2

pub right : (ms : Members) → form_fault ms ≡ None → IsRight ms
right ms h =
    let parts =
    λ (f : FormFault). or_parts (has_itself f Top ms) (has_inside f Top ms) (calm_of ms h f) in
    let wrong = or_parts (has_wrong_kind Top ms) (has_clash Top ms) (parts WrongKind).0 in
    ((parts Missing).0, inside Top ms (parts UnknownKey).0 wrong.0 (λ f. (parts f).1))
