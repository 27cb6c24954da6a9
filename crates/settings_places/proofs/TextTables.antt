-- What is place with the calendars, lifecycles and levels of a text.
use Rattle.std.proofs.Common.{◌≡◌, inl, inr, ℕ, false}
use Rattle.std.proofs.Common.{List, Option, Some, None, is_some, refl, sym, ◌∙◌}
use Rattle.std.proofs.Common.{subst, codes, if◌then◌else◌}
use Rattle.std.specs.Option.{option_map, option_or}
use Rattle.toml.specs.Data.{Data, Members, no_members, member}
use Rattle.settings_parts.specs.LevelParts.{has_limit_at}
use Rattle.settings_parts.specs.Values.{members_of}
use Rattle.settings_core.specs.Stated.{fault_in}
use Rattle.settings_core.specs.declared.fault.SettingsFault.{SettingsFault}
use Rattle.settings_core.specs.Limits.{bad_key, bad_limit_in}
use Rattle.settings_places.specs.Parts.{bad_in}
use Rattle.settings_places.specs.Placed.{HasTable}
use Rattle.settings_places.proofs.Found.{either_some, found_unless, mapped_some}

-- ---- calendars and lifecycles

abbrev Faults : Type 0
Faults = Members → Option SettingsFault

-- the first table with a fault has the fault of them all
HasFirst : Faults → SettingsFault → Option (List ℕ) → Members → Type 0
HasFirst fault_of f found ms =
    (k : List ℕ) × (found ≡ Some k) × HasTable (λ t. fault_of t ≡ Some f) k ms

bad_or : (fault_of : Faults) (f : SettingsFault) (k : List ℕ) (d : Data) (ms : Members)
    (o : Option SettingsFault) → o ≡ fault_of (members_of d)
    → option_or o (fault_in fault_of ms) ≡ Some f
    → (fault_in fault_of ms ≡ Some f → HasFirst fault_of f (bad_in fault_of ms) ms)
    → HasFirst fault_of f (if is_some o then Some k else bad_in fault_of ms) (member k d ms)
unfolding HasFirst
bad_or fault_of f k d ms (Some x) is h rest = (k, refl, inl (refl, sym is ∙ h))
bad_or fault_of f k d ms None is h rest =
    let (j, found, has) = rest h in (j, found, inr has)

pub first_bad : (fault_of : Faults) (f : SettingsFault) (ms : Members)
    → fault_in fault_of ms ≡ Some f
    → (k : List ℕ) × (bad_in fault_of ms ≡ Some k) × HasTable (λ t. fault_of t ≡ Some f) k ms
unfolding HasFirst
first_bad fault_of f no_members h = absurd (cc)
first_bad fault_of f (member k d ms) h =
    bad_or fault_of f k d ms (fault_of (members_of d)) refl h (first_bad fault_of f ms)

-- the fault of a table is one of its part
pub fault_of_part : {F : Type 0} (part : F → SettingsFault) (part_of : Members → Option F)
    (f : SettingsFault) (k : List ℕ) (ms : Members)
    → HasTable (λ t. option_map part (part_of t) ≡ Some f) k ms → (x : F) × (part x ≡ f)
fault_of_part part part_of f k no_members has = absurd has
fault_of_part part part_of f k (member j d ms) (inl has) =
    let (x, is, same) = mapped_some part (part_of (members_of d)) f has.1 in (x, same)
fault_of_part part part_of f k (member j d ms) (inr has) = fault_of_part part part_of f k ms has

-- ---- levels

key_has : (level : Members) (k : List ℕ) → bad_key level ≡ Some k → has_limit_at k level ≡ false
key_has level k h =
    let P : List ℕ → Type 0 = λ z. has_limit_at z level ≡ false in
    let second = has_limit_at (codes "keep_in_loop") level in
    let third = has_limit_at (codes "resolve") level in
    let last : Option (List ℕ) = if third then None else Some (codes "resolve") in
    found_unless P (has_limit_at (codes "response") level) (codes "response")
    (if second then last else Some (codes "keep_in_loop")) k h (λ bad. bad)
    (λ rest. found_unless P second (codes "keep_in_loop") last k rest (λ bad. bad)
    (λ rest. found_unless P third (codes "resolve") None k rest (λ bad. bad) (λ none. absurd (cc))))

pub limit_has : (ms : Members) (x : List ℕ × List ℕ) → bad_limit_in ms ≡ Some x
    → HasTable (λ t. has_limit_at x.1 t ≡ false) x.0 ms
limit_has no_members x h = absurd (cc)
limit_has (member k d ms) x h =
    let own : Option (List ℕ × List ℕ) = option_map (λ key. (k, key)) (bad_key (members_of d)) in
    elim (either_some own (bad_limit_in ms) x h) [
      | inl here ↦
          let (key, found, is) =
          mapped_some {B = List ℕ × List ℕ} (λ key. (k, key)) (bad_key (members_of d)) x here in
          subst (λ z. HasTable (λ t. has_limit_at z.1 t ≡ false) z.0 (member k d ms)) is
          (inl (refl, key_has (members_of d) key found))
      | inr there ↦ inr (limit_has ms x there.1)
    ]
