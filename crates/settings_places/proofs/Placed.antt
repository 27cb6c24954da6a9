-- Each fault that a text has, has a place, and what stands there has it.
use Rattle.std.proofs.Common.{◌≡◌, ◌⊎◌, inl, inr, ℕ, zero, suc, Bool, true, false, cond, not, ◌&&◌, ◌||◌}
use Rattle.std.proofs.Common.{List, [], ◌∷◌, find, Option, Some, None, is_some, refl, sym, ◌∙◌, ap}
use Rattle.std.proofs.Common.{subst, codes, slice_get, option_and_then, unwrap_or, if◌then◌else◌, ⊎_elim}
use Rattle.std.proofs.Common.{Result, Ok, Err, IfOk, IsSomeAnd}
use Rattle.std.specs.List.{list_all, position}
use Rattle.std.specs.Option.{option_map, option_map_or, option_or}
use Rattle.std.specs.Str.{bytes_eq}
use Rattle.std.proofs.lemmas.Bool.{or_parts}
use Rattle.toml.specs.Data.{Members, no_members, member}
use Rattle.hours_core.specs.declared.level.Level.{Level}
use Rattle.lifecycle_core.specs.Fault as lifecycle
use Rattle.lifecycle_core.specs.declared.parts.Parts as lifecycles
use Rattle.text_core.specs.Form.{is_name, is_right_name}
use Rattle.rights_core.specs.People.{is_among, knows}
use Rattle.rights_core.specs.RightsFaults.{fault_of as rights_fault_of, has_grant_names, has_group}
use Rattle.rights_core.specs.RightsFaults.{has_known_members, has_names, is_there, knows_members}
use Rattle.rights_core.specs.RightsFaults.{knows_subjects, misname, repeats_name, stranger}
use Rattle.rights_core.specs.Right.{see_queue, create_ticket, show_ticket, show_ticket_comments}
use Rattle.rights_core.specs.Right.{modify_ticket, reply_to_ticket, comment_on_ticket, own_ticket}
use Rattle.rights_core.specs.Right.{take_ticket, steal_ticket, reassign_ticket, delete_ticket}
use Rattle.rights_core.specs.Right.{watch, watch_as_admin_cc, admin_queue, super_user}
use Rattle.rights_core.specs.Right.{standard_rights}
use Rattle.rights_core.specs.declared.fault.RightsFault.{RightsFault}
use Rattle.rights_core.specs.declared.fault.RightsFault.TheVariants as rights
use Rattle.rights_core.specs.declared.grant.Grant.{Grant}
use Rattle.rights_core.specs.declared.parts.Parts.{Parts}
use Rattle.rights_core.proofs.Failing.{one_fails}
use Rattle.settings_form.specs.Places.{fault_key}
use Rattle.settings_form.specs.Walk.{form_fault, has_fault}
use Rattle.settings_form.specs.declared.fault.FormFault.{FormFault}
use Rattle.settings_form.specs.declared.fault.FormFault.TheVariants as form
use Rattle.settings_form.proofs.Places.{fault_found}
use Rattle.settings_parts.specs.CalendarParts.{hours_of}
use Rattle.settings_parts.specs.LevelParts.{level_of}
use Rattle.settings_parts.specs.LifecycleParts.{lifecycle_of}
use Rattle.settings_parts.specs.PeopleParts.{grant_to_root, grants_at, has_people, people_in}
use Rattle.settings_parts.specs.PeopleParts.{people_stated, root_alone, tokens_of}
use Rattle.settings_parts.specs.Values.{members_of, table_at, text_at, texts_at}
use Rattle.settings_core.specs.Calendars as calendars
use Rattle.settings_core.specs.Fault.{of_form}
use Rattle.settings_core.specs.Levels.{have_limits, levels_in, levels_of}
use Rattle.settings_core.specs.Lifecycles as tables
use Rattle.settings_core.specs.Names.{knows_calendar, knows_calendars, knows_ignored, knows_names}
use Rattle.settings_core.specs.Names.{knows_persons, knows_right, knows_rights, knows_status}
use Rattle.settings_core.specs.Reading.{build_fault, fault_of, has_limits, has_tokens, is_count_at}
use Rattle.settings_core.specs.Reading.{late_fault, table_fault}
use Rattle.settings_core.specs.Tokens.{is_token}
use Rattle.settings_core.specs.declared.fault.SettingsFault.{SettingsFault}
use Rattle.settings_core.specs.declared.fault.SettingsFault.TheVariants.{Hours}
use Rattle.settings_core.specs.declared.fault.SettingsFault.TheVariants.{Lifecycle, Rights}
use Rattle.settings_core.specs.declared.fault.SettingsFault.TheVariants.{UnknownName, BadToken}
use Rattle.settings_core.specs.declared.fault.SettingsFault.TheVariants.{BadLimit}
use Rattle.settings_core.specs.declared.named.Named.{Named}
use Rattle.settings_core.proofs.Bounds.{count_fails, limit_fails}
use Rattle.settings_places.specs.Grants.{grant_at, table_of_grant}
use Rattle.settings_core.specs.Limits.{bad_count, bad_limit}
use Rattle.settings_places.specs.Placed.{HasFault, HasGrant, HasTable, IsBadCount}
use Rattle.settings_places.specs.Placed.{IsMisnamed, PlaceLaw, grants_to_none}
use Rattle.settings_places.specs.Place as place
use Rattle.settings_places.specs.Place.{FaultPlace, calendar_place, first_again, granted_place}
use Rattle.settings_places.specs.Place.{limit_place, member_place, misnamed_place, name_place}
use Rattle.settings_places.specs.Place.{named_place, person_place, place_of_fault, repeated_place}
use Rattle.settings_places.specs.Place.{right_place, status_place, subject_place, token_place}
use Rattle.settings_places.specs.declared.place.FaultPlace.{FaultPlace as PlaceInCode}
use Rattle.settings_places.proofs.Found.{again_twice, and_both, either_some, failing, failing_at}
use Rattle.settings_places.proofs.Found.{failing_by, find_among, find_any, find_passes, found_or}
use Rattle.settings_places.proofs.Found.{found_unless, itself, mapped_some, no_failing, no_failing_at}
use Rattle.settings_places.proofs.Found.{no_failing_by, not_true, some_either}
use Rattle.settings_places.proofs.Found.{some_mapped, some_of}
use Rattle.settings_places.proofs.Made.{any_at, at_position, made_by, of_table, said_by}
use Rattle.settings_places.proofs.TextTables.{fault_of_part, first_bad, limit_has}

-- the first fault that applies is this one, or one of the rest, where this doesn't
when_or : {F : Type 0} (P : F → Type 0) (b : Bool) (y : F) (rest : Option F) (x : F)
    → option_or (cond b (Some y) None) rest ≡ Some x → (b ≡ true → P y)
    → (b ≡ false → rest ≡ Some x → P x) → P x
when_or P true y rest x h here there = let same : y ≡ x = cc in subst P same (here refl)
when_or P false y rest x h here there = there refl h

when_only : {F : Type 0} (P : F → Type 0) (b : Bool) (y x : F) → cond b (Some y) None ≡ Some x
    → (b ≡ true → P y) → P x
when_only P true y x h here = let same : y ≡ x = cc in subst P same (here refl)
when_only P false y x h here = absurd (cc)

-- the tests in their order, one and then the rest
grouped : (a b c : Bool) → (a && b && c) ≡ false → (a && (b && c)) ≡ false
grouped true b c h = h
grouped false b c h = refl

grouped_four : (a b c d : Bool) → (a && b && c && d) ≡ false → (a && (b && (c && d))) ≡ false
grouped_four true b c d h = grouped b c d h
grouped_four false b c d h = refl

-- there is such a place
abbrev Stands : (FaultPlace → Type 0) → Option FaultPlace → Type 0
Stands IsSo place = (found : FaultPlace) × (place ≡ Some found) × IsSo found

-- one of two tests fails, and the first that does has its place
first_stands : (IsSo : FaultPlace → Type 0) (a b : Bool) (x y : Option FaultPlace)
    → (a && b) ≡ false → (a ≡ false → Stands IsSo x) → (a ≡ true → x ≡ None)
    → (b ≡ false → Stands IsSo y) → Stands IsSo (option_or x y)
first_stands IsSo false b x y h here none there =
    let (found, is, so) = here refl in
    (found, ap (λ (o : Option FaultPlace). option_or o y) is, so)
first_stands IsSo true b x y h here none there =
    let (found, is, so) = there h in
    (found, ap (λ (o : Option FaultPlace). option_or o y) (none refl) ∙ is, so)

-- what has the fault first is there, and has it
abbrev HasPlace : Members → SettingsFault → Type 0
HasPlace ms fault = Stands (HasFault ms fault) (place_of_fault ms fault)

-- ---- faults of form

form_applies : (ms : Members) (f : FormFault) → form_fault ms ≡ Some f → has_fault f ms ≡ true
form_applies ms f h =
    let P : FormFault → Type 0 = λ g. has_fault g ms ≡ true in
    let last : Option FormFault =
    if has_fault form.WrongKind ms then Some form.WrongKind else None in
    found_or P (has_fault form.UnknownKey ms) form.UnknownKey
    (if has_fault form.Missing ms then Some form.Missing else last) f h (λ is. is)
    (λ rest. found_or P (has_fault form.Missing ms) form.Missing last f rest (λ is. is)
    (λ rest. when_only P (has_fault form.WrongKind ms) form.WrongKind f rest (λ is. is)))

form_placed : (ms : Members) (f : FormFault) → has_fault f ms ≡ true → HasPlace ms (of_form f)
form_placed ms form.UnknownKey h =
    let (k, is) = some_of (fault_key form.UnknownKey ms) (fault_found form.UnknownKey ms ∙ h) in
    (place.key k, ap (option_map place.key) is, is)
form_placed ms form.Missing h =
    let (k, is) = some_of (fault_key form.Missing ms) (fault_found form.Missing ms ∙ h) in
    (place.key k, ap (option_map place.key) is, is)
form_placed ms form.WrongKind h =
    let (k, is) = some_of (fault_key form.WrongKind ms) (fault_found form.WrongKind ms ∙ h) in
    (place.key k, ap (option_map place.key) is, is)

-- ---- calendars and lifecycles

calendar_placed : (ms : Members) (f : SettingsFault) → calendars.calendars_fault ms ≡ Some f
    → HasPlace ms f
calendar_placed ms f h =
    let all = calendars.calendar_tables ms in
    let (k, found, has) = first_bad calendars.table_fault f all h in
    let (x, is) = fault_of_part Hours (λ t. calendars.hours_fault (hours_of t)) f k all has in
    let own : HasTable (λ t. calendars.table_fault t ≡ Some (Hours x)) k all =
    subst (λ g. HasTable (λ t. calendars.table_fault t ≡ Some g) k all) (sym is) has in
    subst (HasPlace ms) is (place.calendar k, ap (option_map place.calendar) found, own)

lifecycle_placed : (ms : Members) (f : SettingsFault) → tables.lifecycles_fault ms ≡ Some f
    → HasPlace ms f
lifecycle_placed ms f h =
    let all = table_at (codes "lifecycle") ms in
    let (k, found, has) = first_bad tables.table_fault f all h in
    let (x, is) = fault_of_part Lifecycle (λ t. lifecycle.fault_of (lifecycle_of t)) f k all has in
    let own : HasTable (λ t. tables.table_fault t ≡ Some (Lifecycle x)) k all =
    subst (λ g. HasTable (λ t. tables.table_fault t ≡ Some g) k all) (sym is) has in
    subst (HasPlace ms) is (place.lifecycle k, ap (option_map place.lifecycle) found, own)

-- ---- grants

-- the one grant of a text that doesn't speak of people passes
grants_stated : (b : Bool) (p : Parts) (fails : Parts → Grant → Bool) (i : ℕ)
    → fails root_alone grant_to_root ≡ false
    → position (fails (if b then p else root_alone)) (if b then p else root_alone).grants ≡ Some i
    → (if b then p else root_alone).grants ≡ p.grants
grants_stated true p fails i passes h = refl
grants_stated false p fails i passes h =
    absurd (let (g, is, fail) = at_position (fails root_alone) root_alone.grants i h in
    only_root i g is fail)
  where
    only_root : (i : ℕ) (g : Grant) → slice_get (grant_to_root ∷ []) i ≡ Some g
        → fails root_alone g ≡ true → ⊥
    only_root zero g is fail =
        let same : grant_to_root ≡ g = cc in
        let no : false ≡ true = sym passes ∙ ap (fails root_alone) same ∙ fail in cc
    only_root (suc i) g is fail = cc

-- the first grant that fails a test, its table, and what is so of the table since it makes it
record IsGrantAt (ms : Members) (fails : Grant → Bool) (i : ℕ) (g : Grant) (t : ℕ × Members)
    : Type 1 where
  at : grant_at ms (people_in ms).grants i ≡ Some (t.0, t.1, g)
  fail : fails g ≡ true
  so : (IsSo : Members → Type 0) → ((j : ℕ) → slice_get (grants_at t.1) j ≡ Some g → IsSo t.1)
      → HasGrant IsSo t.0 ms

grant_found : (ms : Members) (fails : Parts → Grant → Bool) (i : ℕ)
    → fails root_alone grant_to_root ≡ false
    → position (fails (people_in ms)) (people_in ms).grants ≡ Some i
    → (g : Grant) × (t : ℕ × Members) × IsGrantAt ms (fails (people_in ms)) i g t
grant_found ms fails i root h =
    let parts = people_in ms in
    let (g, is, fail) = at_position (fails parts) parts.grants i h in
    let stated = grants_stated (has_people ms) (people_stated ms) fails i root h in
    let own : slice_get (people_stated ms).grants i ≡ Some g =
    subst (λ (gs : List Grant). slice_get gs i ≡ Some g) stated is in
    let (t, makes, so) = made_by ms i g own in (
      g,
      t,
      record {
        at = ap
            (option_and_then (λ g. option_map (λ t. (t.0, t.1, g)) (table_of_grant ms i))) is
            ∙ ap (option_map (λ t. (t.0, t.1, g))) makes;
        fail = fail;
        so = so;
      },
    )

-- ---- people

Applies : Parts → RightsFault → Type 0
Applies p rights.BadName = has_names p ≡ false
Applies p rights.Repeated = repeats_name p.persons p.groups ≡ true
Applies p rights.UnknownMember =
    (repeats_name p.persons p.groups ≡ false) × (knows_members p ≡ false)
Applies p rights.UnknownSubject =
    (repeats_name p.persons p.groups ≡ false) × (knows_subjects p ≡ false)
Applies p rights.NoMemory = ⊥

rights_apply : (p : Parts) (f : RightsFault) → rights_fault_of p ≡ Some f → Applies p f
unfolding rights_fault_of Applies
rights_apply p f h =
    when_or (Applies p) (not (has_names p)) rights.BadName _ f h (not_true (has_names p))
    (λ named rest. when_or (Applies p) (repeats_name p.persons p.groups) rights.Repeated _ f rest
    (λ is. is)
    (λ once rest. when_or (Applies p) (not (knows_members p)) rights.UnknownMember _ f rest
    (λ is. (once, not_true (knows_members p) is))
    (λ known rest. when_only (Applies p) (not (knows_subjects p)) rights.UnknownSubject f rest
    (λ is. (once, not_true (knows_subjects p) is)))))

misnamed_by : (right : List ℕ) (queue : Option (List ℕ)) (fits : Bool) → is_right_name right ≡ fits
    → (fits && option_map_or is_name queue true) ≡ false
    → (name : List ℕ)
    × ((if fits then option_and_then (λ q. if is_name q then None else Some q) queue
    else Some right) ≡ Some name)
    × (((right ≡ name) × (is_right_name name ≡ false))
    ⊎ ((queue ≡ Some name) × (is_name name ≡ false)))
misnamed_by right queue false is h = (right, refl, inl (refl, is))
misnamed_by right None true is h = absurd (cc)
misnamed_by right (Some q) true is h =
    (q, ap (λ (b : Bool). if b then None else Some q) h, inr (refl, h))

granted_placed : (ms : Members) → list_all has_grant_names (people_in ms).grants ≡ false
    → Stands (HasFault ms (Rights rights.BadName)) (granted_place ms (people_in ms))
unfolding super_user
granted_placed ms h =
    let grants = (people_in ms).grants in
    let (i, is) = failing_at has_grant_names grants h in
    let (g, t, found) = grant_found ms (λ p g. not (has_grant_names g)) i refl is in
    let (name, told, why) =
    misnamed_by g.right g.queue (is_right_name g.right) refl
    (not_true (has_grant_names g) found.fail) in (
      place.granted t.0 name,
      ap
          (option_and_then (λ i. option_and_then
          (λ at. option_map (place.granted at.0) (misname at.2)) (grant_at ms grants i))) is
          ∙ ap (option_and_then (λ at. option_map (place.granted at.0) (misname at.2))) found.at
          ∙ ap (option_map (place.granted t.0)) told,
      found.so (IsMisnamed name)
          (λ j made.
          let own = of_table t.1 j g made in
          ⊎_elim
          (λ bad. inl
          (subst (λ n. is_among (texts_at (codes "rights") t.1) n ≡ true) bad.0 own.right, bad.1))
          (λ bad. inr (sym own.queue ∙ bad.0, bad.1, own.some))
          why),
    )

misnamed_placed : (ms : Members) → has_names (people_in ms) ≡ false
    → HasPlace ms (Rights rights.BadName)
misnamed_placed ms h =
    let parts = people_in ms in
    let IsSo : FaultPlace → Type 0 = HasFault ms (Rights rights.BadName) in
    let by_grant = granted_place ms parts in
    let by_group : Option FaultPlace =
    option_map (λ g. place.group_named g.name) (find (λ g. not (is_name g.name)) parts.groups) in
    let by_person : Option FaultPlace =
    option_map place.person_named (find (λ name. not (is_name name)) parts.persons) in
    let persons = list_all is_name parts.persons in
    let groups = list_all (λ g. is_name g.name) parts.groups in
    let grants = list_all has_grant_names parts.grants in
    first_stands IsSo persons (groups && grants) by_person (option_or by_group by_grant)
    (grouped persons groups grants h)
    (λ bad. let (name, is, misnamed) = failing is_name parts.persons bad in (
      place.person_named name,
      ap (option_map place.person_named) is,
      (find_among (λ name. not (is_name name)) parts.persons name is, misnamed),
    ))
    (λ fit. ap (option_map place.person_named) (no_failing is_name parts.persons fit))
    (λ rest. first_stands IsSo groups grants by_group by_grant rest
    (λ bad. let (g, is, misnamed) = failing (λ g. is_name g.name) parts.groups bad in (
      place.group_named g.name,
      ap (option_map (λ g. place.group_named g.name)) is,
      (
        find_any (λ g. not (is_name g.name)) (λ h. bytes_eq h.name g.name) parts.groups g is
            (itself g.name),
        misnamed,
      ),
    ))
    (λ fit. ap (option_map (λ g. place.group_named g.name))
    (no_failing (λ g. is_name g.name) parts.groups fit))
    (granted_placed ms))

member_placed : (ms : Members) → Applies (people_in ms) rights.UnknownMember
    → HasPlace ms (Rights rights.UnknownMember)
unfolding Applies
member_placed ms h =
    let persons = (people_in ms).persons in
    let groups = (people_in ms).groups in
    let test : List ℕ → Bool = λ name. not (is_among persons name || has_group groups name) in
    let (g, is, has) =
    failing_by (has_known_members persons groups) (λ g. is_some (stranger persons groups g.members))
    (λ g. one_fails (λ name. is_among persons name || has_group groups name) test (λ name. refl)
    g.members) groups h.1 in
    let (name, found) = some_of (stranger persons groups g.members) has in
    let (no_person, no_group) =
    or_parts (is_among persons name) (has_group groups name)
    (not_true (is_among persons name || has_group groups name)
    (find_passes test g.members name found)) in (
      place.group_member g.name name,
      ap
          (λ (b : Bool). if b then None else option_and_then
          (λ g. option_map (place.group_member g.name) (stranger persons groups g.members))
          (find (λ g. is_some (stranger persons groups g.members)) groups)) h.0
          ∙ ap
          (option_and_then
          (λ g. option_map (place.group_member g.name) (stranger persons groups g.members))) is
          ∙ ap (option_map (place.group_member g.name)) found,
      (
        find_any (λ g. is_some (stranger persons groups g.members))
            (λ h. bytes_eq h.name g.name && is_among h.members name) groups g is
            (and_both (bytes_eq g.name g.name) (is_among g.members name) (itself g.name)
            (find_among test g.members name found)),
        no_person,
        no_group,
      ),
    )

subject_placed : (ms : Members) → Applies (people_in ms) rights.UnknownSubject
    → HasPlace ms (Rights rights.UnknownSubject)
unfolding Applies
subject_placed ms h =
    let persons = (people_in ms).persons in
    let groups = (people_in ms).groups in
    let grants = (people_in ms).grants in
    let (i, is) = failing_at (λ g. is_there persons groups g.subject) grants h.1 in
    let (g, t, found) =
    grant_found ms (λ p g. not (is_there p.persons p.groups g.subject)) i refl is in
    let IsFor : Members → Type 0 =
    λ table. (text_at (codes "to") table ≡ Some (unwrap_or (text_at (codes "to") t.1) []))
    × (grants_to_none (people_in ms) table ≡ true) in (
      place.subject t.0 (unwrap_or (text_at (codes "to") t.1) []),
      ap
          (λ (b : Bool). if b then None else option_and_then
          (λ i. option_map
          (λ at. place.subject at.0 (unwrap_or (text_at (codes "to") at.1) []))
          (grant_at ms grants i))
          (position (λ g. not (is_there persons groups g.subject)) grants)) h.0
          ∙ ap
          (option_and_then
          (λ i. option_map
          (λ at. place.subject at.0 (unwrap_or (text_at (codes "to") at.1) []))
          (grant_at ms grants i))) is
          ∙ ap
          (option_map (λ at. place.subject at.0 (unwrap_or (text_at (codes "to") at.1) [])))
          found.at,
      found.so IsFor
          (λ j made. (
            said_by t.1 j g made,
            any_at (λ g. not (is_there persons groups g.subject)) (grants_at t.1) j g made found.fail,
          )),
    )

repeated_placed : (ms : Members)
    → repeats_name (people_in ms).persons (people_in ms).groups ≡ true
    → HasPlace ms (Rights rights.Repeated)
repeated_placed ms h = by_person (first_again [] (people_in ms).persons) refl
  where
    by_group : (o : Option (List ℕ)) → o ≡ find (has_group (people_in ms).groups) (people_in ms).persons
        → Stands (HasFault ms (Rights rights.Repeated))
        (option_or (option_map place.person_and_group o) (Some place.people))
    by_group (Some name) is = (
      place.person_and_group name,
      refl,
      (
        find_among (has_group (people_in ms).groups) (people_in ms).persons name (sym is),
        find_passes (has_group (people_in ms).groups) (people_in ms).persons name (sym is),
      ),
    )
    by_group None is = (place.people, refl, h)

    by_person : (o : Option (List ℕ)) → o ≡ first_again [] (people_in ms).persons
        → Stands (HasFault ms (Rights rights.Repeated)) (option_or (option_map place.person_twice o)
        (option_or (option_map place.person_and_group
        (find (has_group (people_in ms).groups) (people_in ms).persons)) (Some place.people)))
    by_person (Some name) is =
        (place.person_twice name, refl, again_twice name (people_in ms).persons (sym is))
    by_person None is = by_group (find (has_group (people_in ms).groups) (people_in ms).persons) refl

people_placed : (ms : Members) (f : RightsFault) → Applies (people_in ms) f
    → HasPlace ms (Rights f)
unfolding Applies
people_placed ms rights.BadName h = misnamed_placed ms h
people_placed ms rights.Repeated h = repeated_placed ms h
people_placed ms rights.UnknownMember h = member_placed ms h
people_placed ms rights.UnknownSubject h = subject_placed ms h
people_placed ms rights.NoMemory h = absurd h

rights_placed : (ms : Members) (f : SettingsFault)
    → option_map Rights (rights_fault_of (people_in ms)) ≡ Some f → HasPlace ms f
rights_placed ms f h =
    let (r, is, same) = mapped_some Rights (rights_fault_of (people_in ms)) f h in
    subst (HasPlace ms) same (people_placed ms r (rights_apply (people_in ms) r is))

-- ---- names

root_known : (ls : List (Named lifecycles.Parts)) → knows_right ls super_user ≡ true
unfolding standard_rights see_queue create_ticket show_ticket show_ticket_comments
    modify_ticket reply_to_ticket comment_on_ticket own_ticket take_ticket steal_ticket
    reassign_ticket delete_ticket watch watch_as_admin_cc admin_queue super_user
root_known ls = refl

right_placed : (ms : Members)
    → knows_rights (tables.lifecycles_of ms) (people_in ms).grants ≡ false
    → Stands (HasFault ms UnknownName)
    (right_place ms (tables.lifecycles_of ms) (people_in ms).grants)
right_placed ms h =
    let ls = tables.lifecycles_of ms in
    let grants = (people_in ms).grants in
    let (i, is) = failing_at (λ g. knows_right ls g.right) grants h in
    let (g, t, found) =
    grant_found ms (λ p g. not (knows_right ls g.right)) i (ap not (root_known ls)) is in (
      place.right t.0 g.right,
      ap
          (option_and_then
          (λ i. option_map (λ at. place.right at.0 at.2.right) (grant_at ms grants i))) is
          ∙ ap (option_map (λ at. place.right at.0 at.2.right)) found.at,
      (
        found.so (λ table. is_among (texts_at (codes "rights") table) g.right ≡ true)
            (λ j made. (of_table t.1 j g made).right),
        not_true (knows_right ls g.right) found.fail,
      ),
    )

-- a level that is found is that of a table
level_stands : (p : Named Level → Bool) (tables : Members) (l : Named Level)
    (IsSo : Members → Type 0) → find p (levels_in tables) ≡ Some l
    → ((t : Members) → level_of t ≡ l.value → IsSo t) → HasTable IsSo l.name tables
level_stands p no_members l IsSo h so = absurd (cc)
level_stands p (member k d ms) l IsSo h so =
    let own : Named Level = record { name = k; value = level_of (members_of d) } in
    found_or
    (λ z. ((t : Members) → level_of t ≡ z.value → IsSo t) → HasTable IsSo z.name (member k d ms))
    (p own) own (find p (levels_in ms)) l h
    (λ is so. inl (refl, so (members_of d) refl))
    (λ rest so. inr (level_stands p ms l IsSo rest so)) so

level_calendar_placed : (ms : Members) → knows_calendars ms (levels_of ms) ≡ false
    → Stands (HasFault ms UnknownName) (calendar_place ms (levels_of ms))
level_calendar_placed ms h =
    let (l, is, unknown) =
    failing (λ l. knows_calendar ms l.value.calendar) (levels_of ms) h in (
      place.calendar_of l.name l.value.calendar,
      ap (option_map (λ l. place.calendar_of l.name l.value.calendar)) is,
      (
        level_stands (λ l. not (knows_calendar ms l.value.calendar)) (table_at (codes "level") ms)
            l (λ t. (level_of t).calendar ≡ l.value.calendar) is
            (λ t same. ap (λ v. v.calendar) same),
        unknown,
      ),
    )

status_placed : (ms : Members) → knows_ignored (tables.lifecycles_of ms) (levels_of ms) ≡ false
    → Stands (HasFault ms UnknownName) (status_place (tables.lifecycles_of ms) (levels_of ms))
status_placed ms h =
    let known : List ℕ → Bool = knows_status (tables.lifecycles_of ms) in
    let (l, is, has) =
    failing_by (λ l. list_all known l.value.ignore)
    (λ l. is_some (find (λ s. not (known s)) l.value.ignore))
    (λ l. one_fails known (λ s. not (known s)) (λ s. refl) l.value.ignore) (levels_of ms) h in
    let (s, found) = some_of (find (λ s. not (known s)) l.value.ignore) has in
    let listed = find_among (λ s. not (known s)) l.value.ignore s found in (
      place.status_of l.name s,
      ap
          (option_and_then
          (λ l. option_map (place.status_of l.name) (find (λ s. not (known s)) l.value.ignore))) is
          ∙ ap (option_map (place.status_of l.name)) found,
      (
        level_stands (λ l. is_some (find (λ s. not (known s)) l.value.ignore))
            (table_at (codes "level") ms) l (λ t. is_among (level_of t).ignore s ≡ true) is
            (λ t same. ap (λ v. is_among v.ignore s) same ∙ listed),
        not_true (known s) (find_passes (λ s. not (known s)) l.value.ignore s found),
      ),
    )

person_placed : (ms : Members) → knows_persons (people_in ms) (tokens_of ms) ≡ false
    → Stands (HasFault ms UnknownName) (person_place (people_in ms) (tokens_of ms))
person_placed ms h =
    let (t, is, unknown) = failing (λ t. knows (people_in ms) t.person) (tokens_of ms) h in (
      place.person_of t.token t.person,
      ap (option_map (λ t. place.person_of t.token t.person)) is,
      (
        find_any (λ t. not (knows (people_in ms) t.person))
            (λ u. bytes_eq u.token t.token && bytes_eq u.person t.person) (tokens_of ms) t is
            (and_both (bytes_eq t.token t.token) (bytes_eq t.person t.person) (itself t.token)
            (itself t.person)),
        unknown,
      ),
    )

-- where neither a calendar, a lifecycle nor the people have a fault
name_placed : (ms : Members) → build_fault ms ≡ None → knows_names ms ≡ false
    → HasPlace ms UnknownName
name_placed ms sound h =
    let ls = tables.lifecycles_of ms in
    let levels = levels_of ms in
    let parts = people_in ms in
    let IsSo : FaultPlace → Type 0 = HasFault ms UnknownName in
    let rights = knows_rights ls parts.grants in
    let calendars = knows_calendars ms levels in
    let statuses = knows_ignored ls levels in
    let persons = knows_persons parts (tokens_of ms) in
    let by_calendar = calendar_place ms levels in
    let by_status = status_place ls levels in
    let by_person = person_place parts (tokens_of ms) in
    let (found, is, so) =
    first_stands IsSo rights (calendars && (statuses && persons)) (right_place ms ls parts.grants)
    (option_or by_calendar (option_or by_status by_person))
    (grouped_four rights calendars statuses persons h) (right_placed ms)
    (λ known. ap
    (option_and_then
    (λ i. option_map (λ at. place.right at.0 at.2.right) (grant_at ms parts.grants i)))
    (no_failing_at (λ g. knows_right ls g.right) parts.grants known))
    (λ rest. first_stands IsSo calendars (statuses && persons) by_calendar
    (option_or by_status by_person) rest (level_calendar_placed ms)
    (λ known. ap (option_map (λ l. place.calendar_of l.name l.value.calendar))
    (no_failing (λ l. knows_calendar ms l.value.calendar) levels known))
    (λ rest. first_stands IsSo statuses persons by_status by_person rest (status_placed ms)
    (λ known. ap
    (option_and_then
    (λ l. option_map (place.status_of l.name) (find (λ s. not (knows_status ls s)) l.value.ignore)))
    (no_failing_by (λ l. list_all (knows_status ls) l.value.ignore)
    (λ l. is_some (find (λ s. not (knows_status ls s)) l.value.ignore))
    (λ l. one_fails (knows_status ls) (λ s. not (knows_status ls s)) (λ s. refl) l.value.ignore)
    levels known))
    (person_placed ms))) in
    let asked : name_place ms ≡ named_place ms =
    ap (λ (o : Option SettingsFault). if is_some o then None else named_place ms) sound in
    (found, asked ∙ is, so)

-- ---- tokens and limits

token_placed : (ms : Members) → has_tokens ms ≡ false → HasPlace ms BadToken
token_placed ms h =
    let (t, is, bad) = failing (λ t. is_token t.token) (tokens_of ms) h in (
      place.token t.token t.person,
      ap (option_map (λ t. place.token t.token t.person)) is,
      (
        find_any (λ t. not (is_token t.token))
            (λ u. bytes_eq u.token t.token && bytes_eq u.person t.person) (tokens_of ms) t is
            (and_both (bytes_eq t.token t.token) (bytes_eq t.person t.person) (itself t.token)
            (itself t.person)),
        bad,
      ),
    )

count_has : (ms : Members) (k : List ℕ) → bad_count ms ≡ Some k → IsBadCount ms k
count_has ms k h =
    let second = is_count_at (codes "max_entries") 10000 ms in
    let entries : Option (List ℕ) = if second then None else Some (codes "max_entries") in
    found_unless (IsBadCount ms) (is_count_at (codes "max_requests") 1000000 ms)
    (codes "max_requests") entries k h (λ bad. inl (refl, bad))
    (λ rest. found_unless (IsBadCount ms) second (codes "max_entries") None k rest
    (λ bad. inr (refl, bad)) (λ none. absurd (cc)))

limit_told : (ms : Members) → has_limits ms ≡ false → is_some (limit_place ms) ≡ true
limit_told ms h =
    let levels = table_at (codes "level") ms in
    let requests = is_count_at (codes "max_requests") 1000000 ms in
    let entries = is_count_at (codes "max_entries") 10000 ms in
    some_either (have_limits levels) (requests && entries)
    (option_map (λ f. place.limit f.0 f.1) (bad_limit ms))
    (option_map place.count (bad_count ms)) (grouped (have_limits levels) requests entries h)
    (λ bad. some_mapped (λ f. place.limit f.0 f.1) (bad_limit ms) (limit_fails levels ∙ ap not bad))
    (λ bad. some_mapped place.count (bad_count ms)
    (count_fails ms ∙ ap not bad))

level_placed : (ms : Members) (w : FaultPlace)
    → option_map (λ f. place.limit f.0 f.1) (bad_limit ms) ≡ Some w → HasFault ms BadLimit w
level_placed ms w h =
    let (x, found, is) = mapped_some (λ f. place.limit f.0 f.1) (bad_limit ms) w h in
    subst (HasFault ms BadLimit) is (limit_has (table_at (codes "level") ms) x found)

count_placed : (ms : Members) (w : FaultPlace) → option_map place.count (bad_count ms) ≡ Some w
    → HasFault ms BadLimit w
count_placed ms w h =
    let (k, found, is) = mapped_some place.count (bad_count ms) w h in
    subst (HasFault ms BadLimit) is (count_has ms k found)

limit_placed : (ms : Members) → has_limits ms ≡ false → HasPlace ms BadLimit
limit_placed ms h =
    let (w, found) = some_of (limit_place ms) (limit_told ms h) in (
      w,
      found,
      ⊎_elim (level_placed ms w) (λ after. count_placed ms w after.1)
          (either_some (option_map (λ f. place.limit f.0 f.1) (bad_limit ms))
          (option_map place.count (bad_count ms)) w
          found),
    )

-- ---- all

late_placed : (ms : Members) (f : SettingsFault) → build_fault ms ≡ None
    → late_fault ms ≡ Some f → HasPlace ms f
late_placed ms f sound h =
    when_or (HasPlace ms) (not (knows_names ms)) UnknownName _ f h
    (λ is. name_placed ms sound (not_true (knows_names ms) is))
    (λ known rest. when_or (HasPlace ms) (not (has_tokens ms)) BadToken _ f rest
    (λ is. token_placed ms (not_true (has_tokens ms) is))
    (λ good rest. when_only (HasPlace ms) (not (has_limits ms)) BadLimit f rest
    (λ is. limit_placed ms (not_true (has_limits ms) is))))

table_placed : (ms : Members) (f : SettingsFault) → table_fault ms ≡ Some f → HasPlace ms f
table_placed ms f h =
    let by_rights : Option SettingsFault = option_map Rights (rights_fault_of (people_in ms)) in
    let by_lifecycles : Option SettingsFault = option_or (tables.lifecycles_fault ms) by_rights in
    ⊎_elim
    (λ built. ⊎_elim (calendar_placed ms f)
    (λ after. ⊎_elim (lifecycle_placed ms f) (λ after. rights_placed ms f after.1)
    (either_some (tables.lifecycles_fault ms) by_rights f after.1))
    (either_some (calendars.calendars_fault ms) by_lifecycles f built))
    (λ after. late_placed ms f after.0 after.1)
    (either_some (option_or (calendars.calendars_fault ms) by_lifecycles) (late_fault ms) f h)

has_place : (ms : Members) (f : SettingsFault) → fault_of ms ≡ Some f → HasPlace ms f
has_place ms f h =
    ⊎_elim
    (λ formed. let (g, is, same) = mapped_some of_form (form_fault ms) f formed in
    subst (HasPlace ms) same (form_placed ms g (form_applies ms g is)))
    (λ after. table_placed ms f after.1)
    (either_some (option_map of_form (form_fault ms)) (table_fault ms) f h)

pub placed : PlaceLaw
placed ms f h =
    let (found, is, has) = has_place ms f h in
    subst (λ (o : Option FaultPlace). IsSomeAnd o (HasFault ms f)) (sym is) has

-- what the code tells is that place
pub told_placed : {E : Type 0} (ms : Members) (f : SettingsFault)
    (told : Result (Option PlaceInCode) E)
    → IfOk told (λ found. option_map place.seen found ≡ place_of_fault ms f)
    → fault_of ms ≡ Some f
    → IfOk told (λ found. IsSomeAnd (option_map place.seen found) (HasFault ms f))
told_placed ms f (Ok found) is h =
    subst (λ (o : Option FaultPlace). IsSomeAnd o (HasFault ms f)) (sym is) (placed ms f h)
told_placed ms f (Err e) is h = tt
