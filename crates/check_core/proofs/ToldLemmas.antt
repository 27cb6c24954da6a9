-- What is told of tables, by what was found wrong.
use Rattle.std.proofs.Common.{◌≡◌, ◌∙◌, ℕ, Bool, true, List, Err, IfOk, None, Ok, Option, Result, Some}
use Rattle.std.proofs.Common.{ap, inl, inr, refl, sym}
use Rattle.std.specs.Option.{option_map}
use Rattle.std.specs.Prelude.{String, is_none, string_bytes, ⊤}
use Rattle.sqlite.specs.Held.{Held, state}
use Rattle.sqlite.specs.Order.{Row}
use Rattle.sqlite.specs.State.{State, HasCleanDisk}
use Rattle.sqlite.specs.Store.{Ghosts}
use Rattle.settings_core.specs.declared.settings.Settings.{Settings}
use Rattle.store_tables.specs.Calls.{LeavesTables}
use Rattle.store_tables.specs.Contents.{contents_of}
use Rattle.store_tables.specs.declared.fault.StoreFault.{StoreFault}
use Rattle.store_tables.specs.declared.fault.StoreFault.TheVariants.{Mismatch, Refused}
use Rattle.store_tables.proofs.ReadOn.{blames_none}
use Rattle.check_core.specs.BadRows.{HasTablesOf, IsFirst}
use Rattle.check_core.specs.Columns.{tables_of}
use Rattle.check_core.specs.Rows.{Unknown, first_unknown}
use Rattle.check_core.specs.Tables.{BlamesOnly, IsLacking, NothingIsWrong}
use Rattle.check_core.specs.Told.{AreRowsTold, IsTellingRow, IsToldOf, name_line, unread_line}
use Rattle.check_core.specs.Words.{unknown_text}
use Rattle.check_core.specs.declared.columns.Table.{Table}
use Rattle.check_core.specs.declared.columns.Version.{Version}
use Rattle.check_core.proofs.Naming.{known_of_none}

name_of : (o : Option Unknown) (t : List ℕ) → option_map unknown_text o ≡ Some t
    → Some (name_line t) ≡ option_map (λ found. name_line (unknown_text found)) o
name_of None t is = absurd (cc)
name_of (Some u) t is =
    let same : unknown_text u ≡ t = cc in ap (λ x. Some (name_line x)) (sym same)

no_name : (o : Option Unknown) → is_none o ≡ true
    → None ≡ option_map (λ found. name_line (unknown_text found)) o
no_name None is = refl
no_name (Some u) is = absurd (cc)

pub nothing_told : {S : Type 0} (g : Ghosts S) (s : Settings) {old : State} (left : Held S)
    → LeavesTables old (state g left) → NothingIsWrong s old (state g left) → IsToldOf g s old None
nothing_told g s left kept wrong = record {
  left = left;
  kept = kept;
  desk = λ desk is stand clean.
      inl (no_name (first_unknown s desk)
      (sym (known_of_none s desk) ∙ wrong.known desk is stand clean));
}

module _ {S A E : Type 0} (g : Ghosts S) (s : Settings) {old : State} (left : Held S)
    (kept : LeavesTables old (state g left))
  where
    pub name_told : (result : Result (Option (String A)) E) {name : List ℕ}
        → IsLacking s old (state g left) name
        → IfOk result (λ told. option_map string_bytes told ≡ Some (name_line name))
        → IfOk result (λ told. IsToldOf g s old (option_map string_bytes told))
    name_told (Err e) lacking words = tt
    name_told (Ok told) {name} lacking words = record {
      left = left;
      kept = kept;
      desk = λ desk is stand clean.
          let lacks = lacking.lacks.unknown desk is stand clean in
          inl (words ∙ name_of (first_unknown s desk) name (lacking.first desk is stand lacks clean));
    }

    pub fault_told : (result : Result (Option (String A)) E) (fault : StoreFault)
        → BlamesOnly old (state g left) fault
        → IfOk result (λ told. option_map string_bytes told ≡ Some (unread_line fault))
        → IfOk result (λ told. IsToldOf g s old (option_map string_bytes told))
    fault_told (Err e) fault blames words = tt
    fault_told (Ok told) fault blames words =
        let r : Result ⊤ StoreFault = Err fault in
        record {
          left = left;
          kept = kept;
          desk = λ desk is stand clean.
              let refused : fault ≡ Refused = blames_none {r = r} kept.clean blames
              (contents_of stand.0 desk) stand.1 clean in
              inr (words ∙ ap (λ (e : StoreFault). Some (unread_line e)) refused);
        }

    -- over the tables of a desk no row is bad
    pub bad_row_told : (result : Result (Option (String A)) E) → BlamesOnly old (state g left) Mismatch
        → IfOk result (λ told. IsToldOf g s old (option_map string_bytes told))
    bad_row_told (Err e) blames = tt
    bad_row_told (Ok told) blames =
        let r : Result ⊤ StoreFault = Err Mismatch in
        record {
          left = left;
          kept = kept;
          desk = λ desk is stand clean.
              let refused : Mismatch ≡ Refused = blames_none {r = r} kept.clean blames
              (contents_of stand.0 desk) stand.1 clean in absurd (cc);
        }

-- ---- rows

module _ {S A E : Type 0} (g : Ghosts S) (v : Version) {old : State} (left : Held S)
    (result : Result (Option (String A)) E)
  where
    pub row_told : (found : Option (Table × (Row × ℕ))) → LeavesTables old (state g left)
        → (HasTablesOf v old → HasCleanDisk (state g left)
        → IsFirst (tables_of v) found old.now × ((state g left).now ≡ old.now))
        → IfOk result (λ told. IsTellingRow found (option_map string_bytes told))
        → IfOk result (λ told. AreRowsTold g v old (option_map string_bytes told))
    row_told found kept first words = if_row result words
      where
        if_row : (r : Result (Option (String A)) E)
            → IfOk r (λ told. IsTellingRow found (option_map string_bytes told))
            → IfOk r (λ told. AreRowsTold g v old (option_map string_bytes told))
        if_row (Err e) words = tt
        if_row (Ok told) words = record {
          left = left;
          kept = kept;
          rows = λ there clean. inl (found, (first there clean).0, words);
        }

    pub rows_unread : (fault : StoreFault) → LeavesTables old (state g left)
        → IfOk result (λ told. option_map string_bytes told ≡ Some (unread_line fault))
        → IfOk result (λ told. AreRowsTold g v old (option_map string_bytes told))
    rows_unread fault kept words = if_unread result words
      where
        if_unread : (r : Result (Option (String A)) E)
            → IfOk r (λ told. option_map string_bytes told ≡ Some (unread_line fault))
            → IfOk r (λ told. AreRowsTold g v old (option_map string_bytes told))
        if_unread (Err e) words = tt
        if_unread (Ok told) words =
            record { left = left; kept = kept; rows = λ there clean. inr (fault, words) }
