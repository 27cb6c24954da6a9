-- Readings, one after another.
use Rattle.std.proofs.Common.{rules, ◌≡◌, ◌⊎◌, Err, IfErr, IfOk, inl, inr, IsTrue, Ok, refl, Result}
use Rattle.std.proofs.Common.{subst}
use Rattle.sqlite.specs.State.{State, HasCleanDisk}
use Rattle.desk_model.specs.Desk.{Desk}
use Rattle.store_tables.specs.Calls.{Answers, OnlyRefuses, LeavesTables, Tells, WasClean}
use Rattle.store_tables.specs.Contents.{Contents, contents_of, HasBadRows}
use Rattle.store_tables.specs.Readings.{MismatchMeansBadRow, OfDesk, Reads}
use Rattle.store_tables.specs.declared.fault.StoreFault.{StoreFault}
use Rattle.store_tables.specs.declared.fault.StoreFault.TheVariants.{Refused}
use Rattle.store_tables.proofs.ReadingLemmas.{if_err, if_ok}
use Rattle.store_tables.proofs.Contents.{none_bad}
use Rattle.store_tables.proofs.RowLemmas.{only_refused}
use Rattle.store_tables.proofs.Spared.{joined, stands, there_still}

bad_before : {a b : State} → LeavesTables a b → HasCleanDisk b
    → IsTrue b.is_open × (HasBadRows b.now ⊎ HasBadRows b.committed)
    → IsTrue a.is_open × (HasBadRows a.now ⊎ HasBadRows a.committed)
bad_before {a} kept clean bad =
    let it = kept.left clean bad.0 in (
      it.0,
      elim bad.1 [
        | inl now ↦ elim it.2 [
          | inl same ↦ inl (subst HasBadRows same now)
          | inr back ↦ inr (subst HasBadRows back now)
        ]
        | inr last ↦ inr (subst HasBadRows it.1 last)
      ],
    )

-- a fault is one of whatever was asked, and so it is answered
pub blames_failed : {X Y : Type 0} {a b : State} {e : StoreFault} {r : Result Y StoreFault}
    → MismatchMeansBadRow {X = X} a b (Err e) → r ≡ Err e → MismatchMeansBadRow a b r
blames_failed it is = rw is (assumption)

-- what a later reading blames was bad before
pub blames_after : {X : Type 0} {a b c : State} {r : Result X StoreFault} → LeavesTables a b
    → WasClean b c → MismatchMeansBadRow b c r → MismatchMeansBadRow a c r
blames_after {r = r} first clean second = record {
  known = second.known;
  mismatch = if_err r (λ e blame wrong there now. bad_before first (clean now)
      (blame wrong (there_still first there) now)) second.mismatch;
}

pub failed : {X Y : Type 0} {P : Contents → X → Type 0} {Q : Contents → Y → Type 0} {a b : State}
    {e : StoreFault} → Reads P a b (Err e) → Reads Q a b (Err e)
failed it = search rules

pub failed_at : {X Y : Type 0} {P : Contents → X → Type 0} {Q : Contents → Y → Type 0} {a b : State}
    {e : StoreFault} {r : Result Y StoreFault} → Reads P a b (Err e) → r ≡ Err e → Reads Q a b r
failed_at it is = rw is (failed it)

-- what is refused blames no row
pub blames_refused : {X : Type 0} {a b : State} (r : Result X StoreFault)
    → IfErr r (λ e. e ≡ Refused) → MismatchMeansBadRow a b r
blames_refused r fault = record {
  known = if_err r (λ e is wrong. cc) fault;
  mismatch = if_err r (λ e is wrong there clean. absurd (cc)) fault;
}

-- what was read went well, and the answer is made of it, or memory for it is refused
pub ending : {X Y : Type 0} {P : Contents → X → Type 0} {Q : Contents → Y → Type 0} {a b : State}
    {x : X} {r : Result Y StoreFault} → IfErr r (λ e. e ≡ Refused)
    → ((d : Contents) → P d x → IfOk r (Q d)) → Reads P a b (Ok x) → Reads Q a b r
ending {r = r} fault so it = record {
  told = λ d stand clean. so d (it.told d stand clean);
  kept = it.kept;
  blames = blames_refused r fault;
}

pub refusing : {X Y : Type 0} {P : Contents → X → Type 0} {Q : Contents → Y → Type 0} {a b : State}
    {x : X} {e : StoreFault} → Reads P a b (Ok x) → e ≡ Refused → Reads Q a b (Err e)
refusing it is = ending is (λ d p. tt) it

-- whatever was asked, it is refused, and the tables are spared
pub refusing_after : {Y : Type 0} {Q : Contents → Y → Type 0} {a b : State} → LeavesTables a b
    → Reads Q a b (Err Refused)
refusing_after {Y} {a = a} {b} kept =
    let blames = blames_refused {X = Y} {a = a} {b = b} (Err Refused) refl in search rules

-- two readings, and both answers
pub then : {X Y : Type 0} {P : Contents → X → Type 0} {Q : Contents → Y → Type 0} {a b c : State}
    {x : X} {r : Result Y StoreFault} → Reads P a b (Ok x) → Reads Q b c r
    → Reads (λ d y. P d x × Q d y) a c r
then {r = r} first second = record {
  told = λ d stand clean. if_ok r (λ y. λ q. (first.told d stand (second.kept.clean clean), q))
      (second.told d (stands first.kept d stand) clean);
  kept = joined first.kept second.kept;
  blames = blames_after first.kept second.kept.clean second.blames;
}

-- what is so of each answer
pub telling : {X : Type 0} {P Q : Contents → X → Type 0} {a b : State} {r : Result X StoreFault}
    → ((d : Contents) (x : X) → P d x → Q d x) → Reads P a b r → Reads Q a b r
telling {Q = Q} {a} {b} {r} so it =
    let told : Answers Q a b r = λ d stand now. if_ok r (so d) (it.told d stand now) in assumption

-- another answer is made of the one that was read
pub giving : {X Y : Type 0} {P : Contents → X → Type 0} {Q : Contents → Y → Type 0} {a b : State}
    {x : X} {y : Y} → ((d : Contents) → P d x → Q d y) → Reads P a b (Ok x) → Reads Q a b (Ok y)
giving {Q = Q} {a} {b} {y = y} so it =
    let told : Answers Q a b (Ok y) = λ d stand clean. so d (it.told d stand clean) in search rules

-- so the only fault is that the store or memory refused it
pub blames_none : {X : Type 0} {old new : State} {r : Result X StoreFault} → WasClean old new
    → MismatchMeansBadRow old new r → OnlyRefuses old new r
blames_none {old = old} {r = r} was it c stand clean = only_refused r it.known (λ blame.
    let bad = blame (λ d o. let t = stand d o in (t.0.schema, t.1.schema)) clean in
    let t = stand (was clean) bad.0 in
    elim bad.1 [
      | inl now ↦ none_bad c old.now t.0 now
      | inr last ↦ none_bad c old.committed t.1 last
    ]) it.mismatch

-- what is told of contents is told of the desk whose contents they are
pub of_desk : {X : Type 0} {P : Desk → X → Type 0} {a b : State} {r : Result X StoreFault}
    → Reads (OfDesk P) a b r → Tells P a b r
of_desk {r = r} it desk is stand clean =
    if_ok r (λ x so. so desk (record { is = is; due = stand.0; same = refl }))
    (it.told (contents_of stand.0 desk) stand.1 clean)
