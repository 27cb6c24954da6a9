-- a fault leaves the tables
use Rattle.std.proofs.Common.{◌≡◌, ◌∙◌, Bool, true, false, IfOk, Ok, Result, ap, inl, inr, refl}
use Rattle.std.proofs.Common.{subst, sym}
use Rattle.sqlite.specs.State.{State}
use Rattle.store_tables.specs.declared.fault.StoreFault.{StoreFault}
use Rattle.store_tables.specs.Calls.{LeavesTables}
use Rattle.store_tables.proofs.ReadOn.{blames_failed, blames_none}
use Rattle.store_tables.proofs.Spared.{stands_for}
use Rattle.service_core.specs.Attaching.{IsGivenBack, knows_names}
use Rattle.service_core.specs.declared.fault.AttachFault.TheVariants.{Store}
use Rattle.service_core.specs.declared.renewal.Renewal.{Renewal}
use Rattle.service_core.specs.declared.renewal.Renewal.TheVariants.{Done}
use Rattle.service_core.proofs.desk.Desk.attach.Goals as goal

abbrev is_done : Renewal → Bool
is_done Done = true
is_done other = false

not_done : (r : Result Renewal StoreFault) (came : Renewal) → is_done came ≡ false → r ≡ Ok came
    → r ≡ Ok Done → ⊥
not_done r came differs is same =
    let at_came : IfOk r (λ x. is_done x ≡ false) =
    subst (λ (q : Result Renewal StoreFault). IfOk q (λ x. is_done x ≡ false)) (sym is) differs in
    let at_done : true ≡ false =
    subst (λ (q : Result Renewal StoreFault). IfOk q (λ x. is_done x ≡ false)) same at_came in cc

-- a fault that leaves the tables gives the store back
given_back : {old new : State} → LeavesTables old new → IsGivenBack old new
given_back kept = record { spared = kept; stands = stands_for kept }

pub returns-in-Ok-Done-clause-attached : goal.returns-in-Ok-Done-clause-attached
returns-in-Ok-Done-clause-attached g c =
    let done = c.in-Ok-Done.field-0-is in
    record {
      same = refl;
      tested = c.in-Ok-Done.ensures.tested.tested;
      known = λ desk is stand clean.
          c.in-Ok-Done.ensures.told desk is stand clean ∙ ap knows_names done;
      renewed = c.renew_known.ensures.renewed (c.in-Ok-Done.is ∙ ap Ok done);
      keeps = c.renew_known.ensures.left.keeps;
    }

pub returns-in-Ok-UnknownName-clause-unknown : goal.returns-in-Ok-UnknownName-clause-unknown
returns-in-Ok-UnknownName-clause-unknown g c same = record {
  tested = c.in-Ok-UnknownName.ensures.tested.tested;
  unknown = λ desk is stand clean.
      c.in-Ok-UnknownName.ensures.told desk is stand clean
      ∙ ap knows_names c.in-Ok-UnknownName.field-0-is;
}

pub returns-in-Ok-UnknownName-clause-fault : goal.returns-in-Ok-UnknownName-clause-fault
returns-in-Ok-UnknownName-clause-fault g c =
    record { fault = λ d stand clean. inl refl; blames = inl refl }

pub returns-in-Ok-UnknownName-clause-given_back : goal.returns-in-Ok-UnknownName-clause-given_back
returns-in-Ok-UnknownName-clause-given_back g c =
    given_back (c.renew_known.ensures.left.left (not_done _ c.in-Ok-UnknownName.field-0
    (ap is_done c.in-Ok-UnknownName.field-0-is) c.in-Ok-UnknownName.is))

pub returns-in-Ok-NoMemory-clause-fault : goal.returns-in-Ok-NoMemory-clause-fault
returns-in-Ok-NoMemory-clause-fault g c =
    record { fault = λ d stand clean. inr (inl refl); blames = inr (inl refl) }

pub returns-in-Ok-NoMemory-clause-given_back : goal.returns-in-Ok-NoMemory-clause-given_back
returns-in-Ok-NoMemory-clause-given_back g c =
    given_back (c.renew_known.ensures.left.left (not_done _ c.in-Ok-NoMemory.field-0
    (ap is_done c.in-Ok-NoMemory.field-0-is) c.in-Ok-NoMemory.is))

pub returns-in-Err-clause-fault : goal.returns-in-Err-clause-fault
returns-in-Err-clause-fault g c =
    let blames = c.in-Err.ensures.tested.blames in
    record {
      fault = λ d stand clean.
          inr (inr (ap Store (blames_none c.renew_known.ensures.left.keeps.clean blames d stand
          clean)));
      blames = inr (inr (c.in-Err.fault, refl, blames_failed blames refl));
    }

pub returns-in-Err-clause-given_back : goal.returns-in-Err-clause-given_back
returns-in-Err-clause-given_back g c = given_back (c.in-Err.ensures.left.left (λ same. cc))
