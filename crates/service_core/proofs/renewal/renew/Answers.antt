-- those that differ are written
use Rattle.std.proofs.Common.{Ok, Result, refl}
use Rattle.std.specs.Prelude.{⊤}
use Rattle.store_tables.specs.declared.fault.StoreFault.{StoreFault}
use Rattle.store_core.specs.Seen.{state_of}
use Rattle.store_tables.proofs.Spared.{unread}
use Rattle.service_core.proofs.AttachLemmas.{spared_unless_done}
use Rattle.service_core.proofs.RenewedDues.{renewed_from}
use Rattle.service_core.proofs.renewal.renew.Goals as goal

pub returns-in_ok-set_due_times-in-Ok-clause-renewed : goal.returns-in_ok-set_due_times-in-Ok-clause-renewed
returns-in_ok-set_due_times-in-Ok-clause-renewed g c done =
    let written : Result ⊤ StoreFault = Ok tt in
    renewed_from c.args.settings.now c.args.queues.now c.args.stays.items c.args.dated.now
    c.in-Ok.dues.items (state_of g.S.Store c.args.store.now)
    (state_of g.S.Store c.set_due_times.new.self) written c.in-Ok.ensures
    (rw c.as_slice.ensures.value at c.in_ok-set_due_times-in-Ok.ensures.done)

pub returns-in_ok-set_due_times-in-Ok-clause-left : goal.returns-in_ok-set_due_times-in-Ok-clause-left
returns-in_ok-set_due_times-in-Ok-clause-left g c = record {
  left = λ other. absurd (other refl);
  keeps = record { clean = c.set_due_times.ensures.honest; lasts = c.set_due_times.ensures.lasts };
}

pub returns-in_err-set_due_times-in-Ok-clause-left : goal.returns-in_err-set_due_times-in-Ok-clause-left
returns-in_err-set_due_times-in-Ok-clause-left g c =
    spared_unless_done c.in_err-set_due_times-in-Ok.ensures.undone

pub returns-in-Err-clause-left : goal.returns-in-Err-clause-left
returns-in-Err-clause-left g c = spared_unless_done (unread _)
