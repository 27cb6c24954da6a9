-- whether it was filed already
use Rattle.std.proofs.Common.{◌≡◌, Err, List, None, Ok, Option, Some, subst}
use Rattle.std.specs.Prelude.{ℕ}
use Rattle.service_core.specs.Filed.{FiledOn}
use Rattle.service_core.specs.Seen.{settings_of, tables_of}
use Rattle.page_wire.proofs.Steps.{filed_already, not_filed, not_looked, stays_after}
use Rattle.page_wire.proofs.submit.submit_new.Goals as goal

pub returns-in-Ok-None-clause-ok : goal.returns-in-Ok-None-clause-ok
returns-in-Ok-None-clause-ok g c =
    let s = settings_of g.S.Store c.args.desk.now in
    let caller = c.args.caller.now in
    let command = c.args.command.now in
    let old = tables_of g.S.Store c.args.desk.now in
    let mid = tables_of g.S.Store c.filed_lately.new.self in
    let at_moment =
    subst (λ (at : ℕ). FiledOn s at caller command c.args.text (Ok c.in-Ok-None.field-0) old mid)
    c.get.ensures.number c.in-Ok-None.ensures.filed in
    let none =
    subst (λ (found : Option ℕ). FiledOn s c.args.moment caller command c.args.text (Ok found) old mid)
    c.in-Ok-None.field-0-is at_moment in
    not_filed s (settings_of g.S.Store c.filed_lately.new.self) c.args.moment caller command
    c.args.sent.now c.submit-done.result c.submit-done.new.room.items old mid
    (tables_of g.S.Store c.submit-done.new.desk) c.filed_lately.ensures.same c.submit-done.ensures.left.clean
    (subst (λ (text : Option (List ℕ)). FiledOn s c.args.moment caller command text (Ok None) old mid)
    c.requires.text none) c.submit-done.ensures.ok

pub returns-in-Ok-None-clause-err : goal.returns-in-Ok-None-clause-err
returns-in-Ok-None-clause-err g c =
    stays_after (c.submit-done.new.room ≡ c.args.room.now) (settings_of g.S.Store c.args.desk.now)
    (settings_of g.S.Store c.filed_lately.new.self) c.submit-done.result (tables_of g.S.Store c.args.desk.now)
    (tables_of g.S.Store c.filed_lately.new.self) (tables_of g.S.Store c.submit-done.new.desk)
    c.filed_lately.ensures.same c.submit-done.ensures.left.clean c.filed_lately.ensures.kept
    c.submit-done.ensures.err

pub returns-in-Ok-Some-clause-ok : goal.returns-in-Ok-Some-clause-ok
returns-in-Ok-Some-clause-ok g c =
    let s = settings_of g.S.Store c.args.desk.now in
    let caller = c.args.caller.now in
    let command = c.args.command.now in
    let id = c.in-Ok-Some.id in
    let old = tables_of g.S.Store c.args.desk.now in
    let new = tables_of g.S.Store c.filed_lately.new.self in
    let at_moment =
    subst (λ (at : ℕ). FiledOn s at caller command c.args.text (Ok c.in-Ok-Some.field-0) old new)
    c.get.ensures.number c.in-Ok-Some.ensures.filed in
    let some =
    subst (λ (found : Option ℕ). FiledOn s c.args.moment caller command c.args.text (Ok found) old new)
    c.in-Ok-Some.field-0-is at_moment in
    filed_already s c.args.moment caller command c.args.sent.now id c.put_done.new.room.items old new
    (subst (λ (text : Option (List ℕ)). FiledOn s c.args.moment caller command text (Ok (Some id)) old
    new) c.requires.text some) c.put_done.ensures

pub returns-in-Err-clause-ok : goal.returns-in-Err-clause-ok
returns-in-Err-clause-ok g c =
    let s = settings_of g.S.Store c.args.desk.now in
    let caller = c.args.caller.now in
    let command = c.args.command.now in
    let refusal = c.in-Err.refusal in
    let old = tables_of g.S.Store c.args.desk.now in
    let new = tables_of g.S.Store c.filed_lately.new.self in
    let at_moment =
    subst (λ (at : ℕ). FiledOn s at caller command c.args.text (Err refusal) old new)
    c.get.ensures.number c.in-Err.ensures.filed in
    not_looked s c.args.moment caller command c.args.sent.now refusal c.put_refused.result
    c.put_refused.new.room.items old new
    (subst (λ (text : Option (List ℕ)). FiledOn s c.args.moment caller command text (Err refusal) old
    new) c.requires.text at_moment) c.in-Err.ensures.fault c.put_refused.ensures.ok
