-- its step is done, or it is told; where there is no memory for the step, nothing is done
use Rattle.std.proofs.Common.{refl}
use Rattle.service_core.specs.Seen.{settings_of, tables_of}
use Rattle.web_core.proofs.MessageLemmas.{answered, left_out, told}
use Rattle.web_core.proofs.web.answer_to.Goals as goal

pub returns-in-Ok-clause-step : goal.returns-in-Ok-clause-step
returns-in-Ok-clause-step g c =
    answered c.args.https (settings_of g.S.Store c.args.desk.now) c.args.minute c.args.copied c.args.read.now
    c.args.control _ (tables_of g.S.Store c.args.desk.now) (tables_of g.S.Store c.answer_sent.new.desk)
    c.in-Step.is c.in-Ok.ensures.reply

pub returns-in-Err-clause-step : goal.returns-in-Err-clause-step
returns-in-Err-clause-step g c =
    left_out c.args.https (settings_of g.S.Store c.args.desk.now) c.args.minute c.args.copied c.args.read.now
    c.args.control _ (tables_of g.S.Store c.args.desk.now) (tables_of g.S.Store c.answer_sent.new.desk)
    c.in-Step.is c.unavailable_reply.ensures c.in-Err.ensures.err

pub returns-in-Expect-clause-step : goal.returns-in-Expect-clause-step
returns-in-Expect-clause-step g c =
    told c.args.https (settings_of g.S.Store c.args.desk.now) c.args.minute c.args.copied c.args.read.now
    c.args.control _ _ (tables_of g.S.Store c.args.desk.now) c.in-Expect.is
    (λ desk. (c.expectation_failed.ensures, refl))

pub returns-in-Bar-clause-step : goal.returns-in-Bar-clause-step
returns-in-Bar-clause-step g c =
    told c.args.https (settings_of g.S.Store c.args.desk.now) c.args.minute c.args.copied c.args.read.now
    c.args.control _ _ (tables_of g.S.Store c.args.desk.now) c.in-Bar.is
    (λ desk. (c.barred_reply.ensures, refl))

pub returns-in-Unseen-clause-step : goal.returns-in-Unseen-clause-step
returns-in-Unseen-clause-step g c =
    told c.args.https (settings_of g.S.Store c.args.desk.now) c.args.minute c.args.copied c.args.read.now
    c.args.control _ _ (tables_of g.S.Store c.args.desk.now) c.in-Unseen.is
    (λ desk. (c.unavailable_reply-in-Unseen.ensures, refl))

pub returns-in-Stop-clause-step : goal.returns-in-Stop-clause-step
returns-in-Stop-clause-step g c =
    told c.args.https (settings_of g.S.Store c.args.desk.now) c.args.minute c.args.copied c.args.read.now
    c.args.control _ _ (tables_of g.S.Store c.args.desk.now) c.in-Stop.is
    (λ desk. (c.stop_reply.ensures, refl))

pub returns-in-Copy-clause-step : goal.returns-in-Copy-clause-step
returns-in-Copy-clause-step g c =
    told c.args.https (settings_of g.S.Store c.args.desk.now) c.args.minute c.args.copied c.args.read.now
    c.args.control _ _ (tables_of g.S.Store c.args.desk.now) c.in-Copy.is
    (λ desk. (c.copy_reply.ensures, refl))
