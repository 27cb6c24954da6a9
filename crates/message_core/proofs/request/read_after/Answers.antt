-- the head that was lost before, and what follows it
use Rattle.std.proofs.Common.{◌≡◌, List, ℕ, Ok, Err, ap, refl, subst}
use Rattle.stream_core.specs.Seen.{left_in}
use Rattle.message_core.specs.declared.fault.WireFault.TheVariants.{NoMemory}
use Rattle.message_core.specs.Heading.{IsHeadingOf}
use Rattle.message_core.specs.Message.{message_with}
use Rattle.message_core.proofs.MessageLemmas.{Sent, bodiless, refused, whole}
use Rattle.message_core.proofs.request.read_after.Goals as goal

pub returns-in-Ok-take_body-clause-read : goal.returns-in-Ok-take_body-clause-read
returns-in-Ok-take_body-clause-read g c = λ had lost read memory.
    let remaining = g.R.Read.remaining in
    let body : List ℕ = c.in-Ok-take_body.body.items in
    let made : c.with_body.result ≡ message_with c.in-Ok.heading body = λ i. record {
      method = c.with_body.ensures.method i;
      target = c.with_body.ensures.target i;
      token = c.with_body.ensures.token i;
      body = c.with_body.ensures.body i;
    } in
    let headed : c.with_head.result
    ≡ record { message = c.with_body.result; head = c.args.head.items } = λ i. record {
      message = c.with_head.ensures.message i;
      head = c.with_head.ensures.head i;
    } in
    whole c.args.limit had (left_in remaining c.args.reader.now) (left_in remaining c.take_body.new.reader)
    c.args.head.items body c.in-Ok.heading c.with_body.result c.with_head.result lost
    (subst (λ l. IsHeadingOf c.args.limit l (Ok c.in-Ok.heading)) c.as_slice.ensures.value c.in-Ok.ensures.ok)
    c.in-Ok-take_body.ensures.body.1 c.in-Ok-take_body.ensures.body.0 made headed

pub returns-in-Err-take_body-clause-read : goal.returns-in-Err-take_body-clause-read
returns-in-Err-take_body-clause-read g c = λ had lost read memory.
    let remaining = g.R.Read.remaining in
    bodiless c.args.limit had (left_in remaining c.args.reader.now) (left_in remaining c.take_body.new.reader)
    c.args.head.items c.in-Ok.heading c.in-Err-take_body.fault lost
    (subst (λ l. IsHeadingOf c.args.limit l (Ok c.in-Ok.heading)) c.as_slice.ensures.value c.in-Ok.ensures.ok)
    (λ e. c.in-Err-take_body.ensures.short (rw e refl)) c.in-Err-take_body.ensures.kinds read memory

pub returns-in-Err-clause-read : goal.returns-in-Err-clause-read
returns-in-Err-clause-read g c = λ had lost read memory.
    refused c.args.limit had (left_in g.R.Read.remaining c.args.reader.now) c.args.head.items c.in-Err.fault lost
    (subst (λ l. IsHeadingOf c.args.limit l (Err c.in-Err.fault)) c.as_slice.ensures.value
    (c.in-Err.ensures.err (λ (e : c.in-Err.fault ≡ NoMemory). memory (ap Sent e))))
