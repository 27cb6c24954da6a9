-- The head that is read is that of the stream.
use Rattle.std.proofs.Common.{◌≡◌, ◌∙◌, inl, inr, List, Option, Some, Result, Ok, Err, ℕ}
use Rattle.std.proofs.Common.{[], ap, sym, subst, append-nil}
use Rattle.httparse.specs.Grammar.{ReadsRequest, RequestHead, print_request}
use Rattle.httparse.proofs.GrammarLemmas.{request_unique}
use Rattle.message_core.specs.Head.{StartsWith}
use Rattle.message_core.specs.Heading.{heading_within}
use Rattle.message_core.specs.Message.{completed}
use Rattle.message_core.specs.Request.{ReadsRequested, requested}
use Rattle.message_core.specs.declared.fault.WireFault.{WireFault}
use Rattle.message_core.specs.declared.fault.WireFault.TheVariants.{BadHead}
use Rattle.message_core.specs.declared.limits.BodyLimit.{BodyLimit}
use Rattle.message_core.specs.declared.message.Message.{Message}
use Rattle.message_core.specs.declared.request.Request.{Request}

head_in : Request → Result Request WireFault → List ℕ
head_in other (Ok request) = request.head
head_in other (Err fault) = other.head

-- what was read with a head has that head
its_head : (request : Request) (head : List ℕ) (read : Result Message WireFault)
    → Ok request ≡ requested head read → request.head ≡ head
unfolding head_in
its_head request head (Ok message) e = ap (head_in request) e
its_head request head (Err fault) e = absurd (let f : Ok request ≡ Err fault = e in cc)

pub head_of_stream : (limit : BodyLimit) (stream : List ℕ) (left : Option (List ℕ)) (request : Request)
    → ReadsRequested limit (Some stream) left (Ok request) → (h : RequestHead) (rest : List ℕ)
    → StartsWith stream h rest → StartsWith request.head h []
head_of_stream limit stream left request (inl (e, lacks)) h rest starts =
    absurd (let f : Ok request ≡ Err BadHead = e in cc)
head_of_stream limit stream left request (inr (taken, more, t, r)) h rest starts =
    let here : ReadsRequest stream r.head r.rest =
    subst (λ l. ReadsRequest l r.head r.rest) (sym t.had) r.starts.reads in
    let same : r.head ≡ h =
    (request_unique stream r.head h r.rest rest here starts.reads).0 in
    let printed : request.head ≡ print_request h =
    its_head request (print_request r.head) (completed (heading_within limit r.head) r.rest) r.is
    ∙ ap print_request same in
    record {
      reads = (starts.reads.0, printed ∙ sym (append-nil (print_request h)));
      short = starts.short;
      few = starts.few;
    }
