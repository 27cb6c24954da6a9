-- Where the target begins with something else than `/desk/`, a message is read as it ever was.
use Rattle.std.proofs.Common.{◌≡◌, ◌∙◌, inl, inr, Bool, true, false, nat_le, List, Option, Some}
use Rattle.std.proofs.Common.{Result, Ok, Err, ℕ, ap, length, map, refl, subst, sym, take, ◌++◌}
use Rattle.httparse.specs.Grammar.{ReadsRequest, RequestHead, print_request}
use Rattle.httparse.specs.Spans.{name_and_value}
use Rattle.httparse.proofs.GrammarLemmas.{request_unique}
use Rattle.stream_core.specs.Streams.{Takes}
use Rattle.message_core.specs.Head.{StartsWith}
use Rattle.message_core.specs.Heading.{Line, heading_within, length_of, with_length}
use Rattle.message_core.specs.Limits.{limit_at, takes_long_bodies}
use Rattle.message_core.specs.Message.{Reads, completed, left_of, message_with}
use Rattle.message_core.specs.Request.{IsRequest, ReadsRequested, message_in, requested}
use Rattle.message_core.proofs.MessageLemmas.{message_read}
use Rattle.message_core.specs.declared.fault.WireFault.{WireFault}
use Rattle.message_core.specs.declared.fault.WireFault.TheVariants.{BadHead, Truncated}
use Rattle.message_core.specs.declared.heading.Heading.{Heading}
use Rattle.message_core.specs.declared.limits.BodyLimit.TheVariants.{ByPlace, Plain}
use Rattle.message_core.specs.declared.request.Request.{Request}

target_in : Request → Result Request WireFault → List ℕ
target_in other (Ok request) = request.message.target
target_in other (Err fault) = other.message.target

target_if : (said : Heading) (fits : Bool) (p rest : List ℕ) (request : Request)
    → nat_le said.length (length rest) ≡ fits
    → Ok request ≡ requested p (completed (Ok said) rest) → request.message.target ≡ said.target
unfolding target_in
target_if said true p rest request is e =
    let made : Ok request
    ≡ Ok (record { message = message_with said (take said.length rest); head = p }) = rw is at e in
    ap (target_in request) made
target_if said false p rest request is e =
    absurd (let f : Ok request ≡ Err Truncated = rw is at e in cc)

-- what is completed has the target of its head
target_by : (method target : List ℕ) (lines : List Line) (told : Result ℕ WireFault)
    (p rest : List ℕ) (request : Request)
    → Ok request ≡ requested p (completed (with_length method target lines told) rest)
    → request.message.target ≡ target
target_by method target lines (Err fault) p rest request e =
    absurd (let f : Ok request ≡ Err fault = e in cc)
target_by method target lines (Ok n) p rest request e =
    target_if _ (nat_le n (length rest)) p rest request refl e

same_limit : (h : RequestHead) → takes_long_bodies h.target ≡ false
    → heading_within ByPlace h ≡ heading_within Plain h
same_limit h short =
    let lines = map name_and_value h.fields in
    let same : limit_at ByPlace h.target ≡ limit_at Plain h.target = rw short refl in
    ap (λ (n : ℕ). with_length h.method h.target lines (length_of n lines)) same

-- what was read with that head
as_ever : (old new : Option (List ℕ)) (read : Result Request WireFault) (taken left : List ℕ)
    → Takes old new taken left → (r : IsRequest ByPlace (taken ++ left) left read)
    → takes_long_bodies r.head.target ≡ false → ReadsRequested Plain old new read
as_ever old new read taken left t r short =
    let same = same_limit r.head short in inr (
      taken,
      left,
      t,
      record {
        head = r.head;
        rest = r.rest;
        starts = r.starts;
        is = r.is ∙ ap (λ s. requested (print_request r.head) (completed s r.rest)) same;
        leaves = r.leaves ∙ ap (λ s. left_of s r.rest) same;
      },
    )

pub elsewhere : (old new : Option (List ℕ)) (request : Request)
    → ReadsRequested ByPlace old new (Ok request)
    → takes_long_bodies request.message.target ≡ false
    → Reads old new (message_in (Ok request))
elsewhere old new request (inl (e, lacks)) short =
    absurd (let f : Ok request ≡ Err BadHead = e in cc)
elsewhere old new request (inr (taken, left, t, r)) short =
    let lines = map name_and_value r.head.fields in
    let its : request.message.target ≡ r.head.target =
    target_by r.head.method r.head.target lines (length_of (limit_at ByPlace r.head.target) lines)
    (print_request r.head) r.rest request r.is in
    let there : takes_long_bodies r.head.target ≡ false =
    sym (ap takes_long_bodies its) ∙ short in
    message_read old new (Ok request) (as_ever old new (Ok request) taken left t r there)

pub of_stream : (stream : List ℕ) (left : Option (List ℕ)) (read : Result Request WireFault)
    (h : RequestHead) (rest : List ℕ) → StartsWith stream h rest
    → takes_long_bodies h.target ≡ false → ReadsRequested ByPlace (Some stream) left read
    → Reads (Some stream) left (message_in read)
of_stream stream left read h rest starts short (inl (e, lacks)) = inl (ap message_in e, lacks)
of_stream stream left read h rest starts short (inr (taken, more, t, r)) =
    let here : ReadsRequest stream r.head r.rest =
    subst (λ l. ReadsRequest l r.head r.rest) (sym t.had) r.starts.reads in
    let same : r.head ≡ h =
    (request_unique stream r.head h r.rest rest here starts.reads).0 in
    let there : takes_long_bodies r.head.target ≡ false =
    ap (λ (k : RequestHead). takes_long_bodies k.target) same ∙ short in
    message_read (Some stream) left read
    (as_ever (Some stream) left read taken more t r there)
