-- A head, and what follows it, are a message.
use Rattle.std.proofs.Common.{◌≡◌, ◌≢◌, ◌∙◌, inl, inr, ℕ, ◌<◌, true, false, nat_le, List, [], ◌++◌, length}
use Rattle.std.proofs.Common.{take, drop, Option, Ok, Err, Result, refl, ap, sym, subst, arith}
use Rattle.std.proofs.Common.{append_assoc, append-nil, length-append}
use Rattle.std.proofs.lemmas.Bool.{le-leb, lt-leb}
use Rattle.std.proofs.lemmas.List.{drop_all}
use Rattle.std.proofs.Math.Seq.{drop-append_seam, take-append_seam}
use Rattle.std.specs.Io.KnownBytes.{Consumes}
use Rattle.httparse.specs.Grammar.{RequestHead, print_request}
use Rattle.httparse.proofs.GrammarLemmas.{ReadsRequest-append}
use Rattle.stream_core.proofs.ReaderLemmas.{consumes_both, takes, takes_all}
use Rattle.message_core.specs.Body.{EndsWithin}
use Rattle.message_core.specs.Head.{LacksHead, StartsWith}
use Rattle.message_core.specs.Heading.{IsHeadingOf, heading}
use Rattle.message_core.specs.Message.{Reads, completed, left_of, message_with}
use Rattle.message_core.specs.Request.{ReadsRequested, ReadsWithHead, message_in, requested}
use Rattle.message_core.specs.declared.fault.WireFault.{WireFault}
use Rattle.message_core.specs.declared.fault.WireFault.TheVariants.{BadHead, BadLength, NoMemory}
use Rattle.message_core.specs.declared.fault.WireFault.TheVariants.{Read, TooLong, Truncated}
use Rattle.message_core.specs.declared.heading.Heading.{Heading}
use Rattle.message_core.specs.declared.limits.BodyLimit.{BodyLimit}
use Rattle.message_core.specs.declared.limits.BodyLimit.TheVariants.{Plain}
use Rattle.message_core.specs.declared.message.Message.{Message}
use Rattle.message_core.specs.declared.request.Request.{Request}

-- more may follow a head
longer : (bytes : List ℕ) (h : RequestHead) (more : List ℕ) → StartsWith bytes h []
    → StartsWith (bytes ++ more) h more
longer bytes h more begins = record {
  reads = ReadsRequest-append bytes h [] more begins.reads;
  short = begins.short;
  few = begins.few;
}

-- ---- what is completed

completed_whole : (said : Heading) (body left : List ℕ) → length body ≡ said.length
    → completed (Ok said) (body ++ left) ≡ Ok (message_with said body)
completed_whole said body left len =
    let fits : nat_le said.length (length (body ++ left)) ≡ true =
    le-leb said.length (length (body ++ left)) (omega (arith, length-append body left, len)) in
    let took : take said.length (body ++ left) ≡ body =
    subst (λ (n : ℕ). take n (body ++ left) ≡ body) len (take-append_seam body left) in
    rw (fits, took) refl

leaves_rest : (said : Heading) (body left : List ℕ) → length body ≡ said.length
    → left_of (Ok said) (body ++ left) ≡ left
leaves_rest said body left len =
    subst (λ (n : ℕ). drop n (body ++ left) ≡ left) len (drop-append_seam body left)

completed_short : (said : Heading) (bytes : List ℕ) → length bytes < said.length
    → completed (Ok said) bytes ≡ Err Truncated
completed_short said bytes less =
    let lacks : nat_le said.length (length bytes) ≡ false =
    lt-leb said.length (length bytes) less in
    rw lacks refl

-- ---- what is read

-- a head that states no length
pub refused : (limit : BodyLimit) (old new : Option (List ℕ)) (head : List ℕ) (fault : WireFault)
    → Consumes old new head → IsHeadingOf limit head (Err fault) → ReadsWithHead limit old new (Err fault)
refused limit old new head fault lost (h, begins, said) =
    let (left, t) = takes old new head lost in (
      head,
      left,
      t,
      record {
        head = h;
        rest = left;
        starts = longer head h left begins;
        is = sym (ap (λ s. requested (print_request h) (completed s left)) said);
        leaves = sym (ap (λ s. left_of s left) said);
      },
    )

-- a head and its body
pub whole : (limit : BodyLimit) (old mid new : Option (List ℕ)) (head body : List ℕ) (said : Heading)
    (message : Message) (request : Request) → Consumes old mid head → IsHeadingOf limit head (Ok said)
    → Consumes mid new body → length body ≡ said.length → message ≡ message_with said body
    → request ≡ record { message = message; head = head } → ReadsWithHead limit old new (Ok request)
whole limit old mid new head body said message request first (h, begins, e) second len is made =
    let printed : head ≡ print_request h = begins.reads.1 ∙ append-nil (print_request h) in
    let both = consumes_both old mid new head body first second in
    let (left, t) = takes old new (head ++ body) both in (
      head ++ body,
      left,
      t,
      record {
        head = h;
        rest = body ++ left;
        starts = subst (λ (l : List ℕ). StartsWith l h (body ++ left))
            (sym (append_assoc head body left)) (longer head h (body ++ left) begins);
        is = ap (λ (r : Request). Ok r) made
            ∙ ap (λ (l : List ℕ). requested l (Ok message)) printed
            ∙ ap (λ (m : Message). requested (print_request h) (Ok m)) is
            ∙ sym (ap (requested (print_request h)) (completed_whole said body left len))
            ∙ sym (ap (λ s. requested (print_request h) (completed s (body ++ left))) e);
        leaves = sym (leaves_rest said body left len) ∙ sym (ap (λ s. left_of s (body ++ left)) e);
      },
    )

-- a head, and less than its body
pub cut_short : (limit : BodyLimit) (old mid new : Option (List ℕ)) (head : List ℕ) (said : Heading)
    → Consumes old mid head → IsHeadingOf limit head (Ok said) → EndsWithin said.length mid new
    → ReadsWithHead limit old new (Err Truncated)
cut_short limit old mid new head said first (h, begins, e) (bytes, less, second, ended) =
    let both = consumes_both old mid new head bytes first second in
    let t = takes_all old new (head ++ bytes) both ended in (
      head ++ bytes,
      [],
      t,
      record {
        head = h;
        rest = bytes;
        starts = subst (λ (l : List ℕ). StartsWith l h bytes) (sym (append-nil (head ++ bytes)))
            (longer head h bytes begins);
        is = sym (ap (requested (print_request h)) (completed_short said bytes less))
            ∙ sym (ap (λ s. requested (print_request h) (completed s bytes)) e);
        leaves = sym (drop_all said.length bytes (omega (arith, less)))
            ∙ sym (ap (λ s. left_of s bytes) e);
      },
    )

-- what takes the place of a head
abbrev pub Sent : WireFault → Result Request WireFault
Sent fault = Err fault

pub headless : (limit : BodyLimit) (old new : Option (List ℕ)) (fault : WireFault)
    → (fault ≡ BadHead → LacksHead old new)
    → (fault ≢ BadHead → fault ≢ Read → fault ≡ NoMemory)
    → Sent fault ≢ Sent Read → Sent fault ≢ Sent NoMemory → ReadsRequested limit old new (Sent fault)
headless limit old new BadHead lacks kinds read memory = inl (refl, lacks refl)
headless limit old new Read lacks kinds read memory = absurd (read refl)
headless limit old new NoMemory lacks kinds read memory = absurd (memory refl)
headless limit old new TooLong lacks kinds read memory =
    let e : TooLong ≡ NoMemory =
    kinds (λ (e : TooLong ≡ BadHead). cc) (λ (e : TooLong ≡ Read). cc) in cc
headless limit old new BadLength lacks kinds read memory =
    let e : BadLength ≡ NoMemory =
    kinds (λ (e : BadLength ≡ BadHead). cc) (λ (e : BadLength ≡ Read). cc) in cc
headless limit old new Truncated lacks kinds read memory =
    let e : Truncated ≡ NoMemory =
    kinds (λ (e : Truncated ≡ BadHead). cc) (λ (e : Truncated ≡ Read). cc) in cc

-- what takes the place of a body
pub bodiless : (limit : BodyLimit) (old mid new : Option (List ℕ)) (head : List ℕ) (said : Heading) (fault : WireFault)
    → Consumes old mid head → IsHeadingOf limit head (Ok said)
    → (fault ≡ Truncated → EndsWithin said.length mid new)
    → (fault ≢ Truncated → fault ≢ Read → fault ≡ NoMemory)
    → Sent fault ≢ Sent Read → Sent fault ≢ Sent NoMemory → ReadsWithHead limit old new (Sent fault)
bodiless limit old mid new head said Truncated first heading ends kinds read memory =
    cut_short limit old mid new head said first heading (ends refl)
bodiless limit old mid new head said Read first heading ends kinds read memory = absurd (read refl)
bodiless limit old mid new head said NoMemory first heading ends kinds read memory = absurd (memory refl)
bodiless limit old mid new head said TooLong first heading ends kinds read memory =
    let e : TooLong ≡ NoMemory =
    kinds (λ (e : TooLong ≡ Truncated). cc) (λ (e : TooLong ≡ Read). cc) in cc
bodiless limit old mid new head said BadLength first heading ends kinds read memory =
    let e : BadLength ≡ NoMemory =
    kinds (λ (e : BadLength ≡ Truncated). cc) (λ (e : BadLength ≡ Read). cc) in cc
bodiless limit old mid new head said BadHead first heading ends kinds read memory =
    let e : BadHead ≡ NoMemory =
    kinds (λ (e : BadHead ≡ Truncated). cc) (λ (e : BadHead ≡ Read). cc) in cc

-- ---- the message of a request

projected : (head : List ℕ) (read : Result Message WireFault)
    → message_in (requested head read) ≡ read
projected head (Ok message) = refl
projected head (Err fault) = refl

pub message_read : (old new : Option (List ℕ)) (read : Result Request WireFault)
    → ReadsRequested Plain old new read → Reads old new (message_in read)
message_read old new read (inl (e, lacks)) = inl (ap message_in e, lacks)
message_read old new read (inr (taken, left, t, r)) = inr (
  taken,
  left,
  t,
  record {
    head = r.head;
    rest = r.rest;
    starts = r.starts;
    is = ap message_in r.is ∙ projected (print_request r.head) (completed (heading r.head) r.rest);
    leaves = r.leaves;
  },
)
