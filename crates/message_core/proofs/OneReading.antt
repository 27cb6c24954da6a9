-- A stream is read in one way: it has a head or has none, and one head at most.
use Rattle.std.proofs.Common.{◌≡◌, ◌≢◌, ◌∙◌, inl, inr, List, ◌++◌, Option, Some, None, Result, Err}
use Rattle.std.proofs.Common.{ℕ, ap, sym, subst}
use Rattle.httparse.specs.Grammar.{ReadsRequest, RequestHead}
use Rattle.httparse.proofs.GrammarLemmas.{request_unique}
use Rattle.stream_core.specs.Streams.{Takes}
use Rattle.message_core.specs.Head.{LacksHead, StartsWith}
use Rattle.message_core.specs.Heading.{heading}
use Rattle.message_core.specs.Message.{IsMessage, Reads, ReadsMessage, completed, left_of}
use Rattle.message_core.specs.declared.fault.WireFault.{WireFault}
use Rattle.message_core.specs.declared.fault.WireFault.TheVariants.{BadHead}
use Rattle.message_core.specs.declared.message.Message.{Message}

never_both : (stream : List ℕ) (left other : Option (List ℕ)) (read : Result Message WireFault)
    → LacksHead (Some stream) left → ReadsMessage (Some stream) other read → ⊥
never_both stream left other read (taken, rest, t, none) (bytes, more, u, m) =
    let same : bytes ++ more ≡ taken ++ rest = sym u.had ∙ t.had in
    none m.head m.rest (subst (λ (l : List ℕ). StartsWith l m.head m.rest) same m.starts)

-- two messages of a stream have one head, with the same behind it
same_head : (stream taken rest bytes more : List ℕ) (read again : Result Message WireFault)
    → stream ≡ taken ++ rest → (m : IsMessage (taken ++ rest) rest read)
    → stream ≡ bytes ++ more → (n : IsMessage (bytes ++ more) more again)
    → (m.head ≡ n.head) × (m.rest ≡ n.rest)
same_head stream taken rest bytes more read again had m have n =
    let here : ReadsRequest stream m.head m.rest =
    subst (λ (l : List ℕ). ReadsRequest l m.head m.rest) (sym had) m.starts.reads in
    let there : ReadsRequest stream n.head n.rest =
    subst (λ (l : List ℕ). ReadsRequest l n.head n.rest) (sym have) n.starts.reads in
    request_unique stream m.head n.head m.rest n.rest here there

messages_one : (stream : List ℕ) (left other : Option (List ℕ))
    (read again : Result Message WireFault) → ReadsMessage (Some stream) left read
    → ReadsMessage (Some stream) other again → read ≡ again
messages_one stream left other read again (taken, rest, t, m) (bytes, more, u, n) =
    let same = same_head stream taken rest bytes more read again t.had m u.had n in
    m.is ∙ ap (λ (h : RequestHead). completed (heading h) m.rest) same.0
    ∙ ap (λ (l : List ℕ). completed (heading n.head) l) same.1 ∙ sym n.is

-- of a stream that is known, what is left is known
left_is : (stream : List ℕ) (left : Option (List ℕ)) (taken rest : List ℕ)
    → Takes (Some stream) left taken rest → left ≡ Some rest
left_is stream None taken rest t = absurd t.lost
left_is stream (Some known) taken rest t = ap (λ (l : List ℕ). Some l) t.has

leave_one : (stream : List ℕ) (left other : Option (List ℕ))
    (read again : Result Message WireFault) → ReadsMessage (Some stream) left read
    → ReadsMessage (Some stream) other again → left ≡ other
leave_one stream left other read again (taken, rest, t, m) (bytes, more, u, n) =
    let same = same_head stream taken rest bytes more read again t.had m u.had n in
    let alike : rest ≡ more =
    m.leaves ∙ ap (λ (h : RequestHead). left_of (heading h) m.rest) same.0
    ∙ ap (λ (l : List ℕ). left_of (heading n.head) l) same.1 ∙ sym n.leaves in
    left_is stream left taken rest t ∙ ap (λ (l : List ℕ). Some l) alike
    ∙ sym (left_is stream other bytes more u)

pub reads_one : (stream : List ℕ) (left other : Option (List ℕ))
    (read again : Result Message WireFault)
    → Reads (Some stream) left read → Reads (Some stream) other again → read ≡ again
reads_one stream left other read again (inl (e, lacks)) (inl (f, lacking)) = e ∙ sym f
reads_one stream left other read again (inl (e, lacks)) (inr found) =
    absurd (never_both stream left other again lacks found)
reads_one stream left other read again (inr found) (inl (f, lacking)) =
    absurd (never_both stream other left read lacking found)
reads_one stream left other read again (inr found) (inr other_found) =
    messages_one stream left other read again found other_found

pub leaves_one : (stream : List ℕ) (left other : Option (List ℕ))
    (read again : Result Message WireFault) → read ≢ Err BadHead
    → Reads (Some stream) left read → Reads (Some stream) other again → left ≡ other
leaves_one stream left other read again headed (inl (e, lacks)) second = absurd (headed e)
leaves_one stream left other read again headed (inr found) (inl (f, lacking)) =
    absurd (never_both stream other left read lacking found)
leaves_one stream left other read again headed (inr found) (inr other_found) =
    leave_one stream left other read again found other_found
