-- What is read and written of a place.
use Rattle.std.proofs.Common.{◌≡◌, ◌≢◌, ◌∙◌, ◌⊎◌, inl, inr, ◌≤◌, ◌<◌, ◌+◌, ℕ, Bool, true, false, Option, Some}
use Rattle.std.proofs.Common.{None, List, [], ◌∷◌, ◌++◌, refl, ap, sym, subst, arith, cond, take, length}
use Rattle.std.proofs.lemmas.List.{length-take-le}
use Rattle.connection_core.specs.Machine.{Conn}
use Rattle.connection_core.specs.declared.phase.Part.{Part}
use Rattle.connection_core.specs.declared.phase.Phase.{Phase}
use Rattle.connection_core.specs.declared.phase.Phase.TheVariants.{Reading, Ready, Writing, Lingering}
use Rattle.server_core.specs.Calls.{Adds, At, Call, Io, Reads, Writes, at_place, how_many}
use Rattle.server_core.specs.Calls.{is_failed_read, is_idle, is_idle_write, is_read, is_write}
use Rattle.server_core.specs.Reads.{HasRead, HasWritten, KeepsMark, KeepsWritable, ReadsOnce}
use Rattle.server_core.specs.Reads.{WritesOnce, listens}
use Rattle.server_core.specs.Works.{HasReadAt, HasWrittenAt, IsLeft, WorksAt}
use Rattle.server_core.specs.declared.host.Readiness.{Readiness}
use Rattle.server_core.proofs.CallLemmas.{adds_none, adds_same, ios_both, many_both}

pub some_taken : (n : ℕ) (bytes : List ℕ) → n ≤ length bytes → 0 < n → 0 < length (take n bytes)
some_taken n bytes few some = let is = length-take-le n bytes few in omega (arith, is, some)

-- ---- nothing is read or written

pub reads_none : {S : Type 0} (States : List ℕ → Option ℕ → Type 0) (remaining : S → Option (List ℕ))
    (calls called : Option (List Call)) (place : ℕ) (mark left : Readiness) (listening : Bool)
    (had has : Option S) (old new : Conn) → called ≡ calls
    → (mark.readable ≡ false) ⊎ (listening ≡ false) → left ≡ mark → has ≡ had → new ≡ old
    → (ios : List Io) × Adds calls called (at_place place ios) × ReadsOnce mark listening ios left
    × HasReadAt States remaining ios had old has new
reads_none States remaining calls called place mark left listening had has old new none not same kept is =
    ([], adds_none calls called none, inr (not, refl, same), inl (refl, kept, is))

pub settles_none : (calls called : Option (List Call)) (place : ℕ) (mark left : Readiness) → called ≡ calls
    → left ≡ mark
    → (ios : List Io) × Adds calls called (at_place place ios)
    × (lingering : Bool) × ReadsOnce mark lingering ios left
settles_none calls called place mark left none same =
    ([], adds_none calls called none, false, inr (inr refl, refl, same))

pub writes_none : (calls called : Option (List Call)) (place : ℕ) (mark left : Readiness) (phase : Phase)
    → called ≡ calls → (mark.writable ≡ false) ⊎ (phase ≢ Writing) → left ≡ mark
    → (ios : List Io) × Adds calls called (at_place place ios) × WritesOnce mark phase ios left
writes_none calls called place mark left phase none not same =
    ([], adds_none calls called none, inr (not, refl, same))

-- ---- a stream is read or written

pub heard_in : (found phase : Phase) → ((part : Part) × (found ≡ Reading part)) ⊎ (found ≡ Lingering)
    → found ≡ phase → listens phase ≡ true
heard_in found phase (inl (part, reads)) is = ap listens (sym is ∙ reads)
heard_in found phase (inr lingers) is = ap listens (sym is ∙ lingers)

pub reads_once : {S : Type 0} (States : List ℕ → Option ℕ → Type 0) (remaining : S → Option (List ℕ))
    (calls called : Option (List Call)) (place : ℕ) (mark left : Readiness) (listening : Bool)
    (had has : Option S) (was is : S) (old new : Conn) → mark.readable ≡ true → listening ≡ true
    → had ≡ Some was → has ≡ Some is → left.writable ≡ mark.writable
    → (got : Option ℕ) × Adds calls called (At place (Reads got) ∷ [])
    × HasRead States (remaining was) (remaining is) got old new
    × KeepsMark mark.readable left.readable got
    → (ios : List Io) × Adds calls called (at_place place ios) × ReadsOnce mark listening ios left
    × HasReadAt States remaining ios had old has new
reads_once States remaining calls called place mark left listening had has was is old new marked heard first
    last same (got, told, read, keeps) = (
      Reads got ∷ [],
      told,
      inl (marked, heard, got, refl, keeps, same),
      inr (was, is, got, refl, first, last, read),
    )

pub writes_once : {S : Type 0} (now : ℕ) (contents : S → Option (List ℕ))
    (calls called : Option (List Call)) (place : ℕ) (mark left : Readiness) (phase : Phase)
    (had has : Option S) (was is : S) (old new : Conn) → mark.writable ≡ true → phase ≡ Writing
    → had ≡ Some was → has ≡ Some is → left.readable ≡ mark.readable
    → (took : Option ℕ) × Adds calls called (At place (Writes took) ∷ [])
    × HasWritten now (contents was) (contents is) took old new
    × KeepsWritable mark.writable left.writable took
    → (ios : List Io) × Adds calls called (at_place place ios) × WritesOnce mark phase ios left
    × HasWrittenAt now contents ios had old has new
writes_once now contents calls called place mark left phase had has was is old new marked writing first last
    same (took, told, wrote, keeps) = (
      Writes took ∷ [],
      told,
      inl (marked, writing, took, refl, keeps, same),
      inr (was, is, took, refl, first, last, wrote),
    )

-- ---- what is read and written in all

record WasRead (old : Readiness) (listening : Bool) (ios : List Io) (new : Readiness) : Type 0 where
  once : old.readable ≡ true → listening ≡ true → 1 ≤ how_many is_read ios
  few : how_many is_read ios ≤ 1
  unwritten : how_many is_write ios ≡ 0
  left : IsLeft old.readable new.readable is_failed_read ios
  other : new.writable ≡ old.writable

record WasWritten (old : Readiness) (phase : Phase) (ios : List Io) (new : Readiness) : Type 0 where
  once : old.writable ≡ true → phase ≡ Writing → 1 ≤ how_many is_write ios
  few : how_many is_write ios ≤ 1
  unread : how_many is_read ios ≡ 0
  left : IsLeft old.writable new.writable is_idle_write ios
  other : new.readable ≡ old.readable

left_read : (old new : Bool) (got : Option ℕ) → KeepsMark old new got
    → IsLeft old new is_failed_read (Reads got ∷ [])
left_read old new got (inl same) = inl same
left_read old new None (inr (gone, fails)) = inr (gone, omega arith)
left_read old new (Some n) (inr (gone, fails)) = let no : Some n ≡ None = fails in cc

left_written_by : (old new b : Bool) (took : Option ℕ) → is_idle took ≡ b → b ≡ true → new ≡ false
    → IsLeft old new is_idle_write (Writes took ∷ [])
left_written_by old new b took is idle gone =
    let all : is_idle took ≡ true = is ∙ idle in
    inr (gone, subst (λ (t : Bool). 1 ≤ (cond t 1 0) + 0) (sym all) (omega arith))

left_written : (old new : Bool) (took : Option ℕ) → KeepsWritable old new took
    → IsLeft old new is_idle_write (Writes took ∷ [])
left_written old new took (inl same) = inl same
left_written old new took (inr (gone, idle)) =
    left_written_by old new (is_idle took) took refl idle gone

never_read : (old : Readiness) (listening : Bool) → (old.readable ≡ false) ⊎ (listening ≡ false)
    → old.readable ≡ true → listening ≡ true → ⊥
never_read old listening (inl off) marked heard = let both : false ≡ true = sym off ∙ marked in cc
never_read old listening (inr off) marked heard = let both : false ≡ true = sym off ∙ heard in cc

never_written : (old : Readiness) (phase : Phase) → (old.writable ≡ false) ⊎ (phase ≢ Writing)
    → old.writable ≡ true → phase ≡ Writing → ⊥
never_written old phase (inl off) marked writing = let both : false ≡ true = sym off ∙ marked in cc
never_written old phase (inr off) marked writing = off writing

was_read : (old new : Readiness) (listening : Bool) (ios : List Io) → ReadsOnce old listening ios new
    → WasRead old listening ios new
was_read old new listening ios (inl (marked, listens, got, is, keeps, same)) =
    subst (λ (l : List Io). WasRead old listening l new) (sym is) (record {
      once = λ marked listens. omega arith;
      few = omega arith;
      unwritten = refl;
      left = left_read old.readable new.readable got keeps;
      other = same;
    })
was_read old new listening ios (inr (not, is, same)) =
    subst (λ (l : List Io). WasRead old listening l new) (sym is) (record {
      once = λ marked listens. absurd (never_read old listening not marked listens);
      few = omega arith;
      unwritten = refl;
      left = inl (ap (λ (m : Readiness). m.readable) same);
      other = ap (λ (m : Readiness). m.writable) same;
    })

was_written : (old new : Readiness) (phase : Phase) (ios : List Io) → WritesOnce old phase ios new
    → WasWritten old phase ios new
was_written old new phase ios (inl (marked, writing, took, is, keeps, same)) =
    subst (λ (l : List Io). WasWritten old phase l new) (sym is) (record {
      once = λ marked writing. omega arith;
      few = omega arith;
      unread = refl;
      left = left_written old.writable new.writable took keeps;
      other = same;
    })
was_written old new phase ios (inr (not, is, same)) =
    subst (λ (l : List Io). WasWritten old phase l new) (sym is) (record {
      once = λ marked writing. absurd (never_written old phase not marked writing);
      few = omega arith;
      unread = refl;
      left = inl (ap (λ (m : Readiness). m.writable) same);
      other = ap (λ (m : Readiness). m.readable) same;
    })

left_both : (a b c : Bool) (is : Io → Bool) (xs ys : List Io) → IsLeft a b is xs → IsLeft b c is ys
    → IsLeft a c is (xs ++ ys)
left_both a b c is xs ys (inl first) (inl then) = inl (then ∙ first)
left_both a b c is xs ys (inl first) (inr (gone, by)) =
    let all = many_both is xs ys in inr (gone, omega (arith, all, by))
left_both a b c is xs ys (inr (gone, by)) (inl then) =
    let all = many_both is xs ys in inr (then ∙ gone, omega (arith, all, by))
left_both a b c is xs ys (inr first) (inr (gone, by)) =
    let all = many_both is xs ys in inr (gone, omega (arith, all, by))

-- a turn reads, writes, and reads again
pub works_at : (mark one two left : Readiness) (old : Conn) (phase : Phase) (answered lingering : Bool)
    (xs ys zs : List Io) → ReadsOnce mark (listens old.phase) xs one → WritesOnce one phase ys two
    → ReadsOnce two lingering zs left
    → ((old.phase ≡ Writing) ⊎ (answered ≡ true) → phase ≡ Writing)
    → WorksAt mark old answered (xs ++ (ys ++ zs)) left
works_at mark one two left old phase answered lingering xs ys zs first then last writing =
    let a = was_read mark one (listens old.phase) xs first in
    let b = was_written one two phase ys then in
    let c = was_read two left lingering zs last in
    let reads = many_both is_read xs (ys ++ zs) in
    let reads_then = many_both is_read ys zs in
    let writes = many_both is_write xs (ys ++ zs) in
    let writes_then = many_both is_write ys zs in (
      λ marked listening.
          let once = a.once marked listening in omega (arith, once, reads),
      λ marked on.
          let once = b.once (a.other ∙ marked) (writing on) in
          omega (arith, once, writes, writes_then),
      omega (arith, a.few, b.unread, c.few, reads, reads_then),
      omega (arith, a.unwritten, b.few, c.unwritten, writes, writes_then),
      left_both mark.readable one.readable left.readable is_failed_read xs (ys ++ zs) a.left
          (left_both one.readable two.readable left.readable is_failed_read ys zs (inl b.other) c.left),
      left_both mark.writable one.writable left.writable is_idle_write xs (ys ++ zs) (inl a.other)
          (left_both one.writable two.writable left.writable is_idle_write ys zs b.left (inl c.other)),
    )

is_writing : (old mid phase : Phase) (answered : Bool)
    → (listens old ≡ false → mid ≡ old) → (mid ≢ Ready → phase ≡ mid) → (answered ≡ true → phase ≡ Writing)
    → (old ≡ Writing) ⊎ (answered ≡ true) → phase ≡ Writing
is_writing old mid phase answered deaf stays writes (inl writing) =
    let same : mid ≡ Writing = deaf (ap listens writing) ∙ writing in
    stays (λ ready. let never : Writing ≡ Ready = sym same ∙ ready in cc) ∙ same
is_writing old mid phase answered deaf stays writes (inr here) = writes here

-- the same as the host tells it
pub works_told : (place : ℕ) (a b c d e : Option (List Call)) (mark one two left : Readiness)
    (old mid last : Conn) (answered : Bool)
    → (listens old.phase ≡ false → mid.phase ≡ old.phase)
    → (mid.phase ≢ Ready → last.phase ≡ mid.phase) → (answered ≡ true → last.phase ≡ Writing)
    → (Heard : List Io → Type 0)
    → (xs : List Io) × Adds a b (at_place place xs) × ReadsOnce mark (listens old.phase) xs one × Heard xs
    → c ≡ b
    → (ys : List Io) × Adds c d (at_place place ys) × WritesOnce one last.phase ys two
    → (zs : List Io) × Adds d e (at_place place zs) × (lingering : Bool) × ReadsOnce two lingering zs left
    → (ios : List Io) × Adds a e (at_place place ios) × WorksAt mark old answered ios left
works_told place a b c d e mark one two left old mid last answered deaf stays writes Heard
    (xs, told, read, heard) none (ys, tells, written) (zs, tell, lingering, then_read) = (
      xs ++ (ys ++ zs),
      ios_both place a b e xs (ys ++ zs) told
          (ios_both place b d e ys zs (adds_same b c d d (at_place place ys) none tells refl) tell),
      works_at mark one two left old last.phase answered lingering xs ys zs read written then_read
          (is_writing old.phase mid.phase last.phase answered deaf stays writes),
    )
