-- What a server has done, one thing after the other.
use Rattle.std.proofs.Common.{◌≡◌, ◌≢◌, ◌∙◌, inl, inr, ◌≤◌, ◌<◌, ◌+◌, ◌-◌, ◌^◌, ℕ, Bool, true, false}
use Rattle.std.proofs.Common.{List, [], ◌∷◌, ◌++◌}
use Rattle.std.proofs.Common.{Option, Some, None, refl, ap, sym, subst, length, length-append}
use Rattle.std.proofs.Common.{replicate, arith, append-nil, append_assoc, map, nat_lt}
use Rattle.std.proofs.KnownBytes.{Appends-nil, Appends-trans}
use Rattle.std.specs.Io.KnownBytes.{Appends}
use Rattle.std.proofs.lemmas.List.{length-map, length-replicate}
use Rattle.connection_core.specs.Machine.{Conn, closed}
use Rattle.connection_core.specs.Seen.{seen}
use Rattle.connection_core.specs.declared.phase.Phase.TheVariants.{Ready}
use Rattle.server_core.specs.Places.{Each, TurnsOf, conns}
use Rattle.server_core.specs.Ends.{IsDue}
use Rattle.server_core.specs.Host.{AppendsLines, KeepsClock, Line, Told, TellsMinute, TellsMoment, wait_fails}
use Rattle.server_core.specs.Turns.{Answered, IsDone, TakeTurns, TellsLines, at_minute, line_of, logged, somes}
use Rattle.server_core.specs.Calls.{Adds, Begins, Call, from_place}
use Rattle.server_core.specs.Rests.{Accept, AcceptsBy, IsPause, Known, Rest, accept_call, at_first}
use Rattle.server_core.specs.Rests.{may_answer, places_of, queue_then, rest_calls}
use Rattle.server_core.specs.Served.{AreLinked, DoesTurn, EndsAt, GoesOn, IsAdmitted, IsServed, Runs}
use Rattle.server_core.specs.Served.{Serves, ServesFrom, Turn, answers, minutes, nows, turn_calls}
use Rattle.server_core.specs.Served.{turns_calls}
use Rattle.server_core.specs.Wait.{NoneGivesWay}
use Rattle.server_core.specs.Works.{Works, marked_at, unmarked}
use Rattle.server_core.specs.declared.admit.Queue.{Queue}
use Rattle.server_core.specs.declared.admit.Queue.TheVariants.{Full, More}
use Rattle.server_core.specs.declared.host.Readiness.{Readiness}
use Rattle.server_core.proofs.CallLemmas.{adds_both, adds_nil}
use Rattle.server_core.specs.declared.ending.Ending.{Ending}
use Rattle.server_core.specs.declared.ending.Ending.TheVariants.{Counted, Network, Shut, OutOfTurns}
use Rattle.server_core.specs.declared.slot.Slot.{Slot}

-- ---- the places

pub places_count : {S : Type 0} (slots : List (Slot S)) (places : ℕ)
    → conns slots ≡ replicate places closed → length slots ≡ places
places_count {S} slots places is =
    sym (length-map slots (λ (s : Slot S). seen s.connection))
    ∙ ap (λ (l : List Conn). length l) is ∙ length-replicate places closed

pub places_free : {S : Type 0} (slots : List (Slot S)) (places : ℕ)
    → conns slots ≡ replicate places closed → conns slots ≡ replicate (length slots) closed
places_free slots places is =
    is ∙ ap (λ (n : ℕ). replicate n closed) (sym (places_count slots places is))

pub marks_unset : (marks items : List Readiness) (places count : ℕ) → marks ≡ items
    → items ≡ replicate places unmarked → count ≡ places → marks ≡ replicate count unmarked
marks_unset marks items places count is unset same =
    is ∙ unset ∙ ap (λ (n : ℕ). replicate n unmarked) (sym same)

-- ---- accepting

pub clock_both : (t u v : Told) → KeepsClock t u → KeepsClock u v → KeepsClock t v
clock_both t u v (clock, lines) (after, then) =
    ((after.0 ∙ clock.0, after.1 ∙ clock.1), then ∙ lines)

-- ---- one turn after the other

left_by : (most few more : ℕ) → most - (few + more) ≡ (most - few) - more
left_by most few more = omega arith

serves_more : {D : Type 0} (States : List ℕ → Option ℕ → Type 0)
    (Steps : D → Answered → D → Type 0) (shuts : D → Bool) (most : ℕ) (ts : List Turn)
    (t : Turn) (a b c : List Conn) (d e f : D) → Serves States Steps shuts most ts a d b e
    → DoesTurn States Steps shuts (most - length (answers ts)) t b e c f
    → Serves States Steps shuts most (ts ++ t ∷ []) a d c f
serves_more {D} States Steps shuts most [] t a b c d e f (one, other) does =
    let all : most - 0 ≡ most = omega arith in
    let by_most = subst (λ (n : ℕ). DoesTurn States Steps shuts n t b e c f) all does in
    let by_conns =
    subst (λ (l : List Conn). DoesTurn States Steps shuts most t l e c f) one by_most in
    let by_desk = subst (λ (k : D). DoesTurn States Steps shuts most t a k c f) other by_conns in
    (c, f, by_desk, (refl, refl))
serves_more States Steps shuts most (s ∷ ts) t a b c d e f (mids, mid, first, rest) does =
    let count = length-append (somes s.answered) (answers ts) in
    let left : most - length (somes s.answered ++ answers ts)
    ≡ (most - length (somes s.answered)) - length (answers ts) =
    ap (λ (n : ℕ). most - n) count
    ∙ left_by most (length (somes s.answered)) (length (answers ts)) in (
      mids,
      mid,
      first,
      serves_more States Steps shuts (most - length (somes s.answered)) ts t mids b c mid e f rest
          (subst (λ (n : ℕ). DoesTurn States Steps shuts n t b e c f) left does),
    )

answers_more : (ts : List Turn) (t : Turn)
    → length (answers (ts ++ t ∷ [])) ≡ length (answers ts) + length (somes t.answered)
answers_more [] t =
    let none = ap (λ (l : List Answered). length l) (append-nil (somes t.answered)) in
    omega (arith, none)
answers_more (s ∷ ts) t =
    let whole = length-append (somes s.answered) (answers (ts ++ t ∷ [])) in
    let parts = length-append (somes s.answered) (answers ts) in
    let rest = answers_more ts t in
    omega (arith, whole, parts, rest)

nows_more : (ts : List Turn) (t : Turn) → nows (ts ++ t ∷ []) ≡ nows ts ++ t.now ∷ []
nows_more [] t = refl
nows_more (s ∷ ts) t = ap (λ (l : List ℕ). s.now ∷ l) (nows_more ts t)

minutes_more : (ts : List Turn) (t : Turn) → minutes (ts ++ t ∷ []) ≡ minutes ts ++ t.minute ∷ []
minutes_more [] t = refl
minutes_more (s ∷ ts) t = ap (λ (l : List ℕ). s.minute ∷ l) (minutes_more ts t)

lines_nil : (a : Option (List Line)) → AppendsLines a a []
lines_nil None = tt
lines_nil (Some x) = sym (append-nil x)

lines_trans : (a b c : Option (List Line)) (bs cs : List Line) → AppendsLines a b bs
    → AppendsLines b c cs → AppendsLines a c (bs ++ cs)
lines_trans None b c bs cs p q = tt
lines_trans (Some x) None c bs cs p q = absurd p
lines_trans (Some x) (Some y) None bs cs p q = absurd q
lines_trans (Some x) (Some y) (Some z) bs cs p q =
    q ∙ ap (λ (l : List Line). l ++ cs) p ∙ append_assoc x bs cs

lines_both : (xs ys : List Answered) → map line_of (xs ++ ys) ≡ map line_of xs ++ map line_of ys
lines_both [] ys = refl
lines_both (x ∷ xs) ys = ap (λ (l : List Line). line_of x ∷ l) (lines_both xs ys)

answers_both : (ts : List Turn) (t : Turn) → answers (ts ++ t ∷ []) ≡ answers ts ++ somes t.answered
answers_both [] t = append-nil (somes t.answered)
answers_both (s ∷ ts) t =
    ap (λ (l : List Answered). somes s.answered ++ l) (answers_both ts t)
    ∙ sym (append_assoc (somes s.answered) (answers ts) (somes t.answered))

lines_more : (ts : List Turn) (t : Turn)
    → map line_of (answers (ts ++ t ∷ [])) ≡ map line_of (answers ts) ++ map line_of (somes t.answered)
lines_more ts t =
    ap (λ (l : List Answered). map line_of l) (answers_both ts t)
    ∙ lines_both (answers ts) (somes t.answered)

calls_more : (ts : List Turn) (t : Turn)
    → turns_calls (ts ++ t ∷ []) ≡ turns_calls ts ++ turn_calls t
calls_more [] t = append-nil (turn_calls t)
calls_more (s ∷ ts) t =
    ap (λ (l : List Call). turn_calls s ++ l) (calls_more ts t)
    ∙ sym (append_assoc (turn_calls s) (turns_calls ts) (turn_calls t))

linked_more : (known mid left : Known) (ts : List Turn) (t : Turn) → AreLinked known ts mid
    → t.rest.known ≡ mid → t.left ≡ left → AreLinked known (ts ++ t ∷ []) left
linked_more known mid left [] t linked first last = (first ∙ linked, sym last)
linked_more known mid left (s ∷ ts) t (here, linked) first last =
    (here, linked_more s.left mid left ts t linked first last)

abbrev pub known_by : Queue → List Readiness → Known
known_by queue marks = record { queue = queue; marks = marks }

pub serves_begin : {D : Type 0} (States : List ℕ → Option ℕ → Type 0)
    (Steps : D → Answered → D → Type 0) (shuts : D → Bool) (told : Told) (calls : Option (List Call))
    (places most : ℕ) (desk : D) (cs : List Conn) (marks : List Readiness) → cs ≡ replicate places closed
    → marks ≡ replicate places unmarked
    → ServesFrom States Steps shuts told told calls calls places most desk cs desk
    (record { queue = More; marks = marks }) 0 0
serves_begin States Steps shuts told calls places most desk cs marks is unset = (
  [],
  (is, refl),
  refl,
  refl,
  (Appends-nil told.moments, Appends-nil told.minutes, lines_nil told.lines),
  ap (λ (l : List Readiness). known_by More l) unset,
  adds_nil calls,
)

-- it waited, connections were accepted, and each had its turn
pub serves_on : {D : Type 0} (States : List ℕ → Option ℕ → Type 0)
    (Steps : D → Answered → D → Type 0) (shuts : D → Bool) (told mid tells : Told)
    (calls had waited called : Option (List Call))
    (places most some : ℕ) (first desk next : D) (a c : List Conn) (known left : Known) (rest : Rest)
    (count turns more : ℕ)
    → ServesFrom States Steps shuts told mid calls had places most first a desk known count turns
    → some ≡ most - count → rest.known ≡ known → Adds had waited (rest_calls rest)
    → GoesOn States Steps shuts mid tells waited called some rest a desk c next left more
    → ServesFrom States Steps shuts told tells calls called places most first c next left (count + more)
    (turns + 1)
serves_on States Steps shuts told mid tells calls had waited called places most some first desk next a c
    known left rest count turns more
    (ts, serves, answered, many, (moments, minute, lines), linked, adds) is knows waits
    (t, rests, leaves, does, few, (moment, at, line), tell) =
    let left_is : some ≡ most - length (answers ts) = is ∙ ap (λ (n : ℕ). most - n) (sym answered) in
    let all = answers_more ts t in
    let length_more = length-append ts (t ∷ []) in
    let turn : Adds had called (turn_calls t) =
    subst (λ (r : Rest). Adds had called
    (rest_calls r ++ (map accept_call t.accepts ++ from_place 0 t.calls)))
    (sym rests) (adds_both had waited called _ _ waits tell) in (
      ts ++ t ∷ [],
      serves_more States Steps shuts most ts t _ a c first desk next serves
          (subst (λ (n : ℕ). DoesTurn States Steps shuts n t a desk c next) left_is does),
      omega (arith, all, answered, few),
      omega (arith, length_more, many),
      (
        subst (λ (l : List ℕ). Appends told.moments tells.moments l) (sym (nows_more ts t))
            (Appends-trans told.moments mid.moments tells.moments _ _ moments moment),
        subst (λ (l : List ℕ). Appends told.minutes tells.minutes l) (sym (minutes_more ts t))
            (Appends-trans told.minutes mid.minutes tells.minutes _ _ minute at),
        subst (λ (l : List Line). AppendsLines told.lines tells.lines l) (sym (lines_more ts t))
            (lines_trans told.lines mid.lines tells.lines _ _ lines line),
      ),
      linked_more (at_first places) known left ts t linked
          (ap (λ (r : Rest). r.known) rests ∙ knows) leaves,
      subst (λ (l : List Call). Adds calls called l) (sym (calls_more ts t))
          (adds_both calls had called _ _ adds turn),
    )

-- the host told nothing more of its clock
pub serves_same : {D : Type 0} (States : List ℕ → Option ℕ → Type 0)
    (Steps : D → Answered → D → Type 0) (shuts : D → Bool) (told mid tells : Told)
    (calls called : Option (List Call)) (places most : ℕ) (first next : D) (c : List Conn) (left : Known)
    (count turns : ℕ)
    → ServesFrom States Steps shuts told mid calls called places most first c next left count turns
    → KeepsClock mid tells
    → ServesFrom States Steps shuts told tells calls called places most first c next left count turns
serves_same States Steps shuts told mid tells calls called places most first next c left count turns
    (ts, serves, answered, many, (moments, minute, lines), linked, adds) keeps = (
      ts,
      serves,
      answered,
      many,
      (
        subst (λ (m : Option (List ℕ)). Appends told.moments m (nows ts)) (sym keeps.0.0) moments,
        subst (λ (m : Option (List ℕ)). Appends told.minutes m (minutes ts)) (sym keeps.0.1) minute,
        subst (λ (m : Option (List Line)). AppendsLines told.lines m (map line_of (answers ts)))
            (sym keeps.1) lines,
      ),
      linked,
      adds,
    )

-- ---- what the log tells

lines_none : (t u : Told) → u ≡ t → TellsLines t u []
lines_none t u same =
    subst (λ (x : Told). TellsLines t x []) (sym same) (lines_nil t.lines, (refl, refl), refl)

lines_then : (t u v : Told) (xs ys : List Answered) → TellsLines t u xs → TellsLines u v ys
    → TellsLines t v (xs ++ ys)
lines_then t u v xs ys (first, clock, failed) (then, clock_then, failed_then) = (
  subst (λ (l : List Line). AppendsLines t.lines v.lines l) (sym (lines_both xs ys))
      (lines_trans t.lines u.lines v.lines _ _ first then),
  (clock_then.0 ∙ clock.0, clock_then.1 ∙ clock.1),
  failed_then ∙ failed,
)

abbrev Plain : {D : Type 0} → (List ℕ → Option ℕ → Type 0) → (D → Answered → D → Type 0) → ℕ
    → List (Option Answered) → List Conn → D × Told → List Conn → D × Told → Type 0
Plain States Steps now ms olds old news new =
    TakeTurns States Steps now ms olds old.0 news new.0 × TellsLines old.1 new.1 (somes ms)

-- the desk's own turns, and a line for each message
plain_turns : {D : Type 0} (States : List ℕ → Option ℕ → Type 0) (Steps : D → Answered → D → Type 0)
    (now : ℕ) (ms : List (Option Answered)) (olds news : List Conn) (d e : D × Told)
    → TakeTurns States (logged Steps) now ms olds d news e
    → Plain States Steps now ms olds d news e
plain_turns {D} States Steps now [] [] [] d e same =
    (ap (λ (x : D × Told). x.0) same, lines_none d.1 e.1 (ap (λ (x : D × Told). x.1) same))
plain_turns {D} States Steps now (None ∷ ms) (o ∷ olds) (w ∷ news) d e (mid, (moves, same), rest) =
    let then = plain_turns States Steps now ms olds news mid e rest in (
      (mid.0, (moves, ap (λ (x : D × Told). x.0) same), then.0),
      subst (λ (x : D × Told). TellsLines x.1 e.1 (somes ms)) same then.1,
    )
plain_turns States Steps now (Some a ∷ ms) (o ∷ olds) (w ∷ news) d e
    (mid, (whole, comes, ready, came, (step, line), goes), rest) =
    let then = plain_turns States Steps now ms olds news mid e rest in (
      (mid.0, (whole, comes, ready, came, step, goes), then.0),
      lines_then d.1 mid.1 e.1 (a ∷ []) (somes ms) line then.1,
    )
plain_turns States Steps now [] [] (w ∷ news) d e never = absurd never
plain_turns States Steps now [] (o ∷ olds) [] d e never = absurd never
plain_turns States Steps now [] (o ∷ olds) (w ∷ news) d e never = absurd never
plain_turns States Steps now (n ∷ ms) [] [] d e never = absurd never
plain_turns States Steps now (n ∷ ms) [] (w ∷ news) d e never = absurd never
plain_turns States Steps now (n ∷ ms) (o ∷ olds) [] d e never = absurd never

pub turns_failed : {D : Type 0} (States : List ℕ → Option ℕ → Type 0)
    (Steps : D → Answered → D → Type 0) (calls called : Option (List Call)) (now : ℕ)
    (marks left : List Readiness) (olds news : List Conn) (d e : D) (t u : Told) (count : ℕ)
    → TurnsOf States (logged Steps) calls called now marks olds (d, t) left news (e, u) count
    → u.failed ≡ t.failed
turns_failed States Steps calls called now marks left olds news d e t u count
    (ms, answered, turns, ios, tell, works) =
    (plain_turns States Steps now ms olds news (d, t) (e, u) turns).1.2

may_some : (shut : Bool) (most left : ℕ) → (shut ≡ true → left ≡ 0) → (shut ≡ false → left ≡ most)
    → may_answer shut most ≡ nat_lt 0 left
may_some true most left none all = ap (λ (n : ℕ). nat_lt 0 n) (sym (none refl))
may_some false most left none all = ap (λ (n : ℕ). nat_lt 0 n) (sym (all refl))

-- accepted connections, and a turn of each
pub goes_on : {D : Type 0} (States : List ℕ → Option ℕ → Type 0)
    (Steps : D → Answered → D → Type 0) (shuts : D → Bool)
    (told tick tock takes tells : Told) (calls had mid called : Option (List Call)) (a b c : List Conn)
    (before begun after : List Readiness) (desk next : D) (rest : Rest) (was queue : Queue)
    (now minute most left count : ℕ) → TellsMoment told tick now → TellsMinute tick tock minute
    → had ≡ calls → KeepsClock tock takes
    → ((accepts : List Accept) × IsAdmitted had mid now accepts a b before begun
    × AcceptsBy was (nat_lt 0 left) accepts queue × (queue ≡ Full → NoneGivesWay now b))
    → TurnsOf States (logged (at_minute minute Steps)) mid called now begun b (desk, takes) after c
    (next, tells) count
    → Each (IsDone now) c
    → count ≤ left → (shuts desk ≡ true → left ≡ 0) → (shuts desk ≡ false → left ≡ most)
    → (count < left → Each (λ c. c.phase ≢ Ready) c)
    → IsPause rest a → queue_then rest ≡ was → rest.marks ≡ before
    → GoesOn States Steps shuts told tells calls called most rest a desk c next
    (record { queue = queue; marks = after }) count
goes_on States Steps shuts told tick tock takes tells calls had mid called a b c before begun after desk next
    rest was queue now minute most left count
    moment at none_told keeps (accepts, (admits, adds, marked), by, full) (ms, answered, turns, ios, tell, works) done few none
    all unready pause then back =
    let plain =
    plain_turns States (at_minute minute Steps) now ms b c (desk, takes) (next, tells) turns in
    let clock : (tells.moments ≡ tick.moments) × (tells.minutes ≡ tock.minutes) = (
      plain.1.1.0 ∙ keeps.0.0 ∙ at.1,
      plain.1.1.1 ∙ keeps.0.1,
    ) in
    let first : takes.lines ≡ told.lines = keeps.1 ∙ at.2 ∙ moment.2 in
    let begins : begun ≡ marked_at (places_of accepts) rest.marks =
    marked ∙ ap (λ (l : List Readiness). marked_at (places_of accepts) l) (sym back) in
    let queues : AcceptsBy (queue_then rest) (may_answer (shuts desk) most) accepts queue =
    subst (λ (q : Queue). AcceptsBy q (may_answer (shuts desk) most) accepts queue) (sym then)
    (subst (λ (m : Bool). AcceptsBy was m accepts queue) (sym (may_some (shuts desk) most left none all))
    by) in (
      record {
        now = now;
        minute = minute;
        places = places_of accepts;
        answered = ms;
        rest = rest;
        accepts = accepts;
        calls = ios;
        left = record { queue = queue; marks = after };
      },
      refl,
      refl,
      (
        b,
        admits,
        plain.0,
        done,
        λ shut. let no = none shut in omega (arith, few, no, answered),
        λ live less. unready (let is = all live in omega (arith, is, less, answered)),
        pause,
        refl,
        queues,
        full,
        subst (λ (l : List Readiness). Works l b ms ios after) begins works,
      ),
      answered,
      (
        subst (λ (m : Option (List ℕ)). Appends told.moments m (now ∷ [])) (sym clock.0) moment.0,
        subst (λ (m : Option (List ℕ)). Appends m tells.minutes (minute ∷ [])) moment.1
            (subst (λ (m : Option (List ℕ)). Appends tick.minutes m (minute ∷ [])) (sym clock.1)
            at.0),
        subst (λ (m : Option (List Line)). AppendsLines m tells.lines (map line_of (somes ms))) first
            plain.1.0,
      ),
      adds_both calls mid called _ _
          (subst (λ (o : Option (List Call)). Adds o mid (map accept_call accepts)) none_told adds) tell,
    )

-- why it ended, by what is known of the network
due_ends : (ending : Ending) (most count turns : ℕ) (shut : Bool) (faults : ℕ) (tells : Told)
    (news : List Conn) → faults ≤ tells.failed → count ≤ most
    → IsDue ending count most shut faults news → EndsAt ending most count turns shut tells news
due_ends Counted most count turns shut faults tells news known few due = due
due_ends Network most count turns shut faults tells news known few (unknown, free) =
    (few, inr (omega (arith, known, unknown), free))
due_ends Shut most count turns shut faults tells news known few (less, is, still) =
    (omega (arith, few, less), is, still)
due_ends OutOfTurns most count turns shut faults tells news known few due = absurd due

pub served_at : {D : Type 0} (States : List ℕ → Option ℕ → Type 0)
    (Steps : D → Answered → D → Type 0) (shuts : D → Bool) (faults : ℕ)
    (told tells : Told) (calls called : Option (List Call)) (places most : ℕ) (first next : D)
    (news : List Conn) (left : Known) (count turns : ℕ) (ending : Ending) (shut : Bool)
    → ServesFrom States Steps shuts told tells calls called places most first news next left count turns
    → shut ≡ shuts next → faults ≤ tells.failed → count ≤ most
    → IsDue ending count most shut faults news
    → IsServed States Steps shuts told tells calls called places most first ending next
served_at States Steps shuts faults told tells calls called places most first next news left count turns
    ending shut serves same known few due = (
      news,
      left,
      count,
      turns,
      called,
      serves,
      subst (λ (b : Bool). EndsAt ending most count turns b tells news) same
          (due_ends ending most count turns shut faults tells news known few due),
      inl (adds_nil called),
    )

-- a wait has failed
pub served_waits : {D : Type 0} (States : List ℕ → Option ℕ → Type 0)
    (Steps : D → Answered → D → Type 0) (shuts : D → Bool) (told mid tells : Told)
    (calls last called : Option (List Call)) (places most : ℕ) (first next : D) (news : List Conn)
    (left : Known) (count turns : ℕ)
    → ServesFrom States Steps shuts told mid calls last places most first news next left count turns
    → tells ≡ wait_fails mid → ((began : ℕ) × Adds last called (Begins began ∷ [])) → count ≤ most
    → IsServed States Steps shuts told tells calls called places most first Network next
served_waits States Steps shuts told mid tells calls last called places most first next news left count
    turns serves is begins few = (
      news,
      left,
      count,
      turns,
      last,
      serves_same States Steps shuts told mid tells calls last places most first next news left count turns
          serves (
            (ap (λ (t : Told). t.moments) is, ap (λ (t : Told). t.minutes) is),
            ap (λ (t : Told). t.lines) is,
          ),
      (few, inl (ap (λ (t : Told). t.wait_failed) is)),
      inr begins,
    )

-- it had as many turns as there can be
pub served_spent : {D : Type 0} (States : List ℕ → Option ℕ → Type 0)
    (Steps : D → Answered → D → Type 0) (shuts : D → Bool) (told tells : Told)
    (calls called : Option (List Call)) (places most : ℕ) (first next : D) (news : List Conn)
    (left : Known) (count turns : ℕ)
    → ServesFrom States Steps shuts told tells calls called places most first news next left count turns
    → turns ≡ 2 ^ 64 - 1 → count ≤ most
    → IsServed States Steps shuts told tells calls called places most first OutOfTurns next
served_spent States Steps shuts told tells calls called places most first next news left count turns serves
    all few =
    (news, left, count, turns, called, serves, (few, all), inl (adds_nil called))

-- ---- the desk alone

runs_all : {D : Type 0} (Steps : D → Answered → D → Type 0) (xs ys : List Answered)
    (a b c : D) → Runs Steps xs a b → Runs Steps ys b c → Runs Steps (xs ++ ys) a c
runs_all {D} Steps [] ys a b c same then = subst (λ (k : D). Runs Steps ys k c) same then
runs_all Steps (x ∷ xs) ys a b c (mid, step, rest) then =
    (mid, step, runs_all Steps xs ys mid b c rest then)

turns_run : {D : Type 0} (States : List ℕ → Option ℕ → Type 0)
    (Steps : D → Answered → D → Type 0) (now minute : ℕ) (ms : List (Option Answered))
    (olds news : List Conn) (d e : D)
    → TakeTurns States (at_minute minute Steps) now ms olds d news e → Runs Steps (somes ms) d e
turns_run States Steps now minute [] [] [] d e same = same
turns_run {D} States Steps now minute (None ∷ ms) (o ∷ olds) (w ∷ news) d e (mid, first, rest) =
    subst (λ (k : D). Runs Steps (somes ms) k e) first.1
    (turns_run States Steps now minute ms olds news mid e rest)
turns_run States Steps now minute (Some a ∷ ms) (o ∷ olds) (w ∷ news) d e
    (mid, (whole, comes, ready, came, step, goes), rest) =
    (mid, step.1, turns_run States Steps now minute ms olds news mid e rest)
turns_run States Steps now minute [] [] (w ∷ news) d e never = absurd never
turns_run States Steps now minute [] (o ∷ olds) [] d e never = absurd never
turns_run States Steps now minute [] (o ∷ olds) (w ∷ news) d e never = absurd never
turns_run States Steps now minute (n ∷ ms) [] [] d e never = absurd never
turns_run States Steps now minute (n ∷ ms) [] (w ∷ news) d e never = absurd never
turns_run States Steps now minute (n ∷ ms) (o ∷ olds) [] d e never = absurd never

pub serves_runs : {D : Type 0} (States : List ℕ → Option ℕ → Type 0)
    (Steps : D → Answered → D → Type 0) (shuts : D → Bool) (most : ℕ) (ts : List Turn)
    (olds news : List Conn) (d e : D) → Serves States Steps shuts most ts olds d news e
    → Runs Steps (answers ts) d e
serves_runs States Steps shuts most [] olds news d e (one, other) = other
serves_runs States Steps shuts most (t ∷ ts) olds news d e
    (mids, mid, (begun, admits, turns, done, none, all, pause, at, accepts, full, works), rest) =
    runs_all Steps (somes t.answered) (answers ts) d mid e
    (turns_run States Steps t.now t.minute t.answered begun mids d mid turns)
    (serves_runs States Steps shuts (most - length (somes t.answered)) ts mids news mid e rest)
