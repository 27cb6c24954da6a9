-- Connections are accepted, one after the other.
use Rattle.std.proofs.Common.{◌≡◌, ◌≢◌, ◌∙◌, ◌<◌, ◌+◌, ◌-◌, ℕ, zero, suc, Bool, true, false, List, [], ◌∷◌, ◌++◌, Option, Some, None, refl}
use Rattle.std.proofs.Common.{ap, sym, subst, set, map, length, arith, append-nil, length-append, zero-add}
use Rattle.std.specs.Prelude.{⊤}
use Rattle.std.proofs.lemmas.List.{map-set}
use Rattle.connection_core.specs.Machine.{Conn, opened}
use Rattle.connection_core.specs.Seen.{seen}
use Rattle.server_core.specs.Calls.{Accepted, Accepts, Adds, Call, Comes, Fails, Nobody, given_of}
use Rattle.server_core.specs.Places.{conns}
use Rattle.server_core.specs.Rests.{Accept, AcceptsBy, AcceptsIf, AreAccepts, GoesBy, IsAccept}
use Rattle.server_core.specs.Rests.{accept_call, place_of, places_of, queue_of}
use Rattle.server_core.specs.Served.{Admits, IsAdmitted}
use Rattle.server_core.specs.Wait.{IsToGiveWay, NoneGivesWay}
use Rattle.server_core.specs.Works.{marked, marked_at}
use Rattle.server_core.specs.declared.admit.Queue.{Queue}
use Rattle.server_core.specs.declared.admit.Queue.TheVariants.{Empty, More, Full, Held, Unknown}
use Rattle.server_core.specs.declared.host.Readiness.{Readiness}
use Rattle.server_core.specs.declared.slot.Slot.{Slot}
use Rattle.server_core.proofs.CallLemmas.{adds_both, adds_none}

admits_all : (now : ℕ) (ps qs : List ℕ) (a b c : List Conn) → Admits now ps a b → Admits now qs b c
    → Admits now (ps ++ qs) a c
admits_all now [] qs a b c same then = subst (λ (l : List Conn). Admits now qs l c) same then
admits_all now (p ∷ ps) qs a b c (gives, rest) then =
    (gives, admits_all now ps qs (set a p (opened now)) b c rest then)

place_both : (answer : Accepted) (place : ℕ) (xs ys : List ℕ)
    → place_of answer place (xs ++ ys) ≡ place_of answer place xs ++ ys
place_both Comes place xs ys = refl
place_both Nobody place xs ys = refl
place_both Fails place xs ys = refl

places_both : (xs ys : List Accept) → places_of (xs ++ ys) ≡ places_of xs ++ places_of ys
places_both [] ys = refl
places_both (x ∷ xs) ys =
    ap (λ (l : List ℕ). place_of x.answer x.place l) (places_both xs ys)
    ∙ place_both x.answer x.place (places_of xs) (places_of ys)

marked_both : (ps qs : List ℕ) (marks : List Readiness)
    → marked_at (ps ++ qs) marks ≡ marked_at qs (marked_at ps marks)
marked_both [] qs marks = refl
marked_both (p ∷ ps) qs marks = marked_both ps qs (set marks p marked)

calls_both : (xs ys : List Accept)
    → map accept_call (xs ++ ys) ≡ map accept_call xs ++ map accept_call ys
calls_both [] ys = refl
calls_both (x ∷ xs) ys = ap (λ (l : List Call). accept_call x ∷ l) (calls_both xs ys)

-- none was accepted
pub admitted_none : (calls called : Option (List Call)) (now : ℕ) (old new : List Conn)
    (marks left : List Readiness) → called ≡ calls → new ≡ old → left ≡ marks
    → IsAdmitted calls called now [] old new marks left
admitted_none calls called now old new marks left none same is =
    (same, adds_none calls called none, is)

-- first those, then these
pub admitted_both : (a b c : Option (List Call)) (now : ℕ) (xs ys : List Accept) (d e f : List Conn)
    (k l m : List Readiness) → IsAdmitted a b now xs d e k l → IsAdmitted b c now ys e f l m
    → IsAdmitted a c now (xs ++ ys) d f k m
admitted_both a b c now xs ys d e f k l m (one, told, mark) (other, tells, left) = (
  subst (λ (ps : List ℕ). Admits now ps d f) (sym (places_both xs ys))
      (admits_all now (places_of xs) (places_of ys) d e f one other),
  subst (λ (cs : List Call). Adds a c cs) (sym (calls_both xs ys))
      (adds_both a b c (map accept_call xs) (map accept_call ys) told tells),
  left ∙ ap (λ (ms : List Readiness). marked_at (places_of ys) ms) mark
      ∙ sym (marked_both (places_of xs) (places_of ys) k)
      ∙ ap (λ (ps : List ℕ). marked_at ps k) (sym (places_both xs ys)),
)

abbrev an_accept : ℕ → Accepted → Accept
an_accept place answer = record { place = place; answer = answer }

-- a client is known to be left only where no place could be given to it
abbrev FullBy : ℕ → List Conn → Queue → Type 0
FullBy now cs queue = queue ≡ Full → NoneGivesWay now cs

not_full : (now : ℕ) (cs : List Conn) (queue : Queue) → queue ≢ Full → FullBy now cs queue
not_full now cs queue not full = absurd (not full)

empty_full : Empty ≢ Full
empty_full is = cc

more_full : More ≢ Full
more_full is = cc

held_full : Held ≢ Full
held_full is = cc

unknown_full : Unknown ≢ Full
unknown_full is = cc

abbrev OneMore : {S : Type 0} → Option (List Call) → Option (List Call) → ℕ → List (Slot S)
    → List (Slot S) → List Readiness → List Readiness → Queue → Type 0
OneMore calls called now slots news marks left queue =
    (accepts : List Accept)
    × IsAdmitted calls called now accepts (conns slots) (conns news) marks left
    × IsAccept accepts queue × FullBy now (conns news) queue

-- no place could be given
pub admits_full : {S : Type 0} (calls called : Option (List Call)) (now : ℕ) (slots : List (Slot S))
    (marks : List Readiness) → called ≡ calls → NoneGivesWay now (conns slots)
    → OneMore calls called now slots slots marks marks Full
admits_full calls called now slots marks none way = (
  [],
  admitted_none calls called now (conns slots) (conns slots) marks marks none refl refl,
  refl,
  λ full. way,
)

-- the network gave none
pub admits_nobody : {S : Type 0} (calls called : Option (List Call)) (place now : ℕ)
    (slots : List (Slot S)) (marks : List Readiness) (given : Option S) → given ≡ None
    → Adds calls called (Accepts place (given_of given) ∷ [])
    → OneMore calls called now slots slots marks marks Empty
admits_nobody {S} calls called place now slots marks given is told =
    let none : Adds calls called (Accepts place Nobody ∷ []) =
    subst (λ (o : Option S). Adds calls called (Accepts place (given_of o) ∷ [])) is told in
    (an_accept place Nobody ∷ [], (refl, none, refl), (refl, refl), not_full now _ Empty empty_full)

pub admits_fault : {S : Type 0} (calls called : Option (List Call)) (place now : ℕ)
    (slots : List (Slot S)) (marks : List Readiness) → Adds calls called (Accepts place Fails ∷ [])
    → OneMore calls called now slots slots marks marks Unknown
admits_fault calls called place now slots marks told =
    (an_accept place Fails ∷ [], (refl, told, refl), (refl, refl), not_full now _ Unknown unknown_full)

-- it gave one
pub admits_at : {S : Type 0} (calls called : Option (List Call)) (place now : ℕ)
    (slots : List (Slot S)) (marks : List Readiness) (slot : Slot S) (mark : Readiness) (given : Option S)
    (stream : S) → given ≡ Some stream → Adds calls called (Accepts place (given_of given) ∷ [])
    → IsToGiveWay now place (conns slots)
    → seen slot.connection ≡ opened now → mark ≡ marked
    → OneMore calls called now slots (set slots place slot) marks (set marks place mark) More
admits_at {S} calls called place now slots marks slot mark given stream some told gives fresh is =
    let came : Adds calls called (Accepts place Comes ∷ []) =
    subst (λ (o : Option S). Adds calls called (Accepts place (given_of o) ∷ [])) some told in
    let view : Slot S → Conn = λ s. seen s.connection in (
      an_accept place Comes ∷ [],
      (
        (gives, map-set view slots place slot ∙ ap (λ (c : Conn). set (conns slots) place c) fresh),
        came,
        ap (λ (m : Readiness). set marks place m) is,
      ),
      (refl, refl),
      not_full now _ More more_full,
    )

-- ---- many

abbrev pub Come : List Accept → Type 0
Come [] = ⊤
Come (a ∷ rest) = (a.answer ≡ Comes) × Come rest

come_both : (xs ys : List Accept) → Come xs → Come ys → Come (xs ++ ys)
come_both [] ys one other = other
come_both (x ∷ xs) ys one other = (one.0, come_both xs ys one.1 other)

-- so many so far, each with a connection, and all of them are admitted
abbrev pub FarAdmitted : Option (List Call) → Option (List Call) → ℕ → List Conn → List Conn
    → List Readiness → List Readiness → ℕ → Type 0
FarAdmitted calls called now old new marks left count =
    (accepts : List Accept) × IsAdmitted calls called now accepts old new marks left
    × Come accepts × (length accepts ≡ count)

pub far_none : (calls : Option (List Call)) (now : ℕ) (old : List Conn) (marks : List Readiness)
    → FarAdmitted calls calls now old old marks marks 0
far_none calls now old marks =
    ([], admitted_none calls calls now old old marks marks refl refl refl, tt, refl)

answer_come : (answer : Accepted) → More ≡ queue_of answer → answer ≡ Comes
answer_come Comes is = refl
answer_come Nobody is = let no : More ≡ Empty = is in cc
answer_come Fails is = let no : More ≡ Unknown = is in cc

one_come : (accepts : List Accept) → IsAccept accepts More → Come accepts × (length accepts ≡ 1)
one_come [] is = let no : More ≡ Full = is in cc
one_come (a ∷ rest) (none, is) = (
  (answer_come a.answer is, subst (λ (l : List Accept). Come l) (sym none) tt),
  ap (λ (l : List Accept). suc (length l)) none,
)

-- one more
pub far_more : (a b c : Option (List Call)) (now : ℕ) (d e f : List Conn) (k l m : List Readiness)
    (count : ℕ) (queue : Queue) → FarAdmitted a b now d e k l count
    → (accepts : List Accept) × IsAdmitted b c now accepts e f l m × IsAccept accepts queue
    × FullBy now f queue
    → queue ≡ More → FarAdmitted a c now d f k m (count + 1)
far_more a b c now d e f k l m count queue (xs, one, come, is) (ys, other, last, way) more =
    let then = one_come ys (subst (λ (q : Queue). IsAccept ys q) more last) in
    let all = length-append xs ys in (
      xs ++ ys,
      admitted_both a b c now xs ys d e f k l m one other,
      come_both xs ys come then.0,
      omega (arith, all, is, then.1),
    )

stops_by : (answer : Accepted) (Then : Type 0) (rest : List Accept) (queue : Queue) → queue ≢ More
    → rest ≡ [] → queue ≡ queue_of answer → GoesBy answer Then rest queue
stops_by Comes Then rest queue stops none is = absurd (stops is)
stops_by Nobody Then rest queue stops none is = (none, is)
stops_by Fails Then rest queue stops none is = (none, is)

stops_here : (n : ℕ) (accepts : List Accept) (queue : Queue) → IsAccept accepts queue → queue ≢ More
    → AreAccepts (suc n) accepts queue
stops_here n [] queue is stops = is
stops_here n (a ∷ rest) queue (none, is) stops =
    stops_by a.answer (AreAccepts n rest queue) rest queue stops none is

comes_then : (answer : Accepted) (Then : Type 0) (rest : List Accept) (queue : Queue)
    → answer ≡ Comes → Then → GoesBy answer Then rest queue
comes_then Comes Then rest queue is then = then
comes_then Nobody Then rest queue is then = let no : Nobody ≡ Comes = is in cc
comes_then Fails Then rest queue is then = let no : Fails ≡ Comes = is in cc

accepts_then : (n : ℕ) (xs ys : List Accept) (queue : Queue) → Come xs → AreAccepts n ys queue
    → AreAccepts (length xs + n) (xs ++ ys) queue
accepts_then n [] ys queue come last =
    subst (λ (k : ℕ). AreAccepts k ys queue) (sym (zero-add n)) last
accepts_then n (x ∷ xs) ys queue come last =
    let more : suc (length xs + n) ≡ suc (length xs) + n = omega arith in
    subst (λ (k : ℕ). AreAccepts k (x ∷ (xs ++ ys)) queue) more
    (comes_then x.answer (AreAccepts (length xs + n) (xs ++ ys) queue) (xs ++ ys) queue come.0
    (accepts_then n xs ys queue come.1 last))

abbrev Admitted : Option (List Call) → Option (List Call) → ℕ → List Conn → List Conn
    → List Readiness → List Readiness → Queue → Type 0
Admitted calls called now old new marks left queue =
    (accepts : List Accept) × IsAdmitted calls called now accepts old new marks left
    × AreAccepts 32 accepts queue × FullBy now new queue

-- the last of fewer than 32
pub far_stops : (a b c : Option (List Call)) (now : ℕ) (d e f : List Conn) (k l m : List Readiness)
    (count : ℕ) (queue : Queue) → count < 32 → FarAdmitted a b now d e k l count
    → (accepts : List Accept) × IsAdmitted b c now accepts e f l m × IsAccept accepts queue
    × FullBy now f queue
    → queue ≢ More → Admitted a c now d f k m queue
far_stops a b c now d e f k l m count queue few (xs, one, come, is) (ys, other, last, way) stops =
    let left = 31 - count in
    let all : length xs + suc left ≡ 32 = omega (arith, few, is) in (
      xs ++ ys,
      admitted_both a b c now xs ys d e f k l m one other,
      subst (λ (n : ℕ). AreAccepts n (xs ++ ys) queue) all
          (accepts_then (suc left) xs ys queue come (stops_here left ys queue last stops)),
      way,
    )

-- 32
pub far_all : (a b : Option (List Call)) (now : ℕ) (d e : List Conn) (k l : List Readiness) (count : ℕ)
    → count ≡ 32 → FarAdmitted a b now d e k l count → Admitted a b now d e k l More
far_all a b now d e k l count whole (xs, one, come, is) =
    let all : length xs + zero ≡ 32 = omega (arith, whole, is) in
    let same = append-nil xs in (
      xs,
      one,
      subst (λ (l : List Accept). AreAccepts 32 l More) same
          (subst (λ (n : ℕ). AreAccepts n (xs ++ []) More) all
          (accepts_then zero xs [] More come (refl, refl))),
      not_full now e More more_full,
    )

-- ---- by what was known of the clients

abbrev pub AdmittedBy : Option (List Call) → Option (List Call) → ℕ → List Conn → List Conn
    → List Readiness → List Readiness → Queue → Bool → Queue → Type 0
AdmittedBy calls called now old new marks left was may queue =
    (accepts : List Accept) × IsAdmitted calls called now accepts old new marks left
    × AcceptsBy was may accepts queue × FullBy now new queue

by_queue : (was queue : Queue) (may : Bool) (accepts : List Accept) → was ≢ Empty
    → AcceptsIf may accepts queue → AcceptsBy was may accepts queue
by_queue Empty queue may accepts some by = absurd (some refl)
by_queue More queue may accepts some by = by
by_queue Full queue may accepts some by = by
by_queue Held queue may accepts some by = by
by_queue Unknown queue may accepts some by = by

-- no client waits
pub admits_empty : (calls : Option (List Call)) (now : ℕ) (old : List Conn) (marks : List Readiness)
    (was : Queue) (may : Bool) → was ≡ Empty
    → AdmittedBy calls calls now old old marks marks was may was
admits_empty calls now old marks was may is = (
  [],
  admitted_none calls calls now old old marks marks refl refl refl,
  subst (λ (q : Queue). AcceptsBy q may [] q) (sym is) (refl, refl),
  subst (λ (q : Queue). FullBy now old q) (sym is) (not_full now old Empty empty_full),
)

-- none may be answered any more
pub admits_held : (calls : Option (List Call)) (now : ℕ) (old : List Conn) (marks : List Readiness)
    (was : Queue) (may : Bool) → was ≢ Empty → may ≡ false
    → AdmittedBy calls calls now old old marks marks was may Held
admits_held calls now old marks was may some is = (
  [],
  admitted_none calls calls now old old marks marks refl refl refl,
  by_queue was Held may [] some
      (subst (λ (b : Bool). AcceptsIf b [] Held) (sym is) (refl, refl)),
  not_full now old Held held_full,
)

pub admits_many : (calls called : Option (List Call)) (now : ℕ) (old new : List Conn)
    (marks left : List Readiness) (was queue : Queue) (may : Bool) → was ≢ Empty → may ≡ true
    → (accepts : List Accept) × IsAdmitted calls called now accepts old new marks left
    × AreAccepts 32 accepts queue × FullBy now new queue
    → AdmittedBy calls called now old new marks left was may queue
admits_many calls called now old new marks left was queue may some is (accepts, admitted, are, way) = (
  accepts,
  admitted,
  by_queue was queue may accepts some
      (subst (λ (b : Bool). AcceptsIf b accepts queue) (sym is) are),
  way,
)
