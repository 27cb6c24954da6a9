-- For how long is waited.
use Rattle.std.proofs.Common.{◌≡◌, ◌∙◌, ◌⊎◌, inl, inr, ◌≤◌, ◌<◌, ◌+◌, ℕ, zero, suc, Bool, true, false, List, [], ◌∷◌}
use Rattle.std.proofs.Common.{Option, refl, ap}
use Rattle.std.proofs.Common.{sym, subst, cond, min, length, drop, get_or, arith}
use Rattle.std.proofs.lemmas.List.{drop_more, drop_all, get_or-map, length-map}
use Rattle.connection_core.specs.Machine.{Conn, closed}
use Rattle.connection_core.specs.Seen.{seen}
use Rattle.connection_core.specs.declared.phase.Phase.{Phase}
use Rattle.connection_core.specs.declared.phase.Phase.TheVariants.{Closed}
use Rattle.server_core.specs.Calls.{Adds, Begins, Call, Waits}
use Rattle.server_core.specs.Places.{HasFree, conns}
use Rattle.server_core.specs.Rests.{IsPause, Rest, queue_then, rest_calls}
use Rattle.server_core.specs.Wait.{begins, gives_in, idles, is_full, pause_at, pauses}
use Rattle.server_core.specs.declared.admit.Queue.{Queue}
use Rattle.server_core.specs.declared.admit.Queue.TheVariants.{Full, More}
use Rattle.server_core.specs.declared.host.Readiness.{Readiness}
use Rattle.server_core.specs.declared.slot.Slot.{Slot}
use Rattle.server_core.proofs.CallLemmas.{adds_both}

pauses_none : (full : Bool) (now : ℕ) (cs : List Conn) (ms : List Readiness)
    → pauses full now 0 cs ms ≡ 0
pauses_none full now [] ms = refl
pauses_none full now (c ∷ cs) [] = refl
pauses_none full now (c ∷ cs) (m ∷ ms) =
    let none : min 0 (pause_at full now c m) ≡ 0 = omega arith in
    ap (λ (n : ℕ). pauses full now n cs ms) none ∙ pauses_none full now cs ms

-- a free place gives way at once
free_at : (now : ℕ) (c : Conn) (m : Readiness) → c.phase ≡ Closed → pause_at true now c m ≡ 0
free_at now c m is =
    ap (λ (p : Phase). min (gives_in now c p) (idles now c m p)) is

free_by : (now pause place : ℕ) (cs : List Conn) (ms : List Readiness) → length cs ≤ length ms
    → place < length cs → (get_or cs place closed).phase ≡ Closed → pauses true now pause cs ms ≡ 0
free_by now pause place [] ms many low is = let no : place < 0 = low in absurd (omega (arith, no))
free_by now pause place (c ∷ cs) [] many low is = absurd (omega (arith, many))
free_by now pause zero (c ∷ cs) (m ∷ ms) many low is =
    let none = free_at now c m is in
    let this : min pause (pause_at true now c m) ≡ 0 = omega (arith, none) in
    ap (λ (n : ℕ). pauses true now n cs ms) this ∙ pauses_none true now cs ms
free_by now pause (suc place) (c ∷ cs) (m ∷ ms) many low is =
    free_by now (min pause (pause_at true now c m)) place cs ms (omega (arith, many))
    (omega (arith, low)) is

pub free_none : {S : Type 0} (slots : List (Slot S)) (ms : List Readiness) (queue : Queue) (now r : ℕ)
    → length slots ≤ length ms
    → r ≡ pauses (is_full queue) now (begins queue) (conns slots) ms
    → queue ≡ Full → HasFree (conns slots) → r ≡ 0
free_none {S} slots ms queue now r many is full (place, low, free) =
    is
    ∙ ap (λ (q : Queue). pauses (is_full q) now (begins q) (conns slots) ms) full
    ∙ free_by now 60000 place (conns slots) ms
    (subst (λ (n : ℕ). n ≤ length ms) (sym (length-map slots (λ (s : Slot S). seen s.connection)))
    many) low free

-- one more was looked at
pub pauses_on : {S : Type 0} (slots : List (Slot S)) (ms : List Readiness) (full : Bool)
    (now pause more whole i : ℕ) (d : Slot S) (m : Readiness) → i < length slots → i < length ms
    → more ≡ min pause (pause_at full now (seen (get_or slots i d).connection) (get_or ms i m))
    → pauses full now pause (drop i (conns slots)) (drop i ms) ≡ whole
    → pauses full now more (drop (i + 1) (conns slots)) (drop (i + 1) ms) ≡ whole
pauses_on {S} slots ms full now pause more whole i d m low low_mark is same =
    let view : Slot S → Conn = λ s. seen s.connection in
    let c = view (get_or slots i d) in
    let low_conns : i < length (conns slots) = simp length-map low in
    let at : get_or (conns slots) i c ≡ c = get_or-map view slots i d c low in
    let rest = drop (i + 1) (conns slots) in
    let cut_conns = drop_more (conns slots) i c low_conns ∙ ap (λ (x : Conn). x ∷ rest) at in
    let cut_marks = drop_more ms i m low_mark in
    ap (λ (n : ℕ). pauses full now n rest (drop (i + 1) ms)) is
    ∙ sym (ap (λ (l : List Conn). pauses full now pause l (drop i ms)) cut_conns
    ∙ ap (λ (l : List Readiness). pauses full now pause (c ∷ rest) l) cut_marks)
    ∙ same

-- all were
pub none_left : {S : Type 0} (slots : List (Slot S)) (ms : List Readiness) (full : Bool)
    (now pause whole i : ℕ) → length slots ≤ i
    → pauses full now pause (drop i (conns slots)) (drop i ms) ≡ whole → pause ≡ whole
none_left {S} slots ms full now pause whole i all same =
    let over : length (conns slots) ≤ i = simp length-map all in
    sym (ap (λ (l : List Conn). pauses full now pause l (drop i ms)) (drop_all i (conns slots) over))
    ∙ same

-- ---- a wait

abbrev RestSo : Queue → List Readiness → List Readiness → Queue → List Conn → Option (List Call)
    → Option (List Call) → Type 0
RestSo queue marks left after cs calls called =
    (rest : Rest) × (rest.known ≡ record { queue = queue; marks = marks }) × (rest.marks ≡ left)
    × (queue_then rest ≡ after) × IsPause rest cs × Adds calls called (rest_calls rest)

rests_by : (queue : Queue) (marks left : List Readiness) (began pause : ℕ) (comes : Bool) (cs : List Conn)
    (calls mid called : Option (List Call)) → Adds calls mid (Begins began ∷ [])
    → Adds mid called (Waits pause marks left comes ∷ [])
    → pause ≡ pauses (is_full queue) began (begins queue) cs marks → length cs ≤ length marks
    → RestSo queue marks left (cond comes More queue) cs calls called
rests_by queue marks left began pause comes cs calls mid called first last is many = (
  record {
    known = record { queue = queue; marks = marks };
    began = began;
    pause = pause;
    marks = left;
    comes = comes;
  },
  refl,
  refl,
  refl,
  (many, is),
  adds_both calls mid called (Begins began ∷ []) (Waits pause marks left comes ∷ []) first last,
)

-- it told that a connection may wait
pub rests_on : {S : Type 0} (queue : Queue) (marks left : List Readiness) (began pause : ℕ) (comes : Bool)
    (slots : List (Slot S)) (calls mid called : Option (List Call)) → Adds calls mid (Begins began ∷ [])
    → Adds mid called (Waits pause marks left comes ∷ [])
    → pause ≡ pauses (is_full queue) began (begins queue) (conns slots) marks
    → length slots ≤ length marks → comes ≡ true
    → RestSo queue marks left More (conns slots) calls called
rests_on queue marks left began pause comes slots calls mid called first last is many tells =
    subst (λ (b : Bool). RestSo queue marks left (cond b More queue) (conns slots) calls called) tells
    (rests_by queue marks left began pause comes (conns slots) calls mid called first last is
    (simp length-map many))

pub rests_still : {S : Type 0} (queue : Queue) (marks left : List Readiness) (began pause : ℕ) (comes : Bool)
    (slots : List (Slot S)) (calls mid called : Option (List Call)) → Adds calls mid (Begins began ∷ [])
    → Adds mid called (Waits pause marks left comes ∷ [])
    → pause ≡ pauses (is_full queue) began (begins queue) (conns slots) marks
    → length slots ≤ length marks → comes ≡ false
    → RestSo queue marks left queue (conns slots) calls called
rests_still queue marks left began pause comes slots calls mid called first last is many tells =
    subst (λ (b : Bool). RestSo queue marks left (cond b More queue) (conns slots) calls called) tells
    (rests_by queue marks left began pause comes (conns slots) calls mid called first last is
    (simp length-map many))

free_queue : (queue : Queue) (now : ℕ) (cs : List Conn) (ms : List Readiness)
    → (queue ≡ More) ⊎ (queue ≡ Full) → HasFree cs → length cs ≤ length ms
    → pauses (is_full queue) now (begins queue) cs ms ≡ 0
free_queue queue now cs ms (inl more) free many =
    ap (λ (q : Queue). pauses (is_full q) now (begins q) cs ms) more ∙ pauses_none false now cs ms
free_queue queue now cs ms (inr full) (place, low, free) many =
    ap (λ (q : Queue). pauses (is_full q) now (begins q) cs ms) full
    ∙ free_by now 60000 place cs ms many low free

pub free_rest : (rest : Rest) (cs : List Conn) → IsPause rest cs
    → (rest.known.queue ≡ More) ⊎ (rest.known.queue ≡ Full) → HasFree cs → rest.pause ≡ 0
free_rest rest cs (many, is) waits free =
    is ∙ free_queue rest.known.queue rest.began cs rest.known.marks waits free many
