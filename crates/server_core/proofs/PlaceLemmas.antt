-- A turn of all connections, one connection after the other.
use Rattle.std.proofs.Common.{◌≡◌, ◌≢◌, ◌∙◌, ◌⊎◌, inl, inr, ◌<◌, ◌≤◌, ◌+◌, ℕ, Bool, true, false, List}
use Rattle.std.proofs.Common.{[], ◌∷◌, ◌++◌, Option, Some, None, refl, ap, sym, subst, is_some, length}
use Rattle.std.proofs.Common.{get_or, get_or-set_other, set, take, arith, zero-add, length-append}
use Rattle.std.proofs.Math.Seq.{get_or-append_seam}
use Rattle.std.proofs.Math.Nat.{eq-or-lt_of_le}
use Rattle.std.proofs.lemmas.List.{get_or_append_left, get_or_default, get_or-set_same}
use Rattle.std.proofs.lemmas.List.{drop_more, take_more, length-set, drop-set-lt, map-set, length-map, get_or-map, take_all}
use Rattle.std.proofs.lemmas.Grind.{drop_more_same, take-set_at}
use Rattle.connection_core.specs.Machine.{Conn, closed}
use Rattle.connection_core.specs.Seen.{seen}
use Rattle.connection_core.specs.declared.phase.Phase.TheVariants.{Closed}
use Rattle.server_core.specs.Calls.{Adds, Call, Io, at_place, from_place}
use Rattle.server_core.specs.Served.{IsStill}
use Rattle.server_core.specs.Places.{Each, SoFar, TurnsOf, conns}
use Rattle.server_core.specs.Turns.{Answered, TakeTurns, TakesTurn, somes}
use Rattle.server_core.specs.Works.{WorksAmong, WorksAt, unmarked}
use Rattle.server_core.specs.declared.host.Readiness.{Readiness}
use Rattle.server_core.specs.declared.slot.Slot.{Slot}
use Rattle.server_core.proofs.CallLemmas.{adds_both, adds_nil, from_more}

abbrev pub bit : Bool → ℕ
bit true = 1
bit false = 0

somes_more : (ms : List (Option Answered)) (m : Option Answered) (r : Bool) → is_some m ≡ r
    → length (somes (ms ++ m ∷ [])) ≡ length (somes ms) + bit r
somes_more [] None r is = ap bit is ∙ sym (zero-add (bit r))
somes_more [] (Some a) r is = ap bit is ∙ sym (zero-add (bit r))
somes_more (None ∷ ms) m r is = somes_more ms m r is
somes_more (Some a ∷ ms) m r is =
    let rest = somes_more ms m r is in omega arith

turns_more : {D : Type 0} (States : List ℕ → Option ℕ → Type 0) (Steps : D → Answered → D → Type 0)
    (now : ℕ) (ms : List (Option Answered)) (olds news : List Conn) (d e f : D) (m : Option Answered)
    (x y : Conn) → TakeTurns States Steps now ms olds d news e → TakesTurn States Steps now m x e y f
    → TakeTurns States Steps now (ms ++ m ∷ []) (olds ++ x ∷ []) d (news ++ y ∷ []) f
turns_more {D} States Steps now [] [] [] d e f m x y same turn =
    (f, subst (λ (k : D). TakesTurn States Steps now m x k y f) same turn, refl)
turns_more States Steps now (n ∷ ms) (o ∷ olds) (w ∷ news) d e f m x y (mid, first, rest) turn =
    (mid, first, turns_more States Steps now ms olds news mid e f m x y rest turn)
turns_more States Steps now [] [] (w ∷ news) d e f m x y never turn = absurd never
turns_more States Steps now [] (o ∷ olds) [] d e f m x y never turn = absurd never
turns_more States Steps now [] (o ∷ olds) (w ∷ news) d e f m x y never turn = absurd never
turns_more States Steps now (n ∷ ms) [] [] d e f m x y never turn = absurd never
turns_more States Steps now (n ∷ ms) [] (w ∷ news) d e f m x y never turn = absurd never
turns_more States Steps now (n ∷ ms) (o ∷ olds) [] d e f m x y never turn = absurd never

each_more : (P : Conn → Type 0) (cs : List Conn) (c : Conn) → Each P cs → P c
    → Each P (cs ++ c ∷ [])
each_more P [] c each this = (this, tt)
each_more P (x ∷ cs) c each this = (each.0, each_more P cs c each.1 this)

heads_same : (a b : Conn) (xs ys : List Conn) → a ∷ xs ≡ b ∷ ys → a ≡ b
heads_same a b xs ys same = cc

-- ---- the calls of their streams

abbrev WorksFar : List Readiness → List Conn → List (Option Answered) → List (List Io) → List Readiness → ℕ
    → Type 0
WorksFar marks olds ms ios left i =
    ((seat : ℕ) → seat < i → WorksAmong marks olds ms ios left seat)
    × ((seat : ℕ) → i ≤ seat → get_or left seat unmarked ≡ get_or marks seat unmarked)

-- one before this place is as it was
works_before : (marks : List Readiness) (olds : List Conn) (ms : List (Option Answered)) (ios : List (List Io))
    (left : List Readiness) (i seat : ℕ) (m : Option Answered) (io : List Io) (mark : Readiness)
    → length ms ≡ i → length ios ≡ i → seat < i → WorksAmong marks olds ms ios left seat
    → WorksAmong marks olds (ms ++ m ∷ []) (ios ++ io ∷ []) (set left i mark) seat
works_before marks olds ms ios left i seat m io mark some all low works =
    let before = get_or_append_left ms (m ∷ []) None seat (omega (arith, some, low)) in
    let calls = get_or_append_left ios (io ∷ []) [] seat (omega (arith, all, low)) in
    let other : seat ≢ i = λ same. omega (arith, same, low) in
    let same = get_or-set_other left i seat mark unmarked other in
    subst (λ (x : Option Answered). WorksAt (get_or marks seat unmarked) (get_or olds seat closed)
    (is_some x) (get_or (ios ++ io ∷ []) seat []) (get_or (set left i mark) seat unmarked)) (sym before)
    (subst (λ (x : List Io). WorksAt (get_or marks seat unmarked) (get_or olds seat closed)
    (is_some (get_or ms seat None)) x (get_or (set left i mark) seat unmarked)) (sym calls)
    (subst (λ (x : Readiness). WorksAt (get_or marks seat unmarked) (get_or olds seat closed)
    (is_some (get_or ms seat None)) (get_or ios seat []) x) (sym same) works))

-- this place has had its turn
works_here : (marks : List Readiness) (olds : List Conn) (ms : List (Option Answered)) (ios : List (List Io))
    (left : List Readiness) (i : ℕ) (m : Option Answered) (io : List Io) (mark : Readiness) (r : Bool) (c : Conn)
    → length ms ≡ i → length ios ≡ i → i < length left → is_some m ≡ r → get_or olds i closed ≡ c
    → get_or left i unmarked ≡ get_or marks i unmarked
    → WorksAt (get_or left i unmarked) c r io mark
    → WorksAmong marks olds (ms ++ m ∷ []) (ios ++ io ∷ []) (set left i mark) i
works_here marks olds ms ios left i m io mark r c some all low is this same works =
    let answer : get_or (ms ++ m ∷ []) i None ≡ m =
    subst (λ (n : ℕ). get_or (ms ++ m ∷ []) n None ≡ m) some (get_or-append_seam ms m [] None) in
    let calls : get_or (ios ++ io ∷ []) i [] ≡ io =
    subst (λ (n : ℕ). get_or (ios ++ io ∷ []) n [] ≡ io) all (get_or-append_seam ios io [] []) in
    let new : get_or (set left i mark) i unmarked ≡ mark = get_or-set_same left i mark unmarked low in
    let by_mark =
    subst (λ (x : Readiness). WorksAt x c r io mark) same works in
    let by_conn =
    subst (λ (x : Conn). WorksAt (get_or marks i unmarked) x r io mark) (sym this) by_mark in
    let by_answer =
    subst (λ (x : Bool). WorksAt (get_or marks i unmarked) (get_or olds i closed) x io mark)
    (sym (ap (λ (x : Option Answered). is_some x) answer ∙ is)) by_conn in
    let by_calls =
    subst (λ (x : List Io). WorksAt (get_or marks i unmarked) (get_or olds i closed)
    (is_some (get_or (ms ++ m ∷ []) i None)) x mark) (sym calls) by_answer in
    subst (λ (x : Readiness). WorksAt (get_or marks i unmarked) (get_or olds i closed)
    (is_some (get_or (ms ++ m ∷ []) i None)) (get_or (ios ++ io ∷ []) i []) x) (sym new) by_calls

works_by : (marks : List Readiness) (olds : List Conn) (ms : List (Option Answered))
    (ios : List (List Io)) (left : List Readiness) (i seat : ℕ) (m : Option Answered) (io : List Io) (mark : Readiness)
    → length ms ≡ i → length ios ≡ i → (seat ≡ i) ⊎ (seat < i)
    → ((s : ℕ) → s < i → WorksAmong marks olds ms ios left s)
    → WorksAmong marks olds (ms ++ m ∷ []) (ios ++ io ∷ []) (set left i mark) i
    → WorksAmong marks olds (ms ++ m ∷ []) (ios ++ io ∷ []) (set left i mark) seat
works_by marks olds ms ios left i seat m io mark some all (inl is) far here =
    subst (λ (n : ℕ). WorksAmong marks olds (ms ++ m ∷ []) (ios ++ io ∷ []) (set left i mark) n) (sym is)
    here
works_by marks olds ms ios left i seat m io mark some all (inr low) far here =
    works_before marks olds ms ios left i seat m io mark some all low (far seat low)

works_more : (marks : List Readiness) (olds : List Conn) (ms : List (Option Answered)) (ios : List (List Io))
    (left : List Readiness) (i : ℕ) (m : Option Answered) (io : List Io) (mark : Readiness) (r : Bool) (c : Conn)
    → length ms ≡ i → length ios ≡ i → i < length left → is_some m ≡ r → get_or olds i closed ≡ c
    → WorksAt (get_or left i unmarked) c r io mark → WorksFar marks olds ms ios left i
    → WorksFar marks olds (ms ++ m ∷ []) (ios ++ io ∷ []) (set left i mark) (i + 1)
works_more marks olds ms ios left i m io mark r c some all low is this works (far, rest) =
    let here =
    works_here marks olds ms ios left i m io mark r c some all low is this (rest i (omega arith)) works in (
      λ seat few.
          works_by marks olds ms ios left i seat m io mark some all
          (eq-or-lt_of_le (omega (arith, few))) far here,
      λ seat many.
          get_or-set_other left i seat mark unmarked (λ same. omega (arith, same, many))
          ∙ rest seat (omega (arith, many)),
    )

-- one more has had its turn
far_on : {D : Type 0} (States : List ℕ → Option ℕ → Type 0) (Steps : D → Answered → D → Type 0)
    (calls mid called : Option (List Call)) (now : ℕ) (marks left : List Readiness) (olds news : List Conn)
    (d e f : D) (i count : ℕ) (r : Bool) (x y : Conn) (mark : Readiness)
    → i < length news → i < length left → x ≡ get_or news i x
    → SoFar States Steps calls mid now marks olds d i left news e count
    → (m : Option Answered) × (is_some m ≡ r) × TakesTurn States Steps now m x e y f
    → (io : List Io) × Adds mid called (at_place i io) × WorksAt (get_or left i unmarked) x r io mark
    → SoFar States Steps calls called now marks olds d (i + 1) (set left i mark) (set news i y) f
    (count + bit r)
far_on {D} States Steps calls mid called now marks left olds news d e f i count r x y mark low low_mark is
    (ms, told, turns, rest, same, ios, adds, some, all, far, others) (m, here, turn) (io, tells, does) =
    let low_old : i < length olds = omega arith in
    let cut_new = drop_more news i x low in
    let cut_old = drop_more olds i x low_old in
    let heads = heads_same _ _ _ _ (sym cut_new ∙ rest ∙ cut_old) in
    let this : get_or olds i x ≡ x = sym heads ∙ sym is in
    let at : get_or olds i closed ≡ x = get_or_default olds i closed x low_old ∙ this in
    let grown = turns_more States Steps now ms (take i olds) (take i news) d e f m x y turns turn in
    let by_old =
    subst (λ (l : List Conn). TakeTurns States Steps now (ms ++ m ∷ []) l d (take i news ++ y ∷ []) f)
    (sym (take_more olds i x low_old ∙ ap (λ (c : Conn). take i olds ++ c ∷ []) this)) grown in
    let more = works_more marks olds ms ios left i m io mark r x some all low_mark here at does
    (far, others) in
    let one_more = length-append ms (m ∷ []) in
    let one_also = length-append ios (io ∷ []) in (
      ms ++ m ∷ [],
      somes_more ms m r here ∙ ap (λ (n : ℕ). n + bit r) told,
      subst (λ (l : List Conn). TakeTurns States Steps now (ms ++ m ∷ []) (take (i + 1) olds) d l f)
          (sym (take-set_at news i (i + 1) y refl low)) by_old,
      drop-set-lt (i + 1) news i y (omega arith) ∙ drop_more_same news olds i rest,
      length-set news i y ∙ same,
      ios ++ io ∷ [],
      subst (λ (l : List Call). Adds calls called l)
          (sym (from_more 0 i ios io (omega (arith, all))))
          (adds_both calls mid called (from_place 0 ios) (at_place i io) adds tells),
      omega (arith, one_more, some),
      omega (arith, one_also, all),
      more.0,
      more.1,
    )

-- the same of the places that hold them
pub places_on : {D S : Type 0} (States : List ℕ → Option ℕ → Type 0)
    (Steps : D → Answered → D → Type 0) (calls mid called : Option (List Call)) (now : ℕ)
    (marks left : List Readiness) (olds : List Conn) (slots : List (Slot S))
    (d e f : D) (i count more : ℕ) (r : Bool) (item slot : Slot S) (mark : Readiness) → i < length slots
    → i < length left → more ≡ count + bit r
    → SoFar States Steps calls mid now marks olds d i left (conns slots) e count
    → (m : Option Answered) × (is_some m ≡ r)
    × TakesTurn States Steps now m (seen (get_or slots i item).connection) e (seen slot.connection) f
    → (io : List Io) × Adds mid called (at_place i io)
    × WorksAt (get_or left i unmarked) (seen (get_or slots i item).connection) r io mark
    → SoFar States Steps calls called now marks olds d (i + 1) (set left i mark)
    (conns (set slots i slot)) f more
places_on {D} {S} States Steps calls mid called now marks left olds slots d e f i count more r item slot
    mark low low_mark counted far turn works =
    let view : Slot S → Conn = λ s. seen s.connection in
    let low_conns : i < length (conns slots) = simp length-map low in
    let this = view (get_or slots i item) in
    let goes =
    far_on States Steps calls mid called now marks left olds (conns slots) d e f i count r this
    (view slot) mark low_conns low_mark
    (sym (get_or-map view slots i item this low)) far turn works in
    let grown =
    subst (λ (l : List Conn). SoFar States Steps calls called now marks olds d (i + 1)
    (set left i mark) l f (count + bit r)) (sym (map-set view slots i slot)) goes in
    subst (λ (n : ℕ). SoFar States Steps calls called now marks olds d (i + 1) (set left i mark)
    (conns (set slots i slot)) f n) (sym counted) grown

-- what holds of each that has had its turn
pub each_on : {S : Type 0} (P : Conn → Type 0) (slots : List (Slot S)) (i : ℕ) (slot : Slot S)
    → i < length slots → Each P (take i (conns slots)) → P (seen slot.connection)
    → Each P (take (i + 1) (conns (set slots i slot)))
each_on {S} P slots i slot low each this =
    let view : Slot S → Conn = λ s. seen s.connection in
    let low_conns : i < length (conns slots) = simp length-map low in
    let grown = each_more P (take i (conns slots)) (view slot) each this in
    let by_set =
    subst (λ (l : List Conn). Each P l)
    (sym (take-set_at (conns slots) i (i + 1) (view slot) refl low_conns)) grown in
    subst (λ (l : List Conn). Each P (take (i + 1) l)) (sym (map-set view slots i slot)) by_set

pub none_far : {D : Type 0} (States : List ℕ → Option ℕ → Type 0)
    (Steps : D → Answered → D → Type 0) (calls : Option (List Call)) (now : ℕ) (marks : List Readiness)
    (olds : List Conn) (d : D) → SoFar States Steps calls calls now marks olds d 0 marks olds d 0
none_far States Steps calls now marks olds d = (
  [],
  refl,
  refl,
  refl,
  refl,
  [],
  adds_nil calls,
  refl,
  refl,
  λ seat low. absurd (omega (arith, low)),
  λ seat many. refl,
)

pub all_far : {D : Type 0} (States : List ℕ → Option ℕ → Type 0)
    (Steps : D → Answered → D → Type 0) (calls called : Option (List Call)) (now : ℕ)
    (marks left : List Readiness) (olds news : List Conn) (d e : D)
    (i count : ℕ) → length news ≤ i → i ≤ length news
    → SoFar States Steps calls called now marks olds d i left news e count
    → TurnsOf States Steps calls called now marks olds d left news e count
all_far States Steps calls called now marks left olds news d e i count whole few
    (ms, told, turns, rest, same, ios, adds, some, all, far, others) =
    let low : length olds ≤ i = omega (arith, same, whole) in
    let by_old =
    subst (λ (l : List Conn). TakeTurns States Steps now ms l d (take i news) e) (take_all i olds low)
    turns in (
      ms,
      told,
      subst (λ (l : List Conn). TakeTurns States Steps now ms olds d l e) (take_all i news whole) by_old,
      ios,
      adds,
      (omega (arith, all, low, same, few), λ seat less. far seat (omega (arith, less, low))),
    )

-- what holds of each that was looked at
each_far : {S : Type 0} (P : Conn → Type 0) (slots : List (Slot S)) (i : ℕ) (d : Slot S)
    → i < length slots → Each P (take i (conns slots)) → P (seen (get_or slots i d).connection)
    → Each P (take (i + 1) (conns slots))
each_far {S} P slots i d low each this =
    let view : Slot S → Conn = λ s. seen s.connection in
    let c = view (get_or slots i d) in
    let low_conns : i < length (conns slots) = simp length-map low in
    let at : get_or (conns slots) i c ≡ c = get_or-map view slots i d c low in
    let cut = take_more (conns slots) i c low_conns in
    subst (λ (l : List Conn). Each P l)
    (sym (cut ∙ ap (λ (x : Conn). take i (conns slots) ++ x ∷ []) at))
    (each_more P (take i (conns slots)) c each this)

each_whole : {S : Type 0} (P : Conn → Type 0) (slots : List (Slot S)) (i : ℕ)
    → length slots ≤ i → Each P (take i (conns slots)) → Each P (conns slots)
each_whole P slots i whole each =
    let all : length (conns slots) ≤ i = simp length-map whole in
    subst (λ (l : List Conn). Each P l) (take_all i (conns slots) all) each

pub still_on : {S : Type 0} (slots : List (Slot S)) (i : ℕ) (d : Slot S) → i < length slots
    → Each IsStill (take i (conns slots)) → IsStill (seen (get_or slots i d).connection)
    → Each IsStill (take (i + 1) (conns slots))
still_on slots i d low each this = each_far IsStill slots i d low each this

pub still_all : {S : Type 0} (slots : List (Slot S)) (i : ℕ) → length slots ≤ i
    → Each IsStill (take i (conns slots)) → Each IsStill (conns slots)
still_all slots i whole each = each_whole IsStill slots i whole each

pub closed_on : {S : Type 0} (slots : List (Slot S)) (i : ℕ) (d : Slot S) → i < length slots
    → Each (λ c. c.phase ≡ Closed) (take i (conns slots)) → (seen (get_or slots i d).connection).phase ≡ Closed
    → Each (λ c. c.phase ≡ Closed) (take (i + 1) (conns slots))
closed_on slots i d low each this = each_far (λ c. c.phase ≡ Closed) slots i d low each this

pub closed_all : {S : Type 0} (slots : List (Slot S)) (i : ℕ) → length slots ≤ i
    → Each (λ c. c.phase ≡ Closed) (take i (conns slots)) → Each (λ c. c.phase ≡ Closed) (conns slots)
closed_all slots i whole each = each_whole (λ c. c.phase ≡ Closed) slots i whole each

pub few_places : {S : Type 0} (slots : List (Slot S)) (i : ℕ) → length slots ≤ i
    → length (conns slots) ≤ i
few_places slots i whole = simp length-map whole

pub some_places : {S : Type 0} (slots : List (Slot S)) (i : ℕ) → i ≤ length slots
    → i ≤ length (conns slots)
some_places slots i some = simp length-map some
