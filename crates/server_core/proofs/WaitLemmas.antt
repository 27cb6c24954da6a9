-- The connection that has waited longest.
use Rattle.std.proofs.Common.{◌≡◌, ◌≢◌, ◌∙◌, inl, inr, ◌≤◌, ◌<◌, ◌+◌, ◌-◌, ◌^◌, ℕ, zero, suc, Bool, true}
use Rattle.std.proofs.Common.{false, List, [], min}
use Rattle.std.proofs.Common.{◌∷◌, ◌++◌, Option, Some, None, refl, ap, sym, subst, cond, length, take}
use Rattle.std.proofs.Common.{get_or, arith, length-append, nat_le}
use Rattle.std.proofs.lemmas.List.{take_more, take_all, get_or_append_left, get_or-map, length-map, length-take-le}
use Rattle.std.proofs.Math.Seq.{get_or-append_seam}
use Rattle.connection_core.specs.Machine.{Conn, closed}
use Rattle.connection_core.specs.Seen.{seen}
use Rattle.connection_core.specs.declared.phase.Phase.TheVariants.{Closed}
use Rattle.server_core.specs.Places.{Each, conns}
use Rattle.server_core.specs.Wait.{IsLongest, IsSoonest, IsToGiveWay, NoneGivesWay, is_of, longer_in}
use Rattle.server_core.specs.Wait.{sooner_of}
use Rattle.server_core.specs.declared.admit.Kind.{Kind}
use Rattle.server_core.specs.declared.admit.Kind.TheVariants.{Lingers, Reads}
use Rattle.server_core.specs.declared.admit.Waiting.{Waiting}
use Rattle.server_core.specs.declared.slot.Slot.{Slot}

each_more : (P : Conn → Type 0) (cs : List Conn) (c : Conn) → Each P cs → P c
    → Each P (cs ++ c ∷ [])
each_more P [] c each this = (this, tt)
each_more P (x ∷ cs) c each this = (each.0, each_more P cs c each.1 this)

each_wider : (P Q : Conn → Type 0) → ((c : Conn) → P c → Q c) → (cs : List Conn) → Each P cs
    → Each Q cs
each_wider P Q wider [] each = tt
each_wider P Q wider (x ∷ cs) each = (wider x each.0, each_wider P Q wider cs each.1)

never_reads : (b : Bool) → b ≡ false → b ≡ true → ⊥
never_reads b idle does = let both : false ≡ true = sym idle ∙ does in cc

-- ---- one more of those that were looked at

best_stays : (k : Kind) (best : Option Waiting) (cs : List Conn) (c : Conn)
    → is_of k c.phase ≡ false → IsLongest k best cs → IsLongest k best (cs ++ c ∷ [])
best_stays k None cs c idle is = each_more (λ x. is_of k x.phase ≡ false) cs c is idle
best_stays k (Some w) cs c idle (low, this, same, each) =
    let at = get_or_append_left cs (c ∷ []) closed w.place low in
    let more = length-append cs (c ∷ []) in (
      omega (arith, more, low),
      ap (λ (x : Conn). is_of k x.phase) at ∙ this,
      ap (λ (x : Conn). x.deadline) at ∙ same,
      each_more (λ x. is_of k x.phase ≡ true → w.deadline ≤ x.deadline) cs c each
          (λ does. absurd (never_reads (is_of k c.phase) idle does)),
    )

abbrev this_one : List Conn → Conn → Waiting
this_one cs c = record { place = length cs; deadline = c.deadline }

this_longest : (k : Kind) (cs : List Conn) (c : Conn) → is_of k c.phase ≡ true
    → Each (λ x. is_of k x.phase ≡ true → c.deadline ≤ x.deadline) cs
    → IsLongest k (Some (this_one cs c)) (cs ++ c ∷ [])
this_longest k cs c this each =
    let at = get_or-append_seam cs c [] closed in
    let more = length-append cs (c ∷ []) in (
      omega (arith, more),
      ap (λ (x : Conn). is_of k x.phase) at ∙ this,
      ap (λ (x : Conn). x.deadline) at,
      each_more (λ x. is_of k x.phase ≡ true → c.deadline ≤ x.deadline) cs c each
          (λ does. omega arith),
    )

sooner_by : (t : Bool) (k : Kind) (w : Waiting) (cs : List Conn) (c : Conn)
    → nat_le w.deadline c.deadline ≡ t → is_of k c.phase ≡ true → IsLongest k (Some w) cs
    → IsLongest k (cond t (Some w) (Some (this_one cs c))) (cs ++ c ∷ [])
sooner_by true k w cs c test this (low, was, same, each) =
    let at = get_or_append_left cs (c ∷ []) closed w.place low in
    let more = length-append cs (c ∷ []) in (
      omega (arith, more, low),
      ap (λ (x : Conn). is_of k x.phase) at ∙ was,
      ap (λ (x : Conn). x.deadline) at ∙ same,
      each_more (λ x. is_of k x.phase ≡ true → w.deadline ≤ x.deadline) cs c each
          (λ does. grind (arith, test)),
    )
sooner_by false k w cs c test this (low, was, same, each) =
    let later : c.deadline < w.deadline = grind (arith, test) in
    this_longest k cs c this
    (each_wider (λ x. is_of k x.phase ≡ true → w.deadline ≤ x.deadline)
    (λ x. is_of k x.phase ≡ true → c.deadline ≤ x.deadline)
    (λ x less does. let n = less does in omega (arith, n, later)) cs each)

best_or_this : (k : Kind) (best : Option Waiting) (cs : List Conn) (c : Conn)
    → is_of k c.phase ≡ true → IsLongest k best cs
    → IsLongest k (sooner_of best (this_one cs c)) (cs ++ c ∷ [])
best_or_this k None cs c this is =
    this_longest k cs c this
    (each_wider (λ x. is_of k x.phase ≡ false)
    (λ x. is_of k x.phase ≡ true → c.deadline ≤ x.deadline)
    (λ x idle does. absurd (never_reads (is_of k x.phase) idle does)) cs is)
best_or_this k (Some w) cs c this is =
    sooner_by (nat_le w.deadline c.deadline) k w cs c refl this is

longest_by : (b : Bool) (k : Kind) (best : Option Waiting) (cs : List Conn) (c : Conn)
    → is_of k c.phase ≡ b → IsLongest k best cs
    → IsLongest k (cond b (sooner_of best (this_one cs c)) best) (cs ++ c ∷ [])
longest_by true k best cs c test is = best_or_this k best cs c test is
longest_by false k best cs c test is = best_stays k best cs c test is

pub longest_on : {S : Type 0} (k : Kind) (slots : List (Slot S)) (best : Option Waiting) (i : ℕ)
    (d : Slot S) → i < length slots → IsLongest k best (take i (conns slots))
    → IsLongest k (longer_in k (seen (get_or slots i d).connection).phase best
    (seen (get_or slots i d).connection).deadline i) (take (i + 1) (conns slots))
longest_on {S} k slots best i d low is =
    let view : Slot S → Conn = λ s. seen s.connection in
    let c = view (get_or slots i d) in
    let low_conns : i < length (conns slots) = simp length-map low in
    let count : length (take i (conns slots)) ≡ i =
    length-take-le i (conns slots) (omega (arith, low_conns)) in
    let at : get_or (conns slots) i c ≡ c = get_or-map view slots i d c low in
    let cut = take_more (conns slots) i c low_conns in
    let grown
    : IsLongest k (longer_in k c.phase best c.deadline i) (take i (conns slots) ++ c ∷ []) =
    subst (λ (n : ℕ). IsLongest k (longer_in k c.phase best c.deadline n)
    (take i (conns slots) ++ c ∷ [])) count
    (longest_by (is_of k c.phase) k best (take i (conns slots)) c refl is) in
    subst (λ (l : List Conn). IsLongest k (longer_in k c.phase best c.deadline i) l)
    (sym (cut ∙ ap (λ (x : Conn). take i (conns slots) ++ x ∷ []) at)) grown

pub longest_then : {S : Type 0} (k : Kind) (slots : List (Slot S)) (best r : Option Waiting) (i : ℕ)
    (d : Slot S) → i < length slots
    → r ≡ longer_in k (seen (get_or slots i d).connection).phase best
    (seen (get_or slots i d).connection).deadline i
    → IsLongest k best (take i (conns slots)) → IsLongest k r (take (i + 1) (conns slots))
longest_then k slots best r i d low is far =
    subst (λ (b : Option Waiting). IsLongest k b (take (i + 1) (conns slots))) (sym is)
    (longest_on k slots best i d low far)

pub longest_all : {S : Type 0} (k : Kind) (slots : List (Slot S)) (best : Option Waiting) (i : ℕ)
    → length slots ≤ i → IsLongest k best (take i (conns slots)) → IsLongest k best (conns slots)
longest_all k slots best i whole is =
    let all : length (conns slots) ≤ i = simp length-map whole in
    subst (λ (l : List Conn). IsLongest k best l) (take_all i (conns slots) all) is

-- ---- one that is free

pub phase_of : {S : Type 0} (slots : List (Slot S)) (i : ℕ) (d : Slot S) → i < length slots
    → (seen (get_or slots i d).connection).phase ≡ Closed
    → (i < length slots) × ((get_or (conns slots) i closed).phase ≡ Closed)
phase_of {S} slots i d low is = (
  low,
  ap (λ (c : Conn). c.phase)
      (get_or-map (λ (s : Slot S). seen s.connection) slots i d closed low) ∙ is,
)

pub not_closed_on : {S : Type 0} (slots : List (Slot S)) (i : ℕ) (d : Slot S) → i < length slots
    → (seen (get_or slots i d).connection).phase ≢ Closed
    → Each (λ c. c.phase ≢ Closed) (take i (conns slots))
    → Each (λ c. c.phase ≢ Closed) (take (i + 1) (conns slots))
not_closed_on {S} slots i d low is each =
    let view : Slot S → Conn = λ s. seen s.connection in
    let c = view (get_or slots i d) in
    let low_conns : i < length (conns slots) = simp length-map low in
    let at : get_or (conns slots) i c ≡ c = get_or-map view slots i d c low in
    let cut = take_more (conns slots) i c low_conns in
    subst (λ (l : List Conn). Each (λ c. c.phase ≢ Closed) l)
    (sym (cut ∙ ap (λ (x : Conn). take i (conns slots) ++ x ∷ []) at))
    (each_more (λ c. c.phase ≢ Closed) (take i (conns slots)) c each is)

pub not_closed_all : {S : Type 0} (slots : List (Slot S)) (i : ℕ) → length slots ≤ i
    → Each (λ c. c.phase ≢ Closed) (take i (conns slots))
    → Each (λ c. c.phase ≢ Closed) (conns slots)
not_closed_all slots i whole each =
    let all : length (conns slots) ≤ i = simp length-map whole in
    subst (λ (l : List Conn). Each (λ c. c.phase ≢ Closed) l) (take_all i (conns slots) all) each

-- ---- what gives way

pub free_gives : {S : Type 0} (slots : List (Slot S)) (now place : ℕ)
    → (place < length slots) × ((get_or (conns slots) place closed).phase ≡ Closed)
    → IsToGiveWay now place (conns slots)
free_gives slots now place (low, free) = (simp length-map low, inl free)

soonest : (k : Kind) (w : Waiting) (cs : List Conn) → IsLongest k (Some w) cs
    → IsSoonest k (get_or cs w.place closed) cs
soonest k w cs (low, this, same, each) = (
  this,
  subst (λ (n : ℕ). Each (λ c. is_of k c.phase ≡ true → n ≤ c.deadline) cs) (sym same) each,
)

pub lingered_gives : {S : Type 0} (slots : List (Slot S)) (w : Waiting) (now : ℕ)
    → Each (λ c. c.phase ≢ Closed) (conns slots) → IsLongest Lingers (Some w) (conns slots)
    → IsToGiveWay now w.place (conns slots)
lingered_gives slots w now none is =
    (is.0, inr (inl (none, soonest Lingers w (conns slots) is)))

pub longest_gives : {S : Type 0} (slots : List (Slot S)) (w : Waiting) (now place moment : ℕ)
    → (place ≡ w.place) × (w.deadline ≤ moment) → moment ≤ now + 29750
    → Each (λ c. c.phase ≢ Closed) (conns slots) → IsLongest Lingers None (conns slots)
    → IsLongest Reads (Some w) (conns slots) → IsToGiveWay now place (conns slots)
longest_gives slots w now place moment (is, then) few none idle (low, this, same, each) =
    subst (λ (n : ℕ). IsToGiveWay now n (conns slots)) (sym is) (
      low,
      inr
          (inr (
            none,
            idle,
            soonest Reads w (conns slots) (low, this, same, each),
            omega (arith, same, then, few),
          )),
    )

-- ---- none gives way

each_at : (P : Conn → Type 0) (cs : List Conn) (place : ℕ) → Each P cs → place < length cs
    → P (get_or cs place closed)
each_at P [] place each low = let no : place < 0 = low in absurd (omega (arith, no))
each_at P (c ∷ cs) zero each low = each.0
each_at P (c ∷ cs) (suc place) each low = each_at P cs place each.1 (omega (arith, low))

none_reads_at : (cs : List Conn) (now : ℕ) → Each (λ c. c.phase ≢ Closed) cs
    → IsLongest Lingers None cs → IsLongest Reads None cs → (place : ℕ) → IsToGiveWay now place cs → ⊥
none_reads_at cs now none idle silent place (low, inl free) =
    each_at (λ c. c.phase ≢ Closed) cs place none low free
none_reads_at cs now none idle silent place (low, inr (inl (all, (is, first)))) =
    never_reads (is_of Lingers (get_or cs place closed).phase)
    (each_at (λ c. is_of Lingers c.phase ≡ false) cs place idle low) is
none_reads_at cs now none idle silent place (low, inr (inr (all, still, (is, first), long))) =
    never_reads (is_of Reads (get_or cs place closed).phase)
    (each_at (λ c. is_of Reads c.phase ≡ false) cs place silent low) is

-- none lingers, and none reads
pub none_reads : {S : Type 0} (slots : List (Slot S)) (now : ℕ)
    → Each (λ c. c.phase ≢ Closed) (conns slots) → IsLongest Lingers None (conns slots)
    → IsLongest Reads None (conns slots) → NoneGivesWay now (conns slots)
none_reads slots now none idle silent = none_reads_at (conns slots) now none idle silent

none_waited_at : (cs : List Conn) (w : Waiting) (now moment : ℕ) → moment < w.deadline
    → moment ≡ min (now + 29750) (2 ^ 64 - 1) → w.deadline ≤ 2 ^ 64 - 1
    → Each (λ c. c.phase ≢ Closed) cs → IsLongest Lingers None cs → IsLongest Reads (Some w) cs
    → (place : ℕ) → IsToGiveWay now place cs → ⊥
none_waited_at cs w now moment before is fits none idle longest place (low, inl free) =
    each_at (λ c. c.phase ≢ Closed) cs place none low free
none_waited_at cs w now moment before is fits none idle longest place
    (low, inr (inl (all, (lingers, first)))) =
    never_reads (is_of Lingers (get_or cs place closed).phase)
    (each_at (λ c. is_of Lingers c.phase ≡ false) cs place idle low) lingers
none_waited_at cs w now moment before is fits none idle (w_low, w_is, w_at, each) place
    (low, inr (inr (all, still, (reads, first), long))) =
    let later =
    each_at (λ c. is_of Reads c.phase ≡ true → w.deadline ≤ c.deadline) cs place each low reads in
    omega (arith, before, is, fits, long, later)

-- none lingers, and the one that has waited longest hasn't waited long enough
pub none_waited : {S : Type 0} (slots : List (Slot S)) (w : Waiting) (now moment : ℕ)
    → moment < w.deadline → moment ≡ min (now + 29750) (2 ^ 64 - 1) → w.deadline ≤ 2 ^ 64 - 1
    → Each (λ c. c.phase ≢ Closed) (conns slots) → IsLongest Lingers None (conns slots)
    → IsLongest Reads (Some w) (conns slots) → NoneGivesWay now (conns slots)
none_waited slots w now moment before is fits none idle longest =
    none_waited_at (conns slots) w now moment before is fits none idle longest
