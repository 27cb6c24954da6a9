-- A message that is whole is a front of what came.
use Rattle.std.proofs.Common.{◌≡◌, ◌∙◌, ◌⊎◌, inl, inr, ℕ, Bool, true, false, List, [], ◌∷◌, ◌++◌, Option}
use Rattle.std.proofs.Common.{refl, ap, sym, subst, append_assoc, append-nil, cond, nat_le}
use Rattle.connection_core.specs.Machine.{Conn, Event, Came, Ended, Wrote, Broke, Passed, Settled, afters}
use Rattle.connection_core.specs.Machine.{closed, is_empty, later, leaves, opened, phase_after, takes}
use Rattle.connection_core.specs.Laws.{IsFront, is_over, sent_by}
use Rattle.connection_core.specs.declared.phase.Part.TheVariants.{Blank, Line, Start, Return, Body}
use Rattle.connection_core.specs.declared.phase.Phase.{Phase}
use Rattle.connection_core.specs.declared.phase.Phase.TheVariants.{Reading, Ready, Writing}
use Rattle.connection_core.specs.declared.phase.Phase.TheVariants.{Lingering, Closed}
use Rattle.connection_core.proofs.ConnectionLemmas.{over_stays, over_takes, passes, ready_takes, takes_front}

abbrev pub made : Phase → List ℕ → List ℕ → ℕ → Bool → Conn
made p came left d m = record { phase = p; came = came; left = left; deadline = d; more = m }

abbrev is_reading : Phase → Bool
is_reading (Reading part) = true
is_reading Ready = false
is_reading Writing = false
is_reading Lingering = false
is_reading Closed = false

-- one that is over has no message that is whole
over_never : (c : Conn) (es : List Event) → is_over c.phase ≡ true
    → (afters c es).phase ≡ Ready → ⊥
over_never c es over whole =
    let end : is_over (afters c es).phase ≡ true = over_stays c es over in
    let other : is_over (afters c es).phase ≡ false = ap is_over whole in
    let no : false ≡ true = sym other ∙ end in cc

-- ---- one that doesn't read takes nothing more

abbrev KeepsCame : List ℕ → Conn → List Event → Type 0
KeepsCame came c es =
    (afters c es).phase ≡ Ready → (afters c es).came ≡ came

keeps_cond : (b : Bool) (came : List ℕ) (c : Conn) (es : List Event)
    → KeepsCame came c es → KeepsCame came (cond b closed c) es
keeps_cond true came c es keeps = λ whole. absurd (over_never closed es refl whole)
keeps_cond false came c es keeps = keeps

idle_keeps : (p : Phase) (came left : List ℕ) (d : ℕ) (m : Bool) (es : List Event)
    → is_reading p ≡ false → KeepsCame came (made p came left d m) es
idle_keeps (Reading part) came left d m es idle =
    let no : true ≡ false = idle in λ whole. cc
idle_keeps Writing came left d m es idle =
    λ whole. absurd (over_never (made Writing came left d m) es refl whole)
idle_keeps Lingering came left d m es idle =
    λ whole. absurd (over_never (made Lingering came left d m) es refl whole)
idle_keeps Closed came left d m es idle =
    λ whole. absurd (over_never (made Closed came left d m) es refl whole)
idle_keeps Ready came left d m [] idle = λ whole. refl
idle_keeps Ready came left d m (Came said bytes ∷ es) idle =
    subst (λ (c : Conn). KeepsCame came c es) (sym (ready_takes said came left d m bytes))
    (idle_keeps Ready came left d (passes Ready m bytes) es refl)
idle_keeps Ready came left d m (Ended ∷ es) idle = idle_keeps Ready came left d m es refl
idle_keeps Ready came left d m (Wrote n now ∷ es) idle =
    idle_keeps Ready came left d m es refl
idle_keeps Ready came left d m (Settled ∷ es) idle =
    idle_keeps Ready came left d m es refl
idle_keeps Ready came left d m (Broke ∷ es) idle =
    λ whole. absurd (over_never closed es refl whole)
idle_keeps Ready came left d m (Passed now ∷ es) idle =
    keeps_cond (nat_le d now) came (made Ready came left d m) es
    (idle_keeps Ready came left d m es refl)

-- ---- one that reads takes all, or has its message whole

abbrev TakesAll : Option ℕ → Conn → List ℕ → Type 0
TakesAll said c bytes =
    ((takes said c bytes).came ≡ c.came ++ bytes)
    ⊎ (is_reading (takes said c bytes).phase ≡ false)

all_more : (said : Option ℕ) (p : Phase) (came left : List ℕ) (d b : ℕ) (m : Bool) (bs : List ℕ)
    → TakesAll said (made p (came ++ b ∷ []) left d m) bs
    → ((takes said (made p (came ++ b ∷ []) left d m) bs).came ≡ came ++ b ∷ bs)
    ⊎ (is_reading (takes said (made p (came ++ b ∷ []) left d m) bs).phase ≡ false)
all_more said p came left d b m bs (inl all) = inl (all ∙ append_assoc came (b ∷ []) bs)
all_more said p came left d b m bs (inr idle) = inr idle

takes_all : (said : Option ℕ) (p : Phase) (came left : List ℕ) (d : ℕ) (m : Bool) (bytes : List ℕ)
    → TakesAll said (made p came left d m) bytes
takes_all said p came left d m [] = inl (sym (append-nil came))
takes_all said (Reading part) came left d m (b ∷ bs) =
    let n = leaves said part b (came ++ b ∷ []) in
    all_more said (phase_after said part b (came ++ b ∷ [])) came left d b n bs
    (takes_all said (phase_after said part b (came ++ b ∷ [])) (came ++ b ∷ []) left d n bs)
takes_all said Ready came left d m (b ∷ bs) =
    inr (ap (λ (c : Conn). is_reading c.phase) (ready_takes said came left d true bs))
takes_all said Writing came left d m (b ∷ bs) =
    inr (ap (λ (c : Conn). is_reading c.phase) (over_takes said Writing came left d true bs refl))
takes_all said Lingering came left d m (b ∷ bs) =
    inr (ap (λ (c : Conn). is_reading c.phase) (over_takes said Lingering came left d true bs refl))
takes_all said Closed came left d m (b ∷ bs) =
    inr (ap (λ (c : Conn). is_reading c.phase) (over_takes said Closed came left d m bs refl))

-- ---- what is whole at the end is what was there and a front of what comes

abbrev HeardBy : List ℕ → List ℕ → Conn → List Event → Type 0
HeardBy came sent c es =
    (afters c es).phase ≡ Ready
    → (front : List ℕ) × (rest : List ℕ) × (sent ≡ front ++ rest)
    × ((afters c es).came ≡ came ++ front)

heard_cond : (b : Bool) (came sent : List ℕ) (c : Conn) (es : List Event)
    → HeardBy came sent c es → HeardBy came sent (cond b closed c) es
heard_cond true came sent c es heard =
    λ whole. absurd (over_never closed es refl whole)
heard_cond false came sent c es heard = heard

-- it keeps what came
heard_none : (came sent : List ℕ) (c : Conn) (es : List Event)
    → KeepsCame came c es → HeardBy came sent c es
heard_none came sent c es keeps =
    λ whole. ([], sent, refl, keeps whole ∙ sym (append-nil came))

heard_came : (came bytes sent : List ℕ) (c : Conn) (es : List Event)
    → ((front : List ℕ) × (rest : List ℕ) × (bytes ≡ front ++ rest) × (c.came ≡ came ++ front))
    → (c.came ≡ came ++ bytes) ⊎ (is_reading c.phase ≡ false)
    → HeardBy c.came sent c es → HeardBy came (bytes ++ sent) c es
heard_came came bytes sent c es front (inl all) heard = λ whole.
    let then = heard whole in (
      bytes ++ then.0,
      then.1,
      ap (λ (l : List ℕ). bytes ++ l) then.2 ∙ sym (append_assoc bytes then.0 then.1),
      then.3 ∙ ap (λ (l : List ℕ). l ++ then.0) all ∙ append_assoc came bytes then.0,
    )
heard_came came bytes sent c es (front, rest, cut, took) (inr idle) heard = λ whole. (
  front,
  rest ++ sent,
  ap (λ (l : List ℕ). l ++ sent) cut ∙ append_assoc front rest sent,
  idle_keeps c.phase c.came c.left c.deadline c.more es idle whole ∙ took,
)

heard_by : (p : Phase) (came left : List ℕ) (d : ℕ) (m : Bool) (es : List Event)
    → HeardBy came (sent_by es) (made p came left d m) es
heard_by p came left d m [] = λ whole. ([], [], refl, sym (append-nil came))
heard_by (Reading part) came left d m (Came said bytes ∷ es) =
    let c = takes said (made (Reading part) came left d m) bytes in
    heard_came came bytes (sent_by es) c es
    (takes_front said (made (Reading part) came left d m) bytes)
    (takes_all said (Reading part) came left d m bytes)
    (heard_by c.phase c.came c.left c.deadline c.more es)
heard_by (Reading part) came left d m (Ended ∷ es) =
    heard_cond (is_empty came) came (sent_by es) (made Ready came left d m) es
    (heard_none came (sent_by es) (made Ready came left d m) es
    (idle_keeps Ready came left d m es refl))
heard_by (Reading part) came left d m (Wrote n now ∷ es) =
    heard_by (Reading part) came left d m es
heard_by (Reading part) came left d m (Settled ∷ es) =
    heard_by (Reading part) came left d m es
heard_by (Reading part) came left d m (Broke ∷ es) =
    λ whole. absurd (over_never closed es refl whole)
heard_by (Reading part) came left d m (Passed now ∷ es) =
    heard_cond (nat_le d now) came (sent_by es) (made (Reading part) came left d m) es
    (heard_by (Reading part) came left d m es)
heard_by Ready came left d m (e ∷ es) =
    heard_none came (sent_by (e ∷ es)) (made Ready came left d m) (e ∷ es)
    (idle_keeps Ready came left d m (e ∷ es) refl)
heard_by Writing came left d m (e ∷ es) =
    λ whole. absurd (over_never (made Writing came left d m) (e ∷ es) refl whole)
heard_by Lingering came left d m (e ∷ es) =
    λ whole. absurd (over_never (made Lingering came left d m) (e ∷ es) refl whole)
heard_by Closed came left d m (e ∷ es) =
    λ whole. absurd (over_never (made Closed came left d m) (e ∷ es) refl whole)

pub heard : (now : ℕ) (es : List Event)
    → (afters (opened now) es).phase ≡ Ready
    → IsFront (afters (opened now) es).came (sent_by es)
heard now es whole =
    let found = heard_by (Reading Blank) [] [] (later now 30000) false es whole in
    (found.1, found.2 ∙ ap (λ (l : List ℕ). l ++ found.1) (sym found.3))
