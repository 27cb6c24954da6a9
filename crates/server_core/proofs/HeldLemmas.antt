-- What holds of each connection, and of each message that is answered.
use Rattle.std.proofs.Common.{◌≡◌, ◌∙◌, ◌⊎◌, inl, inr, ◌≤◌, ◌+◌, ◌-◌, ◌*◌, ℕ, zero, suc, Bool, true}
use Rattle.std.proofs.Common.{false, List, [], ◌∷◌, ◌++◌, Option, Some, None, refl, ap, sym, subst}
use Rattle.std.proofs.Common.{length, set, replicate, arith}
use Rattle.std.proofs.lemmas.List.{length-set, length-replicate}
use Rattle.std.specs.Prelude.{⊤}
use Rattle.connection_core.specs.Machine.{AreTold, Conn, Event, afters, answered, closed, opened}
use Rattle.connection_core.specs.Laws.{IsBounded, StatesAtMost, is_over}
use Rattle.connection_core.specs.declared.phase.Phase.TheVariants.{Ready}
use Rattle.connection_core.proofs.ConnectionLemmas.{bounded_always, bounded_few, left_always, over_stays}
use Rattle.connection_core.proofs.HeardLemmas.{heard}
use Rattle.server_core.specs.Held.{AllOf, IsAtMost, IsHeard, held}
use Rattle.server_core.specs.Places.{Each}
use Rattle.server_core.specs.Served.{Admits, Serves, Turn, answers}
use Rattle.server_core.specs.Turns.{Answered, Moves, TakesTurn, TakeTurns, somes}
use Rattle.server_core.proofs.TurnLemmas.{afters_both, told_both}

-- A property of connections that each keeps: what is needed for it, and what it gives of messages
-- that are answered.
record Keeps (States : List ℕ → Option ℕ → Type 0) (P : Conn → Type 0) (Needs Gives : Answered → Type 0) : Type 0 where
  begins : (now : ℕ) → P (opened now)
  moves : (c : Conn) (es : List Event) → AreTold States c es → P c → P (afters c es)
  tells : (c : Conn) (a : Answered) → P c → c.phase ≡ Ready → c.came ≡ a.message → Gives a
  goes : (a : Answered) (more : Bool) (now : ℕ) → Needs a → P (answered more a.reply now)

moved : (States : List ℕ → Option ℕ → Type 0) (P : Conn → Type 0) (Needs Gives : Answered → Type 0)
    → Keeps States P Needs Gives → (now : ℕ) (a b : Conn) → Moves States now a b → P a → P b
moved States P Needs Gives keeps now a b (es, at, told, is) has =
    subst P (sym is) (keeps.moves a es told has)

all_of_both : (P : Answered → Type 0) (xs ys : List Answered) → AllOf P xs → AllOf P ys
    → AllOf P (xs ++ ys)
all_of_both P [] ys one other = other
all_of_both P (x ∷ xs) ys one other = (one.0, all_of_both P xs ys one.1 other)

all_first : (P : Answered → Type 0) (xs ys : List Answered) → AllOf P (xs ++ ys) → AllOf P xs
all_first P [] ys all = tt
all_first P (x ∷ xs) ys all = (all.0, all_first P xs ys all.1)

all_last : (P : Answered → Type 0) (xs ys : List Answered) → AllOf P (xs ++ ys) → AllOf P ys
all_last P [] ys all = all
all_last P (x ∷ xs) ys all = all_last P xs ys all.1

-- in a turn
abbrev KeptIn : (Conn → Type 0) → (Answered → Type 0) → List (Option Answered) → List Conn → Type 0
KeptIn P Gives ms news = Each P news × AllOf Gives (somes ms)

kept_here : {D : Type 0} (States : List ℕ → Option ℕ → Type 0) (Steps : D → Answered → D → Type 0)
    (P : Conn → Type 0) (Needs Gives : Answered → Type 0) → Keeps States P Needs Gives
    → (now : ℕ) (a : Answered) (old new : Conn) (d e : D)
    → TakesTurn States Steps now (Some a) old d new e
    → Needs a → P old → P new × Gives a
kept_here States Steps P Needs Gives keeps now a old new d e
    (whole, comes, ready, came, step, goes) needs has =
    let mid = moved States P Needs Gives keeps now old whole comes has in (
      moved States P Needs Gives keeps now (answered whole.more a.reply now) new goes
          (keeps.goes a whole.more now needs),
      keeps.tells whole a mid ready came,
    )

kept_turn : {D : Type 0} (States : List ℕ → Option ℕ → Type 0) (Steps : D → Answered → D → Type 0)
    (P : Conn → Type 0) (Needs Gives : Answered → Type 0) → Keeps States P Needs Gives
    → (now : ℕ) (ms : List (Option Answered)) (olds news : List Conn) (d e : D)
    → TakeTurns States Steps now ms olds d news e → AllOf Needs (somes ms) → Each P olds
    → KeptIn P Gives ms news
kept_turn States Steps P Needs Gives keeps now [] [] [] d e turns needs each = (tt, tt)
kept_turn States Steps P Needs Gives keeps now (None ∷ ms) (o ∷ olds) (w ∷ news) d e
    (mid, first, rest) needs each =
    let then = kept_turn States Steps P Needs Gives keeps now ms olds news mid e rest needs each.1 in
    ((moved States P Needs Gives keeps now o w first.0 each.0, then.0), then.1)
kept_turn States Steps P Needs Gives keeps now (Some a ∷ ms) (o ∷ olds) (w ∷ news) d e
    (mid, first, rest) needs each =
    let then = kept_turn States Steps P Needs Gives keeps now ms olds news mid e rest needs.1 each.1 in
    let this = kept_here States Steps P Needs Gives keeps now a o w d mid first needs.0 each.0 in
    ((this.0, then.0), (this.1, then.1))
kept_turn States Steps P Needs Gives keeps now [] [] (w ∷ news) d e never needs each = absurd never
kept_turn States Steps P Needs Gives keeps now [] (o ∷ olds) [] d e never needs each = absurd never
kept_turn States Steps P Needs Gives keeps now [] (o ∷ olds) (w ∷ news) d e never needs each =
    absurd never
kept_turn States Steps P Needs Gives keeps now (n ∷ ms) [] [] d e never needs each = absurd never
kept_turn States Steps P Needs Gives keeps now (n ∷ ms) [] (w ∷ news) d e never needs each = absurd never
kept_turn States Steps P Needs Gives keeps now (n ∷ ms) (o ∷ olds) [] d e never needs each = absurd never

each_set : (P : Conn → Type 0) (cs : List Conn) (place : ℕ) (c : Conn) → Each P cs → P c
    → Each P (set cs place c)
each_set P [] place c each this = tt
each_set P (x ∷ cs) zero c each this = (this, each.1)
each_set P (x ∷ cs) (suc place) c each this = (each.0, each_set P cs place c each.1 this)

kept_admits : (States : List ℕ → Option ℕ → Type 0) (P : Conn → Type 0) (Needs Gives : Answered → Type 0)
    → Keeps States P Needs Gives → (now : ℕ) (ps : List ℕ) (olds news : List Conn)
    → Admits now ps olds news → Each P olds → Each P news
kept_admits States P Needs Gives keeps now [] olds news same each =
    subst (λ (l : List Conn). Each P l) (sym same) each
kept_admits States P Needs Gives keeps now (p ∷ ps) olds news (gives, rest) each =
    kept_admits States P Needs Gives keeps now ps (set olds p (opened now)) news rest
    (each_set P olds p (opened now) each (keeps.begins now))

kept_all : {D : Type 0} (States : List ℕ → Option ℕ → Type 0)
    (Steps : D → Answered → D → Type 0) (shuts : D → Bool) (P : Conn → Type 0)
    (Needs Gives : Answered → Type 0) → Keeps States P Needs Gives → (most : ℕ) (ts : List Turn)
    (olds news : List Conn) (d e : D) → Serves States Steps shuts most ts olds d news e
    → AllOf Needs (answers ts) → Each P olds → Each P news × AllOf Gives (answers ts)
kept_all States Steps shuts P Needs Gives keeps most [] olds news d e (one, other) needs each =
    (subst (λ (l : List Conn). Each P l) (sym one) each, tt)
kept_all States Steps shuts P Needs Gives keeps most (t ∷ ts) olds news d e
    (mids, mid, (begun, admits, turns, done, none, all, pause, at, accepts, full, works), rest) needs each =
    let here = kept_admits States P Needs Gives keeps t.now t.places olds begun admits each in
    let turn =
    kept_turn States _ P Needs Gives keeps t.now t.answered begun mids d mid turns
    (all_first Needs (somes t.answered) (answers ts) needs) here in
    let then =
    kept_all States Steps shuts P Needs Gives keeps (most - length (somes t.answered)) ts mids news mid e rest
    (all_last Needs (somes t.answered) (answers ts) needs) turn.0 in
    (then.0, all_of_both Gives (somes t.answered) (answers ts) turn.1 then.1)

each_replicate : (P : Conn → Type 0) (n : ℕ) (c : Conn) → P c → Each P (replicate n c)
each_replicate P zero c this = tt
each_replicate P (suc n) c this = (this, each_replicate P n c this)

all_freely : (P : Answered → Type 0) → ((a : Answered) → P a) → (xs : List Answered) → AllOf P xs
all_freely P gives [] = tt
all_freely P gives (x ∷ xs) = (gives x, all_freely P gives xs)

-- ---- a message is a front of what came

-- it is over, or all that happened since it was opened is known
abbrev Lives : (List ℕ → Option ℕ → Type 0) → Conn → Type 0
Lives States c =
    (is_over c.phase ≡ true)
    ⊎ ((now : ℕ) × (es : List Event) × AreTold States (opened now) es × (c ≡ afters (opened now) es))

lives_moves : (States : List ℕ → Option ℕ → Type 0) (c : Conn) (es : List Event)
    → AreTold States c es → Lives States c → Lives States (afters c es)
lives_moves States c es told (inl over) = inl (over_stays c es over)
lives_moves States c es told (inr (now, before, first, is)) =
    inr (
      now,
      before ++ es,
      told_both States (opened now) before es first
          (subst (λ (x : Conn). AreTold States x es) is told),
      ap (λ (x : Conn). afters x es) is ∙ afters_both (opened now) before es,
    )

lives_tells : (States : List ℕ → Option ℕ → Type 0) (c : Conn) (a : Answered) → Lives States c → c.phase ≡ Ready
    → c.came ≡ a.message → IsHeard States a
lives_tells States c a (inl over) ready came =
    let other : is_over c.phase ≡ false = ap is_over ready in
    let no : false ≡ true = sym other ∙ over in
    let never : ⊥ = cc in absurd never
lives_tells States c a (inr (now, es, told, is)) ready came =
    let whole : (afters (opened now) es).phase ≡ Ready =
    sym (ap (λ (x : Conn). x.phase) is) ∙ ready in
    let this : (afters (opened now) es).came ≡ a.message =
    sym (ap (λ (x : Conn). x.came) is) ∙ came in
    let front = heard now es whole in
    (now, es, told, whole, this, (front.0, front.1 ∙ ap (λ (l : List ℕ). l ++ front.0) this))

lives : (States : List ℕ → Option ℕ → Type 0) → Keeps States (Lives States) (λ a. ⊤) (IsHeard States)
lives States = record {
  begins = λ now. inr (now, [], tt, refl);
  moves = lives_moves States;
  tells = lives_tells States;
  goes = λ a more now needs. inl refl;
}

pub all_heard : {D : Type 0} (States : List ℕ → Option ℕ → Type 0)
    (Steps : D → Answered → D → Type 0) (shuts : D → Bool) (places most : ℕ)
    (ts : List Turn) (news : List Conn) (d e : D)
    → Serves States Steps shuts most ts (replicate places closed) d news e
    → AllOf (IsHeard States) (answers ts)
all_heard States Steps shuts places most ts news d e serves =
    (kept_all States Steps shuts (Lives States) (λ a. ⊤) (IsHeard States) (lives States) most ts
    (replicate places closed) news d e serves (all_freely (λ a. ⊤) (λ a. tt) (answers ts))
    (each_replicate (Lives States) places closed (inl refl))).1

-- ---- memory

abbrev HoldsFew : ℕ → ℕ → Conn → Type 0
HoldsFew limit most c = IsBounded limit c × (length c.left ≤ most)

few_moves : (limit most : ℕ) (States : List ℕ → Option ℕ → Type 0) → StatesAtMost limit States → (c : Conn)
    (es : List Event) → AreTold States c es → HoldsFew limit most c
    → HoldsFew limit most (afters c es)
few_moves limit most States little c es told few =
    let less = left_always c es in
    (bounded_always limit States c es little told few.0, omega (arith, less, few.1))

fews : (limit most : ℕ) (States : List ℕ → Option ℕ → Type 0) → StatesAtMost limit States
    → Keeps States (HoldsFew limit most) (IsAtMost most) (λ a. ⊤)
fews limit most States little = record {
  begins = λ now. (omega arith, omega arith);
  moves = few_moves limit most States little;
  tells = λ c a few ready came. tt;
  goes = λ a more now few. (refl, few);
}

one_more_held : (came left rest n limit most : ℕ) → came ≤ 8192 + limit → left ≤ most
    → rest ≤ n * (8192 + limit + most) → came + left + rest ≤ suc n * (8192 + limit + most)
one_more_held came left rest n limit most few less more = grind arith

held_few : (limit most : ℕ) (cs : List Conn) → Each (HoldsFew limit most) cs
    → held cs ≤ length cs * (8192 + limit + most)
held_few limit most [] each = omega arith
held_few limit most (c ∷ cs) each =
    let rest = held_few limit most cs each.1 in
    let came = bounded_few limit c each.0.0 in
    one_more_held (length c.came) (length c.left) (held cs) (length cs) limit most came each.0.1 rest

length_turn : {D : Type 0} (States : List ℕ → Option ℕ → Type 0)
    (Steps : D → Answered → D → Type 0) (now : ℕ) (ms : List (Option Answered))
    (olds news : List Conn) (d e : D) → TakeTurns States Steps now ms olds d news e
    → length news ≡ length olds
length_turn States Steps now [] [] [] d e turns = refl
length_turn States Steps now (m ∷ ms) (o ∷ olds) (w ∷ news) d e (mid, first, rest) =
    ap (λ (n : ℕ). suc n) (length_turn States Steps now ms olds news mid e rest)
length_turn States Steps now [] [] (w ∷ news) d e never = absurd never
length_turn States Steps now [] (o ∷ olds) [] d e never = absurd never
length_turn States Steps now [] (o ∷ olds) (w ∷ news) d e never = absurd never
length_turn States Steps now (n ∷ ms) [] [] d e never = absurd never
length_turn States Steps now (n ∷ ms) [] (w ∷ news) d e never = absurd never
length_turn States Steps now (n ∷ ms) (o ∷ olds) [] d e never = absurd never

length_admits : (now : ℕ) (ps : List ℕ) (olds news : List Conn) → Admits now ps olds news
    → length news ≡ length olds
length_admits now [] olds news same = ap (λ (l : List Conn). length l) same
length_admits now (p ∷ ps) olds news (gives, rest) =
    length_admits now ps (set olds p (opened now)) news rest ∙ length-set olds p (opened now)

length_serves : {D : Type 0} (States : List ℕ → Option ℕ → Type 0)
    (Steps : D → Answered → D → Type 0) (shuts : D → Bool) (most : ℕ) (ts : List Turn)
    (olds news : List Conn) (d e : D) → Serves States Steps shuts most ts olds d news e
    → length news ≡ length olds
length_serves States Steps shuts most [] olds news d e (one, other) =
    ap (λ (l : List Conn). length l) one
length_serves States Steps shuts most (t ∷ ts) olds news d e
    (mids, mid, (begun, admits, turns, done, none, all, pause, at, accepts, full, works), rest) =
    length_serves States Steps shuts (most - length (somes t.answered)) ts mids news mid e rest
    ∙ length_turn States _ t.now t.answered begun mids d mid turns
    ∙ length_admits t.now t.places olds begun admits

pub few_held : {D : Type 0} (States : List ℕ → Option ℕ → Type 0)
    (Steps : D → Answered → D → Type 0) (shuts : D → Bool) (limit places most bytes : ℕ)
    (ts : List Turn) (news : List Conn) (d e : D) → StatesAtMost limit States
    → Serves States Steps shuts most ts (replicate places closed) d news e
    → AllOf (IsAtMost bytes) (answers ts) → held news ≤ places * (8192 + limit + bytes)
few_held States Steps shuts limit places most bytes ts news d e little serves few =
    let each =
    (kept_all States Steps shuts (HoldsFew limit bytes) (IsAtMost bytes) (λ a. ⊤)
    (fews limit bytes States little) most ts (replicate places closed) news d e serves few
    (each_replicate (HoldsFew limit bytes) places closed (refl, omega arith))).0 in
    let count : length news ≡ places =
    length_serves States Steps shuts most ts (replicate places closed) news d e serves
    ∙ length-replicate places closed in
    subst (λ (n : ℕ). held news ≤ n * (8192 + limit + bytes)) count (held_few limit bytes news each)
