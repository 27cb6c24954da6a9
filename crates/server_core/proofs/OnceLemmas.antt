-- A connection is answered at most once.
use Rattle.std.proofs.Common.{◌≡◌, ◌≢◌, ◌∙◌, ◌⊎◌, inl, inr, ◌≤◌, ◌+◌, ◌-◌, length, ℕ, zero, suc, Bool, true, false, List, []}
use Rattle.std.proofs.Common.{◌∷◌, Option, Some, None, refl, ap, sym, get_or, set, arith}
use Rattle.std.proofs.Common.{get_or-set_other}
use Rattle.connection_core.specs.Machine.{Conn, answered, closed, opened}
use Rattle.connection_core.specs.Laws.{is_over}
use Rattle.connection_core.proofs.ConnectionLemmas.{over_stays}
use Rattle.server_core.specs.AtPlace.{IsNotAmong, KeepsPlace, answered_at, answers_at, counts}
use Rattle.server_core.specs.Served.{Admits, Serves, Turn}
use Rattle.server_core.specs.Turns.{Answered, Moves, TakesTurn, TakeTurns, at_minute, somes}

abbrev over_at : ℕ → List Conn → Bool
over_at place cs = is_over (get_or cs place closed).phase

over_moves : (States : List ℕ → Option ℕ → Type 0) (now : ℕ) (a b : Conn) → Moves States now a b → is_over a.phase ≡ true
    → is_over b.phase ≡ true
over_moves States now a b (es, at, told, is) over =
    ap (λ (x : Conn). is_over x.phase) is ∙ over_stays a es over

-- what a turn does to one that is over, and to any
abbrev Once : ℕ → Bool → Bool → Type 0
Once n old new =
    ((old ≡ true) → (n ≡ 0) × (new ≡ true)) × ((n ≡ 0) ⊎ ((n ≡ 1) × (new ≡ true)))

once_here : {D : Type 0} (States : List ℕ → Option ℕ → Type 0) (Steps : D → Answered → D → Type 0)
    (now : ℕ) (m : Option Answered) (old new : Conn) (d e : D)
    → TakesTurn States Steps now m old d new e
    → Once (counts m) (is_over old.phase) (is_over new.phase)
once_here States Steps now None old new d e (moves, same) =
    (λ over. (refl, over_moves States now old new moves over), inl refl)
once_here States Steps now (Some a) old new d e (whole, comes, ready, came, step, goes) =
    let after = over_moves States now (answered whole.more a.reply now) new goes refl in (
      λ over.
          let first : is_over whole.phase ≡ true = over_moves States now old whole comes over in
          let other : is_over whole.phase ≡ false = ap is_over ready in
          let never : false ≡ true = sym other ∙ first in
          let none : counts (Some a) ≡ 0 = cc in (none, after),
      inr (refl, after),
    )

once_turn : {D : Type 0} (States : List ℕ → Option ℕ → Type 0) (Steps : D → Answered → D → Type 0)
    (now place : ℕ) (ms : List (Option Answered)) (olds news : List Conn) (d e : D)
    → TakeTurns States Steps now ms olds d news e
    → Once (answered_at place ms) (over_at place olds) (over_at place news)
once_turn States Steps now place [] [] [] d e turns = (λ over. (refl, over), inl refl)
once_turn States Steps now zero (m ∷ ms) (o ∷ olds) (w ∷ news) d e (mid, first, rest) =
    once_here States Steps now m o w d mid first
once_turn States Steps now (suc place) (m ∷ ms) (o ∷ olds) (w ∷ news) d e (mid, first, rest) =
    once_turn States Steps now place ms olds news mid e rest
once_turn States Steps now place [] [] (w ∷ news) d e never = absurd never
once_turn States Steps now place [] (o ∷ olds) [] d e never = absurd never
once_turn States Steps now place [] (o ∷ olds) (w ∷ news) d e never = absurd never
once_turn States Steps now place (n ∷ ms) [] [] d e never = absurd never
once_turn States Steps now place (n ∷ ms) [] (w ∷ news) d e never = absurd never
once_turn States Steps now place (n ∷ ms) (o ∷ olds) [] d e never = absurd never

other_admits : (now place : ℕ) (ps : List ℕ) (olds news : List Conn) → Admits now ps olds news
    → IsNotAmong place ps → over_at place news ≡ over_at place olds
other_admits now place [] olds news same not = ap (over_at place) same
other_admits now place (p ∷ ps) olds news (gives, rest) (other, not) =
    let ne : place ≢ p = λ same. other (sym same) in
    other_admits now place ps (set olds p (opened now)) news rest not
    ∙ ap (λ (c : Conn). is_over c.phase)
    (get_or-set_other olds p place (opened now) closed ne)

one_at_most : (n more : ℕ) (mid : Bool) → (n ≡ 0) ⊎ ((n ≡ 1) × (mid ≡ true))
    → (mid ≡ true → more ≡ 0) → more ≤ 1 → n + more ≤ 1
one_at_most n more mid (inl none) over few = omega (arith, none, few)
one_at_most n more mid (inr (one, is)) over few =
    let none = over is in omega (arith, one, none)

once_all : {D : Type 0} (States : List ℕ → Option ℕ → Type 0)
    (Steps : D → Answered → D → Type 0) (shuts : D → Bool) (place most : ℕ)
    (ts : List Turn) (olds news : List Conn) (d e : D)
    → Serves States Steps shuts most ts olds d news e → KeepsPlace place ts
    → (over_at place olds ≡ true → answers_at place ts ≡ 0) × (answers_at place ts ≤ 1)
once_all States Steps shuts place most [] olds news d e serves keeps = (λ over. refl, omega arith)
once_all States Steps shuts place most (t ∷ ts) olds news d e
    (mids, mid, (begun, admits, turns, done, none, all, pause, at, accepts, full, works), rest) (other, keeps) =
    let then = once_all States Steps shuts place (most - length (somes t.answered)) ts mids news mid e rest keeps in
    let same = other_admits t.now place t.places olds begun admits other in
    let turn =
    once_turn States (at_minute t.minute Steps) t.now place t.answered begun mids d mid turns in (
      λ over.
          let this = turn.0 (same ∙ over) in
          let none = this.0 in
          let later = then.0 this.1 in
          omega (arith, none, later),
      one_at_most (answered_at place t.answered) (answers_at place ts) (over_at place mids) turn.1
          then.0 then.1,
    )

pub once_at : {D : Type 0} (States : List ℕ → Option ℕ → Type 0)
    (Steps : D → Answered → D → Type 0) (shuts : D → Bool) (place most : ℕ)
    (ts : List Turn) (olds news : List Conn) (d e : D)
    → Serves States Steps shuts most ts olds d news e → KeepsPlace place ts
    → answers_at place ts ≤ 1
once_at States Steps shuts place most ts olds news d e serves keeps =
    (once_all States Steps shuts place most ts olds news d e serves keeps).1
