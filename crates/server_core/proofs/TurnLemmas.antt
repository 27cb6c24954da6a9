-- A turn of a connection, from its parts.
use Rattle.std.proofs.Common.{◌≡◌, ◌≢◌, ◌∙◌, inl, inr, ℕ, Bool, true, false, List, [], ◌∷◌, ◌++◌}
use Rattle.std.proofs.Common.{Option, Some, None, refl, ap, sym, subst, cond, is_some, length, nat_le, arith}
use Rattle.connection_core.specs.Machine.{AreTold, Conn, Event, Broke, Passed, Settled, after, afters, answered}
use Rattle.connection_core.specs.Machine.{closed, passed, settled, settled_in}
use Rattle.connection_core.specs.Laws.{is_over}
use Rattle.connection_core.proofs.ConnectionLemmas.{over_stays}
use Rattle.connection_core.specs.declared.phase.Phase.{Phase}
use Rattle.connection_core.specs.declared.phase.Phase.TheVariants.{Reading, Ready, Writing, Lingering, Closed}
use Rattle.server_core.specs.Host.{Line, TellsLine, Told}
use Rattle.server_core.specs.Turns.{Answered, AreAt, IsDone, IsInTime, IsSettled, Moves, TakesTurn}
use Rattle.server_core.specs.Turns.{TellsLines, line_of}

-- ---- events, one after the other

pub afters_both : (c : Conn) (xs ys : List Event)
    → afters (afters c xs) ys ≡ afters c (xs ++ ys)
afters_both c [] ys = refl
afters_both c (x ∷ xs) ys = afters_both (after c x) xs ys

at_both : (now : ℕ) (xs ys : List Event) → AreAt now xs → AreAt now ys → AreAt now (xs ++ ys)
at_both now [] ys one other = other
at_both now (x ∷ xs) ys one other = (one.0, at_both now xs ys one.1 other)

pub told_both : (States : List ℕ → Option ℕ → Type 0) (c : Conn) (xs ys : List Event)
    → AreTold States c xs → AreTold States (afters c xs) ys → AreTold States c (xs ++ ys)
told_both States c [] ys one other = other
told_both States c (x ∷ xs) ys one other =
    (one.0, told_both States (after c x) xs ys one.1 other)

pub moves_none : (States : List ℕ → Option ℕ → Type 0) (now : ℕ) (c d : Conn) → d ≡ c
    → Moves States now c d
moves_none States now c d same = ([], tt, tt, same)

pub moves_both : (States : List ℕ → Option ℕ → Type 0) (now : ℕ) (a b c : Conn)
    → Moves States now a b → Moves States now b c → Moves States now a c
moves_both States now a b c (xs, at, told, first) (ys, then, tells, second) = (
  xs ++ ys,
  at_both now xs ys at then,
  told_both States a xs ys told (subst (λ (x : Conn). AreTold States x ys) first tells),
  second ∙ ap (λ (x : Conn). afters x ys) first ∙ afters_both a xs ys,
)

pub moves_closed : (States : List ℕ → Option ℕ → Type 0) (now : ℕ) (a b : Conn) → b ≡ closed
    → Moves States now a b
moves_closed States now a b is = (Broke ∷ [], (tt, tt), (tt, tt), is)

pub moves_passed : (States : List ℕ → Option ℕ → Type 0) (now : ℕ) (a b : Conn) → b ≡ passed a now
    → Moves States now a b
moves_passed States now a b is = (Passed now ∷ [], (refl, tt), (tt, tt), is)

pub moves_settled : (States : List ℕ → Option ℕ → Type 0) (now : ℕ) (a b c : Conn)
    → Moves States now a b → c ≡ settled b → Moves States now a c
moves_settled States now a b c moves is =
    moves_both States now a b c moves (Settled ∷ [], (tt, tt), (tt, tt), is)

-- ---- a turn

pub turn_quiet : {D : Type 0} (States : List ℕ → Option ℕ → Type 0)
    (Steps : D → Answered → D → Type 0) (now : ℕ) (a b : Conn) (desk next : D) (r : Bool)
    → Moves States now a b → next ≡ desk → r ≡ false
    → (m : Option Answered) × (is_some m ≡ r) × TakesTurn States Steps now m a desk b next
turn_quiet States Steps now a b desk next r moves same none = (None, sym none, (moves, same))

pub turn_answered : {D : Type 0} (States : List ℕ → Option ℕ → Type 0)
    (Steps : D → Answered → D → Type 0) (now : ℕ) (a b : Conn) (desk next : D) (r : Bool)
    (answered_so : Answered) → a.phase ≡ Ready → a.came ≡ answered_so.message
    → Steps desk answered_so next → b ≡ answered a.more answered_so.reply now → r ≡ true
    → (m : Option Answered) × (is_some m ≡ r) × TakesTurn States Steps now m a desk b next
turn_answered States Steps now a b desk next r m ready came step is some =
    (Some m, sym some, (a, ([], tt, tt, refl), ready, came, step, ([], tt, tt, is)))

turn_with : {D : Type 0} (States : List ℕ → Option ℕ → Type 0)
    (Steps : D → Answered → D → Type 0) (now : ℕ) (m : Option Answered) (a b c d : Conn)
    (desk next : D) → Moves States now a b → TakesTurn States Steps now m b desk c next
    → Moves States now c d → TakesTurn States Steps now m a desk d next
turn_with States Steps now None a b c d desk next before turn behind =
    (moves_both States now a b d before (moves_both States now b c d turn.0 behind), turn.1)
turn_with States Steps now (Some m) a b c d desk next before
    (whole, comes, ready, came, step, goes) behind = (
      whole,
      moves_both States now a b whole before comes,
      ready,
      came,
      step,
      moves_both States now (answered whole.more m.reply now) c d goes behind,
    )

pub turn_within : {D : Type 0} (States : List ℕ → Option ℕ → Type 0)
    (Steps : D → Answered → D → Type 0) (now : ℕ) (a b c d : Conn) (desk next : D)
    (r : Bool) → Moves States now a b → Moves States now c d
    → (m : Option Answered) × (is_some m ≡ r) × TakesTurn States Steps now m b desk c next
    → (m : Option Answered) × (is_some m ≡ r) × TakesTurn States Steps now m a desk d next
turn_within States Steps now a b c d desk next r before behind (m, told, turn) =
    (m, told, turn_with States Steps now m a b c d desk next before turn behind)

-- ---- phases

over_unready : (p : Phase) → is_over p ≡ true → p ≢ Ready
over_unready p over ready = let no : false ≡ true = sym (ap is_over ready) ∙ over in cc

over_moves : (States : List ℕ → Option ℕ → Type 0) (now : ℕ) (a b : Conn) → Moves States now a b
    → is_over a.phase ≡ true → is_over b.phase ≡ true
over_moves States now a b (es, at, told, is) over =
    ap (λ (x : Conn). is_over x.phase) is ∙ over_stays a es over

pub writing_unready : (States : List ℕ → Option ℕ → Type 0) (now : ℕ) (a b : Conn) → a.phase ≡ Writing
    → Moves States now a b → b.phase ≢ Ready
writing_unready States now a b writing moves =
    over_unready b.phase (over_moves States now a b moves (ap is_over writing))

over_either : (b : Bool) (c : Conn) → is_over c.phase ≡ true → is_over (cond b c closed).phase ≡ true
over_either true c over = over
over_either false c over = refl

settled_test : (b : Bool) (c : Conn) → c.more ≡ b → IsSettled (cond b c closed)
settled_test true c more lingers = more
settled_test false c more lingers = let no : Closed ≡ Lingering = lingers in cc

over_settled : (p : Phase) (c : Conn) → c.phase ≡ p → is_over p ≡ true
    → is_over (settled_in p c).phase ≡ true
over_settled (Reading part) c is over = let no : false ≡ true = over in cc
over_settled Ready c is over = let no : false ≡ true = over in cc
over_settled Writing c is over = ap is_over is
over_settled Lingering c is over = over_either c.more c (ap is_over is)
over_settled Closed c is over = ap is_over is

-- one that lingers and is settled isn't ready
pub settled_unready : (States : List ℕ → Option ℕ → Type 0) (now : ℕ) (a b c : Conn) → a.phase ≡ Lingering
    → Moves States now a b → c ≡ settled b → c.phase ≢ Ready
settled_unready States now a b c lingers moves is =
    let over = over_moves States now a b moves (ap is_over lingers) in
    over_unready c.phase
    (ap (λ (x : Conn). is_over x.phase) is ∙ over_settled b.phase b refl over)

-- one that is settled lingers only where there is cause
settled_by : (p : Phase) (c : Conn) → c.phase ≡ p → IsSettled (settled_in p c)
settled_by (Reading part) c is lingers = let no : Reading part ≡ Lingering = sym is ∙ lingers in cc
settled_by Ready c is lingers = let no : Ready ≡ Lingering = sym is ∙ lingers in cc
settled_by Writing c is lingers = let no : Writing ≡ Lingering = sym is ∙ lingers in cc
settled_by Lingering c is lingers = settled_test c.more c refl lingers
settled_by Closed c is lingers = let no : Closed ≡ Lingering = sym is ∙ lingers in cc

pub settled_settled : (b c : Conn) → c ≡ settled b → IsSettled c
settled_settled b c is =
    subst (λ (x : Conn). IsSettled x) (sym is) (settled_by b.phase b refl)

passed_settled_by : (b : Bool) (c : Conn) → IsSettled c → IsSettled (cond b closed c)
passed_settled_by true c settled lingers = let no : Closed ≡ Lingering = lingers in cc
passed_settled_by false c settled lingers = settled lingers

pub passed_settled : (a b : Conn) (now : ℕ) → b ≡ passed a now → IsSettled a → IsSettled b
passed_settled a b now is settled =
    subst (λ (x : Conn). IsSettled x) (sym is)
    (passed_settled_by (nat_le a.deadline now) a settled)

unready_cond : (b : Bool) (x y : Conn) → x.phase ≢ Ready → y.phase ≢ Ready
    → (cond b x y).phase ≢ Ready
unready_cond true x y one other = one
unready_cond false x y one other = other

pub passed_unready : (a b : Conn) (now : ℕ) → b ≡ passed a now → a.phase ≢ Ready
    → b.phase ≢ Ready
passed_unready a b now is unready =
    subst (λ (x : Conn). x.phase ≢ Ready) (sym is)
    (unready_cond (nat_le a.deadline now) closed a (λ ready. let no : Closed ≡ Ready = ready in cc)
    unready)

in_time_by : (b : Bool) (c : Conn) (now : ℕ) → nat_le c.deadline now ≡ b
    → IsInTime now (cond b closed c)
in_time_by true c now test = inl refl
in_time_by false c now test = inr (grind arith)

pub passed_in_time : (a b : Conn) (now : ℕ) → b ≡ passed a now → IsInTime now b
passed_in_time a b now is =
    subst (λ (x : Conn). IsInTime now x) (sym is) (in_time_by (nat_le a.deadline now) a now refl)

pub passed_done : (a b : Conn) (now : ℕ) → b ≡ passed a now → IsSettled a → IsDone now b
passed_done a b now is settled = (passed_in_time a b now is, passed_settled a b now is settled)

-- the host told nothing between
pub turn_told : {D T : Type 0} (States : List ℕ → Option ℕ → Type 0)
    (Steps : D × T → Answered → D × T → Type 0) (now : ℕ) (a b : Conn) (desk next : D)
    (told tells same : T) (r : Bool) → same ≡ tells
    → (m : Option Answered) × (is_some m ≡ r)
    × TakesTurn States Steps now m a (desk, told) b (next, tells)
    → (m : Option Answered) × (is_some m ≡ r)
    × TakesTurn States Steps now m a (desk, told) b (next, same)
turn_told {D} {T} States Steps now a b desk next told tells same r is turn =
    subst (λ (t : T). (m : Option Answered) × (is_some m ≡ r)
    × TakesTurn States Steps now m a (desk, told) b (next, t)) (sym is) turn

-- it told nothing before
pub turn_begins : {D T : Type 0} (States : List ℕ → Option ℕ → Type 0)
    (Steps : D × T → Answered → D × T → Type 0) (now : ℕ) (a b : Conn) (desk next : D)
    (told same tells : T) (r : Bool) → same ≡ told
    → (m : Option Answered) × (is_some m ≡ r)
    × TakesTurn States Steps now m a (desk, same) b (next, tells)
    → (m : Option Answered) × (is_some m ≡ r)
    × TakesTurn States Steps now m a (desk, told) b (next, tells)
turn_begins {D} {T} States Steps now a b desk next told same tells r is turn =
    subst (λ (t : T). (m : Option Answered) × (is_some m ≡ r)
    × TakesTurn States Steps now m a (desk, t) b (next, tells)) is turn

abbrev mk : ℕ → List ℕ → ℕ → Line
mk minute note bytes = record { minute = minute; note = note; bytes = bytes }

-- the line of a message is that of what was answered
pub told_line : (old one two new : Told) (note bytes : List ℕ) (m : Answered) → one ≡ old → two ≡ one
    → note ≡ m.note → bytes ≡ m.reply
    → TellsLine two new (record { minute = m.at; note = note; bytes = length bytes })
    → TellsLines old new (m ∷ [])
told_line old one two new note bytes m first second same long told =
    let line : (record { minute = m.at; note = note; bytes = length bytes }) ≡ line_of m =
    ap (λ (l : List ℕ). mk m.at l (length bytes)) same
    ∙ ap (λ (l : List ℕ). mk m.at m.note (length l)) long in
    subst (λ (t : Told). TellsLine t new (line_of m)) (second ∙ first)
    (subst (λ (l : Line). TellsLine two new l) line told)
