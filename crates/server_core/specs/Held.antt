-- What is held of connections, and what the answered messages are.
use Rattle.std.specs.Prelude.{◌≡◌, ◌≤◌, ◌+◌, ℕ, List, [], ◌∷◌, Option, length, ⊤}
use Rattle.connection_core.specs.Machine.{AreTold, Conn, Event, afters, opened}
use Rattle.connection_core.specs.Laws.{IsFront, sent_by}
use Rattle.connection_core.specs.declared.phase.Phase.TheVariants.{Ready}
use Rattle.server_core.specs.Turns.{Answered}

abbrev pub AllOf : (Answered → Type 0) → List Answered → Type 0
AllOf P [] = ⊤
AllOf P (a ∷ rest) = P a × AllOf P rest

-- the message is whole after some events of a connection that was opened, in which its head states
-- what it is told to, and it is a front of the bytes that came in them
abbrev pub IsHeard : (List ℕ → Option ℕ → Type 0) → Answered → Type 0
IsHeard States a =
    (now : ℕ) × (es : List Event) × AreTold States (opened now) es
    × ((afters (opened now) es).phase ≡ Ready)
    × ((afters (opened now) es).came ≡ a.message) × IsFront a.message (sent_by es)

-- the reply has at most so many bytes
abbrev pub IsAtMost : ℕ → Answered → Type 0
IsAtMost most a = length a.reply ≤ most

-- how many bytes of messages and of replies are held
abbrev pub held : List Conn → ℕ
held [] = 0
held (c ∷ cs) = length c.came + length c.left + held cs
