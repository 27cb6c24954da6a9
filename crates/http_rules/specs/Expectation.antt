-- A message that expects something before its body is sent.
use Rattle.std.specs.Prelude.{◌≡◌, ◌==◌, ◌&&◌, ◌⊎◌, ℕ, Bool, true, false, List, [], codes}
use Rattle.std.specs.Prelude.{Option, None, is_some}
use Rattle.httparse.specs.Grammar.{RequestHead}
use Rattle.message_core.specs.Head.{StartsWith}
use Rattle.message_core.specs.Request.{value_in}
use Rattle.message_core.specs.Stated.{States}
use Rattle.message_core.specs.declared.limits.BodyLimit.TheVariants.{ByPlace}
use Rattle.message_core.specs.declared.reply.Reply.{Reply}

-- it is of HTTP/1.1, and has a line `Expect`
abbrev pub expects : RequestHead → Bool
expects h = (h.minor == 1) && is_some (value_in h (codes "Expect"))

-- the bytes are such a head, and nothing else
abbrev pub IsExpecting : List ℕ → Type 0
IsExpecting bytes = (h : RequestHead) × StartsWith bytes h [] × (expects h ≡ true)

-- What a head says of the bytes that follow it: nothing, where something is expected before they
-- are sent; and else as many as its lines state.
abbrev pub StatesByRules : List ℕ → Option ℕ → Type 0
StatesByRules head said =
    (IsExpecting head × (said ≡ None)) ⊎ (¬ (IsExpecting head) × States ByPlace head said)

-- nothing is done that is expected, and no body is waited for
abbrev pub expectation_failed : Reply
expectation_failed =
    record { status = 417; allow = None; body = codes "expectation failed\n"; head_only = false }
