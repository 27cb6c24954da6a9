-- A limit on the steps of each statement of a store.
use Rattle.std.specs.Prelude.{◌≡◌, ℕ, Option, max}
use Rattle.std.specs.Option.{option_map}
use Rattle.sqlite.specs.Held.{Held}
use Rattle.sqlite.specs.State.{State}
use Rattle.store_tables.specs.Calls.{AreLeft, WasClean}

-- no step counts as one
abbrev pub steps_of : Option ℕ → Option ℕ
steps_of limit = option_map (λ n. max n 1) limit

-- the same connection under that limit
abbrev pub limited : {S : Type 0} → Option ℕ → Held S → Held S
limited limit conn = record conn { step_limit = steps_of limit }

-- Nothing but the limit is another: the tables are left, and the connection as it was.
pub record OnlyLimits (old new : State) : Type 0 where
  pub clean : WasClean old new
  pub faults : new.faults ≡ old.faults
  pub live : new.is_open ≡ old.is_open
  pub left : AreLeft old new
