-- What was given for a command, by the keys of its arguments.
use Rattle.std.specs.Prelude.{ℕ, Bool, List, Option}

-- what stands at a key: the request or the queue that is meant, another number, a text, a text that
-- may be left out, texts, or a sign that is set
pub record ArgumentSource : Type 0 where
  pub id : List ℕ → Option ℕ
  pub queue : List ℕ → Option (List ℕ)
  pub number : List ℕ → Option ℕ
  pub text : List ℕ → Option (List ℕ)
  pub maybe : List ℕ → Option (Option (List ℕ))
  pub texts : List ℕ → Option (List (List ℕ))
  pub is_set : List ℕ → Bool
