-- An argument of a command.
use Rattle.std.specs.Prelude.{ℕ, List}
use Rattle.desk_forms.specs.declared.kinds.Arg.{Arg}
use Rattle.desk_forms.specs.declared.kinds.Kind.{Kind}

-- its key, and what stands there
pub record Argument : Type 0 where
  pub key : List ℕ
  pub kind : Kind

abbrev pub is : List ℕ → Kind → Argument
is k kind = record { key = k; kind = kind }

-- an argument as the code holds it
abbrev pub argument_of : Arg → Argument
argument_of a = is a.0.now a.1
