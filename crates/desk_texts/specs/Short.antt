-- Which answers are short: their texts have at most 64 bytes.
use Rattle.std.specs.Prelude.{Bool, true, false, Ok, Err}
use Rattle.desk_model.specs.Step.{Outcome}
use Rattle.desk_model.specs.declared.answer.Answer.TheVariants.{Done, Created}

-- what a command that changes the desk answers, or a refusal
abbrev pub is_short : Outcome → Bool
is_short (Ok Done) = true
is_short (Ok (Created id)) = true
is_short (Ok other) = false
is_short (Err refusal) = true
