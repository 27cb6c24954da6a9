-- All that is told of a request at once: what is shown of it, its history, and its queue.
use Rattle.std.specs.Prelude.{◌≡◌, Some, Result, Ok, Err}
use Rattle.desk_model.specs.Desk.{Desk, queue_at}
use Rattle.desk_model.specs.Step.{Outcome}
use Rattle.desk_model.specs.declared.answer.Answer.TheVariants.{Shown, History}
use Rattle.desk_model.specs.declared.answer.Dossier.{Dossier}
use Rattle.desk_model.specs.declared.refusal.Refusal.{Refusal}

-- what comes of a dossier or its refusal as the outcome of `show`
abbrev pub shown_in : Result Dossier Refusal → Outcome
shown_in (Ok dossier) = Ok (Shown dossier.shown)
shown_in (Err refusal) = Err refusal

-- and as the outcome of `history`
abbrev pub history_in : Result Dossier Refusal → Outcome
history_in (Ok dossier) = Ok (History dossier.entries)
history_in (Err refusal) = Err refusal

-- its queue is that of the request on the desk
abbrev pub IsOfQueue : Dossier → Desk → Type 0
IsOfQueue dossier desk = queue_at desk dossier.shown.row.queue ≡ Some dossier.queue
