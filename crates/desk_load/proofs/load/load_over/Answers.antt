use Rattle.desk_load.proofs.load.load_over.Goals as goal

pub returns-in-Err-clause-told : goal.returns-in-Err-clause-told
returns-in-Err-clause-told g c = λ none. rw c.adopt.ensures at c.in-Err.ensures.told
