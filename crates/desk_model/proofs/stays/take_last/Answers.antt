use Rattle.std.proofs.Common.{◌≡◌, length, arith}
use Rattle.std.proofs.lemmas.Grind.{common_steps}
use Rattle.desk_model.proofs.StayLemmas.{last_taken}
use Rattle.desk_model.proofs.stays.take_last.Goals as goal

-- the last stay is taken
pub returns : goal.returns
returns c = λ entries.
    last_taken c.args.stays.now.items c.pop.new.self.items c.pop.result entries
    c.pop.ensures.items
    (λ none.
    let both = rw none at c.pop.ensures.cases in
    let empty : length c.pop.new.self.items ≡ 0 = grind (arith, common_steps, both.1) in
    empty)
