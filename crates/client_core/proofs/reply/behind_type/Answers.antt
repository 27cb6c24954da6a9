-- what is left is a slice up to the end
use Rattle.std.proofs.Common.{◌∙◌, ◌-◌, ap, arith, drop, length, length-drop}
use Rattle.std.proofs.lemmas.List.{take_all}
use Rattle.client_core.proofs.reply.behind_type.Goals as goal

pub returns-else-rest-lt-TO_LENGTH : goal.returns-else-rest-lt-TO_LENGTH
returns-else-rest-lt-TO_LENGTH c =
    let rest = c.from_return-rest.result.now in
    take_all (length rest - 59) (drop 59 rest) (omega (arith, length-drop 59 rest))
    ∙ ap (drop 59) c.from_return-rest.ensures
