-- the words are nine, and each part is what it is of the whole
use Rattle.std.proofs.Common.{◌∙◌, rules}
use Rattle.desk_program.proofs.Served.{served_as}
use Rattle.desk_program.proofs.options.serving_of.Goals as goal

pub returns : goal.returns
returns c =
    c.serving_with.ensures
    ∙ served_as c.args.words.now _ _ (search rules) (search rules) (search rules) (search rules)
