use Rattle.std.proofs.Common.{◌≡◌, ◌<◌, ◌+◌, ℕ, List, [], ◌∷◌, ◌++◌, length, map, take, get_or}
use Rattle.std.proofs.Common.{arith, ap, sym, subst, ◌∙◌}
use Rattle.std.proofs.lemmas.List.{map-append, take_more}
use Rattle.clap.specs.Words.{Rule}
use Rattle.desk_forms.specs.Kinds.{argument_of}
use Rattle.desk_words.specs.Line.{Is, rule, ruled}
use Rattle.desk_forms.specs.declared.kinds.Arg.{Arg}
use Rattle.desk_words.proofs.line.subcommand.Goals as goal

abbrev rules : List Arg → List Rule
rules args = map rule (map argument_of args)

one_more : (args : List Arg) (i : ℕ) (d : Arg) → i < length args
    → rules (take (i + 1) args) ≡ rules (take i args) ++ rule (argument_of (get_or args i d)) ∷ []
one_more args i d within =
    ap rules (take_more args i d within)
    ∙ ap (map rule) (map-append argument_of (take i args) (get_or args i d ∷ []))
    ∙ map-append rule (map argument_of (take i args)) (argument_of (get_or args i d) ∷ [])

pub loop-arg-preserved : goal.loop-arg-preserved
loop-arg-preserved c =
    let within : c.loop-arg.arg-index < length c.args_of-args.result.now = omega arith in
    subst (λ (rs : List Rule). Is (ruled c.args.row.0.now rs) c.in_ok-command.command)
    (sym (one_more c.args_of-args.result.now c.loop-arg.arg-index _ within))
    (c.in_ok-command.ensures _ _ c.loop-arg.invariant c.argument.ensures.rule)
