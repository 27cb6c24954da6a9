use Rattle.std.proofs.Common.{◌≡◌, ◌<◌, ◌+◌, ℕ, List, length, drop, fold, get_or, map, arith, ap}
use Rattle.std.proofs.Common.{sym, ◌∙◌}
use Rattle.std.proofs.lemmas.List.{drop_more}
use Rattle.clap.specs.Words.{App}
use Rattle.desk_words.specs.Line.{with_row}
use Rattle.desk_forms.specs.Words.{word_of}
use Rattle.desk_forms.specs.declared.words.Word.{Word}
use Rattle.desk_words.proofs.line.line_of.Goals as goal

one_more : (a : App) (rows : List Word) (i : ℕ) (d : Word) → i < length rows
    → fold with_row a (map word_of (drop i rows))
    ≡ fold with_row (with_row a (word_of (get_or rows i d))) (map word_of (drop (i + 1) rows))
one_more a rows i d within =
    ap (λ l. fold with_row a (map word_of l)) (drop_more rows i d within)

pub loop-row-preserved : goal.loop-row-preserved
loop-row-preserved c =
    let rows = c.args.rows.now in
    let within : c.loop-row.row-index < length rows = omega arith in (
      _,
      c.in_ok-command.ensures _ _ c.loop-row.invariant.1 c.in_ok-subcommand.ensures,
      sym (one_more c.loop-row.invariant.0 rows c.loop-row.row-index _ within)
          ∙ c.loop-row.invariant.2,
    )
