-- the line was answered, or it was too long for that
use Rattle.std.proofs.Common.{◌≡◌, ◌∙◌, ap, subst, sym}
use Rattle.service_core.specs.Seen.{settings_of, tables_of}
use Rattle.stream_core.specs.Seen.{has_write_failed, held_in}
use Rattle.desk_program.specs.Script.{LineLeads, bad_words_text}
use Rattle.desk_program.specs.declared.line.Line.{Line}
use Rattle.load_core.specs.Load.{said, said_by, shown}
use Rattle.load_core.proofs.LoadLemmas.{bad_words_lead, says, says_nothing, writes_first}
use Rattle.load_core.proofs.run.answer_next.Goals as goal

pub returns-in-Line-clause-answered : goal.returns-in-Line-clause-answered
returns-in-Line-clause-answered g c =
    let contents = g.W.Write.contents in
    let settings = settings_of g.S.Store c.args.desk.now in
    let old = tables_of g.S.Store c.args.desk.now in
    let new = tables_of g.S.Store c.answer_text.new.desk in
    let (bytes, ended, first, within, text) =
    rw c.in-Line.is at c.take_line.ensures in
    let (answer, led, told) = c.answer_text.ensures.answered in
    let same : said_by c.as_slice.result.now ≡ said bytes ended =
    ap said_by (c.as_slice.ensures.value ∙ text) ∙ sym (says bytes ended within) in
    record {
      bytes = bytes;
      ended = ended;
      text = answer;
      first = first;
      led = subst (λ (line : Line). LineLeads settings line answer old new) same led;
      told =
          writes_first (has_write_failed c.args.output.now)
          (has_write_failed c.answer_text.new.output) (held_in contents c.args.output.now)
          (held_in contents c.answer_text.new.output) (shown c.args.all c.args.number answer)
          c.requires told.written;
      counted = told.counted;
    }

pub returns-in-TooLong-clause-answered : goal.returns-in-TooLong-clause-answered
returns-in-TooLong-clause-answered g c =
    let contents = g.W.Write.contents in
    let settings = settings_of g.S.Store c.args.desk.now in
    let tables = tables_of g.S.Store c.args.desk.now in
    let (bytes, ended, first, long) = rw c.in-TooLong.is at c.take_line.ensures in
    record {
      bytes = bytes;
      ended = ended;
      text = bad_words_text;
      first = first;
      led = bad_words_lead settings (said bytes ended) tables (says_nothing bytes ended long);
      told =
          writes_first (has_write_failed c.args.output.now) (has_write_failed c.tell.new.output)
          (held_in contents c.args.output.now) (held_in contents c.tell.new.output)
          (shown c.args.all c.args.number bad_words_text) c.requires c.tell.ensures.told.written;
      counted = c.tell.ensures.told.counted;
    }
