-- the list was written, or cut short, or its command was refused and that was told
use Rattle.std.proofs.Common.{◌++◌, ◌∙◌}
use Rattle.stream_core.proofs.WriterLemmas.{prints_both}
use Rattle.stream_core.specs.Seen.{has_write_failed}
use Rattle.desk_texts.specs.Texts.{refusal_text}
use Rattle.service_core.specs.Seen.{settings_of, tables_of}
use Rattle.desk_program.proofs.Stepped.{list_failed, list_printed, list_refused}
use Rattle.desk_program.proofs.one.run_list.Goals as goal

pub returns-in-Ok-clause-printed : goal.returns-in-Ok-clause-printed
returns-in-Ok-clause-printed g c =
    let it = c.in-Ok.ensures.streamed in (
      it.0,
      list_printed (settings_of g.S.Store c.args.desk.now) c.args.at c.args.caller.now
          c.args.command.now (tables_of g.S.Store c.args.desk.now)
          (tables_of g.S.Store c.stream_counted.new.self) c.in-Ok.ensures.left.kept c.requires.list
          (has_write_failed c.stream_counted.new.output) it.0 it.2,
      it.1,
    )

pub returns-in-Err-Write-clause-printed : goal.returns-in-Err-Write-clause-printed
returns-in-Err-Write-clause-printed g c =
    let it = rw c.in-Err-Write.field-0-is at c.in-Err-Write.ensures.streamed in (
      it.0,
      list_failed (settings_of g.S.Store c.args.desk.now) c.args.at c.args.caller.now
          c.args.command.now (tables_of g.S.Store c.args.desk.now)
          (tables_of g.S.Store c.stream_counted.new.self) c.in-Err-Write.ensures.left.kept
          c.requires.list (has_write_failed c.stream_counted.new.output) it.0 0
          (rw c.in-Err-Write.field-0-is at c.in-Err-Write.ensures.writer.failed) it.2,
      it.1,
    )

pub returns-in-Err-Refused-clause-printed : goal.returns-in-Err-Refused-clause-printed
returns-in-Err-Refused-clause-printed g c =
    let it = rw c.in-Err-Refused.field-0-is at c.in-Err-Refused.ensures.streamed in
    let told = c.put_refusal.ensures.printed in (
      it.0 ++ refusal_text told.0,
      list_refused (settings_of g.S.Store c.args.desk.now) c.args.at c.args.caller.now
          c.args.command.now (tables_of g.S.Store c.args.desk.now)
          (tables_of g.S.Store c.stream_counted.new.self) c.in-Err-Refused.ensures.left.kept
          c.requires.list (has_write_failed c.put_refusal.new.output) it.0 c.in-Err-Refused.refusal told.0 told.1
          it.2,
      prints_both g.W.Write.contents _ _ _ _ _ it.1 told.2,
    )

pub returns-in-Ok-clause-same_writer : goal.returns-in-Ok-clause-same_writer
returns-in-Ok-clause-same_writer g c = c.in-Ok.ensures.writer.same_writer

pub returns-in-Err-Write-clause-same_writer : goal.returns-in-Err-Write-clause-same_writer
returns-in-Err-Write-clause-same_writer g c = c.in-Err-Write.ensures.writer.same_writer

pub returns-in-Err-Refused-clause-same_writer : goal.returns-in-Err-Refused-clause-same_writer
returns-in-Err-Refused-clause-same_writer g c =
    c.put_refusal.ensures.same_writer ∙ c.in-Err-Refused.ensures.writer.same_writer

pub returns-in-Ok-clause-honest : goal.returns-in-Ok-clause-honest
returns-in-Ok-clause-honest g c = c.in-Ok.ensures.left.kept.clean

pub returns-in-Err-Write-clause-honest : goal.returns-in-Err-Write-clause-honest
returns-in-Err-Write-clause-honest g c = c.in-Err-Write.ensures.left.kept.clean

pub returns-in-Err-Refused-clause-honest : goal.returns-in-Err-Refused-clause-honest
returns-in-Err-Refused-clause-honest g c = c.in-Err-Refused.ensures.left.kept.clean
