-- the answer, or that there was no memory for it
use Rattle.std.proofs.Common.{List, ℕ, subst}
use Rattle.std.specs.Prelude.{codes}
use Rattle.service_core.specs.Seen.{settings_of, tables_of}
use Rattle.desk_program.specs.Script.{LineLeads}
use Rattle.load_core.specs.Load.{said_by}
use Rattle.load_core.proofs.LoadLemmas.{unavailable_is}
use Rattle.load_core.proofs.run.answer_text.Goals as goal

pub returns-in-Ok-clause-answered : goal.returns-in-Ok-clause-answered
returns-in-Ok-clause-answered g c =
    (c.in-Ok.text.items, c.in-Ok.ensures.ok, rw c.as_slice.ensures.value at c.tell.ensures.told)

pub returns-in-Err-clause-answered : goal.returns-in-Err-clause-answered
returns-in-Err-clause-answered g c =
    let settings = settings_of g.S.Store c.args.desk.now in
    let old = tables_of g.S.Store c.args.desk.now in
    let new = tables_of g.S.Store c.answer_bytes.new.desk in
    let line = said_by c.args.bytes.now in (
      codes "refused 16 Unavailable\n",
      subst (λ (text : List ℕ). LineLeads settings line text old new) unavailable_is
          c.in-Err.ensures.err,
      c.tell-in-Err.ensures.told,
    )
