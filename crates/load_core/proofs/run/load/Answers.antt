-- the lines were loaded, or there was no memory for them
use Rattle.std.proofs.Common.{refl, arith}
use Rattle.service_core.specs.Seen.{settings_of}
use Rattle.stream_core.specs.Seen.{held_in}
use Rattle.load_core.specs.Load.{held_by}
use Rattle.load_core.specs.declared.run.Ending.TheVariants.{Read}
use Rattle.load_core.proofs.LoadLemmas.{gives_up, none_loaded}
use Rattle.load_core.proofs.run.load.Goals as goal

pub returns-in-Err-clause-loaded : goal.returns-in-Err-clause-loaded
returns-in-Err-clause-loaded g c =
    let left = g.R.Read.remaining c.args.reader.now in
    rw c.none_answered.ensures (
    none_loaded g.S.Store (settings_of g.S.Store c.args.desk.now) c.args.plan left 0 left left
    (held_by g.S.Store c.args.desk.now) (held_in g.W.Write.contents c.args.output.now) Read refl
    (omega arith) (gives_up left)
    )
