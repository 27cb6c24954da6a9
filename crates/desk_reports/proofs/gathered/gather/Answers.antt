-- a text is gathered, unless memory is refused, and printed with the others where they are much
use Rattle.std.proofs.Common.{◌≡◌, [], Err, refl, rules}
use Rattle.desk_model.specs.declared.refusal.Refusal.TheVariants.{Unavailable}
use Rattle.desk_reports.specs.declared.fault.StreamFault.TheVariants.{Refused}
use Rattle.desk_reports.proofs.GatheredLemmas.{gathers_none}
use Rattle.desk_reports.proofs.gathered.gather.Goals as goal

pub returns-in_err-extend_from_slice-clause-gathered :
    goal.returns-in_err-extend_from_slice-clause-gathered
returns-in_err-extend_from_slice-clause-gathered g c =
    let is : c.from_residual.result ≡ Err (Refused Unavailable) = search rules in (
      [],
      rw c.in_err-extend_from_slice.ensures.items
          (gathers_none g.W.Write.contents c.args.output.now c.args.gathered.now.items),
      rw is (c.args.text.now, refl),
    )
