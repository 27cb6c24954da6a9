-- what is told of each owner's counts is the owner's load
use Rattle.std.proofs.Common.{◌≡◌, ◌∙◌, ℕ, List, [], ◌∷◌, Option, ap, map, refl}
use Rattle.std.proofs.lemmas.Result.{IfOk-weaker}
use Rattle.desk_model.specs.Readings.Workload.{load_of, owners}
use Rattle.desk_model.specs.Told.{Told}
use Rattle.desk_model.specs.declared.answer.Load.{Load}
use Rattle.report_core.specs.Rows.{live_among, load_in, loads_by, with_counts}
use Rattle.report_core.proofs.load.loads.Goals as goal

loads_told : (at : ℕ) (ts : List Told) (owners : List (Option (List ℕ)))
    → map load_in (map (with_counts at ts) owners) ≡ map (load_of at ts) owners
loads_told at ts [] = refl
loads_told at ts (owner ∷ owners) =
    ap (λ (loads : List Load). load_of at ts owner ∷ loads) (loads_told at ts owners)

pub returns : goal.returns
returns c rise numbered =
    let ts = live_among c.args.settings.now c.args.queues.now c.args.rows.now in
    IfOk-weaker c.told.result
    (λ loads. loads.items ≡ map load_in c.in_ok-owners.owners.entries)
    (λ loads. loads.items
    ≡ loads_by c.args.at c.args.settings.now c.args.queues.now c.args.rows.now)
    (λ loads told. told ∙ ap (map load_in) (c.in_ok-owners.ensures rise numbered)
    ∙ loads_told c.args.at ts (owners ts))
    c.told.ensures
