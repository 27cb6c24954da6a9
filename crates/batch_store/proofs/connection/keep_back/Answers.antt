use Rattle.std.proofs.Common.{◌≡◌, ◌∙◌, false, arith, sym}
use Rattle.sqlite_trees.specs.View.{IsClean}
use Rattle.batch_store.specs.Seen.{view_of}
use Rattle.batch_store.proofs.BatchLemmas.{open_if_sound}
use Rattle.batch_store.proofs.connection.keep_back.Goals as goal

pub returns-in-Ok-over-clause-tables : goal.returns-in-Ok-over-clause-tables
returns-in-Ok-over-clause-tables g c = λ clean.
    let v = g.S.Store.view c.into_store-store.result in
    let below : IsClean (view_of g.S.Store c.in-Ok.batched) =
    omega (arith, c.in-Ok-over.ensures.clean, clean) in
    let it = c.in-Ok.ensures.trees below in
    let sound : v.is_broken ≡ false = sym (c.is_broken.ensures it.0) ∙ c.if-is_broken.false in
    let opened = open_if_sound v (g.met.S.Store.broken_if_shut _) sound in
    c.in-Ok-over.ensures.trees clean ∙ it.1 ∙ (c.into_store-store.ensures.undone.undone opened).0
