use Rattle.std.proofs.Common.{◌∙◌, arith, Bool, IsTrue, subst, sym}
use Rattle.sqlite_trees.proofs.Doubt.{clean_of}
use Rattle.sqlite_trees.specs.View.{IsClean}
use Rattle.batch_store.specs.Seen.{view_of}
use Rattle.batch_store.proofs.connection.make_all.Goals as goal

pub over-requires : goal.over-requires
over-requires g c = λ clean.
    let it = c.finish-done.ensures c.if-done.true clean in
    record {
      sound = it.sound;
      numbered =
          subst (λ (b : Bool). IsTrue b) (sym it.numbered) (c.into_store.ensures.numbered it.kept);
      clean = it.trees ∙ sym it.committed;
      unmarked = it.marks;
    }

pub returns-in-Ok-clause-tables : goal.returns-in-Ok-clause-tables
returns-in-Ok-clause-tables g c = λ clean.
    let w = g.S.Store.view c.finish-done.result.1 in
    let was : IsClean w = omega (arith, c.in-Ok.ensures.clean, clean) in
    let it = c.finish-done.ensures c.if-done.true was in
    let v = view_of g.S.Store c.into_store.result in
    c.in-Ok.ensures.trees clean ∙ it.trees
    ∙ (c.into_store.ensures.undone.undone (clean_of v.is_clean it.kept)).0
