use Rattle.std.proofs.Common.{◌≡◌, Err, rules}
use Rattle.store_tables.proofs.VersionLemmas.{meta_read}
use Rattle.store_tables.proofs.tables.meta.version.Goals as goal

pub returns-in_err-n-clause-meta : goal.returns-in_err-n-clause-meta
returns-in_err-n-clause-meta g c =
    let is : c.from_residual-in_err-n.result ≡ Err c.in_err-n.field-0.0 = search rules in
    rw is (meta_read c.as_slice.result.now (λ s of. rw c.as_slice.ensures.value of)
    c.in_ok-rows.ensures.meta (Err c.in_err-n.field-0.0) tt c.in_err-n.ensures.mismatch)

pub returns-in-Some-clause-told : goal.returns-in-Some-clause-told
returns-in-Some-clause-told g c d stand clean =
    let some = c.in-Some.is in
    let one = c.in_ok-n.ensures.one d.version
    (rw (c.as_slice.ensures.value) (c.in_ok-rows.ensures.shown d stand clean)) in
    cc
