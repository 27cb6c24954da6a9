use Rattle.std.proofs.Common.{refl}
use Rattle.store_tables.proofs.ReadOn.{giving}
use Rattle.store_core.proofs.AheadLemmas.{reads_on}
use Rattle.store_core.proofs.filed.Filed.read_on.Goals as goal

pub returns : goal.returns
returns g c =
    giving (λ d first due desk is same.
    reads_on due desk is _ _ (rw c.from_vec.ensures.items (rw same at first)) refl
    (rw c.from_vec.ensures.items (rw c.as_slice.ensures.value at c.last_number-self.ensures)))
    c.in_ok-rows.ensures.read
