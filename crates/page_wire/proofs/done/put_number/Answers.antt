-- the page, or out of memory the way to the request
use Rattle.std.proofs.Common.{inl, inr}
use Rattle.page_wire.proofs.done.put_number.Goals as goal

pub returns-in-Ok : goal.returns-in-Ok
returns-in-Ok c = inl c.in-Ok.ensures

pub returns-in-Err : goal.returns-in-Err
returns-in-Err c = inr c.put_done.ensures
