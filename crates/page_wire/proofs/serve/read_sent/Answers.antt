-- bytes in memory are read without a fault of their own
use Rattle.page_wire.proofs.Answering.{told_read}
use Rattle.page_wire.proofs.serve.read_sent.Goals as goal

pub returns-in-Err : goal.returns-in-Err
returns-in-Err c =
    told_read c.args.bytes.now c.in-Err.fault c.told_of.result c.in-Err.ensures c.told_of.ensures
