-- a text with a fault has no tokens to warn of
use Rattle.std.proofs.Common.{string_bytes}
use Rattle.check_core.proofs.Unread.{unwarned}
use Rattle.check_core.proofs.files.warnings_of.Goals as goal

pub returns-in-Err : goal.returns-in-Err
returns-in-Err c =
    unwarned string_bytes c.args.text.now c.in-Err.fault c.no_warning.result c.in-Err.ensures.err
    c.no_warning.ensures
