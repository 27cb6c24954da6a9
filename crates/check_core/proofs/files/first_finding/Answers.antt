use Rattle.check_core.proofs.Unread.{fault_unread}
use Rattle.check_core.proofs.files.first_finding.Goals as goal

pub returns : goal.returns
returns c = fault_unread c.args.text.now c.in-Err.unread c.in_ok-settings_told-in-Err.ensures
    c.in-Err.ensures.err
