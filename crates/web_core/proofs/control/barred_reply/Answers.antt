-- both are the same bytes
use Rattle.std.proofs.Common.{refl}
use Rattle.std.specs.Fmt.{digits}
use Rattle.message_core.specs.Reply.{content_length_line, content_type_line, head_of, last_line}
use Rattle.message_core.specs.Reply.{methods_line, status_line, text_kind}
use Rattle.web_core.proofs.control.barred_reply.Goals as goal

pub returns : goal.returns
unfolding digits head_of content_type_line content_length_line last_line methods_line status_line text_kind
returns c = refl
