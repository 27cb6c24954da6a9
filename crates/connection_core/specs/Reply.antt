-- The bytes of a reply.
use Rattle.std.specs.Prelude.{ℕ, List}
use Rattle.connection_core.specs.declared.reply.Reply.{Reply}
use Rattle.connection_core.specs.declared.reply.Reply.TheVariants.{Made, Fixed}

abbrev pub bytes_of : Reply → List ℕ
bytes_of (Made bytes) = bytes.items
bytes_of (Fixed bytes) = bytes.now
