-- What a desk has answered.
use Rattle.std.specs.Prelude.{ℕ, List}
use Rattle.connection_core.specs.Reply.{bytes_of}
use Rattle.server_core.specs.Turns.{Answered}
use Rattle.server_core.specs.declared.desk.Answer.{Answer}

abbrev pub answered_as : ℕ → List ℕ → Answer → Answered
answered_as minute message answer = record {
  at = minute;
  message = message;
  reply = bytes_of answer.reply;
  note = answer.note.items;
}
