-- A connection as the machine sees it.
use Rattle.std.specs.Prelude.{drop}
use Rattle.connection_core.specs.Machine.{Conn}
use Rattle.connection_core.specs.Reply.{bytes_of}
use Rattle.connection_core.specs.declared.connection.Connection.{Connection}

abbrev pub seen : Connection → Conn
seen c = record {
  phase = c.phase;
  came = c.came.items;
  left = drop c.sent (bytes_of c.reply);
  deadline = c.deadline;
  more = c.more;
}
