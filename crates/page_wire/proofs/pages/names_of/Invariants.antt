-- the names so far
use Rattle.std.proofs.Common.{◌≡◌, take}
use Rattle.page_wire.specs.Replies.{names_of}
use Rattle.page_wire.proofs.pages.names_of.Given as goal

abbrev pub invariant-loop-named : goal.invariant-loop-named
invariant-loop-named g l = l.names.items ≡ names_of (take l.named-index l.all)
