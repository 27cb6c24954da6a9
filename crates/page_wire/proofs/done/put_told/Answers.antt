-- it is hidden from its filer, or isn't
use Rattle.std.proofs.Common.{Bool, subst, sym}
use Rattle.page_wire.specs.Forms.{TellsFiled}
use Rattle.page_wire.proofs.done.put_told.Goals as goal

pub returns-then-hidden : goal.returns-then-hidden
returns-then-hidden c =
    subst (λ (h : Bool). TellsFiled c.args.caller.now c.args.moment c.args.sent.now c.args.id h
    c.put_number.new.room.items) (sym c.if-hidden.true) c.put_number.ensures

pub returns-else-hidden : goal.returns-else-hidden
returns-else-hidden c =
    subst (λ (h : Bool). TellsFiled c.args.caller.now c.args.moment c.args.sent.now c.args.id h
    c.put_done.new.room.items) (sym c.if-hidden.false) c.put_done.ensures
