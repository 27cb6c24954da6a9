-- whether the desk is there, at a place of the pages by its visit, and else by the interface
use Rattle.std.proofs.Common.{◌∙◌, ap, sym}
use Rattle.page_routes.specs.Places.{is_page_path, path_in}
use Rattle.service_core.specs.Seen.{settings_of, tables_of}
use Rattle.page_wire.proofs.Answering.{elsewhere, health_told, on_pages, spared_err}
use Rattle.page_wire.proofs.serve.answer_read.Goals as goal

pub returns-then-asks_health-clause-reply : goal.returns-then-asks_health-clause-reply
returns-then-asks_health-clause-reply g c =
    health_told c.args.https (settings_of g.S.Store c.args.desk.now) c.args.moment c.args.request.now
    c.is_head.result c.answer_health.result (tables_of g.S.Store c.args.desk.now)
    (tables_of g.S.Store c.answer_health.new.desk)
    (sym c.asks_health.ensures ∙ c.if-asks_health.true) c.is_head.ensures
    c.answer_health.ensures.kept c.answer_health.ensures.told

pub returns-then-is_page_place-clause-reply : goal.returns-then-is_page_place-clause-reply
returns-then-is_page_place-clause-reply g c =
    on_pages c.args.https (settings_of g.S.Store c.args.desk.now) c.args.moment
    c.args.request.now c.answer_in_room.result (tables_of g.S.Store c.args.desk.now)
    (tables_of g.S.Store c.answer_in_room.new.desk)
    (sym c.asks_health.ensures ∙ c.if-asks_health.false)
    (ap (λ t. is_page_path (path_in t)) (sym c.as_slice.ensures) ∙ sym c.is_page_place.ensures
    ∙ c.if-is_page_place.true)
    c.answer_in_room.ensures.reply

pub returns-else-is_page_place-clause-reply : goal.returns-else-is_page_place-clause-reply
returns-else-is_page_place-clause-reply g c =
    elsewhere c.args.https (settings_of g.S.Store c.args.desk.now) c.args.moment
    c.args.request.now c.answer_request.result (tables_of g.S.Store c.args.desk.now)
    (tables_of g.S.Store c.answer_request.new.desk)
    (sym c.asks_health.ensures ∙ c.if-asks_health.false)
    (ap (λ t. is_page_path (path_in t)) (sym c.as_slice.ensures) ∙ sym c.is_page_place.ensures
    ∙ c.if-is_page_place.false)
    c.answer_request.ensures.reply

pub returns-then-is_page_place-clause-err : goal.returns-then-is_page_place-clause-err
returns-then-is_page_place-clause-err g c =
    spared_err g.S.Store c.args.desk.now c.answer_in_room.new.desk c.answer_in_room.result
    c.answer_in_room.ensures.err

pub returns-else-is_page_place-clause-err : goal.returns-else-is_page_place-clause-err
returns-else-is_page_place-clause-err g c =
    spared_err g.S.Store c.args.desk.now c.answer_request.new.desk c.answer_request.result
    c.answer_request.ensures.err
