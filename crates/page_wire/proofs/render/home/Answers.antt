-- what the first page is told, over the tables that the call leaves
use Rattle.std.proofs.Common.{◌≡◌, ◌∙◌, IfOk, refl, subst}
use Rattle.settings_core.specs.declared.settings.Settings.{Settings}
use Rattle.find_core.specs.declared.home.HomeSearches.{HomeSearches}
use Rattle.service_core.specs.Homes.{HomeOn, part_of}
use Rattle.service_core.specs.Seen.{settings_of, tables_of}
use Rattle.page_wire.specs.Replies.{home_reply}
use Rattle.page_wire.specs.Steps.{HomeSteps}
use Rattle.page_wire.proofs.Steps.{homes, left_spared, looked_out, spared_if}
use Rattle.page_wire.proofs.render.home.Goals as goal

pub returns-in-Ok : goal.returns-in-Ok
returns-in-Ok g c =
    let s = settings_of g.S.Store c.args.desk.now in
    let caller = c.args.caller.now in
    let at = c.args.moment in
    let old = tables_of g.S.Store c.args.desk.now in
    let new = tables_of g.S.Store c.home-told.new.self in
    let result = c.home-told.result in
    let tells = subst (λ (searches : HomeSearches). HomeOn s at caller searches 20 result old new)
    c.in-Ok.ensures
    (subst (λ n. HomeOn s n caller c.in-Ok.searches 20 result old new) c.get.ensures.number
    c.home-told.ensures.told) in
    let shown = subst (λ (u : Settings). IfOk c.home_reply-reply.result (λ out. out.items
    ≡ home_reply u caller at (part_of (λ h. h.own) result) (part_of (λ h. h.asked) result)
    (part_of (λ h. h.loads) result) (part_of (λ h. h.free) result)))
    (c.settings.ensures ∙ c.home-told.ensures.same) c.home_reply-reply.ensures in
    record {
      ok = homes s at caller result c.home_reply-reply.result old new tells shown;
      err = spared_if s c.home_reply-reply.result old new c.home-told.ensures.kept;
      left = left_spared g.S.Store c.args.desk.now c.home-told.new.self c.home-told.ensures.same
          c.home-told.ensures.kept;
    }

pub returns-in-Err : goal.returns-in-Err
returns-in-Err g c =
    looked_out g.S.Store c.args.desk.now
    (HomeSteps (settings_of g.S.Store c.args.desk.now) c.args.moment c.args.caller.now) _ _ refl
