-- Links lead between requests that the caller may show.
use Rattle.std.proofs.Common.{◌≡◌, ◌∙◌, ℕ, true, false}
use Rattle.std.proofs.Common.{List, ◌∷◌, Option, Some, None}
use Rattle.std.proofs.Common.{refl, ap, sym, subst}
use Rattle.std.specs.Option.{option_map, option_map_or}
use Rattle.settings_core.specs.declared.settings.Settings.{Settings}
use Rattle.desk_model.specs.Commands.{plan_of}
use Rattle.desk_model.specs.Commands.Link as linking
use Rattle.desk_model.specs.Desk.{Desk, Request, request_at}
use Rattle.desk_model.specs.Facts.{seen_request}
use Rattle.desk_model.specs.Links.{link}
use Rattle.desk_model.specs.Plan.{Call, Another, besides_on}
use Rattle.desk_model.specs.Plan.{is_missing}
use Rattle.desk_model.specs.Rights.{is_shown, may_show}
use Rattle.desk_model.specs.Step.{call, guard}
use Rattle.desk_model.specs.declared.command.Command.{Command}
use Rattle.desk_model.specs.declared.command.Command.TheVariants.{Link}
use Rattle.desk_model.specs.declared.refusal.Refusal.TheVariants.{NotFound}
use Rattle.desk_model.specs.declared.rows.LinkRow.{LinkRow}
use Rattle.desk_core.proofs.Goes.{holding, plan_passes}
use Rattle.desk_core.proofs.Asked.{shown_by}

-- the command puts this link
abbrev pub LinkOf : Command → LinkRow → Type 0
LinkOf (Link id kind other) l = l ≡ link id kind other
LinkOf command l = ⊥

not_missing : (call : Call) (o : Option Request)
    → is_missing call (option_map seen_request o) ≡ false
    → option_map_or (may_show call.settings call.caller) (option_map seen_request o) false ≡ true
not_missing call None shown = cc
not_missing call (Some r) shown =
    holding (may_show call.settings call.caller (seen_request r)) shown

-- the ends of a link that a command puts
abbrev pub EndsShown : Settings → List ℕ → Desk → LinkRow → Type 0
EndsShown s caller desk l =
    (is_shown s caller desk l.source ≡ true) × (is_shown s caller desk l.target ≡ true)

pub ends_shown : (s : Settings) (at : ℕ) (caller : List ℕ) (command : Command) (desk : Desk)
    (l : LinkRow)
    → guard s at caller command desk ≡ None → LinkOf command l → EndsShown s caller desk l
ends_shown s at caller (Link id kind other) desk l free is =
    let asks = call s at caller in
    let facts = besides_on (Another kind other) id desk in
    let got = shown_by asks desk id (request_at desk id)
    (λ request. (NotFound, is_missing asks facts.other)
    ∷ linking.conditions other asks facts request) refl
    (plan_passes asks facts (plan_of (Link id kind other)) free).1 in
    subst (λ (x : LinkRow). EndsShown s caller desk x) (sym is) (
      ap (λ (o : Option Request).
          option_map_or (may_show s caller) (option_map seen_request o) false) got.1 ∙ got.2,
      not_missing asks (request_at desk other) got.3.0,
    )
ends_shown s at caller other desk l free is = absurd is
