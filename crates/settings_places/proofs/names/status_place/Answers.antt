-- the first level that ignores a status of no lifecycle, and the first such status
use Rattle.std.proofs.Common.{◌≡◌, ◌∙◌, ℕ, Bool, List, Option, Some, ap, ap₂, find, is_some, not, rules, sym}
use Rattle.std.proofs.Math.Path.{fun_ext}
use Rattle.std.specs.Prelude.{option_and_then}
use Rattle.std.specs.HashSet.{contains_text}
use Rattle.std.specs.Option.{option_copied, option_map}
use Rattle.hours_core.specs.declared.level.Level.{Level}
use Rattle.settings_core.specs.declared.named.Named.{Named}
use Rattle.settings_places.specs.Place as spec
use Rattle.settings_places.proofs.names.status_place.Goals as goal

pub returns-in-Some-other_status : goal.returns-in-Some-other_status
returns-in-Some-other_status c =
    let levels = c.args.levels.now in
    let first : (List ℕ → Bool) → Named Level → Option (List ℕ) =
    λ p l. find (λ s. not (p s)) l.value.ignore in
    let told : Named Level → Option (List ℕ) → Option spec.FaultPlace =
    λ l s. option_map (spec.status_of l.name) s in
    let place : (List ℕ → Bool) → Option spec.FaultPlace =
    λ p. option_and_then (λ l. told l (first p l)) (find (λ l. is_some (first p l)) levels) in
    let known = contains_text c.in_ok-statuses.statuses in
    let level = c.in-Some.level.now in
    let name : c.in_ok-clone-in-Some-other_status.field-0 ≡ level.name = search rules in
    let status : c.in_ok-clone-in-Some-other_status-2.field-0
    ≡ c.in-Some-other_status.status.now = search rules in
    sym (sym (ap place (fun_ext c.in_ok-statuses.ensures))
    ∙ ap (option_and_then (λ l. told l (first known l)))
    (sym c.ignoring_other.ensures ∙ ap option_copied c.in-Some.is)
    ∙ ap (told level) (ap (find (λ s. not (known s))) (sym c.as_slice.ensures)
    ∙ sym c.other_status.ensures ∙ ap option_copied c.in-Some-other_status.is)
    ∙ ap₂ (λ (a b : List ℕ). Some (spec.status_of a b))
    (sym name) (sym status))
