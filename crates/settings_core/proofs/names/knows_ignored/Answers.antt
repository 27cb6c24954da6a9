use Rattle.std.proofs.Common.{ℕ, Bool, List, find, is_some, not, ap, refl, ◌∙◌}
use Rattle.std.proofs.Math.Path.{fun_ext}
use Rattle.std.specs.HashSet.{contains_text}
use Rattle.std.specs.List.{list_all}
use Rattle.rights_core.proofs.Failing.{none_found, one_fails}
use Rattle.settings_core.proofs.names.knows_ignored.Goals as goal

pub returns : goal.returns
returns c =
    let known : List ℕ → Bool = contains_text c.in_ok-statuses.statuses in
    none_found (λ l. l.now) (λ l. list_all known l.value.ignore)
    (λ l. is_some (find (λ s. not (known s)) l.value.ignore)) c.ignoring_other.result
    c.is_none.result c.args.levels.now
    (λ l. one_fails known (λ s. not (known s)) (λ s. refl) l.value.ignore) c.is_none.ensures
    c.ignoring_other.ensures
    ∙ ap
    (λ (p : List ℕ → Bool). list_all (λ l. list_all p l.value.ignore) c.args.levels.now)
    (fun_ext c.in_ok-statuses.ensures)
