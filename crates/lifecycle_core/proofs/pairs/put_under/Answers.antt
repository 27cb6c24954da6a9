use Rattle.std.proofs.Common.{◌≡◌, ◌||◌, Bool, true, false, cond, refl, ap, string_bytes, ◌∙◌}
use Rattle.std.proofs.lemmas.Map.Text.{hash_set_updates_text}
use Rattle.std.specs.HashSet.{contains_text}
use Rattle.std.specs.Str.{bytes_eq}
use Rattle.lifecycle_core.proofs.pairs.put_under.Goals as goal

either : (a b : Bool) → cond a true b ≡ (a || b)
either true b = refl
either false b = refl

pub returns-clause-kept : goal.returns-clause-kept
returns-clause-kept c = λ t.
    let old = c.args.set.now in
    hash_set_updates_text (string_bytes c.in_ok-from_str.field-0) old c.insert.new.self true
    c.in_ok-added.ensures.updates t
    ∙ ap (λ k. cond (bytes_eq k t) true (contains_text old t)) c.in_ok-from_str.ensures.ok
    ∙ either (bytes_eq c.args.to.now t) (contains_text old t)
