use Rattle.std.proofs.Common.{◌≡◌, ◌++◌, ◌∷◌, [], append_assoc}
use Rattle.std.proofs.Common.{string_bytes, rules, ◌∙◌}
use Rattle.toml.specs.View.{view}
use Rattle.settings_parts.specs.Values.{members_of}
use Rattle.settings_core.specs.declared.named.Named.{Named}
use Rattle.settings_core.proofs.Found.{one_more}
use Rattle.settings_core.proofs.stated.values_in.Goals as goal

pub loop-name-preserved : goal.loop-name-preserved
loop-name-preserved g c =
    let before = c.loop-name.invariant.2 in
    let next : Named g.T.Stated.Parts =
    record {
      name = string_bytes c.in-Some.name.now;
      value = g.T.Stated.parts_of (members_of (view c.in-Some.value.now));
    } in
    let named : Named _ = record { name = c.in_ok-name.name; value = c.in_ok-value.value } in
    let pushed : c.push.new.self.items ≡ c.loop-name.found.items ++ named ∷ [] = search rules in
    let all = one_more g.T.Stated.has c.loop-name.found.items before.0 named next before.1
    (c.in_ok-name.ensures ∙ c.as_str.ensures.value) c.in_ok-value.ensures.ok.1 in
    let faults = rw c.in-Some.ensures.steps at c.loop-name.invariant.3 in (
      tt,
      tt,
      (
        before.0 ++ next ∷ [],
        rw pushed all,
        rw append_assoc (rw c.in-Some.ensures.steps at before.2),
      ),
      rw c.in_ok-value.ensures.ok.0 at faults,
    )
