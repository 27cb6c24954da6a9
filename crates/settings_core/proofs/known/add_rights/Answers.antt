use Rattle.std.proofs.Common.{◌≡◌, cond, get_or, true, string_bytes, ap, ◌∙◌}
use Rattle.std.proofs.lemmas.Map.Text.{hash_set_updates_text}
use Rattle.std.specs.HashSet.{contains_text}
use Rattle.std.specs.Str.{bytes_eq}
use Rattle.lifecycle_core.specs.declared.parts.MoveRight.{MoveRight}
use Rattle.settings_core.proofs.Gathered.{one_more}
use Rattle.settings_core.proofs.known.add_rights.Goals as goal

pub loop-entry-preserved : goal.loop-entry-preserved
loop-entry-preserved c = λ q.
    let old = c.loop-entry.names in
    let new = c.insert.new.self in
    let i = c.loop-entry.entry-index in
    let put = hash_set_updates_text (string_bytes c.in_ok-from_str.field-0) old new true
    c.in_ok-insert.ensures.updates q in
    let key : string_bytes c.in_ok-from_str.field-0
    ≡ (get_or c.args.rights.now i c.entry-item.result).right =
    c.in_ok-from_str.ensures.ok ∙ c.as_str.ensures
    ∙ ap (λ (e : MoveRight). e.right) c.entry-item.is in
    one_more (λ e. bytes_eq e.right q) c.args.rights.now i c.entry-item.result (contains_text c.args.names.now q)
    (contains_text old q) (contains_text new q) c.loop-entry-test.true
    (put ∙ ap (λ k. cond (bytes_eq k q) true (contains_text old q)) key)
    (c.loop-entry.invariant q)
