use Rattle.std.proofs.Common.{◌≡◌, cond, true, [], string_bytes, ap, ◌∙◌}
use Rattle.std.proofs.lemmas.List.{get_or_default}
use Rattle.std.proofs.lemmas.Map.Text.{hash_set_updates_text}
use Rattle.std.specs.HashSet.{contains_text}
use Rattle.std.specs.Str.{bytes_eq}
use Rattle.text_core.proofs.Lookups.{set_more}
use Rattle.text_core.proofs.lookup.set_of.Goals as goal

pub loop-text-preserved : goal.loop-text-preserved
loop-text-preserved c =
    let texts = c.args.texts.now in
    let i = c.loop-text.text-index in
    let text = c.text-item.result in
    let key : string_bytes c.in_ok-from_str.field-0 ≡ text =
    c.in_ok-from_str.ensures.ok ∙ c.as_str.ensures in
    set_more
    texts
    i
    text
    c.loop-text.set
    c.insert.new.self
    c.loop-text-test.true
    (c.text-item.is ∙ get_or_default texts i _ [] c.loop-text-test.true)
    (λ q.
    hash_set_updates_text
    (string_bytes c.in_ok-from_str.field-0)
    c.loop-text.set
    c.insert.new.self
    true
    c.in_ok-insert.ensures.updates
    q
    ∙ ap (λ k. cond (bytes_eq k q) true (contains_text c.loop-text.set q)) key)
    c.loop-text.invariant
