use Rattle.std.proofs.Common.{◌≡◌, cond, get_or, true, string_bytes, ap, ◌∙◌}
use Rattle.std.proofs.lemmas.Map.Text.{hash_set_updates_text}
use Rattle.std.specs.HashSet.{contains_text}
use Rattle.std.specs.Str.{bytes_eq}
use Rattle.settings_core.proofs.Gathered.{one_more}
use Rattle.settings_core.proofs.known.add_texts.Goals as goal

pub loop-text-preserved : goal.loop-text-preserved
loop-text-preserved c = λ q.
    let old = c.loop-text.names in
    let new = c.insert.new.self in
    let i = c.loop-text.text-index in
    let put = hash_set_updates_text (string_bytes c.in_ok-from_str.field-0) old new true
    c.in_ok-insert.ensures.updates q in
    let key : string_bytes c.in_ok-from_str.field-0 ≡ get_or c.args.texts.now i c.text-item.result =
    c.in_ok-from_str.ensures.ok ∙ c.as_str.ensures ∙ c.text-item.is in
    one_more (λ t. bytes_eq t q) c.args.texts.now i c.text-item.result (contains_text c.args.names.now q)
    (contains_text old q) (contains_text new q) c.loop-text-test.true
    (put ∙ ap (λ k. cond (bytes_eq k q) true (contains_text old q)) key)
    (c.loop-text.invariant q)
