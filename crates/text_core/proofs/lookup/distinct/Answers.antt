use Rattle.std.proofs.Common.{◌≡◌, ◌+◌, ◌||◌, cond, true, false, not, [], string_bytes}
use Rattle.std.proofs.Common.{take, sym, ap, Bool, ◌∙◌}
use Rattle.std.proofs.lemmas.List.{get_or_default}
use Rattle.std.proofs.lemmas.Map.Text.{hash_set_updates_text}
use Rattle.std.specs.HashSet.{contains_text}
use Rattle.std.specs.Str.{bytes_eq}
use Rattle.text_core.specs.Texts.{is_among, repeats_text}
use Rattle.text_core.proofs.Lookups.{repeats_front, repeats_more, set_more}
use Rattle.text_core.proofs.lookup.distinct.Goals as goal

not_of : (a b : Bool) → a ≡ not b → b ≡ not a
not_of a true e = sym (ap not e)
not_of a false e = sym (ap not e)

pub returns-then-not-branch-clause-once : goal.returns-then-not-branch-clause-once
returns-then-not-branch-clause-once c =
    let texts = c.args.texts.now in
    let i = c.loop-text.text-index in
    let text = c.text-item.result in
    let key : string_bytes c.in_ok-from_str.field-0 ≡ text =
    c.in_ok-from_str.ensures.ok ∙ c.as_str.ensures in
    let known : contains_text c.loop-text.set (string_bytes c.in_ok-from_str.field-0) ≡ true =
    not_of _ _ c.in_ok-insert.ensures.added ∙ ap not c.if-not-branch.true in
    let again : repeats_text (take (i + 1) texts) ≡ true =
    repeats_more texts i text c.loop-text-test.true c.text-item.is
    ∙ ap (λ b. b || is_among (take i texts) text) c.loop-text.invariant.once
    ∙ sym (c.loop-text.invariant.set text)
    ∙ ap (contains_text c.loop-text.set) (sym key)
    ∙ known in
    sym (ap not (repeats_front texts (i + 1) again))

pub loop-text-preserved : goal.loop-text-preserved
loop-text-preserved c =
    let texts = c.args.texts.now in
    let i = c.loop-text.text-index in
    let text = c.text-item.result in
    let key : string_bytes c.in_ok-from_str.field-0 ≡ text =
    c.in_ok-from_str.ensures.ok ∙ c.as_str.ensures in
    let unknown : contains_text c.loop-text.set (string_bytes c.in_ok-from_str.field-0) ≡ false =
    not_of _ _ c.in_ok-insert.ensures.added ∙ ap not c.if-not-branch.false in
    record {
      once =
          repeats_more texts i text c.loop-text-test.true c.text-item.is
          ∙ ap (λ b. b || is_among (take i texts) text) c.loop-text.invariant.once
          ∙ sym (c.loop-text.invariant.set text)
          ∙ ap (contains_text c.loop-text.set) (sym key)
          ∙ unknown;
      set =
          set_more
          texts
          i
          text
          c.loop-text.set
          c.insert.new.self
          c.loop-text-test.true
          (c.text-item.is ∙ get_or_default texts i _ [] c.loop-text-test.true)
          (λ q.
          hash_set_updates_text
          (string_bytes c.in_ok-from_str.field-0)
          c.loop-text.set
          c.insert.new.self
          true
          c.in_ok-insert.ensures.updates
          q
          ∙ ap (λ k. cond (bytes_eq k q) true (contains_text c.loop-text.set q)) key)
          c.loop-text.invariant.set;
    }
