use Rattle.std.proofs.Common.{◌≡◌, ◌+◌, ◌||◌, ◌&&◌, Bool, true, false, not, take, sym, ap, refl, ◌∙◌}
use Rattle.std.specs.Str.{bytes_eq}
use Rattle.lifecycle_core.specs.Fault.{has_entry, repeats_pair}
use Rattle.lifecycle_core.specs.Pairs.{has_pair}
use Rattle.lifecycle_core.proofs.Repeated.{pairs_more, repeats_front, repeats_more}
use Rattle.lifecycle_core.proofs.pairs.repeats_in_set.Goals as goal

not_of : (a b : Bool) → a ≡ not b → b ≡ not a
not_of a true e = sym (ap not e)
not_of a false e = sym (ap not e)

pub returns-then-not-branch : goal.returns-then-not-branch
returns-then-not-branch c =
    let rights = c.args.rights.now in
    let i = c.loop-entry.entry-index in
    let entry = c.entry-item.result in
    let known : has_pair c.loop-entry.pairs entry.from entry.to ≡ true =
    rw (← c.as_str-from.ensures, ← c.as_str-to.ensures)
    (not_of _ _ c.in_ok-put.ensures.new ∙ ap not c.if-not-branch.true) in
    let again : repeats_pair (take (i + 1) rights) ≡ true =
    repeats_more rights i entry c.loop-entry-test.true c.entry-item.is
    ∙ ap (λ b. b || has_entry (take i rights) entry) c.loop-entry.invariant.once
    ∙ sym (c.loop-entry.invariant.pairs entry.from entry.to)
    ∙ known in
    sym (repeats_front rights (i + 1) again)

pub loop-entry-preserved : goal.loop-entry-preserved
loop-entry-preserved c =
    let rights = c.args.rights.now in
    let i = c.loop-entry.entry-index in
    let entry = c.entry-item.result in
    let unknown : has_pair c.loop-entry.pairs entry.from entry.to ≡ false =
    rw (← c.as_str-from.ensures, ← c.as_str-to.ensures)
    (not_of _ _ c.in_ok-put.ensures.new ∙ ap not c.if-not-branch.false) in
    record {
      once =
          repeats_more rights i entry c.loop-entry-test.true c.entry-item.is
          ∙ ap (λ b. b || has_entry (take i rights) entry) c.loop-entry.invariant.once
          ∙ sym (c.loop-entry.invariant.pairs entry.from entry.to)
          ∙ unknown;
      pairs =
          pairs_more rights i entry c.loop-entry.pairs c.put.new.pairs c.loop-entry-test.true
          c.entry-item.is
          (λ f t. c.in_ok-put.ensures.kept f t ∙ rw (c.as_str-from.ensures, c.as_str-to.ensures) refl)
          c.loop-entry.invariant.pairs;
    }
