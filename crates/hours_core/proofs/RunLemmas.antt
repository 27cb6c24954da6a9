-- Spans in order are the runs of the minutes that they hold.
use Rattle.std.proofs.Common.{◌≡◌, ℕ, zero, suc, ◌+◌, ◌<◌, ◌≤◌, Bool, List, []}
use Rattle.std.proofs.Common.{◌∷◌, length, get_or, refl, subst, ◌∙◌, arith}
use Rattle.std.proofs.Math.Path.{fun_ext}
use Rattle.hours_core.specs.Counting.{count}
use Rattle.hours_core.specs.Moment.{first_minute}
use Rattle.hours_core.specs.Runs.{IsRun, AreRuns}
use Rattle.hours_core.specs.Spans.{AreSpans, is_held, length_of, held_before}
use Rattle.hours_core.specs.declared.spans.Span.{Span}
use Rattle.hours_core.proofs.CountLemmas.{none_held, none_before, counted}
use Rattle.hours_core.proofs.SpanLemmas.{within, over}

-- what is known of the spans that are left: they hold all open minutes from where the last one
-- ended on
record Rest (opens : ℕ → Bool) (e b : ℕ) (xs : List Span) : Type 0 where
  order : AreSpans e b xs
  held : (m : ℕ) → e ≤ m + 1 → opens m ≡ is_held xs m
  total : (m : ℕ) → e ≤ m → count opens first_minute m ≡ b + held_before xs m

first_run : (opens : ℕ → Bool) (e b : ℕ) (x : Span) (xs : List Span) → Rest opens e b (x ∷ xs)
    → IsRun opens x
first_run opens e b x xs h =
    let start = h.order.0 in
    let some = h.order.1 in
    let again : AreSpans x.start b (x ∷ xs) =
    (omega arith, h.order.1, h.order.2, h.order.3, h.order.4) in
    record {
      some = h.order.1;
      inside = λ m low high. h.held m (omega arith) ∙ rw (within x.start x.end m low high) refl;
      shut_before = λ m e. h.held m (omega arith)
          ∙ none_held x.start b (x ∷ xs) m again (omega arith);
      shut_after =
          h.held x.end (omega arith)
          ∙ rw (over x.start x.end x.end (omega arith))
          (none_held (x.end + 1) (b + length_of x) xs x.end h.order.4 (omega arith));
      before = omega (
        arith,
        h.order.3,
        h.total x.start h.order.0,
        none_before x.start b (x ∷ xs) x.start again (omega arith),
      );
    }

rest_of : (opens : ℕ → Bool) (e b : ℕ) (x : Span) (xs : List Span) → Rest opens e b (x ∷ xs)
    → Rest opens (x.end + 1) (b + length_of x) xs
rest_of opens e b x xs h =
    let start = h.order.0 in
    let some = h.order.1 in
    record {
      order = h.order.4;
      held = λ m low. h.held m (omega arith) ∙ rw (over x.start x.end m (omega arith)) refl;
      total = λ m low. omega (arith, h.total m (omega arith));
    }

each_run : (opens : ℕ → Bool) (e b : ℕ) (xs : List Span) → Rest opens e b xs → (k : ℕ) (d : Span)
    → k < length xs → IsRun opens (get_or xs k d)
each_run opens e b [] h k d within = absurd (omega arith)
each_run opens e b (x ∷ xs) h zero d within = first_run opens e b x xs h
each_run opens e b (x ∷ xs) h (suc k) d within =
    each_run opens (x.end + 1) (b + length_of x) xs (rest_of opens e b x xs h) k d (omega arith)

held_runs : (xs : List Span) → AreSpans first_minute 0 xs → AreRuns (is_held xs) xs
held_runs xs h =
    let none = none_before first_minute 0 xs first_minute h (omega arith) in
    let rest : Rest (is_held xs) first_minute 0 xs = record {
      order = h;
      held = λ m low. refl;
      total = λ m low. omega (arith, none, counted first_minute 0 xs first_minute m h low);
    } in
    record { order = h; each = each_run (is_held xs) first_minute 0 xs rest; all = λ m. refl }

-- spans in order that hold the open minutes are their runs
pub are_runs : (opens : ℕ → Bool) (xs : List Span) → AreSpans first_minute 0 xs
    → ((m : ℕ) → is_held xs m ≡ opens m) → AreRuns opens xs
are_runs opens xs h same = let P : (ℕ → Bool) → Type 0 = λ p. AreRuns p xs in
    subst P (fun_ext same) (held_runs xs h)
