use Rattle.std.proofs.Common.{◌≡◌, Bool, true, false, ◌&&◌, codes, ap, is_some, sym, refl, ◌∙◌}
use Rattle.toml.specs.View.{table_view}
use Rattle.rights_core.proofs.Failing.{same_none, some_mapped}
use Rattle.settings_parts.specs.Values.{table_at}
use Rattle.settings_core.specs.Levels.{have_limits}
use Rattle.settings_core.specs.Reading.{is_count_at}
use Rattle.settings_core.proofs.Bounds.{count_fails, limit_fails}
use Rattle.settings_core.proofs.limits.has_limits.Goals as goal

-- the tests in their order, where the first two passed, or the first didn't
all_three : (none levels requests entries : Bool) → true ≡ levels → none ≡ (requests && entries)
    → none ≡ (levels && requests && entries)
all_three none true requests entries h k = k
all_three none false requests entries h k = absurd (cc)

first_fails : (levels requests entries : Bool) → false ≡ levels
    → false ≡ (levels && requests && entries)
first_fails false requests entries h = refl
first_fails true requests entries h = absurd (cc)

pub returns-then-is_none : goal.returns-then-is_none
returns-then-is_none c =
    let ms = table_view c.args.table.now in
    let levels = table_at (codes "level") ms in
    let requests = is_count_at (codes "max_requests") 1000000 ms in
    let entries = is_count_at (codes "max_entries") 10000 ms in
    all_three c.is_none-then-is_none.result (have_limits levels) requests entries
    (sym c.if-is_none.true
    ∙ same_none (is_some c.bad_limit.result) c.is_none.result (have_limits levels)
    c.is_none.ensures (some_mapped (λ f. (f.0.now, f.1.now)) c.bad_limit.result
    ∙ ap is_some c.bad_limit.ensures ∙ limit_fails levels))
    (same_none (is_some c.bad_count.result) c.is_none-then-is_none.result (requests && entries)
    c.is_none-then-is_none.ensures (some_mapped (λ k. k.now) c.bad_count.result
    ∙ ap is_some c.bad_count.ensures ∙ count_fails ms))

pub returns-else-is_none : goal.returns-else-is_none
returns-else-is_none c =
    let ms = table_view c.args.table.now in
    let levels = table_at (codes "level") ms in
    let fails : false ≡ have_limits levels =
    sym c.if-is_none.false
    ∙ same_none (is_some c.bad_limit.result) c.is_none.result (have_limits levels)
    c.is_none.ensures (some_mapped (λ f. (f.0.now, f.1.now)) c.bad_limit.result
    ∙ ap is_some c.bad_limit.ensures ∙ limit_fails levels) in
    c.if-is_none.false ∙ first_fails (have_limits levels)
    (is_count_at (codes "max_requests") 1000000 ms) (is_count_at (codes "max_entries") 10000 ms)
    fails
