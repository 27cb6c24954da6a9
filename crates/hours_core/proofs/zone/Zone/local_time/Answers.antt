use Rattle.std.proofs.Common.{◌≡◌, ℕ, ℤ, pos, ◌+ℤ◌, unsigned_abs, Option, Some, None}
use Rattle.std.proofs.Common.{if◌then◌else◌, ap, ◌∙◌, arith}
use Rattle.std.proofs.lemmas.Int.{ints}
use Rattle.hours_core.specs.Moment.{is_due_moment}
use Rattle.hours_core.specs.Zone.{offset_at}
use Rattle.hours_core.proofs.zone.Zone.local_time.Goals as goal

-- what clocks show, by the sum
shown : ℤ → Option ℕ
shown local =
    if is_due_moment (unsigned_abs local) then Some (unsigned_abs local) else None

pub returns : goal.returns
unfolding shown
returns c =
    let ahead = c.ahead_at-offset.ensures in
    let sum : pos c.shifted.result ≡ pos c.args.m +ℤ c.ahead_at-offset.result =
    omega (arith, ints, c.shifted.ensures, ahead.range, c.get-minute.ensures.number) in
    let zone = c.args.self.now in
    let there : c.ahead_at-offset.result ≡ offset_at zone.first zone.changes c.args.m =
    rw c.get-minute.ensures.number at ahead.offset in
    c.new.ensures ∙ ap shown (sum ∙ ap (λ z. pos c.args.m +ℤ z) there)
