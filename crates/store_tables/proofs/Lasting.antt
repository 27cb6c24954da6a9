-- A connection that lasts, over one call and over several.
use Rattle.std.proofs.Common.{◌≡◌, ◌∙◌, ◌+◌, ◌-◌, ◌^◌, ◌≤◌, ℕ, arith, inl, inr, min, refl, subst}
use Rattle.std.proofs.Common.{sym, true}
use Rattle.std.proofs.Math.Nat.{le-min, min-le_left, min-le_right}
use Rattle.sqlite.specs.Held.{Held, state}
use Rattle.sqlite.specs.State.{State, Survives}
use Rattle.sqlite.specs.Store.{Ghosts}
use Rattle.sqlite.specs.Tree.{Trees}
use Rattle.sqlite_disk.specs.Disk.{MoreFaults}
use Rattle.store_tables.specs.Calls.{KeepsConnection, WasClean}

-- a fault that came later came after what was counted before
later : (a b c : ℕ) → a ≤ b → MoreFaults b c → MoreFaults a c
later a b c before more =
    let most = 2 ^ 64 - 1 in
    let earlier : min (a + 1) most ≤ b + 1 = omega (arith, before, min-le_left (a + 1) most) in
    omega (arith, le-min earlier (min-le_right (a + 1) most), more)

-- of two calls
pub on : {a b c : State} → WasClean b c → KeepsConnection a b → KeepsConnection b c → KeepsConnection a c
on {a} {b} {c} clean first second = record {
  counts = omega (arith, first.counts, second.counts);
  limit = second.limit ∙ first.limit;
  closes = λ late live. elim (first.closes (clean late) live) [
    | inl middle ↦ elim (second.closes late middle) [
      | inl last ↦ inl last
      | inr more ↦ inr (later a.faults b.faults c.faults first.counts more)
    ]
    | inr more ↦ inr (omega (arith, more, second.counts))
  ];
}

-- of none
pub same : (s : State) → KeepsConnection s s
same s = record { counts = omega arith; limit = refl; closes = λ clean live. inl live }

-- of what the library says of a call
pub by : {old new : State} {P : Trees → Type 0} → Survives old new P → KeepsConnection old new
by it = record { counts = it.counts; limit = it.limit; closes = it.closes }

-- of the begin of a transaction
pub begun : {S : Type 0} (g : Ghosts S) (old tx : Held S)
    → tx ≡ record old { in_transaction = true } → KeepsConnection (state g old) (state g tx)
begun g old tx is = subst (λ h. KeepsConnection (state g old) (state g h)) (sym is)
    (record { counts = omega arith; limit = refl; closes = λ clean live. inl live })

-- of what is done in a transaction, from its begin to its end
pub through : {S : Type 0} (g : Ghosts S) (old tx : Held S) (mid end : State)
    → tx ≡ record old { in_transaction = true }
    → WasClean (state g tx) mid → KeepsConnection (state g tx) mid → WasClean mid end → KeepsConnection mid end
    → KeepsConnection (state g old) end
through g old tx mid end is clean first late last =
    on (λ c. clean (late c)) (begun g old tx is) (on late first last)
