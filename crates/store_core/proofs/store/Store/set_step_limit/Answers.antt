use Rattle.std.proofs.Common.{◌≡◌, ℕ, Option, inl, refl}
use Rattle.sqlite.specs.Held.{Held, state}
use Rattle.sqlite.specs.Store.{Ghosts}
use Rattle.store_core.specs.Limits.{OnlyLimits}
use Rattle.store_core.proofs.store.Store.set_step_limit.Goals as goal

only_limits : {S : Type 0} (g : Ghosts S) (old new : Held S) (limit : Option ℕ)
    → new ≡ record old { step_limit = limit } → OnlyLimits (state g old) (state g new)
only_limits g old new limit is = rw is (record {
  clean = λ clean. clean;
  faults = refl;
  live = refl;
  left = λ clean live. (live, refl, inl refl);
})

pub returns-clause-kept : goal.returns-clause-kept
returns-clause-kept g c = only_limits g.S.Store _ _ _ c.set_step_limit.ensures
