-- What the first page is told over the tables: as each of its searches and the loads of queues are.
use Rattle.std.specs.Prelude.{◌≡◌, ℕ, List, None, Result, Ok, Err}
use Rattle.sqlite.specs.State.{State}
use Rattle.settings_core.specs.declared.settings.Settings.{Settings}
use Rattle.desk_model.specs.declared.refusal.Refusal.{Refusal}
use Rattle.find_core.specs.declared.home.Home.{Home}
use Rattle.find_core.specs.declared.home.HomeSearches.{HomeSearches}
use Rattle.service_core.specs.Finding.{FindsOn}
use Rattle.service_core.specs.Loading.{LoadsOn}

-- what came of a part of the page
abbrev pub part_of : {X : Type 0} → (Home → X) → Result Home Refusal → Result X Refusal
part_of part (Ok home) = Ok (part home)
part_of part (Err refusal) = Err refusal

-- each part is the outcome of its own reading
pub record HomeOn (settings : Settings) (at : ℕ) (caller : List ℕ) (searches : HomeSearches)
    (limit : ℕ) (result : Result Home Refusal) (old new : State) : Type 0 where
  pub own : FindsOn settings at caller searches.own limit None (part_of (λ h. h.own) result) old new
  pub asked : FindsOn settings at caller searches.asked limit None (part_of (λ h. h.asked) result) old
      new
  pub free : FindsOn settings at caller searches.free limit None (part_of (λ h. h.free) result) old new
  pub loads : LoadsOn settings at caller (part_of (λ h. h.loads) result) old new
