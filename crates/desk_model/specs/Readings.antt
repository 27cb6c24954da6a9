-- The readings: a file for each command that only reads, with what it is about and what it tells;
-- which due moments an answer tells, and in which order it lists what it tells.
use Rattle.std.specs.Prelude.{◌≡◌, ℕ, ⊤, true, List, [], ◌∷◌, map, Option, Some}
use Rattle.desk_model.specs.Desk.{has_lower_name}
use Rattle.desk_model.specs.Readings.History.{has_lower_number}
use Rattle.desk_model.specs.Readings.Listing.{is_listed_first}
use Rattle.desk_model.specs.Readings.Overdue.{is_sooner}
use Rattle.desk_model.specs.Readings.Show.{ShownRises}
use Rattle.desk_model.specs.Readings.Workload.{has_first_owner}
use Rattle.desk_model.specs.Rising.{is_rising}
use Rattle.desk_model.specs.declared.answer.Answer.{Answer}
use Rattle.desk_model.specs.declared.answer.Answer.TheVariants as answer
pub mod Dossier
pub mod History
pub mod Listing
pub mod Overdue
pub mod Queues
pub mod Show
pub mod Workload

-- the due moments that an answer tells, each with the number of its request
abbrev pub dues_told : Answer → List (ℕ × Option ℕ)
dues_told answer.Done = []
dues_told (answer.Created id) = []
dues_told (answer.Queues queues) = []
dues_told (answer.Shown shown) = (shown.row.id, shown.due) ∷ []
dues_told (answer.Listed lines) = map (λ l. (l.id, l.due)) lines
dues_told (answer.History entries) = []
dues_told (answer.Late lines) = map (λ l. (l.id, Some l.due)) lines
dues_told (answer.Workload loads) = []

-- queues rise by their names, entries and the requests of a queue by their numbers, late requests
-- by their due moments and their numbers, and what owners have by the owners
abbrev pub IsInOrder : Answer → Type 0
IsInOrder answer.Done = ⊤
IsInOrder (answer.Created id) = ⊤
IsInOrder (answer.Queues queues) = is_rising has_lower_name queues ≡ true
IsInOrder (answer.Shown shown) = ShownRises shown
IsInOrder (answer.Listed lines) = is_rising is_listed_first lines ≡ true
IsInOrder (answer.History entries) = is_rising has_lower_number entries ≡ true
IsInOrder (answer.Late lines) = is_rising is_sooner lines ≡ true
IsInOrder (answer.Workload loads) = is_rising has_first_owner loads ≡ true
