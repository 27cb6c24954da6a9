-- All laws of a step by their names.
use Rattle.std.specs.Prelude.{◌≢◌, Err}
use Rattle.desk_model.specs.declared.refusal.Refusal.TheVariants.{Unavailable}
use Rattle.desk_core.specs.Laws.{DependsLaw, DeskLaw, DueLaw, FilingLaw, HiddenLaw, HistoryLaw}
use Rattle.desk_core.specs.Laws.{IdentityLaw, InsideLaw, LevelLaw, LimitsLaw, LinksLaw, NamesLaw}
use Rattle.desk_core.specs.Laws.{OrderLaw, OthersLaw, OutsideLaw, OwnerLaw, PeopleLaw, QueuesLaw}
use Rattle.desk_core.specs.Laws.{ReadingLaw, StatusLaw, Step, ToldLaw, TurnLaw, ViewLaw}

-- Each law holds of the step; those two that say what is answered, where there was memory for it.
pub record IsLawful (s : Step) : Type 0 where
  pub status : StatusLaw s
  pub depends : DependsLaw s
  pub owner : OwnerLaw s
  pub level : LevelLaw s
  pub people : PeopleLaw s
  pub others : OthersLaw s
  pub identity : IdentityLaw s
  pub history : HistoryLaw s
  pub told : ToldLaw s
  pub turn : TurnLaw s
  pub filing : FilingLaw s
  pub links : LinksLaw s
  pub queues : QueuesLaw s
  pub desk : DeskLaw s
  pub limits : LimitsLaw s
  pub names : NamesLaw s
  pub reading : ReadingLaw s
  pub due : DueLaw s
  pub order : OrderLaw s
  pub hidden : s.outcome ≢ Err Unavailable → HiddenLaw s
  pub inside : s.outcome ≢ Err Unavailable → InsideLaw s
  pub outside : OutsideLaw s
  pub view : ViewLaw s
