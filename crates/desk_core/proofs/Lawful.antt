-- All laws hold of every step. Where there was no memory for it, it leaves the desk as it was.
use Rattle.std.proofs.Common.{◌≡◌, ℕ, List, [], Option, Some, None, Err, inl, inr, refl, sym}
use Rattle.std.proofs.Common.{append-nil, subst}
use Rattle.settings_core.specs.declared.settings.Settings.{Settings}
use Rattle.desk_model.specs.Desk.{Desk, Request, queue_at, request_at}
use Rattle.desk_model.specs.IsDesk.{IsDesk}
use Rattle.desk_model.specs.Lifecycles.{lifecycle_of}
use Rattle.desk_model.specs.Step.{Outcome, Steps, outcome_of}
use Rattle.desk_model.specs.declared.command.Command.{Command}
use Rattle.desk_model.specs.declared.refusal.Refusal.TheVariants.{Unavailable}
use Rattle.desk_core.proofs.Turns.{stays_from}
use Rattle.desk_core.proofs.Entries as entries
use Rattle.desk_core.proofs.Filed as filed
use Rattle.desk_core.proofs.Linked as linked
use Rattle.desk_core.proofs.Moved as moved
use Rattle.desk_core.proofs.Opening as opening
use Rattle.desk_core.proofs.Seen as seen
use Rattle.desk_core.proofs.Taken as taken
use Rattle.desk_core.specs.Lawful.{IsLawful}
use Rattle.desk_core.proofs.Moved.{AtEachStep}
use Rattle.desk_core.specs.Laws.{Step}

-- a step from the one desk to the other
abbrev pub stepping : Settings → ℕ → List ℕ → Command → Desk → Outcome → Desk → Step
stepping s at caller asked old outcome new =
    record {
      settings = s;
      at = at;
      caller = caller;
      command = asked;
      outcome = outcome;
      old = old;
      new = new;
    }

-- the step that does nothing
abbrev idle : Settings → ℕ → List ℕ → Command → Desk → Step
idle s at caller asked desk = stepping s at caller asked desk (Err Unavailable) desk

none_there : (o : Option Request) (request : Request) → o ≡ None → o ≡ Some request → ⊥
none_there None request none there = cc
none_there (Some r) request none there = cc

idle_keeps : (s : Settings) (at : ℕ) (caller : List ℕ) (asked : Command) (desk : Desk)
    → IsDesk desk → IsLawful (idle s at caller asked desk)
idle_keeps s at caller asked desk is =
    record {
      status = λ id before was. (before, was, λ differs. absurd (differs refl));
      depends = λ id before was. (before, was, λ differs. absurd (differs refl));
      owner = λ id before was. (before, was, λ differs. absurd (differs refl));
      level = λ id before was. (before, was, λ differs. absurd (differs refl));
      people = λ role id before was. (before, was, λ differs. absurd (differs refl));
      others = λ id before was. (before, was, λ other. refl);
      identity = λ id before was. (before, was, (refl, refl, refl, refl));
      history = λ id before was.
          (before, was, ([], sym (append-nil before.entries), λ accepted. absurd accepted));
      told = λ all. all;
      turn = λ id before was.
          let lifecycle = lifecycle_of s (queue_at desk before.row.queue) in (
            before,
            was,
            (
              stays_from lifecycle before.row.status at before.row.opened,
              λ replied. absurd replied.0,
              λ never. (refl, stays_from lifecycle before.row.status at before.row.since),
            ),
          );
      filing = λ id request none there.
          absurd (none_there (request_at desk id) request none there);
      links = λ l differs. absurd (differs refl);
      queues = λ name differs. absurd (differs refl);
      desk = is;
      limits = (λ few. few, λ few. few, λ room few. few);
      names = λ sound known. known;
      reading = λ reads. refl;
      due = tt;
      order = tt;
      hidden = λ available. absurd (available refl);
      inside = λ available. absurd (available refl);
      outside = taken.outside_law s at caller asked desk is;
      view = seen.view_law s at caller asked desk is;
    }

made : AtEachStep IsLawful
made s at caller asked desk is =
    record {
      status = moved.status_law s at caller asked desk is;
      depends = taken.depends_law s at caller asked desk is;
      owner = moved.owner_law s at caller asked desk is;
      level = moved.level_law s at caller asked desk is;
      people = taken.people_law s at caller asked desk is;
      others = taken.others_law s at caller asked desk is;
      identity = taken.identity_law s at caller asked desk is;
      history = entries.history_law s at caller asked desk is;
      told = taken.told_law s at caller asked desk is;
      turn = taken.turn_law s at caller asked desk is;
      filing = filed.filing_law s at caller asked desk is;
      links = linked.links_law s at caller asked desk is;
      queues = opening.queues_law s at caller asked desk is;
      desk = taken.desk_law s at caller asked desk is;
      limits = taken.limits_law s at caller asked desk is;
      names = taken.names_law s at caller asked desk is;
      reading = taken.reading_law s at caller asked desk is;
      due = taken.due_law s at caller asked desk is;
      order = taken.order_law s at caller asked desk is;
      hidden = λ available. taken.hidden_law s at caller asked desk is;
      inside = λ available. taken.inside_law s at caller asked desk is;
      outside = taken.outside_law s at caller asked desk is;
      view = seen.view_law s at caller asked desk is;
    }

-- a step, whether or not there was memory for it
pub lawful : (s : Settings) (at : ℕ) (caller : List ℕ) (asked : Command) (old : Desk)
    (outcome : Outcome) (new : Desk) → IsDesk old → Steps s at caller asked old outcome new
    → IsLawful (stepping s at caller asked old outcome new)
lawful s at caller asked old outcome new is (inl same) =
    subst (λ (o : Outcome). IsLawful (stepping s at caller asked old o new)) (sym same.0)
    (subst (λ (d : Desk). IsLawful (stepping s at caller asked old (Err Unavailable) d)) (sym same.1)
    (idle_keeps s at caller asked old is))
lawful s at caller asked old outcome new is (inr done) =
    subst (λ (o : Outcome). IsLawful (stepping s at caller asked old o new)) (sym done.0)
    (subst (λ (d : Desk). IsLawful
    (stepping s at caller asked old (outcome_of s at caller asked old) d)) (sym done.1)
    (made s at caller asked old is))
