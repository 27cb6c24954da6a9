-- A request stays the one that was filed.
use Rattle.std.proofs.Common.{◌≡◌, ℕ, List, Option, Some, None, inl, inr, ap, sym}
use Rattle.settings_core.specs.declared.settings.Settings.{Settings}
use Rattle.desk_model.specs.Commands.{plan_of}
use Rattle.desk_model.specs.Desk.{Desk, Request, request_at}
use Rattle.desk_model.specs.Plan.{Call}
use Rattle.desk_model.specs.Step.{desk_after}
use Rattle.desk_model.specs.declared.command.Command.{Command}
use Rattle.desk_model.specs.declared.command.Command.TheVariants.{OpenQueue, Create}
use Rattle.desk_model.specs.declared.facts.Facts.{Facts}
use Rattle.desk_model.specs.declared.facts.SeenRequest.{SeenRequest}
use Rattle.desk_model.specs.declared.rows.RequestRow.{RequestRow}
use Rattle.desk_core.proofs.Goes.{Goes, row_goes, set_by}
use Rattle.desk_core.proofs.Kept.{EachStays, history_law, ids_kept}

-- what a request has from when it was filed is the same
pub record IsSameRequest (before after : RequestRow) : Type 0 where
  pub number : after.id ≡ before.id
  pub queue : after.queue ≡ before.queue
  pub subject : after.subject ≡ before.subject
  pub created : after.created ≡ before.created

abbrev pub row_in : Option RequestRow → RequestRow → RequestRow
row_in None row = row
row_in (Some new) row = new

abbrev pub IdentityGoes : Call → Facts → SeenRequest → RequestRow → Type 0
IdentityGoes call facts request new = IsSameRequest request.row new

pub identities_go : (command : Command) → Goes IdentityGoes (plan_of command)
identities_go (OpenQueue name lifecycle level) = tt
identities_go (Create queue subject status requestors) = tt
identities_go other = λ call facts request new same free sets.
    record {
      number = sym (ap (λ o. (row_in o request.row).id) sets);
      queue = sym (ap (λ o. (row_in o request.row).queue) sets);
      subject = sym (ap (λ o. (row_in o request.row).subject) sets);
      created = sym (ap (λ o. (row_in o request.row).created) sets);
    }

identity_stays : (s : Settings) (at : ℕ) (caller : List ℕ) (command : Command) (desk : Desk)
    (id : ℕ) (before after : Request) → request_at desk id ≡ Some before
    → request_at (desk_after s at caller command desk) id ≡ Some after
    → IsSameRequest before.row after.row
identity_stays s at caller command desk id before after was is =
    elim (set_by s at caller command desk id before after was is) [
      | inl kept ↦ record {
        number = ap (λ (r : RequestRow). r.id) kept;
        queue = ap (λ (r : RequestRow). r.queue) kept;
        subject = ap (λ (r : RequestRow). r.subject) kept;
        created = ap (λ (r : RequestRow). r.created) kept;
      }
      | inr sets ↦
          (row_goes IdentityGoes s at caller command desk id before after was
          (ids_kept command) (identities_go command) sets).0
    ]

pub identity_law : (s : Settings) (at : ℕ) (caller : List ℕ) (command : Command) (desk : Desk)
    → EachStays desk (desk_after s at caller command desk)
    (λ before after. IsSameRequest before.row after.row)
identity_law s at caller command desk id before was =
    let kept = history_law s at caller command desk id before was in
    (kept.0, kept.1, identity_stays s at caller command desk id before kept.0 was kept.1)
