-- What is sent twice: by a second press, or by Back and another press.
use Rattle.std.specs.Prelude.{◌≡◌, ℕ, ◌-◌, Bool, true, false, ◌&&◌, nat_le, List, Option, Some, None}
use Rattle.std.specs.Prelude.{Result, Ok, Err}
use Rattle.std.specs.List.{list_any}
use Rattle.std.specs.Str.{bytes_eq}
use Rattle.settings_core.specs.declared.settings.Settings.{Settings}
use Rattle.desk_model.specs.Desk.{Desk}
use Rattle.desk_model.specs.declared.answer.Answer.TheVariants as answer
use Rattle.desk_model.specs.declared.answer.Dossier.{Dossier}
use Rattle.desk_model.specs.declared.command.Command.{Command}
use Rattle.desk_model.specs.declared.refusal.Refusal.{Refusal}
use Rattle.desk_model.specs.declared.refusal.Refusal.TheVariants.{Unavailable}
use Rattle.desk_model.specs.declared.rows.Entry.{Entry}
use Rattle.desk_model.specs.declared.rows.EntryKind.{EntryKind}
use Rattle.desk_model.specs.declared.rows.EntryKind.TheVariants as kind
use Rattle.page_routes.specs.declared.next.SubmittedForm.{SubmittedForm}
use Rattle.page_routes.specs.declared.next.SubmittedForm.TheVariants as sent
use Rattle.service_core.specs.Filed.{filed_lately}
use Rattle.page_wire.specs.Next.{first_text}
use Rattle.page_wire.specs.Replies.{done_reply, refused_reply}

-- the request to which a form sends a text
abbrev pub told_request : SubmittedForm → Option ℕ
told_request (sent.Reply id seen text status) = Some id
told_request (sent.Comment id text) = Some id
told_request _ = None

-- an entry of that kind with that text
abbrev pub says : SubmittedForm → EntryKind → List ℕ → Bool
says (sent.Reply id seen text status) kind.Reply body = bytes_eq text body
says (sent.Comment id text) kind.Comment body = bytes_eq text body
says _ _ body = false

-- from the same person, ten minutes ago at most
abbrev pub is_of : List ℕ → ℕ → SubmittedForm → Entry → Bool
is_of caller at sent e =
    says sent e.kind e.body && (bytes_eq e.actor caller && nat_le (at - 10) e.moment)

abbrev pub is_status : Option (List ℕ) → List ℕ → Bool
is_status None status = true
is_status (Some chosen) status = bytes_eq chosen status

-- the request has the status that was chosen with a reply, where one was
abbrev pub has_moved : SubmittedForm → Dossier → Bool
has_moved (sent.Reply id seen text status) dossier = is_status status dossier.shown.row.status
has_moved _ dossier = true

-- what the form asks was done already
abbrev pub is_told : List ℕ → ℕ → SubmittedForm → Dossier → Bool
is_told caller at sent dossier =
    has_moved sent dossier && list_any (is_of caller at sent) dossier.entries

-- ---- a request that is filed twice

-- the request that the form has filed already, if there is one, or the desk can't look
abbrev pub IsFiled : Settings → ℕ → List ℕ → Command → SubmittedForm → Desk → Result (Option ℕ) Refusal
    → Type 0
IsFiled settings at caller command sent desk (Ok found) =
    found ≡ filed_lately settings at caller command (first_text sent) desk
IsFiled settings at caller command sent desk (Err refusal) = refusal ≡ Unavailable

-- what is told in place of filing it again
abbrev pub told_if_filed : List ℕ → ℕ → SubmittedForm → Result (Option ℕ) Refusal → Option (List ℕ)
told_if_filed caller at sent (Ok None) = None
told_if_filed caller at sent (Ok (Some id)) = Some (done_reply sent (answer.Created id))
told_if_filed caller at sent (Err refusal) = Some (refused_reply caller at sent refusal)
