-- A reply that somebody overtook, and what is told of a text that isn't sent.
use Rattle.std.specs.Prelude.{ℕ, nat_lt, Bool, true, false, not, ◌&&◌, if◌then◌else◌, List}
use Rattle.std.specs.Prelude.{Option, Some, None, Result, Ok, Err, find}
use Rattle.std.specs.Str.{bytes_eq}
use Rattle.desk_model.specs.declared.answer.Dossier.{Dossier}
use Rattle.desk_model.specs.declared.refusal.Refusal.{Refusal}
use Rattle.desk_model.specs.declared.refusal.Refusal.TheVariants.{Unavailable}
use Rattle.desk_model.specs.declared.rows.Entry.{Entry}
use Rattle.desk_model.specs.declared.rows.EntryKind.{EntryKind}
use Rattle.desk_model.specs.declared.rows.EntryKind.TheVariants as kind
use Rattle.desk_pages.specs.History.{is_newer, last_number}
use Rattle.desk_pages.specs.Overtaken.{overtaken_page}
use Rattle.desk_pages.specs.declared.unsent.Unsent.TheVariants.{Ahead}
use Rattle.page_core.specs.Page.{page_bytes}
use Rattle.page_routes.specs.declared.next.SubmittedForm.{SubmittedForm}
use Rattle.page_routes.specs.declared.next.SubmittedForm.TheVariants as sent
use Rattle.page_wire.specs.Redirect.{led_by}
use Rattle.page_wire.specs.Replies.{refused_reply, unsent_form, with_page}
use Rattle.page_wire.specs.Twice.{is_told}

-- what a reply may have to heed: another reply, a move, a change of owner
abbrev pub weighs : EntryKind → Bool
weighs kind.Reply = true
weighs kind.Status = true
weighs kind.Owner = true
weighs _ = false

-- such an entry by somebody else, behind the last one that the caller has seen
abbrev pub overtakes : List ℕ → ℕ → Entry → Bool
overtakes caller seen e = is_newer seen e && (weighs e.kind && not (bytes_eq e.actor caller))

-- the first of them
abbrev pub overtaker : List ℕ → ℕ → List Entry → Option Entry
overtaker caller seen entries = find (overtakes caller seen) entries

-- the form tells of an entry behind the last one that the caller is told
abbrev pub is_ahead : ℕ → List Entry → Bool
is_ahead seen entries = nat_lt (last_number entries) seen

-- the reply waits for its sender to read what came meanwhile
abbrev pub overtaken_reply : List ℕ → ℕ → Dossier → ℕ → List ℕ → Option (List ℕ) → Option Entry
    → Option (List ℕ)
overtaken_reply caller at dossier seen text status None = None
overtaken_reply caller at dossier seen text status (Some entry) =
    Some (with_page 409 (page_bytes (overtaken_page caller at entry dossier seen text status)))

-- the form is filled in once more, with the number of the last entry
abbrev pub ahead_reply : List ℕ → ℕ → Dossier → ℕ → List ℕ → Option (List ℕ) → List ℕ
ahead_reply caller at dossier id text status =
    with_page 409 (page_bytes (unsent_form caller at
    (sent.Reply id (last_number dossier.entries) text status) Ahead))

-- what is told of a reply that is held back, by what its caller is told of the request
abbrev pub held_reply : List ℕ → ℕ → SubmittedForm → Dossier → Option (List ℕ)
held_reply caller at (sent.Reply id seen text status) dossier =
    if is_ahead seen dossier.entries then Some (ahead_reply caller at dossier id text status)
    else overtaken_reply caller at dossier seen text status (overtaker caller seen dossier.entries)
held_reply caller at _ dossier = None

-- What is told of a text that isn't sent: where it was sent already, where the reply is held back, and
-- where the desk can't look. Another refusal is left to the command.
abbrev pub told_before : List ℕ → ℕ → SubmittedForm → Result Dossier Refusal → Option (List ℕ)
told_before caller at sent (Ok dossier) =
    if is_told caller at sent dossier then Some (led_by sent) else held_reply caller at sent dossier
told_before caller at sent (Err Unavailable) = Some (refused_reply caller at sent Unavailable)
told_before caller at sent (Err refusal) = None
