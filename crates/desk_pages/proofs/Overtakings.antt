-- The markup of the page of a reply that somebody overtook.
use Rattle.std.proofs.Common.{◌≡◌, ℕ, true, List, Option, is_some, refl}
use Rattle.desk_model.specs.declared.answer.Dossier.{Dossier}
use Rattle.desk_model.specs.declared.rows.Entry.{Entry}
use Rattle.page_core.specs.Markup.{SameMarkup}
use Rattle.page_core.specs.Template.{through}
use Rattle.page_core.proofs.Same.{same_both, same_filled}
use Rattle.desk_pages.specs.History.{kinds_told, last_number, newer_entries}
use Rattle.desk_pages.specs.Overtaken.{overtaken, overtaken_page}
use Rattle.desk_pages.specs.Unsent.{waiting_heading}
use Rattle.desk_pages.specs.declared.frame.Place.TheVariants.{Elsewhere}
use Rattle.desk_pages.specs.declared.markup.refused.TheConstants.{OVERTAKEN}
use Rattle.desk_pages.proofs.Frames.{same_bottom, same_top}
use Rattle.desk_pages.proofs.Histories.{same_newer}
use Rattle.desk_pages.proofs.NotSent.{same_crumb, same_to_request, same_typed}
use Rattle.desk_pages.proofs.Writes.{same_reply}

same_overtaken : (e f : Entry) → SameMarkup (overtaken e) (overtaken f)
unfolding overtaken through
same_overtaken e f = same_filled OVERTAKEN.now refl _ _ _

pub overtaken_same : (caller another : List ℕ) (moment later : ℕ) (entry other : Entry)
    (dossier file : Dossier) (seen last : ℕ) (text words : List ℕ) (status chosen : Option (List ℕ))
    → kinds_told (newer_entries seen dossier.entries) ≡ kinds_told (newer_entries last file.entries)
    → is_some status ≡ is_some chosen
    → SameMarkup (overtaken_page caller moment entry dossier seen text status)
    (overtaken_page another later other file last words chosen)
overtaken_same caller another moment later entry other dossier file seen last text words status
    chosen kinds same =
    let id = dossier.shown.row.id in
    let n = file.shown.row.id in
    same_both (same_top waiting_heading waiting_heading Elsewhere caller another)
    (same_both
    (same_both (same_crumb id n)
    (same_both (same_overtaken entry other)
    (same_both (same_newer seen last dossier.entries file.entries kinds)
    (same_both (same_typed (same_reply id n caller another (last_number dossier.entries)
    (last_number file.entries) text words status chosen true same))
    (same_to_request id n)))))
    (same_bottom moment later))
