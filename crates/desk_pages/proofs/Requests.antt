-- The markup of the page of a request.
use Rattle.std.proofs.Common.{◌≡◌, ℕ, Bool, false, not, ◌&&◌, List, [], ◌∷◌, Option, is_some}
use Rattle.std.proofs.Common.{refl, ap}
use Rattle.settings_core.specs.declared.settings.Settings.{Settings}
use Rattle.desk_model.specs.declared.answer.Dossier.{Dossier}
use Rattle.desk_model.specs.declared.rows.RequestRow.{RequestRow}
use Rattle.page_core.specs.Markup.{SameMarkup}
use Rattle.page_core.specs.Template.{through}
use Rattle.page_core.proofs.Same.{same_both, same_filled, same_flags}
use Rattle.desk_pages.specs.History.{last_number}
use Rattle.desk_pages.specs.Request.{closing_for, request_page, request_title, request_told}
use Rattle.desk_pages.specs.Request.{commenting, request_top, writing}
use Rattle.desk_pages.specs.Rights.{may_comment, may_modify, may_reply}
use Rattle.desk_pages.specs.declared.frame.Place.TheVariants.{Elsewhere}
use Rattle.desk_pages.specs.declared.markup.request.TheConstants.{COMMENT_END, COMMENT_TOP}
use Rattle.desk_pages.specs.declared.markup.request.TheConstants.{REPLY_TOP}
use Rattle.desk_pages.specs.declared.markup.request.TheConstants.{REQUEST_TOP, WRITING_END}
use Rattle.desk_pages.proofs.Changes.{same_change}
use Rattle.desk_pages.proofs.Frames.{same_bottom, same_top}
use Rattle.desk_pages.proofs.Histories.{same_history}
use Rattle.desk_pages.proofs.Known.{same_facts}
use Rattle.desk_pages.proofs.Tables.{same_when}
use Rattle.desk_pages.proofs.Writes.{same_comment, same_reply}

same_request_top : (row line : RequestRow) → SameMarkup (request_top row) (request_top line)
unfolding request_top through
same_request_top row line = same_filled REQUEST_TOP.now refl _ _ _

same_commenting : (id another : ℕ) (caller person : List ℕ) (replies now : Bool) → replies ≡ now
    → SameMarkup (commenting id caller replies) (commenting another person now)
unfolding commenting through
same_commenting id another caller person replies now same =
    same_both (same_flags COMMENT_TOP.now refl _ _ _ _ (ap (λ flag. not flag ∷ flag ∷ []) same))
    (same_both (same_comment id another caller person [] []) (same_filled COMMENT_END.now refl _ _ _))

same_writing : (id another : ℕ) (caller person : List ℕ) (seen last : ℕ)
    (status other : Option (List ℕ)) (replies now comments too : Bool)
    → is_some status ≡ is_some other → replies ≡ now → comments ≡ too
    → SameMarkup (writing id caller seen status replies comments)
    (writing another person last other now too)
unfolding writing through
same_writing id another caller person seen last status other replies now comments too same reply
    comment =
    same_both (same_filled REPLY_TOP.now refl _ _ _)
    (same_both (same_when replies now _ _ reply (same_reply id another caller person seen last [] []
    status other false same))
    (same_both (same_when comments too _ _ comment (same_commenting id another caller person
    replies now reply))
    (same_flags WRITING_END.now refl _ _ _ _
    (let none : not replies && not comments ≡ not now && not too = cc in
    ap (λ flag. flag ∷ []) none))))

pub request_same : (caller other : List ℕ) (moment later : ℕ) (settings rules : Settings)
    (dossier file : Dossier) (rows lines : List RequestRow)
    → request_told caller moment settings dossier ≡ request_told other later rules file
    → SameMarkup (request_page caller moment settings dossier rows)
    (request_page other later rules file lines)
request_same caller other moment later settings rules dossier file rows lines same =
    let row = dossier.shown.row in
    let line = file.shown.row in
    let opened = ap (λ told. told.opened) same in
    same_both
    (same_top (request_title row.id row.subject) (request_title line.id line.subject) Elsewhere
    caller other)
    (same_both
    (same_both
    (same_both (same_request_top row line)
    (same_both (same_facts (may_modify settings dossier.shown caller)
    (may_modify rules file.shown other) row.id line.id caller other moment later settings rules dossier file
    rows lines
    (ap (λ told. told.modifies) same) (ap (λ told. told.facts) same))
    (same_history dossier.entries file.entries (ap (λ told. told.kinds) same))))
    (same_both (same_writing row.id line.id caller other (last_number dossier.entries)
    (last_number file.entries) (closing_for caller settings dossier)
    (closing_for other rules file) (may_reply settings dossier.shown caller)
    (may_reply rules file.shown other) (may_comment settings dossier.shown caller)
    (may_comment rules file.shown other) (ap (λ told. told.closing) same)
    (ap (λ told. told.replies) same) (ap (λ told. told.comments) same))
    (same_change caller other settings rules dossier file opened
    (ap (λ told. told.facts.many) same) (ap (λ told. told.change) same))))
    (same_bottom moment later))
