-- The markup of what is told of a request before its history.
use Rattle.std.proofs.Common.{◌≡◌, ℕ, Bool, List, [], ◌∷◌, Option, Some, None, is_some, refl, ap}
use Rattle.settings_core.specs.declared.settings.Settings.{Settings}
use Rattle.desk_model.specs.declared.answer.Dossier.{Dossier}
use Rattle.desk_model.specs.declared.rows.RequestRow.{RequestRow}
use Rattle.page_core.specs.Markup.{SameMarkup}
use Rattle.page_core.specs.Template.{through}
use Rattle.page_core.proofs.Same.{same_both, same_filled, same_flags, same_none}
use Rattle.desk_pages.specs.Facts.{facts, facts_told, level_facts, own_facts, state_facts, state_of}
use Rattle.desk_pages.specs.Facts.{zone_of}
use Rattle.desk_pages.specs.Local.{local, local_at}
use Rattle.desk_pages.specs.declared.markup.facts.TheConstants.{FACTS_END, FACTS_TOP, FILED_END}
use Rattle.desk_pages.specs.declared.markup.facts.TheConstants.{LEVEL, LOCAL}
use Rattle.desk_pages.proofs.Linked.{same_links, same_roles}
use Rattle.desk_pages.proofs.Tables.{never, nowhere, same_due}

same_local : (shown other : Option ℕ) → is_some shown ≡ is_some other
    → SameMarkup (local shown) (local other)
unfolding local through
same_local None None same = same_none
same_local None (Some other) same = never same
same_local (Some shown) None same = nowhere same
same_local (Some shown) (Some other) same = same_filled LOCAL.now refl _ _ _

same_state : (state other : List ℕ) (late now : Bool) (row line : RequestRow) → late ≡ now
    → SameMarkup (state_facts state late row) (state_facts other now line)
unfolding state_facts through
same_state state other late now row line same =
    same_flags FACTS_TOP.now refl _ _ _ _ (ap (λ flag. flag ∷ []) same)

same_level : (late now : Bool) (row line : RequestRow) → late ≡ now
    → SameMarkup (level_facts late row) (level_facts now line)
unfolding level_facts through
same_level late now row line same =
    same_flags LEVEL.now refl _ _ _ _ (ap (λ flag. flag ∷ []) same)

same_own : (moment later : ℕ) (settings rules : Settings) (dossier file : Dossier)
    → facts_told moment settings dossier ≡ facts_told later rules file
    → SameMarkup (own_facts moment settings dossier) (own_facts later rules file)
unfolding own_facts through
same_own moment later settings rules dossier file same =
    let row = dossier.shown.row in
    let line = file.shown.row in
    same_both (same_state (state_of settings dossier) (state_of rules file) _ _ row line
    (ap (λ told. told.late) same))
    (same_both
    (same_both (same_due dossier.shown.due file.shown.due (ap (λ told. told.due) same))
    (same_local (local_at (zone_of settings row) dossier.shown.due)
    (local_at (zone_of rules line) file.shown.due) (ap (λ told. told.due_here) same)))
    (same_both (same_level _ _ row line (ap (λ told. told.late) same))
    (same_both (same_local (local_at (zone_of settings row) (Some row.created))
    (local_at (zone_of rules line) (Some line.created)) (ap (λ told. told.filed_here) same))
    (same_filled FILED_END.now refl _ _ _))))

pub same_facts : (buttons now : Bool) (id another : ℕ) (caller person : List ℕ) (moment later : ℕ)
    (settings rules : Settings) (dossier file : Dossier) (rows lines : List RequestRow)
    → buttons ≡ now → facts_told moment settings dossier ≡ facts_told later rules file
    → SameMarkup (facts buttons id caller moment settings dossier rows)
    (facts now another person later rules file lines)
unfolding through
same_facts buttons now id another caller person moment later settings rules dossier file rows lines
    button same =
    same_both (same_own moment later settings rules dossier file same)
    (same_both (same_roles buttons now id another caller person dossier.shown file.shown button
    (ap (λ told. told.many) same))
    (same_both (same_links buttons now id another caller person rows lines dossier.shown file.shown button
    (ap (λ told. told.many) same)) (same_filled FACTS_END.now refl _ _ _)))
