-- The markup of the part by which a request is changed.
use Rattle.std.proofs.Common.{◌≡◌, ℕ, Bool, List, [], ◌∷◌, Option, refl, ap}
use Rattle.hours_core.specs.declared.level.Level.{Level}
use Rattle.settings_core.specs.Settings.{levels_of, lifecycle_named}
use Rattle.settings_core.specs.declared.named.Named.{Named}
use Rattle.settings_core.specs.declared.settings.Settings.{Settings}
use Rattle.desk_model.specs.declared.answer.Dossier.{Dossier}
use Rattle.page_core.specs.Markup.{SameMarkup}
use Rattle.page_core.specs.Template.{through}
use Rattle.page_core.proofs.Same.{same_both, same_filled, same_flags, same_rows}
use Rattle.desk_pages.specs.Change.{change, change_told, is_open, may_change, panel}
use Rattle.desk_pages.specs.Fields.{field_forms, is_present, level_form, level_row, levels_told}
use Rattle.desk_pages.specs.Fields.{linking, watching}
use Rattle.desk_pages.specs.Lists.{many_told}
use Rattle.desk_pages.specs.Rights.{may_change_owner, may_give, may_modify, may_set_persons}
use Rattle.desk_pages.specs.declared.markup.change.TheConstants.{CHANGE_END, CHANGE_TOP}
use Rattle.desk_pages.specs.declared.markup.change.TheConstants.{CONTENT_END}
use Rattle.desk_pages.specs.declared.markup.fields.TheConstants.{LEVEL_END, LEVEL_TOP}
use Rattle.desk_pages.specs.declared.markup.fields.TheConstants.{LINKING, WATCHING}
use Rattle.desk_pages.proofs.Offers.{same_moves}
use Rattle.desk_pages.proofs.Persons.{same_give, same_owner, same_owners, same_people}
use Rattle.desk_pages.proofs.Tables.{same_choice, same_when}

same_level : (id another : ℕ) (caller other : List ℕ) (present now : Option (List ℕ))
    (levels others : List (Named Level))
    → levels_told present levels ≡ levels_told now others
    → SameMarkup (level_form id caller present levels)
    (level_form another other now others)
unfolding level_form through
same_level id another caller other present now levels others same =
    same_both (same_filled LEVEL_TOP.now refl _ _ _)
    (same_both (same_rows (level_row present) (level_row now)
    (λ level. is_present present level.name) (λ level. is_present now level.name)
    (λ level one. same_choice _ _ level.name one.name) levels others same)
    (same_filled LEVEL_END.now refl _ _ _))

same_watching : (id another : ℕ) (caller other : List ℕ)
    → SameMarkup (watching id caller) (watching another other)
unfolding through watching
same_watching id another caller other = same_filled WATCHING.now refl _ _ _

same_linking : (id another : ℕ) (caller other : List ℕ)
    → SameMarkup (linking id caller) (linking another other)
unfolding linking through
same_linking id another caller other = same_filled LINKING.now refl _ _ _

same_fields : (id another : ℕ) (caller other : List ℕ) (present now : Option (List ℕ))
    (levels others : List (Named Level))
    (modifies may sets can : Bool) → levels_told present levels ≡ levels_told now others
    → modifies ≡ may → sets ≡ can
    → SameMarkup (field_forms id caller present levels modifies sets)
    (field_forms another other now others may can)
same_fields id another caller other present now levels others modifies may sets can same modify
    set =
    same_both (same_when modifies may _ _ modify (same_level id another caller other present now
    levels others same))
    (same_both (same_when sets can _ _ set (same_watching id another caller other))
    (same_when modifies may _ _ modify (same_linking id another caller other)))

same_panel : (caller other : List ℕ) (settings rules : Settings) (dossier file : Dossier)
    → is_open caller dossier.shown ≡ is_open other file.shown
    → many_told dossier.shown ≡ many_told file.shown
    → change_told caller settings dossier ≡ change_told other rules file
    → SameMarkup (panel caller settings dossier) (panel other rules file)
unfolding panel through
same_panel caller other settings rules dossier file opened many same =
    let row = dossier.shown.row in
    let line = file.shown.row in
    same_both (same_flags CHANGE_TOP.now refl _ _ _ _ (ap (λ flag. flag ∷ []) opened))
    (same_both (same_moves row.id line.id settings rules dossier.shown file.shown caller other
    (lifecycle_named settings dossier.queue.lifecycle) (lifecycle_named rules file.queue.lifecycle)
    (ap (λ told. told.moves) same))
    (same_both
    (same_both (same_when (may_change_owner settings dossier.shown caller)
    (may_change_owner rules file.shown other) _ _ (ap (λ told. told.owns) same)
    (same_owner row.id line.id caller other row.owner line.owner))
    (same_both (same_when (may_give settings dossier.shown caller) (may_give rules file.shown other)
    _ _ (ap (λ told. told.gives) same) (same_give row.id line.id caller other))
    (same_owners caller other settings rules dossier.shown file.shown (ap (λ told. told.owners)
    same))))
    (same_both (same_fields row.id line.id caller other row.level line.level (levels_of settings)
    (levels_of rules) (may_modify settings dossier.shown caller) (may_modify rules file.shown other)
    (may_set_persons settings dossier.shown caller) (may_set_persons rules file.shown other)
    (ap (λ told. told.levels) same) (ap (λ told. told.modifies) same) (ap (λ told. told.sets) same))
    (same_both (same_people caller other dossier.shown file.shown many (ap (λ told. told.people)
    same))
    (same_filled CHANGE_END.now refl _ _ _)))))

pub same_change : (caller other : List ℕ) (settings rules : Settings) (dossier file : Dossier)
    → is_open caller dossier.shown ≡ is_open other file.shown
    → many_told dossier.shown ≡ many_told file.shown
    → change_told caller settings dossier ≡ change_told other rules file
    → SameMarkup (change caller settings dossier) (change other rules file)
unfolding change through
same_change caller other settings rules dossier file opened many same =
    same_both (same_when (may_change caller settings dossier) (may_change other rules file) _ _
    (ap (λ told. told.any) same)
    (same_panel caller other settings rules dossier file opened many same))
    (same_filled CONTENT_END.now refl _ _ _)
