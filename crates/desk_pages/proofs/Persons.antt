-- The markup of the names that are suggested, and of the forms for an owner.
use Rattle.std.proofs.Common.{◌≡◌, ℕ, Bool, true, false, List, [], ◌∷◌, Option, Some, None}
use Rattle.std.proofs.Common.{if◌then◌else◌, decimal, length, refl}
use Rattle.std.specs.List.{flat_map}
use Rattle.std.specs.Str.{bytes_eq}
use Rattle.settings_core.specs.declared.settings.Settings.{Settings}
use Rattle.desk_model.specs.declared.answer.Shown.{Shown}
use Rattle.page_core.specs.Markup.{SameMarkup}
use Rattle.page_core.specs.Template.{filled, filled_from, markup_in, through}
use Rattle.page_core.proofs.Same.{same_both, same_count, same_filled, same_flags, same_shown}
use Rattle.page_core.proofs.Shows.{Shows}
use Rattle.page_core.proofs.Templates.{template_shows}
use Rattle.desk_pages.specs.Lists.{many_told}
use Rattle.desk_pages.specs.Owner.{give_form, owner_form}
use Rattle.desk_pages.specs.Owners.{names_told, owners}
use Rattle.desk_pages.specs.People.{ends_told, people, people_end, person}
use Rattle.desk_pages.specs.declared.markup.owner.TheConstants.{GIVE, STEAL, TAKE, UNTAKE}
use Rattle.desk_pages.specs.declared.markup.people.TheConstants.{OWNERS_END, OWNERS_TOP}
use Rattle.desk_pages.specs.declared.markup.people.TheConstants.{PEOPLE_END, PEOPLE_TOP, PERSON}
use Rattle.desk_pages.proofs.Linked.{as_many_in}

same_person : (name other : List ℕ) → SameMarkup (person name) (person other)
unfolding person through
same_person name other = same_filled PERSON.now refl _ _ _

same_names : (names others : List (List ℕ)) → length names ≡ length others
    → SameMarkup (flat_map person names) (flat_map person others)
same_names names others many = same_count person person same_person names others many

same_people_end : (caller other : List ℕ) (shown another : Shown)
    → ends_told caller shown ≡ ends_told other another
    → SameMarkup (people_end caller shown) (people_end other another)
unfolding people_end through
same_people_end caller other shown another same = same_flags PEOPLE_END.now refl _ _ _ _ same

pub same_people : (caller other : List ℕ) (shown another : Shown)
    → many_told shown ≡ many_told another → ends_told caller shown ≡ ends_told other another
    → SameMarkup (people caller shown) (people other another)
unfolding through
same_people caller other shown another same ends =
    let many = as_many_in shown another same in
    same_both (same_filled PEOPLE_TOP.now refl _ _ _)
    (same_both (same_names shown.requestors another.requestors many.requestors)
    (same_both (same_names shown.cc another.cc many.cc)
    (same_both (same_names shown.admin_cc another.admin_cc many.admin_cc)
    (same_people_end caller other shown another ends))))

pub same_owners : (caller other : List ℕ) (settings rules : Settings) (shown another : Shown)
    → length (names_told caller settings shown) ≡ length (names_told other rules another)
    → SameMarkup (owners caller settings shown) (owners other rules another)
unfolding through
same_owners caller other settings rules shown another many =
    same_both (same_filled OWNERS_TOP.now refl _ _ _)
    (same_both (same_names (names_told caller settings shown) (names_told other rules another) many)
    (same_filled OWNERS_END.now refl _ _ _))

-- whoever owns it, the form for its owner is read alike
one_of : (mine : Bool) (id : ℕ) (caller owner : List ℕ)
    → Shows (if mine then filled UNTAKE.now (decimal id ∷ caller ∷ []) []
    else filled STEAL.now (decimal id ∷ caller ∷ owner ∷ []) [])
    (markup_in TAKE.now [])
unfolding filled_from markup_in through
one_of true id caller owner = template_shows UNTAKE.now (decimal id ∷ caller ∷ []) [] refl
one_of false id caller owner =
    template_shows STEAL.now (decimal id ∷ caller ∷ owner ∷ []) [] refl

form_shows : (id : ℕ) (caller : List ℕ) (owner : Option (List ℕ))
    → Shows (owner_form id caller owner) (markup_in TAKE.now [])
unfolding owner_form through
form_shows id caller None = template_shows TAKE.now (decimal id ∷ caller ∷ []) [] refl
form_shows id caller (Some owner) = one_of (bytes_eq owner caller) id caller owner

pub same_owner : (id another : ℕ) (caller other : List ℕ) (owner lord : Option (List ℕ))
    → SameMarkup (owner_form id caller owner) (owner_form another other lord)
same_owner id another caller other owner lord =
    same_shown (form_shows id caller owner) (form_shows another other lord)

pub same_give : (id another : ℕ) (caller other : List ℕ)
    → SameMarkup (give_form id caller) (give_form another other)
unfolding give_form through
same_give id another caller other = same_filled GIVE.now refl _ _ _
