-- The markup of the persons of a request, and of the requests that it is linked with.
use Rattle.std.proofs.Common.{◌≡◌, ℕ, Bool, true, List, [], ◌∷◌, length, refl, ap}
use Rattle.desk_model.specs.declared.answer.Shown.{Shown}
use Rattle.desk_model.specs.declared.rows.RequestRow.{RequestRow}
use Rattle.page_core.specs.Markup.{SameMarkup}
use Rattle.page_core.specs.Template.{through}
use Rattle.page_core.proofs.Same.{same_both, same_count, same_flags}
use Rattle.desk_pages.specs.Lists.{link_row, link_told, links_told, many_told, others}
use Rattle.desk_pages.specs.Lists.{person_row, persons, roles}
use Rattle.desk_pages.specs.declared.markup.lists.TheConstants.{LINK_ROW, LIST_END, LIST_TOP}
use Rattle.desk_pages.specs.declared.markup.lists.TheConstants.{PERSON_ROW}
use Rattle.desk_pages.proofs.Tables.{filled_alike}

same_person : (buttons now : Bool) (id another : ℕ) (caller person role post : List ℕ) → buttons ≡ now
    → (name other : List ℕ)
    → SameMarkup (person_row buttons id caller role name)
    (person_row now another person post other)
unfolding person_row through
same_person buttons now id another caller person role post same name other =
    same_flags PERSON_ROW.now refl _ _ _ _ (ap (λ flag. flag ∷ []) same)

same_persons : (headed known buttons now : Bool) (id another : ℕ)
    (caller person role post heading title : List ℕ) (names others : List (List ℕ)) → headed ≡ known → buttons ≡ now → length names ≡ length others
    → SameMarkup (persons headed buttons id caller role heading names)
    (persons known now another person post title others)
unfolding persons through
same_persons headed known buttons now id another caller person role post heading title names
    others head button many =
    same_both (same_flags LIST_TOP.now refl _ _ _ _ (ap (λ flag. flag ∷ []) head))
    (same_both (same_count (person_row buttons id caller role) (person_row now another person post)
    (same_person buttons now id another caller person role post button) names others many)
    (same_flags LIST_END.now refl _ _ _ _ (ap (λ flag. flag ∷ []) head)))

same_link : (buttons now : Bool) (id another : ℕ) (caller person : List ℕ)
    (rows lines : List RequestRow) (link kind : List ℕ) → buttons ≡ now
    → (n m : ℕ) → SameMarkup (link_row buttons id caller rows link n)
    (link_row now another person lines kind m)
unfolding link_row link_told through
same_link buttons now id another caller person rows lines link kind same n m =
    same_flags LINK_ROW.now refl _ _ _ _ (ap (λ flag. flag ∷ []) same)

same_others : (buttons now : Bool) (id another : ℕ) (caller person : List ℕ)
    (rows lines : List RequestRow) (link heading : List ℕ) (ns ms : List ℕ)
    → buttons ≡ now → length ns ≡ length ms
    → SameMarkup (others buttons id caller rows link heading ns)
    (others now another person lines link heading ms)
unfolding others through
same_others buttons now id another caller person rows lines link heading ns ms button many =
    same_both (same_flags LIST_TOP.now refl _ _ _ _ (ap (λ flag. flag ∷ []) (filled_alike ns ms
    many)))
    (same_both (same_count (link_row buttons id caller rows link)
    (link_row now another person lines link)
    (same_link buttons now id another caller person rows lines link link button) ns ms many)
    (same_flags LIST_END.now refl _ _ _ _ (ap (λ flag. flag ∷ []) (filled_alike ns ms many))))

-- as many in each list
pub record AsMany (shown other : Shown) : Type 0 where
  pub requestors : length shown.requestors ≡ length other.requestors
  pub cc : length shown.cc ≡ length other.cc
  pub admin_cc : length shown.admin_cc ≡ length other.admin_cc
  pub depends_on : length shown.links.depends_on ≡ length other.links.depends_on
  pub depended_on_by : length shown.links.depended_on_by ≡ length other.links.depended_on_by
  pub member_of : length shown.links.member_of ≡ length other.links.member_of
  pub has_member : length shown.links.has_member ≡ length other.links.has_member
  pub refers_to : length shown.links.refers_to ≡ length other.links.refers_to
  pub referred_to_by : length shown.links.referred_to_by ≡ length other.links.referred_to_by

pub as_many_in : (shown other : Shown) → many_told shown ≡ many_told other → AsMany shown other
as_many_in shown other same =
    record {
      requestors = cc;
      cc = cc;
      admin_cc = cc;
      depends_on = cc;
      depended_on_by = cc;
      member_of = cc;
      has_member = cc;
      refers_to = cc;
      referred_to_by = cc;
    }

pub same_roles : (buttons now : Bool) (id another : ℕ) (caller person : List ℕ) (shown other : Shown) → buttons ≡ now
    → many_told shown ≡ many_told other
    → SameMarkup (roles buttons id caller shown) (roles now another person other)
same_roles buttons now id another caller person shown other button same =
    let many = as_many_in shown other same in
    same_both (same_persons true true buttons now id another caller person _ _ _ _ shown.requestors
    other.requestors
    refl button many.requestors)
    (same_both (same_persons _ _ buttons now id another caller person _ _ _ _ shown.cc other.cc
    (filled_alike shown.cc other.cc many.cc) button many.cc)
    (same_persons _ _ buttons now id another caller person _ _ _ _ shown.admin_cc other.admin_cc
    (filled_alike shown.admin_cc other.admin_cc many.admin_cc) button many.admin_cc))

pub same_links : (buttons now : Bool) (id another : ℕ) (caller person : List ℕ)
    (rows lines : List RequestRow) (shown other : Shown) → buttons ≡ now
    → many_told shown ≡ many_told other
    → SameMarkup (links_told buttons id caller rows shown.links)
    (links_told now another person lines other.links)
same_links buttons now id another caller person rows lines shown other button same =
    let many = as_many_in shown other same in
    same_both
    (same_both
    (same_others buttons now id another caller person rows lines _ _ shown.links.depends_on other.links.depends_on button
    many.depends_on)
    (same_others buttons now id another caller person rows lines _ _ shown.links.depended_on_by other.links.depended_on_by
    button many.depended_on_by))
    (same_both
    (same_both
    (same_others buttons now id another caller person rows lines _ _ shown.links.member_of other.links.member_of button
    many.member_of)
    (same_others buttons now id another caller person rows lines _ _ shown.links.has_member other.links.has_member button
    many.has_member))
    (same_both
    (same_others buttons now id another caller person rows lines _ _ shown.links.refers_to other.links.refers_to button
    many.refers_to)
    (same_others buttons now id another caller person rows lines _ _ shown.links.referred_to_by other.links.referred_to_by
    button many.referred_to_by)))
