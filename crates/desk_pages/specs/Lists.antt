-- The persons of a request and the requests that it is linked with, each with a cross. That opens
-- a button, which says what it takes out or away, and does it.
use Rattle.std.specs.Prelude.{ℕ, Bool, true, List, [], ◌∷◌, ◌++◌, ◌==◌, Option, codes, decimal}
use Rattle.std.specs.Prelude.{find, length}
use Rattle.std.specs.List.{flat_map}
use Rattle.std.specs.Option.{option_map_or}
use Rattle.desk_model.specs.declared.answer.Links.{Links}
use Rattle.desk_model.specs.declared.answer.Shown.{Shown}
use Rattle.desk_model.specs.declared.rows.RequestRow.{RequestRow}
use Rattle.page_core.specs.Page.{Part}
use Rattle.page_core.specs.Template.{filled}
use Rattle.desk_pages.specs.Pieces.{is_filled}
use Rattle.desk_pages.specs.declared.markup.lists.TheConstants.{LINK_ROW, LIST_END, LIST_TOP}
use Rattle.desk_pages.specs.declared.markup.lists.TheConstants.{PERSON_ROW}

-- a person in a role on a request, with a cross for a caller or without
unfoldable pub person_row : Bool → ℕ → List ℕ → List ℕ → List ℕ → List Part
person_row buttons id caller role name =
    filled PERSON_ROW.now
    (name ∷ name ∷ decimal id ∷ caller ∷ role ∷ name ∷ name ∷ role ∷ []) (buttons ∷ [])

-- persons in a role, under a heading or without
unfoldable pub persons : Bool → Bool → ℕ → List ℕ → List ℕ → List ℕ → List (List ℕ) → List Part
persons headed buttons id caller role heading names =
    filled LIST_TOP.now (heading ∷ []) (headed ∷ [])
    ++ (flat_map (person_row buttons id caller role) names ++ filled LIST_END.now [] (headed ∷ []))

-- the row of the request of a number among these
abbrev pub row_numbered : List RequestRow → ℕ → Option RequestRow
row_numbered rows n = find (λ row. row.id == n) rows

-- its subject and its status, or nothing if there is none
abbrev pub subject_of : List RequestRow → ℕ → List ℕ
subject_of rows n = option_map_or (λ row. row.subject) (row_numbered rows n) []

abbrev pub status_of : List RequestRow → ℕ → List ℕ
status_of rows n = option_map_or (λ row. row.status) (row_numbered rows n) []

-- another request in a kind of links, with its subject and its status
unfoldable pub link_told : Bool → ℕ → List ℕ → List ℕ → List ℕ → List ℕ → ℕ → List Part
link_told buttons id caller subject status link n =
    filled LINK_ROW.now
    (decimal n ∷ decimal n ∷ subject ∷ status ∷ decimal n ∷ decimal id ∷ caller ∷ link ∷ decimal n
    ∷ link ∷ decimal n ∷ []) (buttons ∷ [])

-- and as these rows tell of it
unfoldable pub link_row : Bool → ℕ → List ℕ → List RequestRow → List ℕ → ℕ → List Part
link_row buttons id caller rows link n =
    link_told buttons id caller (subject_of rows n) (status_of rows n) link n

-- requests in a kind of links, under a heading if there are any
unfoldable pub others : Bool → ℕ → List ℕ → List RequestRow → List ℕ → List ℕ → List ℕ → List Part
others buttons id caller rows link heading ns =
    filled LIST_TOP.now (heading ∷ []) (is_filled ns ∷ [])
    ++ (flat_map (link_row buttons id caller rows link) ns ++ filled LIST_END.now [] (is_filled ns ∷ []))

-- the persons of a request in their roles; there is a heading for requestors even if there are none
abbrev pub roles : Bool → ℕ → List ℕ → Shown → List Part
roles buttons id caller shown =
    persons true buttons id caller (codes "requestor") (codes "Requestors") shown.requestors
    ++ (persons (is_filled shown.cc) buttons id caller (codes "cc") (codes "Cc") shown.cc
    ++ persons (is_filled shown.admin_cc) buttons id caller (codes "admincc") (codes "AdminCc")
    shown.admin_cc)

-- the requests that it is linked with, in each of the six kinds
abbrev pub dependencies : Bool → ℕ → List ℕ → List RequestRow → Links → List Part
dependencies buttons id caller rows links =
    others buttons id caller rows (codes "DependsOn") (codes "Depends on") links.depends_on
    ++ others buttons id caller rows (codes "DependedOnBy") (codes "Depended on by") links.depended_on_by

abbrev pub members : Bool → ℕ → List ℕ → List RequestRow → Links → List Part
members buttons id caller rows links =
    others buttons id caller rows (codes "MemberOf") (codes "Member of") links.member_of
    ++ others buttons id caller rows (codes "HasMember") (codes "Has members") links.has_member

abbrev pub references : Bool → ℕ → List ℕ → List RequestRow → Links → List Part
references buttons id caller rows links =
    others buttons id caller rows (codes "RefersTo") (codes "Refers to") links.refers_to
    ++ others buttons id caller rows (codes "ReferredToBy") (codes "Referred to by") links.referred_to_by

abbrev pub links_told : Bool → ℕ → List ℕ → List RequestRow → Links → List Part
links_told buttons id caller rows links =
    dependencies buttons id caller rows links
    ++ (members buttons id caller rows links ++ references buttons id caller rows links)

-- what the markup tells of them: how many there are in each role, and in each kind of links
abbrev pub many_told : Shown → List ℕ
many_told shown =
    length shown.requestors ∷ length shown.cc ∷ length shown.admin_cc
    ∷ length shown.links.depends_on ∷ length shown.links.depended_on_by
    ∷ length shown.links.member_of ∷ length shown.links.has_member
    ∷ length shown.links.refers_to ∷ length shown.links.referred_to_by ∷ []
