use Rattle.std.proofs.Common.{◌≡◌, ◌∙◌, sym, ap, refl, Bool, true, false, not, ◌&&◌}
use Rattle.std.specs.List.{list_all}
use Rattle.text_core.specs.Form.{is_name}
use Rattle.rights_core.specs.RightsFaults.{has_grant_names}
use Rattle.rights_core.proofs.Failing.{none_at, none_found}
use Rattle.rights_core.proofs.checks.has_names.Goals as goal
use Rattle.rights_core.proofs.checks.has_names.Goals.{then-is_none, else-is_none}

pub returns-then-is_none-2 : goal.returns-then-is_none-2
returns-then-is_none-2 c =
    let persons : Bool = list_all is_name c.args.persons.now in
    let groups : Bool = list_all (λ g. is_name g.name) c.args.groups.now in
    let grants : Bool = list_all has_grant_names c.args.grants.now in
    let first : c.is_none.result ≡ persons =
    none_found (λ t. t.now) is_name (λ name. not (is_name name)) c.misnamed_person.result
    c.is_none.result c.args.persons.now (λ name. refl) c.is_none.ensures
    c.misnamed_person.ensures in
    let last : c.is_none-then-is_none-2.result ≡ grants =
    none_at has_grant_names c.misnamed_grant.result c.is_none-then-is_none-2.result
    c.args.grants.now c.is_none-then-is_none-2.ensures c.misnamed_grant.ensures in
    elim c.if-is_none.branch [
      | then-is_none w ↦
          let second : c.if-is_none.value ≡ groups =
          w.value-is
          ∙ none_found (λ g. g.now) (λ g. is_name g.name) (λ g. not (is_name g.name))
          w.misnamed_group.result w.is_none-then-is_none.result c.args.groups.now (λ g. refl)
          w.is_none-then-is_none.ensures w.misnamed_group.ensures in
          last ∙ sym
          (ap (λ (b : Bool). b && groups && grants) (sym first ∙ w.if-is_none.true)
          ∙ ap (λ (b : Bool). b && grants) (sym second ∙ c.if-is_none-2.true))
      | else-is_none w ↦ absurd
          (let no : false ≡ true = sym w.if-is_none.false ∙ sym w.value-is ∙ c.if-is_none-2.true in
          cc)
    ]

pub returns-else-is_none-2 : goal.returns-else-is_none-2
returns-else-is_none-2 c =
    let persons : Bool = list_all is_name c.args.persons.now in
    let groups : Bool = list_all (λ g. is_name g.name) c.args.groups.now in
    let grants : Bool = list_all has_grant_names c.args.grants.now in
    let first : c.is_none.result ≡ persons =
    none_found (λ t. t.now) is_name (λ name. not (is_name name)) c.misnamed_person.result
    c.is_none.result c.args.persons.now (λ name. refl) c.is_none.ensures
    c.misnamed_person.ensures in
    elim c.if-is_none.branch [
      | then-is_none w ↦
          let second : c.if-is_none.value ≡ groups =
          w.value-is
          ∙ none_found (λ g. g.now) (λ g. is_name g.name) (λ g. not (is_name g.name))
          w.misnamed_group.result w.is_none-then-is_none.result c.args.groups.now (λ g. refl)
          w.is_none-then-is_none.ensures w.misnamed_group.ensures in
          c.if-is_none-2.false ∙ sym
          (ap (λ (b : Bool). b && groups && grants) (sym first ∙ w.if-is_none.true)
          ∙ ap (λ (b : Bool). b && grants) (sym second ∙ c.if-is_none-2.false))
      | else-is_none w ↦
          w.value-is ∙ w.if-is_none.false ∙ sym
          (ap (λ (b : Bool). b && groups && grants) (sym first ∙ w.if-is_none.false))
    ]
