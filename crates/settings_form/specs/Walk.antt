-- The faults of form of a whole settings text: those of each table that stands where one belongs.
use Rattle.std.specs.Prelude.{Bool, false, ◌||◌, Option, Some, None, if◌then◌else◌}
use Rattle.toml.specs.Data.{Data, array, table, Items, no_items, item, Members, no_members, member}
use Rattle.settings_form.specs.declared.form.Place.{Place}
use Rattle.settings_form.specs.declared.form.Place.TheVariants.{Top}
use Rattle.settings_form.specs.declared.form.Item.TheVariants.{Table}
use Rattle.settings_form.specs.declared.form.Kind.{Kind}
use Rattle.settings_form.specs.declared.form.Kind.TheVariants.{One, Many}
use Rattle.settings_form.specs.declared.fault.FormFault.{FormFault}
use Rattle.settings_form.specs.declared.fault.FormFault.TheVariants.{UnknownKey, Missing, WrongKind}
use Rattle.settings_form.specs.Form.{kind_of}
use Rattle.settings_form.specs.Kinds.{has_unknown_key, lacks_key, has_wrong_kind, has_clash}

-- a table of the place has the fault itself
abbrev pub has_itself : FormFault → Place → Members → Bool
has_itself UnknownKey p ms = has_unknown_key p ms
has_itself Missing p ms = lacks_key p ms
has_itself WrongKind p ms = has_wrong_kind p ms || has_clash p ms

abbrev mutual
  -- a table inside it has the fault
  pub has_inside : FormFault → Place → Members → Bool
  has_inside f p no_members = false
  has_inside f p (member k d ms) = has_at f (kind_of p k) d || has_inside f p ms

  pub has_at : FormFault → Option Kind → Data → Bool
  has_at f (Some (One (Table p))) (table ms) = has_itself f p ms || has_inside f p ms
  has_at f (Some (Many (Table p))) (array ds) = has_in_items f p ds
  has_at f _ _ = false

  pub has_in_items : FormFault → Place → Items → Bool
  has_in_items f p no_items = false
  has_in_items f p (item d ds) = has_at f (Some (One (Table p))) d || has_in_items f p ds

-- the text has the fault
abbrev pub has_fault : FormFault → Members → Bool
has_fault f ms = has_itself f Top ms || has_inside f Top ms

-- the least fault of form
abbrev pub form_fault : Members → Option FormFault
form_fault ms =
    if has_fault UnknownKey ms then Some UnknownKey
    else if has_fault Missing ms then Some Missing
    else if has_fault WrongKind ms then Some WrongKind
    else None
