-- The value of a list that is of another kind than its key asks for.
use Rattle.std.specs.Prelude.{Option, None, Some, if◌then◌else◌}
use Rattle.toml.specs.Data.{Data, Items, array, item, no_items}
use Rattle.settings_form.specs.Kinds.{is_item}
use Rattle.settings_form.specs.declared.form.Item.{Item}
use Rattle.settings_form.specs.declared.form.Kind.{Kind}
use Rattle.settings_form.specs.declared.form.Kind.TheVariants.{Many}

-- the first of these values that is no such item
abbrev pub other_item : Item → Items → Option Data
other_item i no_items = None
other_item i (item d ds) = if is_item i d then other_item i ds else Some d

-- of a list, where the kind is one of lists
abbrev pub misfit : Kind → Data → Option Data
misfit (Many i) (array ds) = other_item i ds
misfit kind d = None
