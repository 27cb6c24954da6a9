-- Values and tables inside a settings text.
use Rattle.std.specs.Prelude.{◌&&◌, ◌+◌, ℕ, zero, suc, Bool, List, Option, codes, nat_lt, false}
use Rattle.std.specs.Prelude.{if◌then◌else◌}
use Rattle.std.specs.Option.{option_map_or}
use Rattle.std.specs.Str.{bytes_eq}
use Rattle.toml.specs.Data.{Data, Items, Members, as_str, get_item, get_member, item, no_items}
use Rattle.toml.specs.Data.{no_members}
use Rattle.settings_form.specs.Places.{KeyAt, TablePath}
use Rattle.settings_form.specs.declared.form.Place.{Place}
use Rattle.settings_form.specs.declared.form.Place.TheVariants as form
use Rattle.settings_parts.specs.Values.{items_at, members_of, table_at}

-- the table of this name under a key
abbrev pub named : List ℕ → List ℕ → Members → Members
named key name ms = table_at name (table_at key ms)

-- the table of this number of a list, from 1
abbrev pub grant_in : ℕ → Items → Members
grant_in zero ds = no_members
grant_in (suc n) ds = option_map_or members_of (get_item n ds) no_members

abbrev pub grant : ℕ → Members → Members
grant n ms = grant_in n (items_at (codes "grant") ms)

-- the table of this form that is reached so, without members where there is none
abbrev pub reached : Place → TablePath → Members → Members
reached form.Top path ms = ms
reached form.Groups path ms = table_at path.key ms
reached form.Tokens path ms = table_at path.key ms
reached form.Lifecycles path ms = table_at path.key ms
reached form.Calendars path ms = table_at path.key ms
reached form.Levels path ms = table_at path.key ms
reached form.Grant path ms = grant path.number ms
reached form.Lifecycle path ms = named (codes "lifecycle") path.key ms
reached form.Calendar path ms = named (codes "calendar") path.key ms
reached form.Level path ms = named (codes "level") path.key ms
reached form.Transitions path ms = table_at path.key (named (codes "lifecycle") path.around ms)
reached form.RightNames path ms = table_at path.key (named (codes "lifecycle") path.around ms)
reached form.Limit path ms = table_at path.key (named (codes "level") path.around ms)

-- the value at a key of a settings text
abbrev pub value_of : KeyAt → Members → Option Data
value_of found ms = get_member found.key (reached found.place found.path ms)

abbrev pub is_text : List ℕ → Data → Bool
is_text text d = option_map_or (λ s. bytes_eq s text) (as_str d) false

-- of values that are numbered from the one after n, the number of the first with this text that is
-- more than `after`, or the last number
abbrev pub number_from : ℕ → List ℕ → ℕ → Items → ℕ
number_from n text after no_items = n
number_from n text after (item d ds) =
    if nat_lt after (n + 1) && is_text text d then n + 1 else number_from (n + 1) text after ds

-- the number, from 1, of the first value after so many of a list that has this text
abbrev pub number_of : List ℕ → ℕ → Items → ℕ
number_of = number_from 0
