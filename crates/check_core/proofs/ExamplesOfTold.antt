-- Examples of what is told of tables, and of what is looked up in a settings text.
use Rattle.std.specs.Prelude.{◌≡◌, refl, false, true, pos, [], ◌∷◌, codes, None, Some}
use Rattle.std.specs.List.{list_any}
use Rattle.std.specs.Prelude.{◌==◌}
use Rattle.sqlite.specs.declared.types.Value.TheVariants as value
use Rattle.toml.specs.Data.{Data, Items, Members, array, integer, item, member, no_items, no_members}
use Rattle.toml.specs.Data.{string, table}
use Rattle.settings_form.specs.Places.{at, path_to}
use Rattle.settings_form.specs.declared.form.Item.TheVariants.{Integer, Text}
use Rattle.settings_form.specs.declared.form.Kind.TheVariants.{Many, One}
use Rattle.settings_form.specs.declared.form.Place.TheVariants as form
use Rattle.settings_form.specs.declared.form.TextForm.TheVariants.{Any}
use Rattle.store_tables.specs.declared.fault.StoreFault.TheVariants.{Mismatch, Refused, WrongVersion}
use Rattle.check_core.specs.Columns.{schema_of, tree_of}
use Rattle.check_core.specs.Inside.{grant_in, named, number_of, value_of}
use Rattle.check_core.specs.Rows.{in_queue, unknown}
use Rattle.check_core.specs.Told.{name_line, row_line, unread_line, version_line}
use Rattle.check_core.specs.Typed.{misfit}
use Rattle.check_core.specs.Words.{unknown_text}
use Rattle.check_core.specs.declared.columns.Table.TheVariants as tables
use Rattle.check_core.specs.declared.columns.Version.TheVariants as version
use Rattle.check_core.specs.declared.rows.What.TheVariants as what

-- Columns.antt

no_stays_in_version_1 :
    list_any (λ t. t.tree == tree_of tables.Stay) (schema_of version.First).tables ≡ false
no_stays_in_version_1 = refl

stays_in_version_2 :
    list_any (λ t. t.tree == tree_of tables.Stay) (schema_of version.Present).tables ≡ true
stays_in_version_2 = refl

-- Told.antt

line_of_a_name :
    name_line (unknown_text (unknown (in_queue (codes "sales")) what.Level (codes "slow")))
    ≡ codes "attach: queue `sales`: the settings don't know the level `slow`"
line_of_a_name = refl

line_of_a_row :
    row_line (tables.Queue, (value.Null ∷ value.Null ∷ value.Null ∷ [], 1))
    ≡ codes "attach: the table `queue`, name nothing: the column `lifecycle` has nothing, no value of its type"
line_of_a_row = refl

line_of_rows_that_were_refused :
    unread_line Refused ≡ codes "attach: the tables could not be read: a statement or memory was refused"
line_of_rows_that_were_refused = refl

line_of_another_version :
    version_line WrongVersion ≡ codes "store: the tables are of another version"
line_of_another_version = refl

line_of_a_version_that_is_no_number :
    version_line Mismatch ≡ codes "store: the table `meta`: its version is no value of its type"
line_of_a_version_that_is_no_number = refl

-- Inside.antt, Typed.antt

abbrev text_item : Items → Items
text_item rest = item (string (codes "ann")) rest

-- ann, bob, and ann again
abbrev persons : Items
persons = text_item (item (string (codes "bob")) (text_item no_items))

first_ann : number_of (codes "ann") 0 persons ≡ 1
first_ann = refl

second_ann : number_of (codes "ann") 1 persons ≡ 3
second_ann = refl

no_eve : number_of (codes "eve") 0 persons ≡ 3
no_eve = refl

abbrev limit : Members
limit = member (codes "real_minutes") (integer (pos 0)) no_members

abbrev text : Members
text =
    member (codes "level")
    (table (member (codes "fast") (table (member (codes "response") (table limit) no_members)) no_members))
    no_members

level_by_its_name :
    named (codes "level") (codes "fast") text ≡ member (codes "response") (table limit) no_members
level_by_its_name = refl

level_of_another_name : named (codes "level") (codes "slow") text ≡ no_members
level_of_another_name = refl

minutes_of_a_limit :
    value_of (at form.Limit (path_to (codes "fast") (codes "response") 0) (codes "real_minutes")) text
    ≡ Some (integer (pos 0))
minutes_of_a_limit = refl

minutes_of_no_limit :
    value_of (at form.Limit (path_to (codes "fast") (codes "resolve") 0) (codes "real_minutes")) text
    ≡ None
minutes_of_no_limit = refl

first_grant : grant_in 1 (item (table limit) no_items) ≡ limit
first_grant = refl

grant_before_the_first : grant_in 0 (item (table limit) no_items) ≡ no_members
grant_before_the_first = refl

grant_past_the_last : grant_in 2 (item (table limit) no_items) ≡ no_members
grant_past_the_last = refl

number_among_texts :
    misfit (Many (Text Any)) (array (text_item (item (integer (pos 3)) no_items)))
    ≡ Some (integer (pos 3))
number_among_texts = refl

texts_among_texts : misfit (Many (Text Any)) (array persons) ≡ None
texts_among_texts = refl

one_value_is_no_list : misfit (One Integer) (string (codes "ann")) ≡ None
one_value_is_no_list = refl
