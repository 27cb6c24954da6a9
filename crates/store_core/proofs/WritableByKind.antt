-- The change of a command that isn't refused can be written, by the kind of the command.
use Rattle.std.proofs.Common.{◌≡◌, ◌∙◌, ℕ, ◌+◌, true, List, length, Option, Some}
use Rattle.std.proofs.Common.{is_some, None, refl, ap, sym, arith}
use Rattle.std.proofs.lemmas.Bool.{and_from}
use Rattle.std.specs.List.{list_all}
use Rattle.sqlite_trees.proofs.ListLemmas.{all_of}
use Rattle.settings_core.specs.declared.settings.Settings.{Settings}
use Rattle.desk_model.specs.declared.command.Command.{Command}
use Rattle.desk_model.specs.declared.command.Command.TheVariants.{OpenQueue, Create, Watch}
use Rattle.desk_model.specs.declared.rows.RequestRow.{RequestRow}
use Rattle.desk_core.specs.Decision.{change_of}
use Rattle.desk_core.proofs.Carried.{carried_law}
use Rattle.desk_core.proofs.DeskLaw.ByKind.{Meets, by_plan, change_fits}
use Rattle.desk_core.proofs.DeskLaw.Fitting as fitting
use Rattle.desk_core.proofs.NamesLaw.{names_in_order_rise}
use Rattle.desk_model.specs.Change.{filed, request_filed}
use Rattle.desk_model.specs.Commands.{plan_of}
use Rattle.desk_model.specs.Commands.Create.{given_or_caller}
use Rattle.desk_model.specs.Desk.{Desk, Request, request_at}
use Rattle.desk_model.specs.IsDesk.{IsDesk}
use Rattle.desk_model.specs.Step.{call, facts_of, guard}
use Rattle.store_core.proofs.Revised.{none_past}
use Rattle.store_core.proofs.Writable.{IsLast, last_there, nobody, requestors_anew, rising_apart}
use Rattle.store_core.proofs.Writable.{watching_is}
use Rattle.store_core.specs.Written.{FilesNext, IsWritable, PutsAnew, SetsThere, is_there}
use Rattle.store_core.specs.Written.{with_filed, with_rows}

-- the request that a command is on is there
found_there : (desk : Desk) (id : ℕ) (r : Request) → request_at desk id ≡ Some r → id ≡ r.row.id
    → is_there desk r.row.id ≡ true
found_there desk id r there same = ap (is_there desk) (sym same) ∙ ap is_some there

sets : (desk : Desk) (command : Command)
    → Meets (λ d change. SetsThere (with_filed change d) change.row) desk (plan_of command)
sets desk (OpenQueue name lifecycle level) = λ call none. tt
sets desk (Create queue subject status requestors) = λ call none. tt
sets desk other = λ call r there same none.
    let here = found_there desk _ r there same in
    let nothing : Unit {0} = tt in assumption

-- the request that is filed is the last one
filed_last : (desk : Desk) (row : RequestRow) → IsDesk desk → row.id ≡ length desk.requests + 1
    → IsLast (request_filed (Some row) desk) desk.requests (filed row)
filed_last desk row is next =
    record { is = refl; alone = none_past desk.requests 1 row.id is.requests (omega (arith, next)) }

puts : (desk : Desk) → IsDesk desk → (command : Command)
    → Meets (λ d change. PutsAnew (with_rows change d) change.put) desk (plan_of command)
puts desk is (OpenQueue name lifecycle level) = λ call none. tt
puts desk is (Create queue subject status requestors) = λ call none.
    requestors_anew _ _ desk.requests _ (filed_last desk _ is refl) (all_of _ (λ n. refl) _)
    (rising_apart _ (names_in_order_rise (given_or_caller call.caller requestors)))
puts desk is (Watch id role person) = λ call r there same none.
    let new = nobody desk is r.row.id role person r (rw same at there)
    (watching_is role person r ∙ none.1.1.0) in (found_there desk id r there same, new, tt)
puts desk is other = λ call r there same none. tt

-- all entries are of a request that is there
notes : (desk : Desk) → IsDesk desk → (command : Command)
    → Meets (λ d c. list_all (λ e. is_there (with_filed c d) e.id) c.entries ≡ true) desk
    (plan_of command)
notes desk is (OpenQueue name lifecycle level) = λ call none. refl
notes desk is (Create queue subject status requestors) = λ call none.
    and_from _ _ (last_there _ _ _ (filed_last desk _ is refl)) refl
notes desk is other = λ call r there same none.
    let here = found_there desk _ r there same in grind arith

files_next : (desk : Desk) (row : Option RequestRow) → fitting.FilesNext desk row
    → FilesNext desk row
files_next desk row next = grind arith

-- the change of a command that isn't refused can be written
pub change_writable : (s : Settings) (at : ℕ) (caller : List ℕ) (command : Command) (desk : Desk)
    → IsDesk desk → guard s at caller command desk ≡ None
    → IsWritable desk (change_of (call s at caller) (facts_of command desk) command)
change_writable s at caller command desk is free =
    let asks = call s at caller in
    let plan = plan_of command in
    let files = files_next desk _ (change_fits s at caller command desk is free).files in
    let set = by_plan (λ d c. SetsThere (with_filed c d) c.row) asks plan desk tt
    (sets desk command) free in
    let put = by_plan (λ d c. PutsAnew (with_rows c d) c.put) asks plan desk tt
    (puts desk is command) free in
    let noted = by_plan (λ d c. list_all (λ e. is_there (with_filed c d) e.id) c.entries ≡ true)
    asks plan desk refl (notes desk is command) free in
    let stays = carried_law s at caller command desk is free in assumption
