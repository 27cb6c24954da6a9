-- What is posted at a row of the table is read as the command that its values make.
use Rattle.std.proofs.Common.{◌≡◌, ◌∙◌, ◌<◌, ◌^◌, ℕ, true, false, zero, suc, List, [], ◌∷◌}
use Rattle.std.proofs.Common.{Option, Some, None, length, get_or, map, refl, ap, arith}
use Rattle.std.proofs.Common.{codes, nat_lt, option_and_then}
use Rattle.std.proofs.lemmas.Bool.{lt-ltb}
use Rattle.std.proofs.lemmas.Str.{is_utf8-from_IsUtf8}
use Rattle.serde_json.specs.Data.{Members, no_members, object, string}
use Rattle.serde_json.specs.Read.{read}
use Rattle.serde_json.specs.View.{items_of}
use Rattle.serde_json.proofs.OnLiterals.{serde_json_on_literals}
use Rattle.text_core.specs.Form.{is_name}
use Rattle.desk_model.specs.declared.rows.LinkKind.TheVariants.{DependsOn, MemberOf, RefersTo}
use Rattle.desk_model.specs.declared.rows.WatchRole.{WatchRole}
use Rattle.desk_model.specs.declared.rows.WatchRole.TheVariants.{Requestor, Cc, AdminCc}
use Rattle.desk_forms.specs.Paths.{Row, get, post}
use Rattle.desk_forms.specs.Table as table
use Rattle.desk_forms.specs.Table.{act, build_command, paths, request}
use Rattle.desk_forms.specs.Arguments.{Arguments}
use Rattle.desk_forms.specs.declared.links.NamedKind.{NamedKind}
use Rattle.desk_forms.specs.declared.links.NamedKind.TheVariants.{Plain, Inverse}
use Rattle.desk_forms.specs.declared.paths.Method.{Method}
use Rattle.desk_forms.specs.declared.paths.Method.TheVariants.{Get, Post}
use Rattle.desk_forms.specs.declared.table.CommandForm.TheVariants as form
use Rattle.route_core.specs.Commands.{members_for}
use Rattle.route_core.specs.Members.{texts_in}
use Rattle.route_core.specs.JsonArguments.{said_by}
use Rattle.client_core.specs.Asked.{CanTell, SaysWhatIsMade}
use Rattle.client_core.specs.Body.{WritesBy, members}
use Rattle.client_core.specs.Spelled.{row_at}
use Rattle.client_core.specs.Target.{named}

-- the members that are read: of a GET none are
abbrev posted_by : Method → Members → Members
posted_by Get ms = no_members
posted_by Post ms = ms

abbrev Back : Row → Type 0
Back row = (v : Arguments) (many : List (List ℕ)) → CanTell row v
    → said_by row.leads (named row.parts v) (posted_by row.method (members row v many))
    ≡ Some (build_command row.leads v many)

-- ---- by forms

list_back : Back (get table.requests form.List)
list_back v many can = rw (can.name refl) refl

open_by : (v : Arguments) (many : List (List ℕ)) (o : Option (List ℕ)) → v.maybe ≡ o
    → said_by form.OpenQueue (named table.queues v)
    (members (post table.queues form.OpenQueue) v many) ≡ Some (build_command form.OpenQueue v many)
open_by v many None is = rw is refl
open_by v many (Some t) is = rw is refl

level_by : (v : Arguments) (many : List (List ℕ)) (o : Option (List ℕ)) → v.maybe ≡ o
    → said_by form.SetLevel (named (act (codes "level")) v)
    (members (post (act (codes "level")) form.SetLevel) v many) ≡ Some (build_command form.SetLevel v many)
level_by v many None is = rw is refl
level_by v many (Some t) is = rw is refl

texts_back : (many : List (List ℕ)) → texts_in (items_of (map string many)) ≡ Some many
texts_back [] = refl
texts_back (t ∷ ts) = rw (texts_back ts) refl

create_by : (v : Arguments) (many : List (List ℕ)) (o : Option (List ℕ)) → v.maybe ≡ o
    → is_name v.queue ≡ true
    → said_by form.Create (named table.requests v)
    (members (post table.requests form.Create) v many) ≡ Some (build_command form.Create v many)
create_by v many None is name = rw (is, name, texts_back many) refl
create_by v many (Some t) is name = rw (is, name, texts_back many) refl

watch_by : (v : Arguments) (many : List (List ℕ)) (r : WatchRole) → v.role ≡ r
    → said_by form.Watch (named (act (codes "watch")) v)
    (members (post (act (codes "watch")) form.Watch) v many) ≡ Some (build_command form.Watch v many)
watch_by v many Requestor is = rw is refl
watch_by v many Cc is = rw is refl
watch_by v many AdminCc is = rw is refl

unwatch_by : (v : Arguments) (many : List (List ℕ)) (r : WatchRole) → v.role ≡ r
    → said_by form.Unwatch (named (act (codes "unwatch")) v)
    (members (post (act (codes "unwatch")) form.Unwatch) v many) ≡ Some (build_command form.Unwatch v many)
unwatch_by v many Requestor is = rw is refl
unwatch_by v many Cc is = rw is refl
unwatch_by v many AdminCc is = rw is refl

link_by : (v : Arguments) (many : List (List ℕ)) (k : NamedKind) → v.link ≡ k → v.delete ≡ false
    → nat_lt v.other (2 ^ 32) ≡ true
    → said_by form.Link (named (act (codes "link")) v)
    (members (post (act (codes "link")) form.Link) v many) ≡ Some (build_command form.Link v many)
link_by v many (Plain DependsOn) is plain low = rw (is, plain, low) refl
link_by v many (Plain MemberOf) is plain low = rw (is, plain, low) refl
link_by v many (Plain RefersTo) is plain low = rw (is, plain, low) refl
link_by v many (Inverse DependsOn) is plain low = rw (is, plain, low) refl
link_by v many (Inverse MemberOf) is plain low = rw (is, plain, low) refl
link_by v many (Inverse RefersTo) is plain low = rw (is, plain, low) refl

unlink_by : (v : Arguments) (many : List (List ℕ)) (k : NamedKind) → v.link ≡ k
    → nat_lt v.other (2 ^ 32) ≡ true
    → said_by form.Unlink (named (act (codes "unlink")) v)
    (members (post (act (codes "unlink")) form.Unlink) v many) ≡ Some (build_command form.Unlink v many)
unlink_by v many (Plain DependsOn) is low = rw (is, low) refl
unlink_by v many (Plain MemberOf) is low = rw (is, low) refl
unlink_by v many (Plain RefersTo) is low = rw (is, low) refl
unlink_by v many (Inverse DependsOn) is low = rw (is, low) refl
unlink_by v many (Inverse MemberOf) is low = rw (is, low) refl
unlink_by v many (Inverse RefersTo) is low = rw (is, low) refl

-- ---- all rows

abbrev Backs : List Row → Type 0
Backs [] = Unit {0}
Backs (row ∷ rows) = Back row × Backs rows

low : (v : Arguments) → v.other < 2 ^ 32 → nat_lt v.other (2 ^ 32) ≡ true
low v small = lt-ltb v.other (2 ^ 32) small

each_back : Backs paths
unfolding paths
each_back = (λ v many can. refl, (λ v many can. open_by v many v.maybe refl, (list_back, (λ v many can. create_by v many v.maybe refl (can.name refl), (λ v many can. refl, (λ v many can. refl, (λ v many can. refl, (λ v many can. refl, (λ v many can. refl, (λ v many can. refl, (λ v many can. refl, (λ v many can. refl, (λ v many can. refl, (λ v many can. watch_by v many v.role refl, (λ v many can. unwatch_by v many v.role refl, (λ v many can. link_by v many v.link refl can.plain (low v can.other), (λ v many can. unlink_by v many v.link refl (low v can.other), (λ v many can. level_by v many v.maybe refl, (λ v many can. refl, (λ v many can. refl, tt))))))))))))))))))))

at_place : (rows : List Row) (i : ℕ) (d : Row) → Backs rows → i < length rows → Back (get_or rows i d)
at_place [] i d all low = absurd (omega arith)
at_place (r ∷ rows) zero d all low = all.0
at_place (r ∷ rows) (suc i) d all low = at_place rows i d all.1 (omega arith)

-- ---- by what is read of the body

none_read : (value : Members) → read [] ≡ Some (object value) → ⊥
unfolding serde_json_on_literals
none_read value is = absurd cc

read_back : (method : Method) (ms : Members) (content : List ℕ) → WritesBy method ms content
    → members_for method content ≡ Some (posted_by method ms)
read_back Get ms content is = refl
read_back Post ms [] (text, is) = absurd (none_read ms is)
read_back Post ms (b ∷ bs) (text, is) = rw (is_utf8-from_IsUtf8 (b ∷ bs) text, is) refl

pub says : SaysWhatIsMade
says place v many content within can writes =
    let row = row_at place in
    ap (option_and_then (said_by row.leads (named row.parts v)))
    (read_back row.method (members row v many) content writes)
    ∙ at_place paths place _ each_back within v many can
