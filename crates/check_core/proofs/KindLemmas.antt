-- A row whose columns are of their kinds is one of a value, and the other way round.
use Rattle.std.proofs.Common.{◌≡◌, ◌+◌, ◌≤◌, ℕ, zero, suc, List, [], ◌∷◌, None, Option, Some, inl, inr}
use Rattle.std.proofs.Common.{arith}
use Rattle.std.proofs.Common.{Bool, Decides, subst}
use Rattle.std.specs.Prelude.{⊤}
use Rattle.std.specs.Str.{IsUtf8}
use Rattle.sqlite.specs.Order.{Row, column}
use Rattle.sqlite.specs.declared.types.Value.{Value}
use Rattle.sqlite.specs.declared.types.Value.TheVariants as value
use Rattle.desk_model.specs.declared.rows.EntryKind.TheVariants as what
use Rattle.desk_model.specs.declared.rows.LinkKind.TheVariants as link
use Rattle.desk_model.specs.declared.rows.Turn.TheVariants as turn
use Rattle.desk_model.specs.declared.rows.WatchRole.TheVariants as role
use Rattle.store_tables.specs.Contents.Entry.{IsEntryKind}
use Rattle.store_tables.specs.Contents.Link.{IsLinkKind}
use Rattle.store_tables.specs.Contents.Request.{IsTurn}
use Rattle.store_tables.specs.Contents.Watcher.{IsRole}
use Rattle.store_tables.specs.Picked.{shows}
use Rattle.store_tables.specs.Values.{IsCount, IsText, count_value}
use Rattle.check_core.specs.BadRows.{IsMisfit}
use Rattle.check_core.specs.Columns.{IsOf, IsValue, IsWithin, kinds_of, shown_of}
use Rattle.check_core.specs.declared.columns.Kind.{Kind}
use Rattle.check_core.specs.declared.columns.Table.{Table}
use Rattle.check_core.specs.declared.columns.Table.TheVariants as table

-- the values from this column on are of these kinds
abbrev pub Fit : List Kind → ℕ → Row → Type 0
Fit [] at row = ⊤
Fit (k ∷ ks) at row = IsOf k (column row at) × Fit ks (at + 1) row

pub fit_all : (ks : List Kind) (at : ℕ) (row : Row) → IsMisfit ks at row None → Fit ks at row
fit_all [] at row h = tt
fit_all (k ∷ ks) at row (inl (is, other)) = absurd (cc)
fit_all (k ∷ ks) at row (inr (is, rest)) = (is, fit_all ks (at + 1) row rest)

pub fit_none : (ks : List Kind) (at : ℕ) (row : Row) (i : ℕ) → Fit ks at row
    → IsMisfit ks at row (Some i) → ⊥
fit_none [] at row i fit h = absurd (cc)
fit_none (k ∷ ks) at row i fit (inl (is, other)) = other fit.0
fit_none (k ∷ ks) at row i fit (inr (is, rest)) = fit_none ks (at + 1) row i fit.1 rest

-- ---- texts

-- a value that is a text of these bytes is one where they are UTF-8
pub text_decided : (b : Bool) (v : Value) (t : List ℕ) → v ≡ value.Text t → Decides b (IsUtf8 t)
    → Decides b (IsText v)
text_decided b v t is told = (
  λ yes. (t, is, told.0 yes),
  λ (u, same, good). told.1 (let one : u ≡ t = cc in subst IsUtf8 one good),
)

-- ---- numbers

count_of : (v : Value) → IsWithin 0 4294967295 v → IsCount v
count_of v (n, is, low, high) = (n, is, omega (arith, high))

within_count : (v : Value) → IsCount v → IsWithin 0 4294967295 v
within_count v (n, is, small) = (n, is, omega arith, omega (arith, small))

turn_of : (v : Value) → IsWithin 0 1 v → IsTurn v
turn_of v (zero, is, low, high) = (turn.Desk, is)
turn_of v (suc zero, is, low, high) = (turn.Requestor, is)
turn_of v (suc (suc n), is, low, high) = absurd (omega (arith, high))

within_turn : (v : Value) → IsTurn v → IsWithin 0 1 v
within_turn v (turn.Desk, is) = (0, is, omega arith, omega arith)
within_turn v (turn.Requestor, is) = (1, is, omega arith, omega arith)

role_of : (v : Value) → IsWithin 1 3 v → IsRole v
role_of v (zero, is, low, high) = absurd (omega (arith, low))
role_of v (suc zero, is, low, high) = (role.Requestor, is)
role_of v (suc (suc zero), is, low, high) = (role.Cc, is)
role_of v (suc (suc (suc zero)), is, low, high) = (role.AdminCc, is)
role_of v (suc (suc (suc (suc n))), is, low, high) = absurd (omega (arith, high))

within_role : (v : Value) → IsRole v → IsWithin 1 3 v
within_role v (role.Requestor, is) = (1, is, omega arith, omega arith)
within_role v (role.Cc, is) = (2, is, omega arith, omega arith)
within_role v (role.AdminCc, is) = (3, is, omega arith, omega arith)

link_of : (v : Value) → IsWithin 1 3 v → IsLinkKind v
link_of v (zero, is, low, high) = absurd (omega (arith, low))
link_of v (suc zero, is, low, high) = (link.DependsOn, is)
link_of v (suc (suc zero), is, low, high) = (link.MemberOf, is)
link_of v (suc (suc (suc zero)), is, low, high) = (link.RefersTo, is)
link_of v (suc (suc (suc (suc n))), is, low, high) = absurd (omega (arith, high))

within_link : (v : Value) → IsLinkKind v → IsWithin 1 3 v
within_link v (link.DependsOn, is) = (1, is, omega arith, omega arith)
within_link v (link.MemberOf, is) = (2, is, omega arith, omega arith)
within_link v (link.RefersTo, is) = (3, is, omega arith, omega arith)

-- of a number that is six more
late_entry : (v : Value) (n : ℕ) → v ≡ count_value (suc (suc (suc (suc (suc (suc n))))))
    → suc (suc (suc (suc (suc (suc n))))) ≤ 10 → IsEntryKind v
late_entry v zero is high = (what.Watch, is)
late_entry v (suc zero) is high = (what.Unwatch, is)
late_entry v (suc (suc zero)) is high = (what.Link, is)
late_entry v (suc (suc (suc zero))) is high = (what.Unlink, is)
late_entry v (suc (suc (suc (suc zero)))) is high = (what.Level, is)
late_entry v (suc (suc (suc (suc (suc n))))) is high = absurd (omega (arith, high))

entry_of : (v : Value) → IsWithin 1 10 v → IsEntryKind v
entry_of v (zero, is, low, high) = absurd (omega (arith, low))
entry_of v (suc zero, is, low, high) = (what.Create, is)
entry_of v (suc (suc zero), is, low, high) = (what.Status, is)
entry_of v (suc (suc (suc zero)), is, low, high) = (what.Owner, is)
entry_of v (suc (suc (suc (suc zero))), is, low, high) = (what.Reply, is)
entry_of v (suc (suc (suc (suc (suc zero)))), is, low, high) = (what.Comment, is)
entry_of v (suc (suc (suc (suc (suc (suc n))))), is, low, high) = late_entry v n is high

within_entry : (v : Value) → IsEntryKind v → IsWithin 1 10 v
within_entry v (what.Create, is) = (1, is, omega arith, omega arith)
within_entry v (what.Status, is) = (2, is, omega arith, omega arith)
within_entry v (what.Owner, is) = (3, is, omega arith, omega arith)
within_entry v (what.Reply, is) = (4, is, omega arith, omega arith)
within_entry v (what.Comment, is) = (5, is, omega arith, omega arith)
within_entry v (what.Watch, is) = (6, is, omega arith, omega arith)
within_entry v (what.Unwatch, is) = (7, is, omega arith, omega arith)
within_entry v (what.Link, is) = (8, is, omega arith, omega arith)
within_entry v (what.Unlink, is) = (9, is, omega arith, omega arith)
within_entry v (what.Level, is) = (10, is, omega arith, omega arith)

-- ---- rows, of each table

-- what is shown of a row of a table
abbrev pub shown : Table → Row → Row
shown t r = shows (shown_of t) [] r

pub value_of : (t : Table) (r : Row) → Fit (kinds_of t) 0 (shown t r) → IsValue t (shown t r)
value_of table.Request r
    (id, (queue, (subject, (status, (owner, (level, (created, (opened, (turn, (since, (due, end))))))))))) =
    record {
      wide = omega arith;
      request = record {
        wide = omega arith;
        id = count_of _ id;
        queue = queue;
        subject = subject;
        status = status;
        owner = owner;
        level = level;
        created = created;
        opened = opened;
        turn = turn_of _ turn;
        since = since;
      };
      due = due;
    }
value_of table.Queue r (name, (lifecycle, (level, end))) =
    record { wide = omega arith; name = name; lifecycle = lifecycle; level = level }
value_of table.Stay r (request, (number, (status, (from, (until, end))))) = record {
  wide = omega arith;
  request = count_of _ request;
  number = count_of _ number;
  status = status;
  from = from;
  until = until;
}
value_of table.Link r (source, (kind, (target, end))) = record {
  wide = omega arith;
  source = count_of _ source;
  kind = link_of _ kind;
  target = count_of _ target;
}
value_of table.Entry r (id, (number, (moment, (actor, (kind, end))))) = record {
  wide = omega arith;
  id = count_of _ id;
  number = count_of _ number;
  moment = moment;
  actor = actor;
  kind = entry_of _ kind;
}
value_of table.Watcher r (id, (role, (person, end))) =
    record { wide = omega arith; id = count_of _ id; role = role_of _ role; person = person }

pub fit_of : (t : Table) (r : Row) → IsValue t (shown t r) → Fit (kinds_of t) 0 (shown t r)
fit_of table.Request r is =
    let row = is.request in (
      within_count _ row.id,
      (
        row.queue,
        (
          row.subject,
          (
            row.status,
            (
              row.owner,
              (
                row.level,
                (row.created, (row.opened, (within_turn _ row.turn, (row.since, (is.due, tt))))),
              ),
            ),
          ),
        ),
      ),
    )
fit_of table.Queue r is = (is.name, (is.lifecycle, (is.level, tt)))
fit_of table.Stay r is =
    (within_count _ is.request, (within_count _ is.number, (is.status, (is.from, (is.until, tt)))))
fit_of table.Link r is =
    (within_count _ is.source, (within_link _ is.kind, (within_count _ is.target, tt)))
fit_of table.Entry r is = (
  within_count _ is.id,
  (
    within_count _ is.number,
    (
      is.moment,
      (
        is.actor,
        (within_entry _ is.kind, tt),
      ),
    ),
  ),
)
fit_of table.Watcher r is = (within_count _ is.id, (within_role _ is.role, (is.person, tt)))
