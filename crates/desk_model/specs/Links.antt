-- Links of requests with one another.
use Rattle.std.specs.Prelude.{ℕ, Bool, true, false, ◌&&◌, ◌||◌, nat_lt, ◌==◌}
use Rattle.std.specs.List.{list_any}
use Rattle.desk_model.specs.Desk.{Desk}
use Rattle.desk_model.specs.declared.rows.LinkKind.{LinkKind}
use Rattle.desk_model.specs.declared.rows.LinkKind.TheVariants.{DependsOn, MemberOf, RefersTo}
use Rattle.desk_model.specs.declared.rows.LinkRow.{LinkRow}

abbrev pub is_kind : LinkKind → LinkKind → Bool
is_kind DependsOn DependsOn = true
is_kind MemberOf MemberOf = true
is_kind RefersTo RefersTo = true
is_kind kind other = false

abbrev pub link : ℕ → LinkKind → ℕ → LinkRow
link source kind target = record { source = source; kind = kind; target = target }

abbrev pub is_link : LinkRow → LinkRow → Bool
is_link a b = a.source == b.source && (is_kind a.kind b.kind && a.target == b.target)

abbrev pub kind_number : LinkKind → ℕ
kind_number DependsOn = 1
kind_number MemberOf = 2
kind_number RefersTo = 3

-- by source, then kind, then target
abbrev pub is_lower_link : LinkRow → LinkRow → Bool
is_lower_link a b =
    nat_lt a.source b.source
    || (a.source == b.source
    && (nat_lt (kind_number a.kind) (kind_number b.kind)
    || (kind_number a.kind == kind_number b.kind && nat_lt a.target b.target)))

abbrev pub has_link : Desk → LinkRow → Bool
has_link desk asked = list_any (is_link asked) desk.links
