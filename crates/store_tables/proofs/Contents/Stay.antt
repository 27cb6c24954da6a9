-- The table `stay`: its rows as values, of which only parts are read.
use Rattle.std.proofs.Common.{◌≡◌, ℕ, ℤ, arith, refl}
use Rattle.store_tables.specs.Contents.Stay.{stay}
use Rattle.store_tables.specs.Contents.Stay.{IsStayRow, StayRow, stay_columns, stay_shown}
use Rattle.store_tables.specs.Contents.Stay.{ReadsRequestStay, ReadsStay, request_stay}
use Rattle.store_tables.specs.Kept.{filed, value_of}
use Rattle.store_tables.proofs.RowLemmas.{TableOf, table_of}
use Rattle.store_tables.proofs.ValueLemmas.{values_of}
use Rattle.hours_core.specs.declared.stay.Stay.{Stay}

-- of a stay in its row
pub stay_back : (a : StayRow) (b : Stay) → ReadsStay (stay_columns a) b → b ≡ a.stay
stay_back a b h = grind (arith, h)

-- and with its request
pub request_stay_back : (a : StayRow) (b : ℕ × Stay) → ReadsRequestStay (stay_columns a) b
    → b ≡ request_stay a
request_stay_back a b h = grind (arith, h)

-- the stays, of whose rows only parts are read
abbrev pub stay_table : TableOf (ℤ × StayRow) StayRow
stay_table = table_of stay.tree stay_shown (filed stay_columns) value_of stay_columns (λ c. c.stays)
    (λ row x. (a : StayRow) → row ≡ stay_columns a → x ≡ a) IsStayRow (λ a b only. only a refl)
    (λ params k. refl) (λ params r. refl) (λ c db t. t.stays)
    (λ c db t. (values_of c t.values).stays) (λ db it. grind arith)
