-- The table `link`: its rows as values.
use Rattle.std.proofs.Common.{◌≡◌, ℤ, arith, inl, inr, refl}
use Rattle.desk_model.specs.declared.rows.LinkRow.{LinkRow}
use Rattle.store_tables.specs.Contents.Link.{link}
use Rattle.store_tables.specs.Contents.Link.{IsLinkRow, ReadsLink, link_columns}
use Rattle.store_tables.specs.Query.{three_shown}
use Rattle.store_tables.specs.Kept.{filed, value_of}
use Rattle.store_tables.proofs.RowLemmas.{TableOf, table_of}
use Rattle.store_tables.proofs.ValueLemmas.{values_of}

pub link_back : (a b : LinkRow) → ReadsLink (link_columns a) b → b ≡ a
link_back a b h = grind (arith, h)

abbrev pub link_table : TableOf (ℤ × LinkRow) LinkRow
link_table = table_of link.tree three_shown (filed link_columns) value_of link_columns (λ c. c.links)
    ReadsLink IsLinkRow link_back (λ params k. refl) (λ params r. refl) (λ c db t. t.links)
    (λ c db t. (values_of c t.values).links) (λ db it. inr (inr (inr (inl it))))
