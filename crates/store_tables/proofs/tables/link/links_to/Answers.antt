use Rattle.std.proofs.Common.{◌≡◌, ◌∙◌, ◌+◌, IsSorted, List, ap, arith, slice_index_or}
use Rattle.std.proofs.lemmas.List.Sorted.{IsPermutation-trans}
use Rattle.std.specs.Ordering.{is_lt, nat_cmp}
use Rattle.desk_model.specs.Links.{kind_number}
use Rattle.desk_model.specs.contracts.rows.LinkKindOrd.TheImpl.{ghosts as kinds}
use Rattle.desk_model.specs.contracts.rows.LinkRowOrd.TheImpl.{ghosts as links}
use Rattle.desk_model.specs.declared.rows.LinkKind.{LinkKind}
use Rattle.desk_model.specs.declared.rows.LinkRow.{LinkRow}
use Rattle.store_tables.specs.Contents.Link.{by_link}
use Rattle.store_tables.proofs.ReadOn.{giving}
use Rattle.store_tables.proofs.tables.link.links_to.Goals as goal

-- the order of the type's values is that of their numbers

kinds_alike : (a b : LinkKind) → nat_cmp (kind_number a) (kind_number b) ≡ kinds.cmp a b
kinds_alike a b = grind arith

links_alike : (a b : LinkRow) → by_link a b ≡ links.cmp a b
links_alike a b = rw (kinds_alike a.kind b.kind)

sorted_alike : (xs : List LinkRow) → IsSorted links.cmp xs → IsSorted by_link xs
sorted_alike xs sorted k x low high = ap is_lt (links_alike (slice_index_or xs (k + 1) x)
    (slice_index_or xs k x)) ∙ sorted k x low high

pub returns-clause-read : goal.returns-clause-read
returns-clause-read g c =
    giving (λ d same. record {
      same = IsPermutation-trans _ _ _ same c.sort_unstable.ensures.permutation;
      sorted = sorted_alike _ c.sort_unstable.ensures.sorted;
    }) c.in_ok-links.ensures.read
