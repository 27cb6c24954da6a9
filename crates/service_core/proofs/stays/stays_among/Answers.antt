-- the numbers rise, so those of the request stand side by side
use Rattle.std.proofs.Common.{◌≡◌, ◌∙◌, ◌-◌, List, ℕ, ap, arith, drop, length, rules, subst, sym}
use Rattle.std.proofs.Common.{false, take, true}
use Rattle.std.specs.List.Sorted.{IsNonDecreasingBy, IsPartitionPoint}
use Rattle.std.specs.Prelude.{nat_le, nat_lt}
use Rattle.std.proofs.lemmas.List.{length-drop, take_all}
use Rattle.std.proofs.lemmas.List.Sorted.{IsNonDecreasingBy-drop, IsNonDecreasingBy-take}
use Rattle.std.proofs.lemmas.List.Sorted.{IsPartitionPoint-from_clause}
use Rattle.std.proofs.lemmas.List.Sorted.{IsPartitionedBy-leb, IsPartitionedBy-ltb}
use Rattle.service_core.proofs.StayLemmas.{stretch_of}
use Rattle.service_core.proofs.stays.stays_among.Goals as goal

pub returns : goal.returns
returns c all rise parts =
    let id = c.args.id in
    let ns = c.args.numbers.now in
    let ss = c.args.stays.now in
    let i = c.partition_point-start.result in
    let j = c.partition_point-end.result in
    let rest = take (length ns - i) (drop i ns) in
    let whole : rest ≡ drop i ns =
    take_all (length ns - i) (drop i ns) (omega (arith, length-drop i ns)) in
    let up : IsNonDecreasingBy (λ n. n) ns =
    subst (IsNonDecreasingBy (λ n. n)) (sym parts.0) rise in
    let first = IsPartitionPoint-from_clause (λ n. nat_lt n id) ns i
    c.partition_point-start.ensures.partitioned (IsPartitionedBy-ltb (λ n. n) ns id up)
    (λ a r f' k. search rules) in
    let last = IsPartitionPoint-from_clause (λ n. nat_le n id) rest j
    c.partition_point-end.ensures.partitioned
    (IsPartitionedBy-leb (λ n. n) rest id
    (IsNonDecreasingBy-take (λ n. n) (length ns - i) (drop i ns)
    (IsNonDecreasingBy-drop (λ n. n) i ns up)))
    (λ a r f' k. search rules) in
    ap (take j) (take_all (length ss - i) (drop i ss) (omega (arith, length-drop i ss)))
    ∙ stretch_of id all ns ss i j parts first
    (subst (λ (xs : List ℕ). IsPartitionPoint (λ n. nat_le n id ≡ true)
    (λ n. nat_le n id ≡ false) xs j) whole last)
    c.partition_point-start.ensures.bound
