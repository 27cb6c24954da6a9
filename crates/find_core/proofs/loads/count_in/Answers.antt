-- the queues are in the order of their names, so those before the name are the front of them
use Rattle.std.proofs.Common.{◌≡◌, ◌∙◌, ◌<◌, true, false, ap, get_or, length, rules, subst, sym, slice_set}
use Rattle.std.specs.Str.{bytes_eq}
use Rattle.std.specs.List.Sorted.{IsPartitionPoint}
use Rattle.std.proofs.lemmas.List.{get_or_default}
use Rattle.std.proofs.lemmas.List.Sorted.{IsPartitionPoint-from_clause}
use Rattle.report_core.proofs.Halves.{parted}
use Rattle.find_core.specs.declared.loads.QueueLoad.{QueueLoad}
use Rattle.find_core.specs.Loads.{LoadsRise, counted}
use Rattle.find_core.proofs.CountLemmas.{counted_there, goes_before, is_before, lower, none_there}
use Rattle.find_core.proofs.CountLemmas.{loads_climb}
use Rattle.find_core.proofs.loads.count_in.Goals as goal
use Rattle.find_core.proofs.loads.count_in.Goals.{else-index-len-via-then-index-len+else-eq}
use Rattle.find_core.proofs.loads.count_in.Goals.{else-index-len-via-else-index-len}

pub returns-then-eq : goal.returns-then-eq
returns-then-eq c rise =
    let ls = c.args.loads.now.items in
    let seen = c.deref.result.now in
    let name = c.args.queue.now in
    let i = c.partition_point-index.result in
    let point = subst (λ xs. IsPartitionPoint (λ l. is_before name l ≡ true) (λ l. is_before name l ≡ false) xs i)
    c.deref.ensures.value (IsPartitionPoint-from_clause (is_before name) seen i
    c.partition_point-index.ensures.partitioned
    (parted (is_before name) lower (goes_before name) seen
    (loads_climb seen (subst LoadsRise (sym c.deref.ensures.value) rise))) (λ a r f' k. search rules)) in
    let low : i < length ls = search rules in
    let here : bytes_eq name c.index.result.now.queue.name ≡ true = sym c.eq.ensures ∙ c.if-eq.true in
    let one : c.index.result.now ≡ get_or ls i c.index.result.now = c.index.ensures in
    ap (λ (l : QueueLoad). slice_set ls i l) (c.count.ensures
    ∙ ap (counted c.args.is_late) (c.index_mut.ensures.value ∙ get_or_default ls i c.index_mut.result.now c.index.result.now low))
    ∙ counted_there name c.args.is_late ls i c.index.result.now (loads_climb ls rise) point.0 low
    (ap (λ (l : QueueLoad). bytes_eq name l.queue.name) (sym one) ∙ here)

pub returns-else-index-len : goal.returns-else-index-len
returns-else-index-len c rise =
    let ls = c.args.loads.now.items in
    let seen = c.deref.result.now in
    let name = c.args.queue.now in
    let i = c.partition_point-index.result in
    let point = subst (λ xs. IsPartitionPoint (λ l. is_before name l ≡ true) (λ l. is_before name l ≡ false) xs i)
    c.deref.ensures.value (IsPartitionPoint-from_clause (is_before name) seen i
    c.partition_point-index.ensures.partitioned
    (parted (is_before name) lower (goes_before name) seen
    (loads_climb seen (subst LoadsRise (sym c.deref.ensures.value) rise))) (λ a r f' k. search rules)) in
    none_there name c.args.is_late ls i (loads_climb ls rise) point.0 point.1
    (elim c.else-index-len.branch [
      | else-index-len-via-then-index-len+else-eq w ↦ λ d low.
          let other : bytes_eq name w.index.result.now.queue.name ≡ false = sym w.eq.ensures ∙ w.if-eq.false in
          let one : w.index.result.now ≡ get_or ls i w.index.result.now = w.index.ensures in
          ap (λ (l : QueueLoad). bytes_eq name l.queue.name)
          (get_or_default ls i d w.index.result.now low ∙ sym one) ∙ other
      | else-index-len-via-else-index-len w ↦ λ d low. absurd (search (rules, low))
    ])
