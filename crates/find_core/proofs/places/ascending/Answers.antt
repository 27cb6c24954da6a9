-- what is sorted by places is what putting each in its place makes
use Rattle.std.proofs.Common.{◌≡◌, ◌<◌, ℕ, Equal, rules}
use Rattle.std.proofs.lemmas.List.Sorted.{answers_always}
use Rattle.sqlite_trees.proofs.ListLemmas.{ascending_weaker}
use Rattle.sorted_lists.proofs.PlacedLemmas.{sort_places}
use Rattle.find_core.specs.Ordered.{Placed}
use Rattle.find_core.specs.Places.{place_order}
use Rattle.find_core.specs.declared.search.Place.{Place}
use Rattle.find_core.proofs.PlaceLemmas.{never_tied, place_total}
use Rattle.find_core.proofs.places.ascending.Goals as goal

pub returns : goal.returns
returns c apart =
    let place : Placed → Place = λ p. p.0 in
    let key : Placed → ℕ × ℕ = λ p. (p.0.key, p.0.id) in
    let rows = c.args.rows.items in
    sort_places place place_order place_total rows c.sort_by_key.new.self.items
    (ascending_weaker (λ (a b : Placed). a.0.id < b.0.id)
    (λ (a b : Placed). place_order a.0 b.0 ≡ Equal → ⊥) (λ a b low. never_tied a.0 b.0 low) rows
    apart)
    c.sort_by_key.ensures.permutation
    (c.in_ok-sort_by_key.ensures.sorted key
    (answers_always _ (λ a r. r ≡ key a.0.now) _ (λ f a r f' k. search rules)))
