use Rattle.std.proofs.Common.{◌≡◌, ◌+◌, cond, true, false, Some, ◌∷◌, drop, sym, ap, ◌∙◌, subst}
use Rattle.std.proofs.Common.{string_bytes}
use Rattle.std.proofs.lemmas.List.{at_drop_more}
use Rattle.std.proofs.lemmas.Map.Text.{hash_set_updates_text}
use Rattle.std.specs.HashSet.{contains_text}
use Rattle.std.specs.Str.{bytes_eq}
use Rattle.text_core.specs.Texts.{is_among}
use Rattle.settings_places.specs.Place.{first_again}
use Rattle.settings_places.proofs.Found.{or_of}
use Rattle.settings_places.proofs.people.first_again.Goals as goal

pub loop-name-preserved : goal.loop-name-preserved
loop-name-preserved c =
    let xs = c.args.names.now in
    let i = c.loop-name.name-index in
    let name = c.name-item.result in
    let (before, set, same) = c.loop-name.invariant in
    let rest = drop (i + 1) xs in
    let step : first_again before (drop i xs) ≡ first_again before (name ∷ rest) =
    at_drop_more (first_again before) xs i name c.loop-name-test.true
    ∙ ap (λ n. first_again before (n ∷ rest)) (sym c.name-item.is) in
    let unknown : is_among before name ≡ false =
    subst (λ n. is_among before n ≡ false) c.as_str.ensures
    (sym (set c.as_str.result.now) ∙ sym c.contains.ensures ∙ c.if-contains.false) in (
      name ∷ before,
      λ q. hash_set_updates_text (string_bytes c.in_ok-from_str.field-0)
          c.loop-name.earlier c.insert.new.self true c.in_ok-insert.ensures.updates q
          ∙ ap (λ k. cond (bytes_eq k q) true (contains_text c.loop-name.earlier q))
          (c.in_ok-from_str.ensures.ok ∙ c.as_str-in-loop-name.ensures)
          ∙ ap (λ b. cond (bytes_eq name q) true b) (set q)
          ∙ or_of (bytes_eq name q) (is_among before q),
      sym (ap (λ b. cond b (Some name) (first_again (name ∷ before) rest)) unknown)
          ∙ sym step ∙ same,
    )

pub returns-then-contains : goal.returns-then-contains
returns-then-contains c =
    let xs = c.args.names.now in
    let i = c.loop-name.name-index in
    let name = c.name-item.result in
    let (before, set, same) = c.loop-name.invariant in
    let rest = drop (i + 1) xs in
    let step : first_again before (drop i xs) ≡ first_again before (name ∷ rest) =
    at_drop_more (first_again before) xs i name c.loop-name-test.true
    ∙ ap (λ n. first_again before (n ∷ rest)) (sym c.name-item.is) in
    let known : is_among before name ≡ true =
    subst (λ n. is_among before n ≡ true) c.as_str.ensures
    (sym (set c.as_str.result.now) ∙ sym c.contains.ensures ∙ c.if-contains.true) in
    sym (ap (λ b. cond b (Some name) (first_again (name ∷ before) rest)) known) ∙ sym step ∙ same
