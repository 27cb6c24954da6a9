-- What a filter keeps and what it leaves out.
use Rattle.std.proofs.Common.{◌≡◌, ◌∙◌, Bool, true, false, not, ◌||◌, cond, List, [], ◌∷◌}
use Rattle.std.proofs.Common.{filter, inl, inr, refl, ap, sym}
use Rattle.std.specs.List.{All, list_any}
use Rattle.std.proofs.lemmas.Bool.{or_cases}
use Rattle.std.proofs.lemmas.List.Elements.{All-nil, All-cons, All-head, All-tail}
use Rattle.desk_model.specs.Readings.History.{is_comment}
use Rattle.desk_model.specs.declared.rows.EntryKind.{EntryKind}
use Rattle.desk_model.specs.declared.rows.EntryKind.TheVariants.{Comment}

-- what a filter keeps passed its test
pub all_kept : {X : Type 0} (P Q : X → Type 0) (p : X → Bool) (xs : List X)
    → ((x : X) → P x → p x ≡ true → Q x) → All P xs → All Q (filter p xs)
all_kept P Q p [] passes all = All-nil Q
all_kept {X} P Q p (x ∷ xs) passes all =
    let rest = all_kept P Q p xs passes (All-tail P x xs all) in
    elim (p x) as (λ b. p x ≡ b → All Q (cond b (x ∷ filter p xs) (filter p xs))) [
      | true ↦ λ e. All-cons Q x (filter p xs) (passes x (All-head P x xs all) e) rest
      | false ↦ λ e. rest
    ] refl

-- what passes the test of a filter is kept
pub all_left : {X : Type 0} (Q R : X → Type 0) (p : X → Bool) (xs : List X)
    → ((x : X) → R x → p x ≡ true) → All Q (filter p xs) → All (λ x. R x → Q x) xs
all_left Q R p [] passes all = All-nil (λ x. R x → Q x)
all_left {X} Q R p (x ∷ xs) passes all =
    elim (p x)
    as (λ b. p x ≡ b → All Q (cond b (x ∷ filter p xs) (filter p xs))
    → All (λ y. R y → Q y) (x ∷ xs)) [
      | true ↦ λ e kept.
          All-cons (λ y. R y → Q y) x xs (λ r. All-head Q x (filter p xs) kept)
          (all_left Q R p xs passes (All-tail Q x (filter p xs) kept))
      | false ↦ λ e kept.
          All-cons (λ y. R y → Q y) x xs
          (λ r. let no : true ≡ false = sym (passes x r) ∙ e in cc)
          (all_left Q R p xs passes kept)
    ] refl all

-- of what is so of each, one passes the test
pub one_of : {X : Type 0} (P : X → Type 0) (p : X → Bool) (xs : List X) → All P xs
    → list_any p xs ≡ true → (x : X) × P x × (p x ≡ true)
one_of P p [] all some = cc
one_of P p (x ∷ xs) all some =
    elim (or_cases (p x) (list_any p xs) some) [
      | inl here ↦ (x, All-head P x xs all, here)
      | inr further ↦ one_of P p xs (All-tail P x xs all) further
    ]

pub unless_no_comment : (kind : EntryKind) (may : Bool) → kind ≡ Comment
    → (not (is_comment kind) || may) ≡ true → may ≡ true
unless_no_comment kind may same told =
    ap (λ k. not (is_comment k) || may) (sym same) ∙ told

pub told_if : (kind : EntryKind) (may : Bool) → (kind ≡ Comment → may ≡ true)
    → (not (is_comment kind) || may) ≡ true
told_if Comment may seen = seen refl
told_if other may seen = refl
