-- Names in order rise, and are the same names.
use Rattle.std.proofs.Common.{◌≡◌, ◌∙◌, ℕ, Bool, true, false, ◌||◌}
use Rattle.std.proofs.Common.{List, [], ◌∷◌, fold, refl, ap, sym}
use Rattle.std.proofs.Math.Bool.{or-false, or_self_left}
use Rattle.std.specs.Cmp.Lexicographic.{same_text, texts_ties}
use Rattle.std.specs.Ordering.{is_eq, match_ordering}
use Rattle.std.specs.Str.{bytes_eq}
use Rattle.std.specs.declared.cmp.Ordering.TheVariants.{Less, Equal, Greater}
use Rattle.desk_model.specs.Names.{names_rise}
use Rattle.desk_model.specs.Names.{in_order, text_order, with_name}
use Rattle.sorted_lists.proofs.Rising.{all_named_rise}
use Rattle.text_core.specs.Texts.{is_among}

pub names_in_order_rise : (names : List (List ℕ)) → names_rise (in_order names) ≡ true
names_in_order_rise names = all_named_rise names [] refl

swapped : (a b c : Bool) → (a || (b || c)) ≡ (b || (a || c))
swapped true true c = refl
swapped true false c = refl
swapped false b c = refl

joined : (a b c : Bool) → (a || (b || c)) ≡ ((b || a) || c)
joined true true c = refl
joined true false c = refl
joined false true c = refl
joined false false c = refl

-- with a name in its place there is one more among the names, unless it was
pub among_named : (names : List (List ℕ)) (added name : List ℕ)
    → is_among (with_name names added) name ≡ (bytes_eq added name || is_among names name)
among_named [] added name = refl
among_named (y ∷ ys) added name =
    elim (text_order added y) as (λ o. text_order added y ≡ o
    → is_among (match_ordering o (added ∷ y ∷ ys) (y ∷ ys) (y ∷ with_name ys added)) name
    ≡ (bytes_eq added name || (bytes_eq y name || is_among ys name))) [
      | Less ↦ λ e. refl
      | Equal ↦ λ e.
          let same : added ≡ y = same_text added y (sym (texts_ties added y ∙ ap is_eq e)) in
          sym (or_self_left (bytes_eq y name) (is_among ys name))
          ∙ ap (λ (n : List ℕ). bytes_eq n name || (bytes_eq y name || is_among ys name)) (sym same)
      | Greater ↦ λ e.
          ap (λ b. bytes_eq y name || b) (among_named ys added name)
          ∙ swapped (bytes_eq y name) (bytes_eq added name) (is_among ys name)
    ] refl

among_all : (names start : List (List ℕ)) (name : List ℕ)
    → is_among (fold with_name start names) name ≡ (is_among names name || is_among start name)
among_all [] start name = refl
among_all (x ∷ xs) start name =
    among_all xs (with_name start x) name
    ∙ ap (λ b. is_among xs name || b) (among_named start x name)
    ∙ joined (is_among xs name) (bytes_eq x name) (is_among start name)

pub names_in_order_stay : (names : List (List ℕ)) (name : List ℕ)
    → is_among (in_order names) name ≡ is_among names name
names_in_order_stay names name = among_all names [] name ∙ or-false (is_among names name)
