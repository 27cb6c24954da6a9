-- Steps through a template, its texts and its flags.
use Rattle.std.proofs.Common.{◌≡◌, ℕ, zero, suc, ◌+◌, ◌<◌, ◌≤◌, Bool, true, false}
use Rattle.std.proofs.Common.{if◌then◌else◌, List, [], ◌∷◌, ◌++◌, length, get_or, map, drop}
use Rattle.std.proofs.Common.{refl, ap, sym, add-one, append_assoc, drop-cons}
use Rattle.std.specs.List.{between}
use Rattle.std.proofs.lemmas.Grind.{flat_map-append}
use Rattle.std.proofs.lemmas.List.{drop-map}
use Rattle.std.proofs.lemmas.List.Edits.{between_more, between_none}
use Rattle.page_core.specs.Page.{page_bytes, part_bytes}
use Rattle.page_core.specs.Template.{Byte, filled_from, flags_left, holds, later, next, piece}
use Rattle.page_core.specs.Template.{shown_after, sign, texts_left}

after_suc : {X : Type 0} (used : ℕ) (xs : List X) → drop (suc used) xs ≡ later (drop used xs)
after_suc zero [] = refl
after_suc zero (x ∷ xs) = refl
after_suc (suc used) [] = refl
after_suc (suc used) (x ∷ xs) = after_suc used xs

-- what is left after one more
pub one_later : {X : Type 0} (used : ℕ) (xs : List X) → drop (used + 1) xs ≡ later (drop used xs)
one_later used xs = rw add-one (after_suc used xs)

-- the next text, or flag, is the one at that place
pub next_is : {X : Type 0} (text_of : X → List ℕ) (values : List X) (used : ℕ) (value : X)
    → used < length values → value ≡ get_or values used value
    → next (drop used (map text_of values)) ≡ text_of value
next_is text_of values used value fine same =
    rw (drop-map text_of used values, drop-cons values used value) (ap text_of (sym same))

pub holds_is : (flags : List Bool) (used : ℕ) (flag : Bool) → used < length flags
    → flag ≡ get_or flags used flag → holds (drop used flags) ≡ flag
holds_is flags used flag fine same = rw (drop-cons flags used flag) (sym same)

opened : (template : List ℕ) (at : ℕ) (shown : Bool) (texts : List (List ℕ)) (flags : List Bool)
    → at < length template
    → page_bytes (filled_from shown (drop at template) texts flags)
    ≡ page_bytes (if shown then piece (sign (get_or template at 0)) texts else [])
    ++ page_bytes (filled_from (shown_after (sign (get_or template at 0)) shown flags)
    (drop (at + 1) template) (texts_left (sign (get_or template at 0)) texts)
    (flags_left (sign (get_or template at 0)) flags))
unfolding filled_from
opened template at shown texts flags fine =
    rw (add-one, drop-cons template at 0) (flat_map-append part_bytes (if shown then piece (sign (get_or template at 0)) texts else [])
    (filled_from (shown_after (sign (get_or template at 0)) shown flags) (drop (suc at) template)
    (texts_left (sign (get_or template at 0)) texts)
    (flags_left (sign (get_or template at 0)) flags)))

one_more : (shown : Bool) (out run : List ℕ) (b : ℕ) (texts : List (List ℕ)) (rest : List ℕ)
    → out ++ ((if shown then run ++ b ∷ [] else []) ++ rest)
    ≡ out ++ ((if shown then run else []) ++ (page_bytes (if shown then piece (Byte b) texts else []) ++ rest))
one_more true out run b texts rest = simp append_assoc
one_more false out run b texts rest = refl

-- one more byte of a run
pub plain_more : (out template : List ℕ) (start at : ℕ) (shown : Bool) (texts : List (List ℕ))
    (flags : List Bool) → start ≤ at → at < length template
    → sign (get_or template at 0) ≡ Byte (get_or template at 0)
    → out ++ ((if shown then between start (at + 1) template else [])
    ++ page_bytes (filled_from shown (drop (at + 1) template) texts flags))
    ≡ out ++ ((if shown then between start at template else [])
    ++ page_bytes (filled_from shown (drop at template) texts flags))
plain_more out template start at shown texts flags within fine byte =
    rw (between_more template start at 0 within fine, opened template at shown texts flags fine, byte)
    (one_more shown out (between start at template) (get_or template at 0) texts _)

none_yet : (shown : Bool) (none : List ℕ) → none ≡ [] → (if shown then none else []) ≡ []
none_yet true none same = same
none_yet false none same = refl

-- a run and what stands after it
pub placed : (out mid new template : List ℕ) (start at : ℕ) (shown then_shown : Bool)
    (texts rest : List (List ℕ)) (flags others : List Bool)
    → at < length template
    → mid ≡ out ++ (if shown then between start at template else [])
    → new ≡ mid ++ page_bytes (if shown then piece (sign (get_or template at 0)) texts else [])
    → rest ≡ texts_left (sign (get_or template at 0)) texts
    → others ≡ flags_left (sign (get_or template at 0)) flags
    → then_shown ≡ shown_after (sign (get_or template at 0)) shown flags
    → new ++ ((if then_shown then between (at + 1) (at + 1) template else [])
    ++ page_bytes (filled_from then_shown (drop (at + 1) template) rest others))
    ≡ out ++ ((if shown then between start at template else [])
    ++ page_bytes (filled_from shown (drop at template) texts flags))
placed out mid new template start at shown then_shown texts rest flags others fine run put left less on =
    rw (
      none_yet then_shown (between (at + 1) (at + 1) template) (between_none template (at + 1)),
      opened template at shown texts flags fine,
      put,
      run,
      left,
      less,
      on,
    ) (simp append_assoc)
