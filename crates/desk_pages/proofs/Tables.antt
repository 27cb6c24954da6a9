-- The markup of pieces that several pages have.
use Rattle.std.proofs.Common.{◌≡◌, ℕ, Bool, true, false, not, ◌==◌, List, [], ◌∷◌, Option, Some}
use Rattle.std.proofs.Common.{None}
use Rattle.std.proofs.Common.{if◌then◌else◌, is_some, length, refl, ap}
use Rattle.page_core.specs.Markup.{SameMarkup}
use Rattle.page_core.specs.Page.{Part}
use Rattle.page_core.specs.Template.{through}
use Rattle.page_core.proofs.Same.{same_filled, same_flags, same_none}
use Rattle.desk_pages.specs.Pieces.{choice, is_filled, parts_if, table_end, time_or_dash}
use Rattle.desk_pages.specs.declared.markup.pieces.TheConstants.{CHOICE, NO_TIME, TABLE_END, TIME}

pub never : {P : Type 0} → false ≡ true → P
never end = absurd (cc)

pub nowhere : {P : Type 0} → true ≡ false → P
nowhere end = absurd (cc)

pub same_table_end : SameMarkup table_end table_end
unfolding table_end through
same_table_end = same_filled TABLE_END.now refl _ _ _

pub same_choice : (first one : Bool) (name other : List ℕ) → first ≡ one
    → SameMarkup (choice first name) (choice one other)
unfolding choice through
same_choice first one name other same =
    same_flags CHOICE.now refl _ _ _ _ (ap (λ flag. flag ∷ []) same)

pub same_due : (due other : Option ℕ) → is_some due ≡ is_some other
    → SameMarkup (time_or_dash due) (time_or_dash other)
unfolding time_or_dash through
same_due None None same = same_filled NO_TIME.now refl _ _ _
same_due None (Some other) same = never same
same_due (Some due) None same = nowhere same
same_due (Some due) (Some other) same = same_filled TIME.now refl _ _ _

-- as many, or none in both
pub filled_alike : {X : Type 0} {Y : Type 0} (xs : List X) (ys : List Y) → length xs ≡ length ys
    → is_filled xs ≡ is_filled ys
filled_alike xs ys same = ap (λ n. not (n == 0)) same

-- what stands there where something holds, of which then the same is told
pub same_if : {T : Type 0} (holds held : Bool) (told tells : T) (parts others : List Part)
    → (if holds then Some told else None) ≡ (if held then Some tells else None)
    → (told ≡ tells → SameMarkup parts others)
    → SameMarkup (parts_if holds parts) (parts_if held others)
same_if true true told tells parts others same each = let e : told ≡ tells = cc in each e
same_if true false told tells parts others same each = absurd (cc)
same_if false true told tells parts others same each = absurd (cc)
same_if false false told tells parts others same each = same_none

-- what stands there where something holds, in both
pub same_when : (holds held : Bool) (parts others : List Part) → holds ≡ held
    → SameMarkup parts others → SameMarkup (parts_if holds parts) (parts_if held others)
same_when true true parts others same each = each
same_when true false parts others same each = nowhere same
same_when false true parts others same each = never same
same_when false false parts others same each = same_none
