-- The markup of the page of who has how much to do.
use Rattle.std.proofs.Common.{◌≡◌, ◌∙◌, ℕ, Bool, true, false, List, [], ◌∷◌, codes}
use Rattle.std.proofs.Common.{zero, suc, ◌+◌, ◌||◌, arith, refl, ap, sym}
use Rattle.std.proofs.lemmas.Bool.{ne_eqb}
use Rattle.std.proofs.lemmas.List.Sums.{sum_by-cons}
use Rattle.desk_model.specs.declared.answer.Load.{Load}
use Rattle.desk_texts.specs.Texts.Workload.{all_overdue}
use Rattle.page_core.specs.Markup.{SameMarkup}
use Rattle.page_core.specs.Template.{filled_from, markup_in, through}
use Rattle.page_core.proofs.Same.{same_both, same_filled, same_flags, same_rows, same_shape}
use Rattle.desk_pages.specs.Workload.{bars, is_any, late_told, load_row, load_row_of, most, total}
use Rattle.desk_pages.specs.Workload.{workload_page}
use Rattle.desk_pages.specs.declared.frame.Place.TheVariants.{Workload}
use Rattle.desk_pages.specs.declared.markup.workload.TheConstants.{LOAD_BARS, LOAD_ROW}
use Rattle.desk_pages.specs.declared.markup.workload.TheConstants.{LOAD_TOP, LOAD_TOTAL}
use Rattle.desk_pages.proofs.Frames.{same_bottom, same_top}

-- whose it is, is told in a value alone
of_whom : (mine nobody late : Bool)
    → markup_in LOAD_ROW.now (mine ∷ nobody ∷ late ∷ [])
    ≡ markup_in LOAD_ROW.now (false ∷ false ∷ late ∷ [])
unfolding filled_from markup_in
of_whom true true true = refl
of_whom true true false = refl
of_whom true false true = refl
of_whom true false false = refl
of_whom false true true = refl
of_whom false true false = refl
of_whom false false late = refl

same_row : (caller other : List ℕ) (whole scale : ℕ) (load another : Load)
    → is_any load.overdue ≡ is_any another.overdue
    → SameMarkup (load_row caller whole load) (load_row other scale another)
unfolding bars load_row_of through
same_row caller other whole scale load another late =
    same_both (same_shape LOAD_ROW.now refl _ _ _ _
    (of_whom _ _ _ ∙ ap (λ flag. markup_in LOAD_ROW.now (false ∷ false ∷ flag ∷ [])) late
    ∙ sym (of_whom _ _ _))) (same_filled LOAD_BARS.now refl _ _ _)

same_total : (loads others : List Load) → is_any (all_overdue loads) ≡ is_any (all_overdue others)
    → SameMarkup (total loads) (total others)
unfolding total through
same_total loads others late =
    same_flags LOAD_TOTAL.now refl _ _ _ _ (ap (λ flag. flag ∷ []) late)

any_of_two : (a b : ℕ) → is_any (a + b) ≡ (is_any a || is_any b)
any_of_two zero b = let e : 0 + b ≡ b = omega arith in rw e refl
any_of_two (suc a) b =
    rw (ne_eqb (suc a + b) 0 (λ e. omega (arith, e)), ne_eqb (suc a) 0 (λ e. omega (arith, e))) refl

-- anything is late where something of one of them is
same_sum : (loads others : List Load) → late_told loads ≡ late_told others
    → is_any (all_overdue loads) ≡ is_any (all_overdue others)
same_sum [] [] same = refl
same_sum [] (other ∷ others) same = absurd (cc)
same_sum (load ∷ loads) [] same = absurd (cc)
same_sum (load ∷ loads) (other ∷ others) same =
    let first : is_any load.overdue ≡ is_any other.overdue = cc in
    let rest : late_told loads ≡ late_told others = cc in
    ap is_any (sum_by-cons (λ (load : Load). load.overdue) load loads)
    ∙ any_of_two load.overdue (all_overdue loads)
    ∙ ap (λ late. is_any load.overdue || late) (same_sum loads others rest)
    ∙ ap (λ late. late || is_any (all_overdue others)) first
    ∙ sym (any_of_two other.overdue (all_overdue others))
    ∙ sym (ap is_any (sum_by-cons (λ (load : Load). load.overdue) other others))

pub workload_same : (caller other : List ℕ) (moment later : ℕ) (loads others : List Load)
    → late_told loads ≡ late_told others
    → SameMarkup (workload_page caller moment loads) (workload_page other later others)
unfolding through
workload_same caller other moment later loads others each =
    same_both (same_top (codes "Workload") (codes "Workload") Workload caller other)
    (same_both (same_filled LOAD_TOP.now refl _ _ _)
    (same_both (same_rows (load_row caller (most loads)) (load_row other (most others))
    (λ load. is_any load.overdue) (λ load. is_any load.overdue)
    (same_row caller other (most loads) (most others)) loads others each)
    (same_both (same_total loads others (same_sum loads others each)) (same_bottom moment later))))
