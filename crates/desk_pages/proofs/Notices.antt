-- The markup of the page of a fault, and of the one on which one signs in.
use Rattle.std.proofs.Common.{ℕ, Bool, List, codes, refl}
use Rattle.page_core.specs.Markup.{SameMarkup}
use Rattle.page_core.specs.Template.{through}
use Rattle.page_core.proofs.Same.{same_both, same_filled}
use Rattle.desk_pages.specs.Fault.{fault, fault_page}
use Rattle.desk_pages.specs.SignIn.{kept_page, sign_in_page}
use Rattle.desk_pages.specs.declared.markup.fault.TheConstants.{FAULT}
use Rattle.desk_pages.specs.declared.markup.sign_in.TheConstants.{KEPT, SIGN_IN, SIGN_IN_END}
use Rattle.desk_pages.proofs.Frames.{same_bare_bottom, same_bare_top}

pub fault_same : (heading another sentence words code name : List ℕ)
    → SameMarkup (fault_page heading sentence code) (fault_page another words name)
unfolding fault through
fault_same heading another sentence words code name =
    same_both (same_bare_top heading another)
    (same_both (same_filled FAULT.now refl _ _ _) same_bare_bottom)

pub sign_in_same : (next other : List ℕ) (refused elsewhere : Bool)
    → SameMarkup (sign_in_page next refused elsewhere) (sign_in_page other refused elsewhere)
unfolding through
sign_in_same next other refused elsewhere =
    same_both (same_bare_top (codes "Sign in") (codes "Sign in"))
    (same_both (same_filled SIGN_IN.now refl _ _ _)
    (same_both (same_filled SIGN_IN_END.now refl _ _ _) same_bare_bottom))

pub kept_same : (next other subject line requestors persons : List ℕ) (seen last : ℕ)
    (text words status chosen : List ℕ) (refused : Bool)
    → SameMarkup (kept_page next subject requestors seen text status refused)
    (kept_page other line persons last words chosen refused)
unfolding through
kept_same next other subject line requestors persons seen last text words status chosen refused =
    same_both (same_bare_top (codes "Sign in") (codes "Sign in"))
    (same_both (same_filled SIGN_IN.now refl _ _ _)
    (same_both (same_filled KEPT.now refl _ _ _)
    (same_both (same_filled SIGN_IN_END.now refl _ _ _) same_bare_bottom)))
