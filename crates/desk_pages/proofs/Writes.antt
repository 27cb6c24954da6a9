-- The markup of the forms for a reply and for a comment.
use Rattle.std.proofs.Common.{◌≡◌, ℕ, Bool, List, Option, Some, None, is_some, refl}
use Rattle.page_core.specs.Markup.{SameMarkup}
use Rattle.page_core.specs.Template.{through}
use Rattle.page_core.proofs.Same.{same_both, same_filled, same_none}
use Rattle.desk_pages.specs.Write.{comment, move_too, reply}
use Rattle.desk_pages.specs.declared.markup.write.TheConstants.{COMMENT, MOVE_TOO, REPLY, REPLY_END}
use Rattle.desk_pages.proofs.Tables.{never, nowhere}

same_move_too : (status other : Option (List ℕ)) (ticked : Bool) → is_some status ≡ is_some other
    → SameMarkup (move_too status ticked) (move_too other ticked)
unfolding move_too through
same_move_too None None ticked same = same_none
same_move_too None (Some other) ticked same = never same
same_move_too (Some status) None ticked same = nowhere same
same_move_too (Some status) (Some other) ticked same = same_filled MOVE_TOO.now refl _ _ _

pub same_reply : (id another : ℕ) (caller person : List ℕ) (seen last : ℕ) (text words : List ℕ)
    (status other : Option (List ℕ)) (ticked : Bool) → is_some status ≡ is_some other
    → SameMarkup (reply id caller seen text status ticked)
    (reply another person last words other ticked)
unfolding reply through
same_reply id another caller person seen last text words status other ticked same =
    same_both (same_filled REPLY.now refl _ _ _)
    (same_both (same_move_too status other ticked same) (same_filled REPLY_END.now refl _ _ _))

pub same_comment : (id another : ℕ) (caller person text words : List ℕ)
    → SameMarkup (comment id caller text) (comment another person words)
unfolding comment through
same_comment id another caller person text words = same_filled COMMENT.now refl _ _ _
