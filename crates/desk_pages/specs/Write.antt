-- The forms for a reply and for a comment.
use Rattle.std.specs.Prelude.{ℕ, Bool, List, [], ◌∷◌, ◌++◌, Option, Some, None, decimal}
use Rattle.page_core.specs.Page.{Part}
use Rattle.page_core.specs.Template.{filled}
use Rattle.desk_pages.specs.declared.markup.write.TheConstants.{COMMENT, MOVE_TOO, REPLY, REPLY_END}

-- the choice to move the request to a status as well, which may be ticked, where there is a status
unfoldable pub move_too : Option (List ℕ) → Bool → List Part
move_too None ticked = []
move_too (Some status) ticked = filled MOVE_TOO.now (status ∷ status ∷ []) (ticked ∷ [])

-- a caller's form for a reply, with the number of the last entry that the caller has seen, with a text,
-- and with a status that is offered
unfoldable pub reply : ℕ → List ℕ → ℕ → List ℕ → Option (List ℕ) → Bool → List Part
reply id caller seen text status ticked =
    filled REPLY.now (decimal id ∷ caller ∷ decimal seen ∷ text ∷ []) []
    ++ (move_too status ticked ++ filled REPLY_END.now [] [])

-- a caller's form for a comment, with a text
unfoldable pub comment : ℕ → List ℕ → List ℕ → List Part
comment id caller text = filled COMMENT.now (decimal id ∷ caller ∷ text ∷ []) []
