-- Why a form wasn't sent, and what is said of it.
use Rattle.std.specs.Prelude.{ℕ, Bool, List, [], ◌∷◌, ◌++◌, codes, Option, Some, None}
use Rattle.page_core.specs.Page.{Part}
use Rattle.page_core.specs.Template.{filled}
use Rattle.desk_pages.specs.Pieces.{quote}
use Rattle.desk_pages.specs.Refused.{heading_of, is_denied, notice_of}
use Rattle.desk_pages.specs.declared.markup.refused.TheConstants.{NOTE}
use Rattle.desk_pages.specs.declared.unsent.Unsent.{Unsent}
use Rattle.desk_pages.specs.declared.unsent.Unsent.TheVariants.{Refused, OtherPerson, BadForm}
use Rattle.desk_pages.specs.declared.unsent.Unsent.TheVariants.{SignedIn, Ahead}

-- it stood on another person's page
unfoldable pub other_heading : List ℕ
other_heading = codes "This form was another person" ++ (quote ++ codes "s")

unfoldable pub other_note : List ℕ → List ℕ → List Part
other_note caller person =
    filled NOTE.now
    (other_heading ∷ codes "You are signed in as " ∷ caller ∷ codes " now. This form was "
    ∷ person ∷ (quote ++ codes "s: nothing was sent.") ∷ []) []

-- it isn't what its form sends
unfoldable pub bad_heading : List ℕ
bad_heading = codes "That form isn" ++ (quote ++ codes "t right")

unfoldable pub bad_note : List Part
bad_note =
    filled NOTE.now
    (bad_heading
    ∷ (codes "What was sent isn" ++ (quote ++ codes "t what this form sends, so nothing was done. "))
    ∷ codes "Look at it, and try again." ∷ [] ∷ [] ∷ [] ∷ []) []

-- nobody was signed in, and now the caller is
unfoldable pub own_heading : List ℕ
own_heading = codes "You are signed in"

unfoldable pub own_note : List ℕ → List Part
own_note caller =
    filled NOTE.now
    (own_heading ∷ codes "You are signed in as " ∷ caller
    ∷ codes ", but nothing was sent yet. Look at what you typed, and press the button."
    ∷ [] ∷ [] ∷ []) []

-- a reply waits
unfoldable pub waiting_heading : List ℕ
waiting_heading = codes "Your reply wasn" ++ (quote ++ codes "t sent yet")

-- since it tells of an entry that the history doesn't have
unfoldable pub ahead_note : List Part
ahead_note =
    filled NOTE.now
    (waiting_heading
    ∷ (codes "The history doesn" ++ (quote ++ codes "t go as far as this form says. "))
    ∷ codes "Look at the request, and press the button." ∷ [] ∷ [] ∷ [] ∷ []) []

-- the heading, and what is said to a caller
abbrev pub title_of : Unsent → List ℕ
title_of (Refused refusal) = heading_of refusal
title_of (OtherPerson person) = other_heading
title_of BadForm = bad_heading
title_of SignedIn = own_heading
title_of Ahead = waiting_heading

abbrev pub said_of : Unsent → List ℕ → List Part
said_of (Refused refusal) caller = notice_of refusal
said_of (OtherPerson person) caller = other_note caller person
said_of BadForm caller = bad_note
said_of SignedIn caller = own_note caller
said_of Ahead caller = ahead_note

-- what the markup tells: whether the desk refused it, and then whether a right is lacking
abbrev pub why_told : Unsent → Option Bool
why_told (Refused refusal) = Some (is_denied refusal)
why_told other = None
