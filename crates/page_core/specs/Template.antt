-- A template: markup with holes, each written `{}`, in which texts stand in their order, and with
-- pieces in brackets, `[..]`, that stand there only where something holds, in their order too.
use Rattle.std.specs.Prelude.{◌≡◌, ℕ, ◌==◌, Bool, true, false, not, ◌&&◌, if◌then◌else◌}
use Rattle.std.specs.Prelude.{List, [], ◌∷◌, ◌++◌, Option, Some, None}
use Rattle.page_core.specs.Markup.{markup_of}
use Rattle.page_core.specs.Page.{Part, Markup, Text}
use Rattle.page_core.specs.Reading.{State, InText, InName, InAttribute, InValue, Ended, Lost}
use Rattle.page_core.specs.Reading.{at_text}
use Rattle.page_core.specs.Reading.{is_refused_attribute, is_refused_element, step}

-- what a byte of a template is: `{`, `}`, `[`, `]`, or any other byte, which is markup
pub data Sign : Type 0 where
  Hole : Sign
  HoleEnd : Sign
  Open : Sign
  Close : Sign
  Byte : ℕ → Sign

abbrev pub sign : ℕ → Sign
sign b =
    if b == 123 then Hole
    else if b == 125 then HoleEnd
    else if b == 91 then Open
    else if b == 93 then Close
    else Byte b

-- the first text, or an empty one where there is none; whether the first thing holds; what follows
abbrev pub next : List (List ℕ) → List ℕ
next [] = []
next (text ∷ texts) = text

abbrev pub holds : List Bool → Bool
holds [] = false
holds (flag ∷ flags) = flag

abbrev pub later : {X : Type 0} → List X → List X
later [] = []
later (x ∷ xs) = xs

-- what it puts, which texts and flags are left after it, and whether what follows it is shown
abbrev pub piece : Sign → List (List ℕ) → List Part
piece Hole texts = Text (next texts) ∷ []
piece (Byte b) texts = Markup (b ∷ []) ∷ []
piece _ texts = []

abbrev pub texts_left : Sign → List (List ℕ) → List (List ℕ)
texts_left Hole texts = later texts
texts_left _ texts = texts

abbrev pub flags_left : Sign → List Bool → List Bool
flags_left Open flags = later flags
flags_left _ flags = flags

abbrev pub shown_after : Sign → Bool → List Bool → Bool
shown_after Open shown flags = holds flags
shown_after Close shown flags = true
shown_after _ shown flags = shown

-- a template from a place on where pieces are shown or not
unfoldable pub filled_from : Bool → List ℕ → List (List ℕ) → List Bool → List Part
filled_from shown [] texts flags = []
filled_from shown (b ∷ template) texts flags =
    (if shown then piece (sign b) texts else [])
    ++ filled_from (shown_after (sign b) shown flags) template (texts_left (sign b) texts)
    (flags_left (sign b) flags)

-- a template with these texts in its holes, and with the pieces in brackets for which a flag holds
abbrev pub filled : List ℕ → List (List ℕ) → List Bool → List Part
filled template texts flags = filled_from true template texts flags

abbrev pub is_text : State → Bool
is_text InText = true
is_text _ = false

abbrev pub is_value : State → Bool
is_value InValue = true
is_value _ = false

-- whether a name or a value has ended, or may end there
abbrev pub is_end : State → Bool
is_end (InName name) = not (is_refused_element name)
is_end (InAttribute name) = not (is_refused_attribute name)
is_end Ended = true
is_end _ = false

-- where a reader stands who stood here or there: in text, in a value, or where what follows a name or
-- a value is the same or is lost
abbrev pub meet : State → State → State
meet state other =
    if is_text state && is_text other then InText
    else if is_value state && is_value other then InValue
    else if is_end state && is_end other then Ended else Lost

-- where a reader stands, who stood there before a bracket, if he is in one; brackets stand in none,
-- and it is the same after one that is shown and after one that isn't
abbrev pub state_after : Sign → State → Option State → State
state_after Hole state before = at_text state
state_after HoleEnd state before = state
state_after Open state None = state
state_after Open state (Some start) = Lost
state_after Close state None = Lost
state_after Close state (Some start) = meet state start
state_after (Byte b) state before = step state b

abbrev pub before_after : Sign → State → Option State → Option State
before_after Open state before = Some state
before_after Close state before = None
before_after _ state before = before

unfoldable pub through : State → Option State → List ℕ → State
through state None [] = state
through state (Some start) [] = Lost
through state before (b ∷ template) =
    through (state_after (sign b) state before) (before_after (sign b) state before) template

-- each hole stands in text or in a value, and the end in text, whatever is shown
abbrev pub IsTemplate : List ℕ → Type 0
IsTemplate template = through InText None template ≡ InText

-- the markup of a template, which is the same whatever its texts are
unfoldable pub markup_in : List ℕ → List Bool → List ℕ
markup_in template flags = markup_of (filled template [] flags)
