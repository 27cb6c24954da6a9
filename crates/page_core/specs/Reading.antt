-- How markup is read, a byte at a time: tags of HTML whose attributes have no value, or one between
-- double quotes. Anything else, as a comment or another value, is lost for good. So is what could run
-- or lead away: an element or an attribute by which a page gets scripts, styles or other documents,
-- and an address that isn't one of the same place.
use Rattle.std.specs.Prelude.{◌≡◌, ℕ, ◌+◌, ◌==◌, Bool, false, not, ◌&&◌, ◌||◌, nat_le, if◌then◌else◌}
use Rattle.std.specs.Prelude.{List, [], ◌∷◌, ◌++◌, map, take, codes}
use Rattle.std.specs.List.{list_any}
use Rattle.std.specs.Str.{bytes_eq}
use Rattle.page_core.specs.Escape.{escaped}
use Rattle.page_core.specs.Page.{Part, Markup, Text}

-- where a reader stands: in text; after `<`; after `</` or `<!`; in a tag's name, of which this was
-- read; in a tag between its parts; in an attribute's name, of which this was read; after its `=`,
-- with an address to come or not; in a value; at the beginning of one that is an address, or after its
-- first `/`; after the value's second quote; or lost for good
pub data State : Type 0 where
  InText : State
  Opening : State
  Marked : State
  InName : List ℕ → State
  Between : State
  InAttribute : List ℕ → State
  Equals : Bool → State
  InValue : State
  AtAddress : State
  AfterSlash : State
  Ended : State
  Lost : State

-- 'a' to 'z' or 'A' to 'Z'
abbrev pub is_letter : ℕ → Bool
is_letter b = (nat_le 97 b && nat_le b 122) || (nat_le 65 b && nat_le b 90)

-- a letter, a digit or '-'
abbrev pub is_name_byte : ℕ → Bool
is_name_byte b = is_letter b || (nat_le 48 b && nat_le b 57) || b == 45

-- a space or a line feed
abbrev pub is_space : ℕ → Bool
is_space b = (b == 32) || (b == 10)

-- one more byte of a name, in small letters
abbrev pub lower : ℕ → ℕ
lower b = if nat_le 65 b && nat_le b 90 then b + 32 else b

abbrev pub longer : List ℕ → ℕ → List ℕ
longer name b = name ++ lower b ∷ []

-- an element that no page has: of scripts and styles, of other documents and languages, and those
-- within which markup isn't read as elsewhere
abbrev pub is_refused_element : List ℕ → Bool
is_refused_element name =
    list_any (bytes_eq name)
    (codes "script" ∷ codes "style" ∷ codes "iframe" ∷ codes "frame" ∷ codes "frameset"
    ∷ codes "object" ∷ codes "embed" ∷ codes "applet" ∷ codes "portal" ∷ codes "base"
    ∷ codes "svg" ∷ codes "math" ∷ codes "template" ∷ codes "noscript" ∷ codes "noframes"
    ∷ codes "noembed" ∷ codes "xmp" ∷ codes "listing" ∷ codes "plaintext" ∷ [])

-- an attribute that no page has: of scripts, which begin with `on`, of styles, of what stands for a
-- header, and of addresses that aren't read as such
abbrev pub is_refused_attribute : List ℕ → Bool
is_refused_attribute name =
    bytes_eq (take 2 name) (codes "on")
    || list_any (bytes_eq name)
    (codes "style" ∷ codes "srcdoc" ∷ codes "http-equiv" ∷ codes "srcset" ∷ codes "imagesrcset"
    ∷ codes "ping" ∷ codes "poster" ∷ codes "background" ∷ codes "manifest" ∷ codes "data"
    ∷ codes "cite" ∷ codes "longdesc" ∷ [])

-- an attribute whose value is an address
abbrev pub is_address : List ℕ → Bool
is_address name =
    list_any (bytes_eq name)
    (codes "href" ∷ codes "action" ∷ codes "formaction" ∷ codes "src" ∷ [])

-- what may follow a name or a value in a tag: `>`, or a space
abbrev pub ending : ℕ → State
ending b = if b == 62 then InText else if is_space b then Between else Lost

-- after one more byte; an address is empty, begins with `#`, or begins with `/` and no second one
abbrev pub step : State → ℕ → State
step InText b = if b == 60 then Opening else InText
step Opening b =
    if (b == 47) || (b == 33) then Marked else if is_letter b then InName (longer [] b) else Lost
step Marked b = if is_letter b then InName (longer [] b) else Lost
step (InName name) b =
    if is_name_byte b then InName (longer name b)
    else if is_refused_element name then Lost else ending b
step Between b = if is_letter b then InAttribute (longer [] b) else ending b
step (InAttribute name) b =
    if is_name_byte b then InAttribute (longer name b)
    else if is_refused_attribute name then Lost
    else if b == 61 then Equals (is_address name) else ending b
step (Equals address) b =
    if b == 34 then (if address then AtAddress else InValue) else Lost
step InValue b = if b == 34 then Ended else InValue
step AtAddress b =
    if b == 34 then Ended else if b == 47 then AfterSlash else if b == 35 then InValue else Lost
step AfterSlash b =
    if b == 34 then Ended
    else if is_name_byte b || (b == 63) || (b == 35) then InValue else Lost
step Ended b = ending b
step Lost b = Lost

-- after these bytes
abbrev pub after : State → List ℕ → State
after state [] = state
after state (b ∷ bytes) = after (step state b) bytes

-- whether a byte belongs to a text or a value
abbrev pub is_content : State → ℕ → Bool
is_content InText b = not (b == 60)
is_content InValue b = not (b == 34)
is_content AtAddress b = not (b == 34)
is_content AfterSlash b = not (b == 34)
is_content other b = false

-- what is read as markup: each tag, with its attributes' names, and with its values left out
abbrev pub outline : State → List ℕ → List ℕ
outline state [] = []
outline state (b ∷ bytes) =
    if is_content state b then outline (step state b) bytes
    else b ∷ outline (step state b) bytes

-- a byte as it is read: of markup, or of a text or a value
pub data Sign : Type 0 where
  Mark : ℕ → Sign
  Content : ℕ → Sign

abbrev pub reading : State → List ℕ → List Sign
reading state [] = []
reading state (b ∷ bytes) =
    (if is_content state b then Content b else Mark b) ∷ reading (step state b) bytes

-- a text may stand in text or in a value, and leaves the reader there; but an address doesn't begin
-- with one
abbrev pub at_text : State → State
at_text InText = InText
at_text InValue = InValue
at_text other = Lost

-- after these parts, as their markup alone tells it; lost where a text stands elsewhere
abbrev pub walk : State → List Part → State
walk state [] = state
walk state (Markup bytes ∷ parts) = walk (after state bytes) parts
walk state (Text text ∷ parts) = walk (at_text state) parts

-- how parts are to be read: markup as it is read alone, and every byte of a text as content
abbrev pub reading_of : State → List Part → List Sign
reading_of state [] = []
reading_of state (Markup bytes ∷ parts) = reading state bytes ++ reading_of (after state bytes) parts
reading_of state (Text text ∷ parts) = map Content (escaped text) ++ reading_of (at_text state) parts

-- each text stands in text or in a value, and the end in text
abbrev pub IsPage : List Part → Type 0
IsPage parts = walk InText parts ≡ InText
