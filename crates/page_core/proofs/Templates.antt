-- A template, whatever texts stand in its holes and whatever is shown of it.
use Rattle.std.proofs.Common.{◌≡◌, ◌∙◌, ℕ, ◌==◌, Bool, true, false, not, if◌then◌else◌, ◌&&◌}
use Rattle.std.proofs.Common.{Option, Some, None, List, [], ◌∷◌, ◌++◌, refl, ap, subst, sym}
use Rattle.std.proofs.lemmas.Bool.{and_parts, eqb-true, ne_eqb}
use Rattle.page_core.specs.Page.{Part, page_bytes, without_texts}
use Rattle.page_core.specs.Reading.{State, InText, Opening, Marked, InName, Between, InAttribute}
use Rattle.page_core.specs.Reading.{Equals, InValue, AtAddress, AfterSlash, Ended, Lost, IsPage}
use Rattle.page_core.specs.Reading.{at_text, ending, is_address, is_name_byte, is_refused_attribute}
use Rattle.page_core.specs.Reading.{is_refused_element, longer, outline, step, walk}
use Rattle.page_core.specs.Template.{Sign, Hole, HoleEnd, Open, Close, Byte, IsTemplate}
use Rattle.page_core.specs.Template.{before_after}
use Rattle.page_core.specs.Template.{filled, filled_from, flags_left, is_end, is_text, is_value}
use Rattle.page_core.specs.Template.{markup_in, meet, piece, shown_after, sign, state_after}
use Rattle.page_core.specs.Template.{texts_left, through}
use Rattle.page_core.proofs.Shows.{Shows, shows}

-- who is lost stays lost
by_sign : (g : Sign) (before : Option State) → state_after g Lost before ≡ Lost
by_sign Hole before = refl
by_sign HoleEnd before = refl
by_sign Open None = refl
by_sign Open (Some start) = refl
by_sign Close None = refl
by_sign Close (Some start) = refl
by_sign (Byte b) before = refl

lost_stays : (before : Option State) (template : List ℕ) → through Lost before template ≡ Lost
unfolding through
lost_stays None [] = refl
lost_stays (Some start) [] = refl
lost_stays before (b ∷ template) =
    ap (λ state. through state (before_after (sign b) Lost before) template) (by_sign (sign b)
    before)
    ∙ lost_stays (before_after (sign b) Lost before) template

found : (before : Option State) (template : List ℕ) → through Lost before template ≡ InText → ⊥
found before template fine = let e : Lost ≡ InText = sym (lost_stays before template) ∙ fine in cc

-- a reader stands there, or may stand there as far as a template tells: whoever is told to be lost may
-- stand anywhere
data Alike (real told : State) : Type 0 where
  lost : told ≡ Lost → Alike real told
  same : real ≡ told → Alike real told
  ended : is_end real ≡ true → told ≡ Ended → Alike real told

by_bool : (P : Bool → Type 0) (c : Bool) → (c ≡ true → P true) → (c ≡ false → P false) → P c
by_bool P true first second = first refl
by_bool P false first second = second refl

never : {P : Type 0} → false ≡ true → P
never end = absurd (cc)

unnamed : (n : ℕ) → is_name_byte n ≡ false → (b : ℕ) → is_name_byte b ≡ true → (b == n) ≡ false
unnamed n other b named =
    ne_eqb b n (λ e. let f : true ≡ false = sym named ∙ ap is_name_byte e ∙ other in cc)

not_name : (b : ℕ) → is_name_byte b ≡ true → ending b ≡ Lost
not_name b name =
    rw (unnamed 62 refl b name, unnamed 32 refl b name, unnamed 10 refl b name) refl

from_end : (real : State) (b : ℕ) → is_end real ≡ true → Alike (step real b) (ending b)
from_end (InName name) b end =
    by_bool (λ c. Alike (if c then InName (longer name b) else if is_refused_element name then
    Lost else ending b) (ending b))
    (is_name_byte b) (λ e. lost (not_name b e))
    (λ e. by_bool (λ c. not c ≡ true → Alike (if c then Lost else ending b) (ending b))
    (is_refused_element name) (λ e fine. never fine) (λ e fine. same refl) end)
from_end (InAttribute name) b end =
    by_bool (λ c. Alike (if c then InAttribute (longer name b) else if is_refused_attribute name
    then Lost
    else if b == 61 then Equals (is_address name) else ending b) (ending b))
    (is_name_byte b) (λ e. lost (not_name b e))
    (λ e. by_bool (λ c. not c ≡ true → Alike (if c then Lost else if b == 61 then Equals
    (is_address name) else ending b) (ending b))
    (is_refused_attribute name) (λ e fine. never fine)
    (λ e fine. by_bool (λ c. Alike (if c then Equals (is_address name) else ending b) (ending b))
    (b == 61) (λ e. lost (ap ending (eqb-true b 61 e))) (λ e. same refl)) end)
from_end Ended b end = same refl
from_end InText b end = never end
from_end Opening b end = never end
from_end Marked b end = never end
from_end Between b end = never end
from_end (Equals address) b end = never end
from_end InValue b end = never end
from_end AtAddress b end = never end
from_end AfterSlash b end = never end
from_end Lost b end = never end

alike_step : (real told : State) (b : ℕ) → Alike real told → Alike (step real b) (step told b)
alike_step real told b (lost is) = lost (ap (λ s. step s b) is)
alike_step real told b (same is) = same (ap (λ s. step s b) is)
alike_step real told b (ended end is) =
    subst (λ s. Alike (step real b) (step s b)) (sym is) (from_end real b end)

alike_text : (real told : State) → Alike real told → Alike (at_text real) (at_text told)
alike_text real told (lost is) = lost (ap at_text is)
alike_text real told (same is) = same (ap at_text is)
alike_text real told (ended end is) = lost (ap at_text is)

alike_end : (real told : State) → is_end told ≡ true → Alike real told → Alike real Ended
alike_end real told end (lost is) = let f : false ≡ true = sym (ap is_end is) ∙ end in absurd (cc)
alike_end real told end (same is) = ended (ap is_end is ∙ end) refl
alike_end real told end (ended real_end is) = ended real_end refl

-- nothing but text is text, and nothing but a value a value
text_is : (state : State) → is_text state ≡ true → state ≡ InText
text_is InText is = refl
text_is other is = never is

value_is : (state : State) → is_value state ≡ true → state ≡ InValue
value_is InValue is = refl
value_is other is = never is

-- where both may stand, each of them may
meets : (real one state start : State) → Alike real one
    → (is_text state && is_text start ≡ true → one ≡ InText)
    → (is_value state && is_value start ≡ true → one ≡ InValue)
    → (is_end state && is_end start ≡ true → is_end one ≡ true)
    → Alike real (meet state start)
meets real one state start alike text value ends =
    by_bool (λ c. Alike real (if c then InText else if is_value state && is_value start then InValue
    else if is_end state && is_end start then Ended else Lost))
    (is_text state && is_text start) (λ e. subst (λ s. Alike real s) (text e) alike)
    (λ e. by_bool (λ c. Alike real (if c then InValue
    else if is_end state && is_end start then Ended else Lost))
    (is_value state && is_value start) (λ e. subst (λ s. Alike real s) (value e) alike)
    (λ e. by_bool (λ c. Alike real (if c then Ended else Lost)) (is_end state && is_end start)
    (λ e. alike_end real one (ends e) alike) (λ e. lost refl)))

meet_shown : (real state start : State) → Alike real state → Alike real (meet state start)
meet_shown real state start alike =
    meets real state state start alike
    (λ e. text_is state (and_parts (is_text state) (is_text start) e).0)
    (λ e. value_is state (and_parts (is_value state) (is_value start) e).0)
    (λ e. (and_parts (is_end state) (is_end start) e).0)

meet_hidden : (real state start : State) → Alike real start → Alike real (meet state start)
meet_hidden real state start alike =
    meets real start state start alike
    (λ e. text_is start (and_parts (is_text state) (is_text start) e).1)
    (λ e. value_is start (and_parts (is_value state) (is_value start) e).1)
    (λ e. (and_parts (is_end state) (is_end start) e).1)

in_text : (real told : State) → Alike real told → told ≡ InText → real ≡ InText
in_text real told (lost is) fine = let f : Lost ≡ InText = sym is ∙ fine in absurd (cc)
in_text real told (same is) fine = is ∙ fine
in_text real told (ended end is) fine = let f : Ended ≡ InText = sym is ∙ fine in absurd (cc)

-- where a template leads to from outside of brackets, from a bracket that is shown, and from one that
-- is not
record Leads (template : List ℕ) : Type 0 where
  outside : (real state : State) → Alike real state → (texts : List (List ℕ)) (flags : List Bool)
      → through state None template ≡ InText
      → walk real (filled_from true template texts flags) ≡ InText
  inside : (real state start : State) → Alike real state → (texts : List (List ℕ)) (flags : List
      Bool)
      → through state (Some start) template ≡ InText
      → walk real (filled_from true template texts flags) ≡ InText
  hidden : (real state start : State) → Alike real start → (texts : List (List ℕ)) (flags : List
      Bool)
      → through state (Some start) template ≡ InText
      → walk real (filled_from false template texts flags) ≡ InText

from_outside : (g : Sign) (template : List ℕ) → Leads template → (real state : State)
    → Alike real state → (texts : List (List ℕ)) (flags : List Bool)
    → through (state_after g state None) (before_after g state None) template ≡ InText
    → walk real (piece g texts ++ filled_from (shown_after g true flags) template
    (texts_left g texts) (flags_left g flags)) ≡ InText
from_outside Hole template on real state alike texts flags fine =
    on.outside _ _ (alike_text real state alike) _ _ fine
from_outside HoleEnd template on real state alike texts flags fine =
    on.outside real state alike _ _ fine
from_outside (Byte b) template on real state alike texts flags fine =
    on.outside _ _ (alike_step real state b alike) _ _ fine
from_outside Close template on real state alike texts flags fine = absurd (found None template fine)
from_outside Open template on real state alike texts [] fine =
    on.hidden real state state alike _ _ fine
from_outside Open template on real state alike texts (true ∷ flags) fine =
    on.inside real state state alike _ _ fine
from_outside Open template on real state alike texts (false ∷ flags) fine =
    on.hidden real state state alike _ _ fine

from_inside : (g : Sign) (template : List ℕ) → Leads template → (real state start : State)
    → Alike real state → (texts : List (List ℕ)) (flags : List Bool)
    → through (state_after g state (Some start)) (before_after g state (Some start)) template ≡
    InText
    → walk real (piece g texts ++ filled_from (shown_after g true flags) template
    (texts_left g texts) (flags_left g flags)) ≡ InText
from_inside Hole template on real state start alike texts flags fine =
    on.inside _ _ start (alike_text real state alike) _ _ fine
from_inside HoleEnd template on real state start alike texts flags fine =
    on.inside real state start alike _ _ fine
from_inside (Byte b) template on real state start alike texts flags fine =
    on.inside _ _ start (alike_step real state b alike) _ _ fine
from_inside Open template on real state start alike texts flags fine =
    absurd (found (Some state) template fine)
from_inside Close template on real state start alike texts flags fine =
    on.outside real _ (meet_shown real state start alike) _ _ fine

from_hidden : (g : Sign) (template : List ℕ) → Leads template → (real state start : State)
    → Alike real start → (texts : List (List ℕ)) (flags : List Bool)
    → through (state_after g state (Some start)) (before_after g state (Some start)) template ≡
    InText
    → walk real (filled_from (shown_after g false flags) template (texts_left g texts)
    (flags_left g flags)) ≡ InText
from_hidden Hole template on real state start alike texts flags fine =
    on.hidden real _ start alike _ _ fine
from_hidden HoleEnd template on real state start alike texts flags fine =
    on.hidden real _ start alike _ _ fine
from_hidden (Byte b) template on real state start alike texts flags fine =
    on.hidden real _ start alike _ _ fine
from_hidden Open template on real state start alike texts flags fine =
    absurd (found (Some state) template fine)
from_hidden Close template on real state start alike texts flags fine =
    on.outside real _ (meet_hidden real state start alike) _ _ fine

nowhere : {P : Type 0} → Lost ≡ InText → P
nowhere fine = absurd (cc)

leads : (template : List ℕ) → Leads template
unfolding filled_from through
leads [] = record {
  outside = λ real state alike texts flags fine. in_text real state alike fine;
  inside = λ real state start alike texts flags fine. nowhere fine;
  hidden = λ real state start alike texts flags fine. nowhere fine;
}
leads (b ∷ template) = record {
  outside = λ real state alike texts flags fine.
      from_outside (sign b) template (leads template) real state alike texts flags fine;
  inside = λ real state start alike texts flags fine.
      from_inside (sign b) template (leads template) real state start alike texts flags fine;
  hidden = λ real state start alike texts flags fine.
      from_hidden (sign b) template (leads template) real state start alike texts flags fine;
}

pub page_of : (template : List ℕ) (texts : List (List ℕ)) (flags : List Bool) → IsTemplate template
    → IsPage (filled template texts flags)
page_of template texts flags fine =
    (leads template).outside InText InText (same refl) texts flags fine

-- ---- with every text empty

empty_piece : (g : Sign) (shown : Bool) (texts : List (List ℕ)) (parts : List Part)
    → without_texts ((if shown then piece g texts else []) ++ parts)
    ≡ (if shown then piece g [] else []) ++ without_texts parts
empty_piece g false texts parts = refl
empty_piece Hole true texts parts = refl
empty_piece HoleEnd true texts parts = refl
empty_piece Open true texts parts = refl
empty_piece Close true texts parts = refl
empty_piece (Byte b) true texts parts = refl

none_left : (g : Sign) → [] ≡ texts_left g []
none_left Hole = refl
none_left HoleEnd = refl
none_left Open = refl
none_left Close = refl
none_left (Byte b) = refl

emptied_from : (shown : Bool) (template : List ℕ) (texts : List (List ℕ)) (flags : List Bool)
    → without_texts (filled_from shown template texts flags) ≡ filled_from shown template [] flags
unfolding filled_from
emptied_from shown [] texts flags = refl
emptied_from shown (b ∷ template) texts flags =
    let on = shown_after (sign b) shown flags in
    let rest = flags_left (sign b) flags in
    empty_piece (sign b) shown texts (filled_from on template (texts_left (sign b) texts) rest)
    ∙ ap (λ parts. (if shown then piece (sign b) [] else []) ++ parts)
    (emptied_from on template (texts_left (sign b) texts) rest
    ∙ ap (λ texts. filled_from on template texts rest) (none_left (sign b)))

-- with every text empty it is the template with no text at all
pub emptied_filled : (template : List ℕ) (texts : List (List ℕ)) (flags : List Bool)
    → without_texts (filled template texts flags) ≡ filled template [] flags
emptied_filled template texts flags = emptied_from true template texts flags

pub template_shows : (template : List ℕ) (texts : List (List ℕ)) (flags : List Bool)
    → IsTemplate template → Shows (filled template texts flags) (markup_in template flags)
unfolding markup_in
template_shows template texts flags fine =
    shows _ _ (page_of template texts flags fine)
    (ap (λ parts. outline InText (page_bytes parts)) (emptied_filled template texts flags))
