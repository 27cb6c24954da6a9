-- Lines that print one after the other.
use Rattle.std.proofs.Common.{◌≡◌, ◌∙◌, inl, inr, ℕ, ◌+◌, ◌<◌, false, List, [], ◌∷◌, ◌++◌, take}
use Rattle.std.proofs.Common.{drop}
use Rattle.std.proofs.Common.{length, get_or, Option, Some, None, Err, refl, ap, sym, subst}
use Rattle.std.proofs.Common.{append_assoc, append-nil}
use Rattle.std.proofs.lemmas.List.{take-append-drop, take_more}
use Rattle.settings_core.specs.declared.settings.Settings.{Settings}
use Rattle.desk_model.specs.declared.command.Command.{Command}
use Rattle.desk_model.specs.declared.refusal.Refusal.TheVariants.{Unavailable}
use Rattle.desk_model.specs.Desk.{Desk, empty_desk}
use Rattle.desk_model.specs.Step.{Ask, Outcome, Runs}
use Rattle.desk_words.specs.Number.{number_of}
use Rattle.desk_words.specs.Spelling.{command_of}
use Rattle.desk_words.specs.Words.{words_of}
use Rattle.desk_program.specs.FaultLines.{unavailable_text}
use Rattle.desk_program.specs.Script.{AreLineTexts, IsLineText, LinePrints, asks_of, bad_words_text}
use Rattle.desk_program.specs.Script.{is_passed_over, line_if_spelled, line_if_words, line_of}
use Rattle.desk_program.specs.Script.{line_of_words, with_ask}
use Rattle.desk_program.specs.declared.line.Line.{Line}
use Rattle.desk_program.specs.declared.line.Line.TheVariants.{PassedOver, BadWords, Asked}

-- one line after the other, each on the desk that the one before left
abbrev pub LinesPrint : Settings → List (List ℕ) → Desk → List ℕ → Desk → Type 0
LinesPrint settings [] old text new = (text ≡ []) × (new ≡ old)
LinesPrint settings (line ∷ rest) old text new =
    (first : List ℕ) × (others : List ℕ) × (mid : Desk)
    × LinePrints settings (line_of line) old first mid × LinesPrint settings rest mid others new
    × (text ≡ first ++ others)

-- ---- a run of their commands

-- a line, and then a run of the later commands
run_of_line : (s : Settings) (line : Line) (asks : List Ask) (old mid new : Desk) (text : List ℕ)
    (outcomes : List Outcome) → LinePrints s line old text mid → Runs s mid asks outcomes new
    → (all : List Outcome) × Runs s old (with_ask line asks) all new
    × IsLineText line all outcomes text
run_of_line s PassedOver asks old mid new text outcomes (shown, same) run =
    (outcomes, subst (λ (d : Desk). Runs s d asks outcomes new) same run, (shown, refl))
run_of_line s BadWords asks old mid new text outcomes (shown, same) run =
    (outcomes, subst (λ (d : Desk). Runs s d asks outcomes new) same run, (shown, refl))
run_of_line s (Asked at caller command) asks old mid new text outcomes (outcome, steps, shown) run =
    (outcome ∷ outcomes, (mid, steps, run), (outcome, refl, shown))

-- what lines print is of a run of their commands
pub run_of_lines : (s : Settings) (lines : List (List ℕ)) (old new : Desk) (text : List ℕ)
    → LinesPrint s lines old text new
    → (outcomes : List Outcome) × Runs s old (asks_of lines) outcomes new
    × AreLineTexts lines outcomes text
run_of_lines s [] old new text (shown, same) = ([], same, (refl, shown))
run_of_lines s (line ∷ lines) old new text (first, others, mid, prints, later, whole) =
    let run = run_of_lines s lines mid new others later in
    let all = run_of_line s (line_of line) (asks_of lines) old mid new first run.0 prints run.1 in
    (all.0, all.1, (first, others, run.0, all.2, run.2, whole))

-- ---- lines and more lines

from_same : (s : Settings) (old mid : Desk) (lines : List (List ℕ)) (text : List ℕ) (new : Desk)
    → mid ≡ old → LinesPrint s lines mid text new → LinesPrint s lines old text new
from_same s old mid lines text new e h = subst (λ (d : Desk). LinesPrint s lines d text new) e h

-- lines print, and then more lines
lines_print_both : (s : Settings) (lines more : List (List ℕ)) (old mid new : Desk)
    (text others : List ℕ) → LinesPrint s lines old text mid → LinesPrint s more mid others new
    → LinesPrint s (lines ++ more) old (text ++ others) new
lines_print_both s [] more old mid new text others h g =
    subst (λ (t : List ℕ). LinesPrint s more old (t ++ others) new) (sym h.0)
    (from_same s old mid more others new h.1 g)
lines_print_both s (line ∷ lines) more old mid new text others h g =
    let (first, rest, next, prints, run, whole) = h in (
      first,
      rest ++ others,
      next,
      prints,
      lines_print_both s lines more next mid new rest others run g,
      ap (λ (t : List ℕ). t ++ others) whole ∙ append_assoc first rest others,
    )

-- one line prints
line_prints : (s : Settings) (line : List ℕ) (old new : Desk) (text : List ℕ)
    → LinePrints s (line_of line) old text new → LinesPrint s (line ∷ []) old text new
line_prints s line old new text h = (text, [], new, h, (refl, refl), sym (append-nil text))

-- ---- out of memory

if_spelled_unavailable : (s : Settings) (at : Option ℕ) (caller : List ℕ)
    (command : Option Command) (desk : Desk)
    → LinePrints s (line_if_spelled at caller command) desk unavailable_text desk
if_spelled_unavailable s (Some at) caller (Some command) desk =
    (Err Unavailable, inl (refl, refl), refl)
if_spelled_unavailable s (Some at) caller None desk = (inr refl, refl)
if_spelled_unavailable s None caller command desk = (inr refl, refl)

words_unavailable : (s : Settings) (words : List (List ℕ)) (desk : Desk)
    → LinePrints s (line_of_words words) desk unavailable_text desk
words_unavailable s [] desk = (inr refl, refl)
words_unavailable s (at ∷ []) desk = (inr refl, refl)
words_unavailable s (at ∷ caller ∷ words) desk =
    if_spelled_unavailable s (number_of at) caller (command_of words) desk

if_words_unavailable : (s : Settings) (words : Option (List (List ℕ))) (desk : Desk)
    → LinePrints s (line_if_words words) desk unavailable_text desk
if_words_unavailable s None desk = (inr refl, refl)
if_words_unavailable s (Some words) desk = words_unavailable s words desk

-- a line that isn't passed over may print that it is out of memory, and is then left out
pub unavailable_prints : (s : Settings) (line : List ℕ) (desk : Desk)
    → is_passed_over line ≡ false → LinePrints s (line_of line) desk unavailable_text desk
unavailable_prints s line desk e = rw e (if_words_unavailable s (words_of line) desk)

-- ---- lines that are left out

-- what a line prints that is left out
abbrev left_out_text : Line → List ℕ
left_out_text PassedOver = []
left_out_text BadWords = bad_words_text
left_out_text (Asked at caller command) = unavailable_text

abbrev left_out_texts : List (List ℕ) → List ℕ
left_out_texts [] = []
left_out_texts (line ∷ lines) = left_out_text (line_of line) ++ left_out_texts lines

line_left_out : (s : Settings) (line : Line) (desk : Desk)
    → LinePrints s line desk (left_out_text line) desk
line_left_out s PassedOver desk = (refl, refl)
line_left_out s BadWords desk = (inl refl, refl)
line_left_out s (Asked at caller command) desk = (Err Unavailable, inl (refl, refl), refl)

lines_left_out : (s : Settings) (lines : List (List ℕ)) (desk : Desk)
    → LinesPrint s lines desk (left_out_texts lines) desk
lines_left_out s [] desk = (refl, refl)
lines_left_out s (line ∷ lines) desk = (
  left_out_text (line_of line),
  left_out_texts lines,
  desk,
  line_left_out s (line_of line) desk,
  lines_left_out s lines desk,
  refl,
)

-- ---- the lines so far

-- what the lines before a place print, from the empty desk on
abbrev pub PrintUpTo : Settings → List (List ℕ) → ℕ → List ℕ → Desk → Type 0
PrintUpTo settings lines i text new = LinesPrint settings (take i lines) empty_desk text new

-- this line stands at that place
abbrev pub StandsAt : List (List ℕ) → ℕ → List ℕ → Type 0
StandsAt lines i line = (i < length lines) × (line ≡ get_or lines i line)

-- the lines so far and one more
pub print_one_more : (s : Settings) (lines : List (List ℕ)) (i : ℕ) (line : List ℕ)
    → StandsAt lines i line → (mid new : Desk) (text piece : List ℕ)
    → PrintUpTo s lines i text mid → LinePrints s (line_of line) mid piece new
    → PrintUpTo s lines (i + 1) (text ++ piece) new
print_one_more s lines i line here mid new text piece run prints =
    let one = line_prints s line mid new piece prints in
    let front : List (List ℕ) = take i lines in
    let all = lines_print_both s front (line ∷ []) empty_desk mid new text piece run one in
    let more : front ++ line ∷ [] ≡ take (i + 1) lines =
    ap (λ (l : List ℕ). front ++ l ∷ []) here.1 ∙ sym (take_more lines i line here.0) in
    subst (λ (ls : List (List ℕ)). LinesPrint s ls empty_desk (text ++ piece) new) more all

-- the lines so far, and the rest left out
pub print_the_rest : (s : Settings) (lines : List (List ℕ)) (i : ℕ) (mid : Desk) (text : List ℕ)
    → PrintUpTo s lines i text mid
    → (others : List ℕ) × LinesPrint s lines empty_desk (text ++ others) mid
print_the_rest s lines i mid text run =
    let others = left_out_texts (drop i lines) in
    let rest = lines_left_out s (drop i lines) mid in
    let all = lines_print_both s (take i lines) (drop i lines) empty_desk mid mid text others
    run rest in (
      others,
      subst (λ (ls : List (List ℕ)). LinesPrint s ls empty_desk (text ++ others) mid)
          (take-append-drop i lines) all,
    )
