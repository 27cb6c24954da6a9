-- The search for the marker, byte for byte, finds the first line `%%`.
use Rattle.std.proofs.Common.{◌≡◌, ◌≢◌, ◌∙◌, ◌==◌, ◌⊎◌, inl, inr, ℕ, ◌+◌, ◌-◌, ◌<◌, ◌≤◌, Bool}
use Rattle.std.proofs.Common.{true, false, cond, List, [], ◌∷◌, ◌++◌, take, drop, length, get_or}
use Rattle.std.proofs.Common.{codes}
use Rattle.std.proofs.Common.{Option, Some, None, refl, ap, sym, subst, append_assoc, append-nil}
use Rattle.std.proofs.Common.{arith}
use Rattle.std.specs.Prelude.{if◌then◌else◌}
use Rattle.std.specs.List.{All, slice_split}
use Rattle.std.specs.Option.{option_map}
use Rattle.std.specs.Str.{bytes_eq}
use Rattle.std.specs.Str.Lines.{lines, lines_of_parts, strip_carriage_return}
use Rattle.std.proofs.lemmas.Bool.{eqb-true, ne_eqb}
use Rattle.std.proofs.lemmas.List.{drop_all, drop_more, take-append-drop, take_all, take_more}
use Rattle.std.proofs.lemmas.List.Elements.{All-cons, All-nil, All-push}
use Rattle.std.proofs.lemmas.List.Splits.{length-slice_split, slice_split_at, slice_split_none}
use Rattle.std.proofs.lemmas.Slice.Eq.{bytes_eq-Decides}
use Rattle.desk_program.specs.Input.{HasNoMarker, IsSplitOf, SplitsAtMarker, after_marker}

-- ---- the search

-- a text's parts before the marker and after it
abbrev pub Halves : Type 0
Halves = List ℕ × List ℕ

-- with these bytes in front of the first part
abbrev pub with_front : List ℕ → Halves → Halves
with_front bytes halves = (bytes ++ halves.0, halves.1)

-- what follows the marker, in a text that begins a line
abbrev pub marker_rest : Bool → List ℕ → Option (List ℕ)
marker_rest begins text = if begins then after_marker text else None

-- the parts where the marker stands here, and else those that are found later
abbrev pub split_here : Option (List ℕ) → Option Halves → Option Halves
split_here None later = later
split_here (Some rest) later = Some ([], rest)

-- the parts, in a text that begins a line or doesn't
abbrev pub split_from : Bool → List ℕ → Option Halves
split_from begins [] = None
split_from begins (b ∷ bs) =
    split_here (marker_rest begins (b ∷ bs))
    (option_map (with_front (b ∷ [])) (split_from (b == 10) bs))

with_front_both : (a b : List ℕ) (found : Option Halves)
    → option_map (with_front a) (option_map (with_front b) found)
    ≡ option_map (with_front (a ++ b)) found
with_front_both a b None = refl
with_front_both a b (Some p) = ap (λ (x : List ℕ). Some (x, p.1)) (sym (append_assoc a b p.0))

with_front_none : (found : Option Halves) → option_map (with_front []) found ≡ found
with_front_none None = refl
with_front_none (Some halves) = refl

-- ---- a step of the search

split_at : (begins : Bool) (text : List ℕ) (b : ℕ) (bs : List ℕ) (here : Option (List ℕ))
    → text ≡ b ∷ bs → marker_rest begins text ≡ here
    → split_from begins text
    ≡ split_here here (option_map (with_front (b ∷ [])) (split_from (b == 10) bs))
split_at begins text b bs here e at_front =
    let later : Option Halves = option_map (with_front (b ∷ [])) (split_from (b == 10) bs) in
    ap (split_from begins) e
    ∙ ap (λ (o : Option (List ℕ)). split_here o later) (ap (marker_rest begins) (sym e) ∙ at_front)

-- what the search finds in all, where it has come to a place without finding the marker
abbrev pub CameTo : List ℕ → ℕ → Bool → Type 0
CameTo input place begins =
    split_from true input
    ≡ option_map (with_front (take place input)) (split_from begins (drop place input))

-- where no marker stands at a place, the search goes on after the byte there
pub goes_on : (input : List ℕ) (place : ℕ) (begins : Bool) → place < length input
    → marker_rest begins (drop place input) ≡ None → CameTo input place begins
    → CameTo input (place + 1) (get_or input place 0 == 10)
goes_on input place begins within none so_far =
    let front : List ℕ = take place input in
    let byte : ℕ = get_or input place 0 in
    let rest : List ℕ = drop (place + 1) input in
    let cut : drop place input ≡ byte ∷ rest = drop_more input place 0 within in
    so_far
    ∙ ap (option_map (with_front front))
    (split_at begins (drop place input) byte rest None cut none)
    ∙ with_front_both front (byte ∷ []) (split_from (byte == 10) rest)
    ∙ ap (λ (t : List ℕ). option_map (with_front t) (split_from (byte == 10) rest))
    (sym (take_more input place 0 within))

-- where the marker stands at a place, the parts are what is before it and what follows it
pub found_at : (input : List ℕ) (place : ℕ) (begins : Bool) (after : List ℕ) → place < length input
    → marker_rest begins (drop place input) ≡ Some after → CameTo input place begins
    → split_from true input ≡ Some (take place input, after)
found_at input place begins after within here so_far =
    let front : List ℕ = take place input in
    let byte : ℕ = get_or input place 0 in
    let rest : List ℕ = drop (place + 1) input in
    let cut : drop place input ≡ byte ∷ rest = drop_more input place 0 within in
    so_far
    ∙ ap (option_map (with_front front))
    (split_at begins (drop place input) byte rest (Some after) cut here)
    ∙ ap (λ (t : List ℕ). Some (t, after)) (append-nil front)

-- where the search has passed the whole text, it finds nothing
pub not_found : (input : List ℕ) (place : ℕ) (begins : Bool) → length input ≤ place
    → CameTo input place begins → split_from true input ≡ None
not_found input place begins past so_far =
    so_far
    ∙ ap (λ (rest : List ℕ). option_map (with_front (take place input)) (split_from begins rest))
    (drop_all place input past)

-- ---- lines

-- a byte of a line
abbrev NoFeed : ℕ → Type 0
NoFeed b = (b == 10) ≡ false

abbrev NoMarker : List ℕ → Type 0
NoMarker line = line ≢ codes "%%"

lines_of_front : (x : List ℕ) (parts : List (List ℕ)) → 0 < length parts
    → lines_of_parts (x ∷ parts) ≡ strip_carriage_return x ∷ lines_of_parts parts
lines_of_front x [] l = absurd (omega arith)
lines_of_front x (y ∷ more) l = refl

lines_of_line : (line rest : List ℕ) → All NoFeed line
    → lines (line ++ 10 ∷ rest) ≡ strip_carriage_return line ∷ lines rest
lines_of_line line rest within =
    let is_feed : ℕ → Bool = λ b. b == 10 in
    ap lines_of_parts (slice_split_at is_feed line 10 rest within refl)
    ∙ lines_of_front line (slice_split is_feed rest)
    (omega (arith, length-slice_split is_feed rest))

last_line : (line : List ℕ) → All NoFeed line → NoMarker line → HasNoMarker line
last_line [] within other = All-nil NoMarker
last_line (b ∷ bs) within other =
    let line : List ℕ = b ∷ bs in
    let only : lines line ≡ line ∷ [] =
    ap lines_of_parts (slice_split_none (λ b. b == 10) line within)
    ∙ ap (λ (v : Bool). cond v [] (line ∷ [])) (ne_eqb (length line) 0 (λ e. omega arith)) in
    subst (All NoMarker) (sym only) (All-cons NoMarker line [] other (All-nil NoMarker))

-- ---- the marker at the front

at_end : after_marker (codes "%%") ≡ Some []
at_end = refl

at_feed : (rest : List ℕ) → after_marker (codes "%%" ++ 10 ∷ rest) ≡ Some rest
at_feed rest = refl

at_return : (rest : List ℕ) → after_marker (codes "%%\r" ++ 10 ∷ rest) ≡ Some rest
at_return rest = refl

-- a text begins with a line `%%`, and this is what follows it
abbrev BeginsWithMarker : List ℕ → List ℕ → Type 0
BeginsWithMarker text rest =
    ((text ≡ codes "%%") × (rest ≡ []))
    ⊎ ((text ≡ codes "%%" ++ 10 ∷ rest) ⊎ (text ≡ codes "%%\r" ++ 10 ∷ rest))

front_and_rest : (n : ℕ) (text front rest : List ℕ) → take n text ≡ front → drop n text ≡ rest
    → text ≡ front ++ rest
front_and_rest n text front rest e f =
    sym (take-append-drop n text) ∙ ap (λ (l : List ℕ). l ++ drop n text) e
    ∙ ap (λ (l : List ℕ). front ++ l) f

begins_by : (text rest : List ℕ) (a b c : Bool) → (a ≡ true → text ≡ codes "%%")
    → (b ≡ true → take 3 text ≡ codes "%%\n") → (c ≡ true → take 4 text ≡ codes "%%\r\n")
    → cond a (Some []) (cond b (Some (drop 3 text)) (cond c (Some (drop 4 text)) None)) ≡ Some rest
    → BeginsWithMarker text rest
begins_by text rest true b c ea eb ec e = let none : [] ≡ rest = cc in inl (ea refl, sym none)
begins_by text rest false true c ea eb ec e =
    let after : drop 3 text ≡ rest = cc in
    inr (inl (front_and_rest 3 text (codes "%%\n") rest (eb refl) after))
begins_by text rest false false true ea eb ec e =
    let after : drop 4 text ≡ rest = cc in
    inr (inr (front_and_rest 4 text (codes "%%\r\n") rest (ec refl) after))
begins_by text rest false false false ea eb ec e = cc

begins_with_marker : (text rest : List ℕ) → after_marker text ≡ Some rest
    → BeginsWithMarker text rest
begins_with_marker text rest e =
    begins_by text rest (bytes_eq text (codes "%%")) (bytes_eq (take 3 text) (codes "%%\n"))
    (bytes_eq (take 4 text) (codes "%%\r\n")) (bytes_eq-Decides text (codes "%%")).0
    (bytes_eq-Decides (take 3 text) (codes "%%\n")).0
    (bytes_eq-Decides (take 4 text) (codes "%%\r\n")).0 e

percents : All NoFeed (codes "%%")
percents = All-cons NoFeed 37 (37 ∷ []) refl (All-cons NoFeed 37 [] refl (All-nil NoFeed))

percents_return : All NoFeed (codes "%%\r")
percents_return = All-push NoFeed (codes "%%") 13 percents refl

splits_at_front : (text rest : List ℕ) → BeginsWithMarker text rest → SplitsAtMarker text [] rest
splits_at_front text rest (inl (only, none)) = record {
  ending = [];
  whole = only ∙ ap (λ (l : List ℕ). codes "%%" ++ l) (sym none);
  ends = inl (refl, none);
  by_lines = ap lines only ∙ ap (λ (l : List ℕ). codes "%%" ∷ lines l) (sym none);
  first = All-nil NoMarker;
}
splits_at_front text rest (inr (inl feed)) = record {
  ending = codes "\n";
  whole = feed;
  ends = inr (inl refl);
  by_lines = ap lines feed ∙ lines_of_line (codes "%%") rest percents;
  first = All-nil NoMarker;
}
splits_at_front text rest (inr (inr return)) = record {
  ending = codes "\r\n";
  whole = return;
  ends = inr (inr refl);
  by_lines = ap lines return ∙ lines_of_line (codes "%%\r") rest percents_return;
  first = All-nil NoMarker;
}

-- ---- a line that isn't the marker

put_back : (b : ℕ) (bs line : List ℕ) → get_or (b ∷ bs) (length (b ∷ bs) - 1) 0 ≡ 13
    → take (length (b ∷ bs) - 1) (b ∷ bs) ≡ line → b ∷ bs ≡ line ++ 13 ∷ []
put_back b bs line last front =
    let text : List ℕ = b ∷ bs in
    let n : ℕ = length text - 1 in
    let whole : take (n + 1) text ≡ text = take_all (n + 1) text (omega arith) in
    sym whole ∙ take_more text n 0 (omega arith)
    ∙ ap (λ (l : List ℕ). l ++ get_or text n 0 ∷ []) front ∙ ap (λ (x : ℕ). line ++ x ∷ []) last

stripped_by : (b : ℕ) (bs line : List ℕ) (v : Bool)
    → (get_or (b ∷ bs) (length (b ∷ bs) - 1) 0 == 13) ≡ v
    → cond v (take (length (b ∷ bs) - 1) (b ∷ bs)) (b ∷ bs) ≡ line
    → (b ∷ bs ≡ line) ⊎ (b ∷ bs ≡ line ++ 13 ∷ [])
stripped_by b bs line true last e = inr (put_back b bs line (eqb-true _ 13 last) e)
stripped_by b bs line false last e = inl e

stripped : (text line : List ℕ) → strip_carriage_return text ≡ line
    → (text ≡ line) ⊎ (text ≡ line ++ 13 ∷ [])
stripped [] line e = inl e
stripped (b ∷ bs) line e = stripped_by b bs line _ refl e

no_marker_before : (line with_ending rest : List ℕ) → after_marker (line ++ 10 ∷ rest) ≡ None
    → line ≡ with_ending → after_marker (with_ending ++ 10 ∷ rest) ≡ Some rest → ⊥
no_marker_before line with_ending rest none same marker =
    let no : None ≡ Some rest =
    sym none ∙ ap (λ (l : List ℕ). after_marker (l ++ 10 ∷ rest)) same ∙ marker in
    cc

other_line : (line rest : List ℕ) → after_marker (line ++ 10 ∷ rest) ≡ None
    → NoMarker (strip_carriage_return line)
other_line line rest none e =
    elim (stripped line (codes "%%") e) [
      | inl same ↦ no_marker_before line (codes "%%") rest none same (at_feed rest)
      | inr same ↦ no_marker_before line (codes "%%\r") rest none same (at_return rest)
    ]

-- a line in front of a text that is split
line_before : (line rest : List ℕ) (found : Option Halves) → All NoFeed line
    → NoMarker (strip_carriage_return line) → IsSplitOf rest found
    → IsSplitOf (line ++ 10 ∷ rest) (option_map (with_front (line ++ 10 ∷ [])) found)
line_before line rest None within other none =
    subst (All NoMarker) (sym (lines_of_line line rest within))
    (All-cons NoMarker (strip_carriage_return line) (lines rest) other none)
line_before line rest (Some halves) within other h =
    let own : List ℕ = strip_carriage_return line in
    let marked : List ℕ = codes "%%" ++ (h.ending ++ halves.1) in
    let front : lines ((line ++ 10 ∷ []) ++ halves.0) ≡ own ∷ lines halves.0 =
    ap lines (append_assoc line (10 ∷ []) halves.0) ∙ lines_of_line line halves.0 within in
    record {
      ending = h.ending;
      whole = ap (λ (l : List ℕ). line ++ 10 ∷ l) h.whole
          ∙ sym (append_assoc line (10 ∷ halves.0) marked)
          ∙ ap (λ (l : List ℕ). l ++ marked) (sym (append_assoc line (10 ∷ []) halves.0));
      ends = h.ends;
      by_lines = lines_of_line line rest within
          ∙ ap (λ (ls : List (List ℕ)). own ∷ ls) h.by_lines
          ∙ ap (λ (ls : List (List ℕ)). ls ++ (codes "%%" ∷ lines halves.1)) (sym front);
      first = subst (All NoMarker) (sym front)
          (All-cons NoMarker own (lines halves.0) other h.first);
    }

-- ---- the search finds the first line `%%`

-- it does so in a text that stands after the front of a line, which isn't the marker
abbrev FindsWithinLine : List ℕ → Type 0
FindsWithinLine text =
    (front : List ℕ) → All NoFeed front → after_marker (front ++ text) ≡ None
    → IsSplitOf (front ++ text) (option_map (with_front front) (split_from false text))

abbrev Finds : List ℕ → Type 0
Finds text = IsSplitOf text (split_from true text) × FindsWithinLine text

byte_more : (b : ℕ) (bs front : List ℕ) (v : Bool) → (b == 10) ≡ v → Finds bs → All NoFeed front
    → after_marker (front ++ b ∷ bs) ≡ None
    → IsSplitOf (front ++ b ∷ bs) (option_map (with_front (front ++ b ∷ [])) (split_from v bs))
byte_more b bs front true feed later within none =
    let ten : 10 ≡ b = sym (eqb-true b 10 feed) in
    let before : after_marker (front ++ 10 ∷ bs) ≡ None =
    ap (λ (x : ℕ). after_marker (front ++ x ∷ bs)) ten ∙ none in
    subst (λ (x : ℕ). IsSplitOf (front ++ x ∷ bs)
    (option_map (with_front (front ++ x ∷ [])) (split_from true bs))) ten
    (line_before front bs (split_from true bs) within (other_line front bs before) later.0)
byte_more b bs front false other later within none =
    let same : (front ++ b ∷ []) ++ bs ≡ front ++ b ∷ bs = append_assoc front (b ∷ []) bs in
    subst (λ (l : List ℕ). IsSplitOf l
    (option_map (with_front (front ++ b ∷ [])) (split_from false bs))) same
    (later.1 (front ++ b ∷ []) (All-push NoFeed front b within other) (ap after_marker same ∙ none))

finds_within_line : (b : ℕ) (bs : List ℕ) → Finds bs → FindsWithinLine (b ∷ bs)
finds_within_line b bs later front within none =
    subst (IsSplitOf (front ++ b ∷ bs))
    (sym (with_front_both front (b ∷ []) (split_from (b == 10) bs)))
    (byte_more b bs front (b == 10) refl later within none)

finds_from_line : (b : ℕ) (bs : List ℕ) (here : Option (List ℕ)) → after_marker (b ∷ bs) ≡ here
    → FindsWithinLine (b ∷ bs)
    → IsSplitOf (b ∷ bs)
    (split_here here (option_map (with_front (b ∷ [])) (split_from (b == 10) bs)))
finds_from_line b bs None none rest =
    let later : Option Halves = option_map (with_front (b ∷ [])) (split_from (b == 10) bs) in
    subst (IsSplitOf (b ∷ bs)) (with_front_none later) (rest [] (All-nil NoFeed) none)
finds_from_line b bs (Some after) marker rest =
    splits_at_front (b ∷ bs) after (begins_with_marker (b ∷ bs) after marker)

ends_within_line : FindsWithinLine []
ends_within_line front within none =
    let other : NoMarker front =
    λ e. let here : None ≡ Some [] =
    sym none ∙ ap after_marker (append-nil front ∙ e) ∙ at_end in cc in
    subst HasNoMarker (sym (append-nil front)) (last_line front within other)

finds : (text : List ℕ) → Finds text
finds [] = (All-nil NoMarker, ends_within_line)
finds (b ∷ bs) =
    let within_line = finds_within_line b bs (finds bs) in
    (finds_from_line b bs (after_marker (b ∷ bs)) refl within_line, within_line)

-- what the search finds are the parts
pub found_is_split : (input : List ℕ) (found : Option Halves) → split_from true input ≡ found
    → IsSplitOf input found
found_is_split input found e = subst (IsSplitOf input) e (finds input).0
