-- each turn reads the first character of what is left
use Rattle.std.proofs.Common.{◌≡◌, ℕ, List, ◌∷◌, ◌+◌, ◌<◌, Err, length, drop, get_or, sym, ap, ◌∙◌}
use Rattle.std.proofs.Common.{rules, arith, map, string_bytes}
use Rattle.std.proofs.lemmas.Iterator.{YieldsList-from_chars}
use Rattle.std.proofs.lemmas.Iterator.Consumers.{YieldsList-turn, YieldsList-end}
use Rattle.std.proofs.lemmas.List.{drop_more, drop_all, length_push}
use Rattle.std.specs.Str.{chars}
use Rattle.desk_words.specs.Reader.{after}
use Rattle.desk_words.specs.declared.fault.WordsFault.TheVariants.{BadQuote}
use Rattle.desk_words.proofs.words.words_of.Goals as goal

left : (cs : List ℕ) (n c : ℕ) → (n < length cs) × (c ≡ get_or cs n c) → drop n cs
    ≡ c ∷ drop (n + 1) cs
left cs n c h = drop_more cs n c h.0 ∙ ap (λ x. x ∷ drop (n + 1) cs) (sym h.1)

pub loop-character-preserved : goal.loop-character-preserved
loop-character-preserved c =
    let all = YieldsList-from_chars c.args.line.now c.utf8.line cc in
    let t =
    YieldsList-turn all c.loop-character.yielded _ c.loop-character.yielded_by _ _
    c.in-Some.character c.in-Some.is c.next.ensures.steps in
    let l = left _ _ _ t in
    let n = length_push c.loop-character.yielded c.in-Some.character in
    let count = length c.loop-character.yielded in
    let s = c.in_ok-place.ensures.ok (drop (count + 1) (chars c.args.line.now)) in
    cc

pub returns-in_err-place-clause-bad : goal.returns-in_err-place-clause-bad
returns-in_err-place-clause-bad c e =
    let all = YieldsList-from_chars c.args.line.now c.utf8.line cc in
    let t =
    YieldsList-turn all c.loop-character.yielded _ c.loop-character.yielded_by _ _
    c.in-Some.character c.in-Some.is c.next.ensures.steps in
    let l = left _ _ _ t in
    let same : c.in_err-place.field-0.0 ≡ BadQuote = search rules in
    let left_over = drop (length c.loop-character.yielded + 1) (chars c.args.line.now) in
    let bad = c.in_err-place.ensures.bad left_over (ap (λ f. Err f) same) in
    let none = ap (after (map string_bytes c.loop-character.words.items)) bad in
    rw l at (sym c.loop-character.invariant) ∙ none

pub returns-in_err-finish-clause-bad : goal.returns-in_err-finish-clause-bad
returns-in_err-finish-clause-bad c e =
    let all = YieldsList-from_chars c.args.line.now c.utf8.line cc in
    let t =
    YieldsList-end all c.loop-character.yielded _ c.loop-character.yielded_by _ _ c.in-None.is
    c.next.ensures.steps in
    let count = length c.loop-character.yielded in
    let l = drop_all count (chars c.args.line.now) (omega (arith, t.1)) in
    let same : c.in_err-finish.field-0.0 ≡ BadQuote = search rules in
    let bad = c.in_err-finish.ensures.bad (ap (λ f. Err f) same) in
    let none = ap (after (map string_bytes c.loop-character.words.items)) bad in
    rw l at (sym c.loop-character.invariant) ∙ none

pub returns-clause-ok : goal.returns-clause-ok
returns-clause-ok c =
    let all = YieldsList-from_chars c.args.line.now c.utf8.line cc in
    let t =
    YieldsList-end all c.loop-character.yielded _ c.loop-character.yielded_by _ _ c.in-None.is
    c.next.ensures.steps in
    let count = length c.loop-character.yielded in
    let l = drop_all count (chars c.args.line.now) (omega (arith, t.1)) in
    rw l at (sym c.loop-character.invariant) ∙ c.in_ok-finish.ensures.ok
