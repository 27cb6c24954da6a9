-- What a writer has taken of texts that were written one after the other.
use Rattle.std.proofs.Common.{◌≡◌, ◌≢◌, ◌∙◌, ◌==◌, ◌||◌, ◌<◌, ◌+◌, ℕ, Bool, true, false, List}
use Rattle.std.proofs.Common.{[], ◌∷◌, ◌++◌, length, length-append, take, drop, get_or, Option}
use Rattle.std.proofs.Common.{Some, None, eq-eqb, ap, sym, subst, append_assoc, append-nil}
use Rattle.std.proofs.Common.{arith}
use Rattle.std.proofs.lemmas.List.{drop_more, take-append-drop}
use Rattle.std.specs.Io.KnownBytes.{Appends}
use borrow.Author.Tests.{ne_eqb}
use Rattle.stream_core.specs.Written.{IsWritten, Prints, WritesOn}
use Rattle.stream_core.specs.declared.writer.CountedWriter.{CountedWriter}

pub appends_both : (a b c : Option (List ℕ)) (x y : List ℕ)
    → Appends a b x → Appends b c y → Appends a c (x ++ y)
appends_both None b c x y first second = tt
appends_both (Some xs) None c x y first second = absurd first
appends_both (Some xs) (Some ys) None x y first second = absurd second
appends_both (Some xs) (Some ys) (Some zs) x y first second =
    second ∙ ap (λ (l : List ℕ). l ++ y) first ∙ append_assoc xs x y

pub appends_none : (a : Option (List ℕ)) → Appends a a []
appends_none None = tt
appends_none (Some xs) = sym (append-nil xs)

-- a write that takes a byte doesn't fail
pub fails_not : (before after : Bool) (taken : ℕ)
    → before ≡ false → after ≡ (before || (taken == 0)) → taken ≢ 0 → after ≡ false
fails_not before after taken none told some =
    told ∙ ap (λ (b : Bool). b || (taken == 0)) none ∙ ne_eqb taken 0 some

-- a write that takes none fails
pub fails : (before after : Bool) (taken : ℕ)
    → after ≡ (before || (taken == 0)) → taken ≡ 0 → after ≡ true
fails true after taken told none = told
fails false after taken told none = told ∙ eq-eqb taken 0 none

pub written_if : (failed known : Bool) (old new : Option (List ℕ)) (text : List ℕ)
    → failed ≡ known → IsWritten known old new text → IsWritten failed old new text
written_if failed known old new text e written =
    subst (λ (b : Bool). IsWritten b old new text) (sym e) written

-- the bytes up to a place, the byte there, and those after it
cut : (bytes : List ℕ) (place : ℕ) → place < length bytes
    → bytes ≡ take place bytes ++ get_or bytes place 0 ∷ drop (place + 1) bytes
cut bytes place within =
    sym (take-append-drop place bytes)
    ∙ ap (λ (l : List ℕ). take place bytes ++ l) (drop_more bytes place 0 within)

-- a write that takes none of the bytes that are left cuts them short
pub cut_short : (a b c : Option (List ℕ)) (bytes : List ℕ) (place : ℕ) → place < length bytes
    → (left : List ℕ) (count : ℕ) → count ≡ 0 → Appends a b (take place bytes)
    → Appends b c (take count left) → IsWritten true a c bytes
cut_short a b c bytes place within left count none first second =
    let part : List ℕ = take place bytes in
    let empty : take count left ≡ [] = ap (λ (k : ℕ). take k left) none in
    let both = appends_both a b c part (take count left) first second in (
      part,
      get_or bytes place 0,
      drop (place + 1) bytes,
      cut bytes place within,
      subst (λ (l : List ℕ). Appends a c l)
          (ap (λ (l : List ℕ). part ++ l) empty ∙ append-nil part) both,
    )

-- a part of the first text is a part of both
part_of_both : (a b : Option (List ℕ)) (x y : List ℕ)
    → IsWritten true a b x → IsWritten true a b (x ++ y)
part_of_both a b x y (part, byte, rest, cut, taken) =
    let whole = ap (λ (l : List ℕ). l ++ y) cut ∙ append_assoc part (byte ∷ rest) y in
    (part, byte, rest ++ y, whole, taken)

-- the first text and a part of the second are a part of both
whole_and_part : (a b c : Option (List ℕ)) (x y : List ℕ)
    → Appends a b x → IsWritten true b c y → IsWritten true a c (x ++ y)
whole_and_part a b c x y first (part, byte, rest, cut, taken) = (
  x ++ part,
  byte,
  rest,
  ap (λ (l : List ℕ). x ++ l) cut ∙ sym (append_assoc x part (byte ∷ rest)),
  appends_both a b c x part first taken,
)

-- two texts, one after the other
pub writes_both : (f g h : Bool) (a b c : Option (List ℕ)) (x y : List ℕ)
    → WritesOn f g a b x → WritesOn g h b c y → WritesOn f h a c (x ++ y)
writes_both true true h a b c x y first second = (second.0, second.1 ∙ first.1)
writes_both true false h a b c x y first second = let no : false ≡ true = first.0 in cc
writes_both false true true a b c x y first second =
    subst (λ (d : Option (List ℕ)). IsWritten true a d (x ++ y)) (sym second.1)
    (part_of_both a b x y first)
writes_both false true false a b c x y first second = let no : false ≡ true = second.0 in cc
writes_both false false true a b c x y first second = whole_and_part a b c x y first second
writes_both false false false a b c x y first second = appends_both a b c x y first second

pub prints_both : {W : Type 0} (contents : W → Option (List ℕ)) (a b c : CountedWriter W)
    (x y : List ℕ) → Prints contents a b x → Prints contents b c y → Prints contents a c (x ++ y)
prints_both contents a b c x y first second = record {
  written = writes_both a.failed b.failed c.failed (contents a.writer.now) (contents b.writer.now)
      (contents c.writer.now) x y first.written second.written;
  counted = simp length-append (omega (arith, first.counted, second.counted));
}

-- after a failed write, more of the text is left
writes_cut_short : (f g : Bool) (a b : Option (List ℕ)) (x y : List ℕ) → g ≡ true
    → WritesOn f g a b x → WritesOn f g a b (x ++ y)
writes_cut_short true g a b x y failed written = written
writes_cut_short false true a b x y failed written = part_of_both a b x y written
writes_cut_short false false a b x y failed written = let no : false ≡ true = failed in cc

pub prints_cut_short : {W : Type 0} (contents : W → Option (List ℕ)) (a b : CountedWriter W)
    (x y : List ℕ) → b.failed ≡ true → Prints contents a b x → Prints contents a b (x ++ y)
prints_cut_short contents a b x y failed printed = record {
  written = writes_cut_short a.failed b.failed (contents a.writer.now) (contents b.writer.now) x y
      failed printed.written;
  counted = simp length-append (omega (arith, printed.counted));
}
