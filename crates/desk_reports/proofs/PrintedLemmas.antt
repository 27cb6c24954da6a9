-- What was printed of texts, one after another.
use Rattle.std.proofs.Common.{◌≡◌, ◌∙◌, ℕ, Bool, true, false, List, [], ◌∷◌, ◌++◌, flat_map, Option}
use Rattle.std.proofs.Common.{Err, Ok, Result, ap, ap₂, append_assoc, append-nil, arith, refl, sym}
use Rattle.std.specs.Prelude.{⊤}
use Rattle.std.proofs.lemmas.List.Concat.{flat_map-append}
use Rattle.stream_core.specs.Seen.{has_write_failed, held_in}
use Rattle.stream_core.specs.Written.{Prints, WritesOn}
use Rattle.stream_core.specs.declared.writer.CountedWriter.{CountedWriter}
use Rattle.stream_core.proofs.WriterLemmas.{appends_none}
use Rattle.desk_reports.specs.Streams.{IsPrintedOf}
use Rattle.desk_reports.specs.declared.fault.StreamFault.{StreamFault}

-- ---- nothing

writes_none : (failed : Bool) (held : Option (List ℕ)) → WritesOn failed failed held held []
writes_none true held = (refl, refl)
writes_none false held = appends_none held

pub prints_none : {W : Type 0} (contents : W → Option (List ℕ)) (output : CountedWriter W)
    → Prints contents output output []
prints_none contents output = record {
  written = writes_none (has_write_failed output) (held_in contents output);
  counted = omega arith;
}

-- ---- two texts

-- the first was printed, and of the second this
pub printed_both : (x y p q : List ℕ) (result : Result ⊤ StreamFault) → p ≡ x
    → IsPrintedOf y q result → IsPrintedOf (x ++ y) (p ++ q) result
printed_both x y p q (Ok done) first second = ap₂ (λ (a b : List ℕ). a ++ b) first second
printed_both x y p q (Err fault) first (rest, is) =
    (rest, ap₂ (λ (a b : List ℕ). a ++ b) (sym first) is ∙ sym (append_assoc p q rest))

-- a text that was written by one call
pub printed_whole : (x p : List ℕ) (result : Result ⊤ StreamFault) → p ≡ x
    → IsPrintedOf x p result
printed_whole x p (Ok done) is = is
printed_whole x p (Err fault) is = ([], sym is ∙ sym (append-nil p))

-- the first was cut short
pub printed_first : (x y p : List ℕ) (fault : StreamFault) → IsPrintedOf x p (Err fault)
    → IsPrintedOf (x ++ y) p (Err fault)
printed_first x y p fault (rest, is) =
    (rest ++ y, ap (λ (l : List ℕ). l ++ y) is ∙ append_assoc p rest y)

-- ---- the texts of rows

module _ {X : Type 0} (text : X → List ℕ) where
  -- the text of a row that is cut short
  pub row_cut : (all given later : List X) (row : X) (p : List ℕ) (fault : StreamFault)
      → all ≡ (given ++ row ∷ []) ++ later → IsPrintedOf (text row) p (Err fault)
      → (rest : List ℕ) × (flat_map text all ≡ flat_map text given ++ (p ++ rest))
  row_cut all given later row p fault is (rest, cut) = (
    rest ++ flat_map text later,
    ap (flat_map text) (is ∙ append_assoc given (row ∷ []) later)
        ∙ flat_map-append text given (row ∷ later)
        ∙ ap (λ (t : List ℕ). flat_map text given ++ (t ++ flat_map text later)) cut
        ∙ ap (λ (t : List ℕ). flat_map text given ++ t)
        (append_assoc p rest (flat_map text later)),
  )

  -- and of a row more
  pub row_more : (given : List X) (row : X) (p q : List ℕ) → p ≡ flat_map text given
      → q ≡ text row → p ++ q ≡ flat_map text (given ++ row ∷ [])
  row_more given row p q first second =
      ap₂ (λ (a b : List ℕ). a ++ b) first (second ∙ sym (append-nil (text row)))
      ∙ sym (flat_map-append text given (row ∷ []))

  -- nothing of the rows that are left
  pub rows_cut : (all given later : List X) → all ≡ given ++ later
      → flat_map text all ≡ flat_map text given ++ flat_map text later
  rows_cut all given later is =
      ap (flat_map text) is ∙ flat_map-append text given later

  -- rows were printed, and nothing of those that are left
  pub rows_left : (all given later : List X) (p : List ℕ) → p ≡ flat_map text given
      → all ≡ given ++ later → flat_map text all ≡ p ++ flat_map text later
  rows_left all given later p first is =
      rows_cut all given later is
      ∙ ap (λ (t : List ℕ). t ++ flat_map text later) (sym first)

  -- rows were printed, and of the others this
  pub cut_after : (all given : List X) (p q rest : List ℕ) → p ≡ flat_map text given
      → flat_map text all ≡ flat_map text given ++ (q ++ rest)
      → flat_map text all ≡ (p ++ q) ++ rest
  cut_after all given p q rest first is =
      is ∙ ap (λ (t : List ℕ). t ++ (q ++ rest)) (sym first) ∙ sym (append_assoc p q rest)

  -- no row is left
  pub rows_whole : (all given : List X) (p q : List ℕ) → all ≡ given → p ≡ flat_map text given
      → q ≡ [] → p ++ q ≡ flat_map text all
  rows_whole all given p q is first none =
      ap₂ (λ (a b : List ℕ). a ++ b) first none ∙ append-nil (flat_map text given)
      ∙ ap (flat_map text) (sym is)
