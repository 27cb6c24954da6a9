-- What was gathered of texts, one after another, and printed in the end.
use Rattle.std.proofs.Common.{◌≡◌, ◌∙◌, ℕ, Bool, true, false, List, [], ◌++◌, Option, Err, Ok, Result}
use Rattle.std.proofs.Common.{ap, append_assoc, append-nil, refl, subst, sym}
use Rattle.std.specs.Prelude.{⊤, IfOk}
use Rattle.sqlite.specs.Store.{Ghosts}
use Rattle.store_core.specs.declared.rows.RequestRows.{RequestRows}
use Rattle.store_tables.proofs.Spared.{joined, unread}
use Rattle.stream_core.specs.Seen.{has_write_failed}
use Rattle.stream_core.specs.Written.{Prints, WritesOn}
use Rattle.stream_core.specs.declared.writer.CountedWriter.{CountedWriter}
use Rattle.stream_core.proofs.WriterLemmas.{prints_both}
use Rattle.desk_reports.specs.Gathered.{Gathers}
use Rattle.desk_reports.specs.Rows.{LeavesRows}
use Rattle.desk_reports.specs.Streams.{IsCutBy, IsPrintedOf}
use Rattle.desk_reports.specs.declared.fault.StreamFault.{StreamFault}
use Rattle.desk_reports.proofs.PrintedLemmas.{prints_none}

-- nothing is gathered
pub gathers_none : {W : Type 0} (contents : W → Option (List ℕ)) (output : CountedWriter W)
    (had : List ℕ) → Gathers contents output had output had []
gathers_none contents output had = ([], prints_none contents output, sym (append-nil had))

-- a text is, and none is printed
pub gathers_more : {W : Type 0} (contents : W → Option (List ℕ)) (output : CountedWriter W)
    (had has text : List ℕ) → has ≡ had ++ text → Gathers contents output had output has text
gathers_more contents output had has text is = ([], prints_none contents output, is)

-- two texts, one after the other
pub gathers_both : {W : Type 0} (contents : W → Option (List ℕ)) (a b c : CountedWriter W)
    (had mid has x y : List ℕ) → Gathers contents a had b mid x → Gathers contents b mid c has y
    → Gathers contents a had c has (x ++ y)
gathers_both contents a b c had mid has x y (p, first, is) (q, second, at) = (
  p ++ q,
  prints_both contents a b c p q first second,
  append_assoc p q has
      ∙ ap (λ (l : List ℕ). p ++ l) at
      ∙ sym (append_assoc p mid y)
      ∙ ap (λ (l : List ℕ). l ++ y) is
      ∙ append_assoc had x y,
)

-- a text that was gathered where nothing was before, once what is gathered is printed
pub printed_whole_of : {W : Type 0} (contents : W → Option (List ℕ)) (a b last : CountedWriter W)
    (had mid text : List ℕ) → had ≡ [] → Gathers contents a had b mid text
    → Prints contents b last mid → Prints contents a last text
printed_whole_of contents a b last had mid text none (p, first, is) rest =
    subst (λ it. Prints contents a last it) (is ∙ ap (λ (l : List ℕ). l ++ text) none)
    (prints_both contents a b last p mid first rest)

-- what was printed of a list that ended so is printed of one that may be cut short after it
pub printed_at_end : (text p : List ℕ) (ended result : Result ⊤ StreamFault)
    → IfOk result (λ done. ended ≡ Ok done) → IsPrintedOf text p ended → IsPrintedOf text p result
printed_at_end text p (Ok done) (Ok last) whole is = is
printed_at_end text p (Err fault) (Ok last) whole is = let no : Err fault ≡ Ok last = whole in cc
printed_at_end text p (Ok done) (Err fault) whole is = ([], sym is ∙ sym (append-nil p))
printed_at_end text p (Err cut) (Err fault) whole is = is

-- where no write failed after a list was cut short, none did before
cut_on : {X : Type 0} (ended : Result X StreamFault) (f g : Bool) (old new : Option (List ℕ))
    (text : List ℕ) → WritesOn f g old new text → g ≡ false → IsCutBy ended f → IsCutBy ended g
cut_on ended true g old new text written fine cut = let no : g ≡ true = written.0 in cc
cut_on ended false g old new text written fine cut =
    subst (λ (h : Bool). IsCutBy ended h) (sym fine) cut

pub cut_before : {W X : Type 0} (contents : W → Option (List ℕ)) (a b : CountedWriter W)
    (text : List ℕ) (ended : Result X StreamFault) → Prints contents a b text
    → has_write_failed b ≡ false → IsCutBy ended (has_write_failed a)
    → IsCutBy ended (has_write_failed b)
cut_before contents a b text ended printed fine cut =
    cut_on ended (has_write_failed a) (has_write_failed b) (contents a.writer.now)
    (contents b.writer.now) text printed.written fine cut

-- what is left of rows where nothing is done
pub left_none : {S : Type 0} (g : Ghosts S) (rows : RequestRows S g) → LeavesRows g rows rows
left_none g rows = record { same_store = refl; kept = unread _ }

-- what one call leaves of rows, and the next
pub left_on : {S : Type 0} {g : Ghosts S} {old mid new : RequestRows S g} → LeavesRows g old mid
    → LeavesRows g mid new → LeavesRows g old new
left_on one two = record {
  same_store = two.same_store ∙ one.same_store;
  kept = joined one.kept two.kept;
}
