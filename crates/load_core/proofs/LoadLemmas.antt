-- Lines that are answered one after the other.
use Rattle.std.proofs.Common.{◌≡◌, ◌≤◌, ◌<◌, ◌+◌, ◌&&◌, inl, inr, ℕ, suc, Bool, true, false}
use Rattle.std.proofs.Common.{List, [], Option, Some, None, length, sym, refl}
use Rattle.std.proofs.Common.{subst, arith, Result, Ok, Err, OnErr}
use Rattle.std.proofs.lemmas.Bool.{le-leb, lt-leb}
use Rattle.std.specs.Fmt.{digits}
use Rattle.std.specs.Prelude.{codes}
use Rattle.std.specs.Str.{is_utf8}
use Rattle.sqlite.specs.Held.{Held}
use Rattle.sqlite.specs.State.{State}
use Rattle.sqlite.specs.Store.{Ghosts}
use Rattle.settings_core.specs.declared.settings.Settings.{Settings}
use Rattle.stream_core.specs.Written.{IsWritten, WritesOn}
use Rattle.line_core.specs.Lines.{line_limit, text_of}
use Rattle.line_core.proofs.LineLemmas.{consumes_none}
use Rattle.desk_program.specs.FaultLines.{unavailable_text}
use Rattle.desk_program.specs.Script.{LineLeads, bad_words_text}
use Rattle.desk_program.specs.declared.line.Line.{Line}
use Rattle.desk_program.specs.declared.line.Line.TheVariants.{BadWords}
use Rattle.desk_program.proofs.LedLines.{led_nowhere}
use Rattle.load_core.specs.Load.{AnswersLine, AnswersLines, EndsBy, GoesOn, IsLoaded, IsNone}
use Rattle.load_core.specs.Load.{PassesLine, PassesLines, Place, Runs, begins_at}
use Rattle.load_core.specs.Load.{ending_after, said, said_by}
use Rattle.load_core.specs.declared.run.Ending.{Ending}
use Rattle.load_core.specs.declared.run.Ending.TheVariants.{Input, Refused, Read, Write}
use Rattle.load_core.specs.declared.run.Loaded.{Loaded}
use Rattle.load_core.specs.declared.run.Plan.{Plan}

-- ---- a line

-- the bytes of a line that isn't too long say what its text says
pub says : (bytes : List ℕ) (ended : Bool) → length bytes ≤ line_limit
    → said bytes ended ≡ said_by (text_of bytes ended)
says bytes ended within = rw (le-leb (length bytes) line_limit within) refl

-- those of one that is too long say nothing that is understood
pub says_nothing : (bytes : List ℕ) (ended : Bool) → line_limit < length bytes
    → said bytes ended ≡ BadWords
says_nothing bytes ended long = rw (lt-leb (length bytes) line_limit long) refl

-- what isn't understood leads nowhere
pub bad_words_lead : (s : Settings) (line : Line) (tables : State) → line ≡ BadWords
    → LineLeads s line bad_words_text tables tables
bad_words_lead s line tables e =
    subst (λ (l : Line). LineLeads s l bad_words_text tables tables) (sym e)
    (led_nowhere s BadWords bad_words_text tables (λ desk. (inl refl, refl)))

-- or there was no memory to say so
pub unavailable_leads : (s : Settings) (line : Line) (tables : State) → line ≡ BadWords
    → LineLeads s line unavailable_text tables tables
unavailable_leads s line tables e =
    subst (λ (l : Line). LineLeads s l unavailable_text tables tables) (sym e)
    (led_nowhere s BadWords unavailable_text tables (λ desk. (inr refl, refl)))

pub unavailable_is : unavailable_text ≡ codes "refused 16 Unavailable\n"
unfolding digits
unavailable_is = refl

pub nothing_said : (text : List ℕ) → is_utf8 text ≡ false → said_by text ≡ BadWords
nothing_said text other = rw other refl

pub at_err : {A E : Type 0} (r : Result A E) (P : Type 0) → P → OnErr r P
at_err (Ok a) P h = tt
at_err (Err e) P h = h

-- after no failed write
pub writes_first : (before failed : Bool) (old new : Option (List ℕ)) (text : List ℕ)
    → before ≡ false → WritesOn before failed old new text → IsWritten failed old new text
writes_first true failed old new text none writes = let no : true ≡ false = none in cc
writes_first false failed old new text none writes = writes

-- ---- lines

-- a line more
pub one_more : {S : Type 0} (g : Ghosts S) (s : Settings) (plan : Plan) (n : ℕ)
    (old mid new : Place S) → AnswersLines g s plan n old mid → GoesOn plan.stop mid
    → AnswersLine g s plan.all (plan.passed + n + 1) mid new
    → AnswersLines g s plan (n + 1) old new
one_more g s plan n old mid new so_far goes line =
    let grown : suc n ≡ n + 1 = omega arith in
    subst (λ (m : ℕ). AnswersLines g s plan m old new) grown (mid, so_far, goes, line)

pub pass_one_more : (n : ℕ) (old mid new : Option (List ℕ)) → PassesLines n old mid
    → PassesLine mid new → PassesLines (n + 1) old new
pass_one_more n old mid new so_far line =
    let grown : suc n ≡ n + 1 = omega arith in
    subst (λ (m : ℕ). PassesLines m old new) grown (mid, so_far, line)

-- ---- the end

-- no reason to end: the load goes on
pub goes_on : (failed stop refused : Bool) → ending_after failed stop refused ≡ None
    → (failed ≡ false) × ((stop && refused) ≡ false)
goes_on true stop refused e = cc
goes_on false true true e = cc
goes_on false true false e = (refl, refl)
goes_on false false refused e = (refl, refl)

ends_by : {S : Type 0} (ending : Ending) (stop : Bool) (place : Place S) (failed refused : Bool)
    → place.failed ≡ failed → place.refused ≡ refused
    → ending_after failed stop refused ≡ Some ending → EndsBy ending stop place place.left
ends_by Write stop place true refused f r e = (refl, f)
ends_by Refused true place false true f r e = (refl, f, refl, r)
ends_by Input stop place true refused f r e = cc
ends_by Read stop place true refused f r e = cc
ends_by Refused stop place true refused f r e = cc
ends_by Input true place false true f r e = cc
ends_by Read true place false true f r e = cc
ends_by Write true place false true f r e = cc
ends_by ending true place false false f r e = cc
ends_by ending false place false refused f r e = cc

-- a reason to end
pub ends_after : {S : Type 0} (ending : Ending) (stop : Bool) (place : Place S)
    → ending_after place.failed stop place.refused ≡ Some ending
    → EndsBy ending stop place place.left
ends_after ending stop place e = ends_by ending stop place place.failed place.refused refl refl e

-- there was no line more
pub ends_at : {S : Type 0} (ending : Ending) (stop : Bool) (place : Place S) (left : Option (List ℕ))
    → IsNone ending place.left left → GoesOn stop place → EndsBy ending stop place left
ends_at Input stop place left none goes = (none, goes)
ends_at Read stop place left none goes = (none, goes)
ends_at Write stop place left none goes = absurd none
ends_at Refused stop place left none goes = absurd none

-- where reading is given up, nothing is taken
pub gives_up : (left : Option (List ℕ)) → IsNone Read left left
gives_up left = ([], consumes_none left)

pub goes_first : (stop : Bool) → (stop && false) ≡ false
goes_first true = refl
goes_first false = refl

-- a run begins after no failed write
pub begins : {S : Type 0} (g : Ghosts S) (s : Settings) (plan : Plan) (start : Option (List ℕ))
    (tables : Held S) (written : Option (List ℕ)) (failed : Bool) (left : Option (List ℕ))
    (now : Held S) (after : Option (List ℕ)) (loaded : Loaded) → failed ≡ false
    → Runs g s plan (record {
      left = start;
      tables = tables;
      written = written;
      failed = failed;
      refused = false;
    }) left now after loaded
    → Runs g s plan (begins_at start tables written) left now after loaded
begins g s plan start tables written failed left now after loaded e run =
    subst (λ (b : Bool). Runs g s plan (record {
      left = start;
      tables = tables;
      written = written;
      failed = b;
      refused = false;
    }) left now after loaded) e run

-- where no line was answered
pub none_loaded : {S : Type 0} (g : Ghosts S) (s : Settings) (plan : Plan) (had : Option (List ℕ))
    (n : ℕ) (start left : Option (List ℕ)) (tables : Held S) (written : Option (List ℕ))
    (ending : Ending) → PassesLines n had start → n ≤ plan.passed → IsNone ending start left
    → IsLoaded g s plan had left tables tables written written
    (record { answered = 0; refused = false; ending = ending })
none_loaded g s plan had n start left tables written ending passes within none = record {
  passed = n;
  start = start;
  passes = passes;
  within = within;
  run = record {
    place = begins_at start tables written;
    lines = refl;
    ends =
        ends_at ending plan.stop (begins_at start tables written) left none
        (refl, goes_first plan.stop);
    tables_are = refl;
    written_is = refl;
    refused_is = refl;
  };
  full = λ _. refl;
}
