-- What the command line makes of words is what their own subcommand alone makes of them.
use Rattle.std.proofs.Common.{◌≡◌, ◌∙◌, true, List, [], ◌∷◌, ◌++◌, Option, Some, None, Bool, false}
use Rattle.std.proofs.Common.{cond, refl, sym, subst, find, fold, map, ap, option_map, append_assoc}
use Rattle.std.proofs.Common.{append-nil, is_some}
use Rattle.std.specs.Option.{option_map_or}
use Rattle.std.specs.List.{list_all}
use Rattle.std.specs.Str.{bytes_eq}
use Rattle.std.specs.Prelude.{◌&&◌}
use Rattle.std.proofs.Math.Bool.{or-false}
use Rattle.std.proofs.lemmas.Bool.{and_parts}
use Rattle.std.proofs.lemmas.Slice.Eq.{bytes_eq-Decides}
use Rattle.clap.specs.Words.{App, Shape, Text, fault_of, is_simple, is_simple_and_free}
use Rattle.clap.specs.Words.{subcommand_of}
use Rattle.clap.specs.Kinds.{Kinds, or_else}
use Rattle.clap.specs.Faults.{check_fault, defaults_fault, level_fault, settle_fault}
use Rattle.clap.specs.Simple.{built, built_leaf, inherited, label_of, marked_built}
use Rattle.clap.specs.Simple.{names_of, rows_at, with_leaf_noted}
use Rattle.clap.specs.Walk.{answers_to, finished, idle, nothing_held, settled, subcommand_met}
use Rattle.desk_words.specs.Line.{line, needed, only_or_all, root, subcommand, with_row}
use Rattle.desk_forms.specs.Table.{words}
use Rattle.desk_forms.specs.Words.{Row, is_named, row_in}
use Rattle.desk_words.proofs.Meets.{faults_met, rows_met, stopped_at, turn_by}

-- ---- the command line, and what building makes of it

abbrev top : Shape
top = record root.top { is_leaf = false }

abbrev lined : List Row → App
lined rows = record { top = top; subs = map (λ r. (subcommand r).top) rows }

line_from : (had : List Shape) (rows : List Row)
    → fold with_row (record { top = top; subs = had }) rows
    ≡ record { top = top; subs = had ++ map (λ r. (subcommand r).top) rows }
line_from had [] = ap (λ (l : List Shape). record { top = top; subs = l }) (sym (append-nil had))
line_from had (row ∷ rows) =
    line_from (had ++ (subcommand row).top ∷ []) rows
    ∙ ap (λ (l : List Shape). record { top = top; subs = l })
    (append_assoc had ((subcommand row).top ∷ []) (map (λ r. (subcommand r).top) rows))

line_is : (row : Row) (rows : List Row) → line (row ∷ rows) ≡ lined (row ∷ rows)
line_is row rows = line_from ((subcommand row).top ∷ []) rows

-- a subcommand once it is built
abbrev sub : Row → Shape
sub row = built_leaf (inherited (with_leaf_noted (marked_built top)) (subcommand row).top)

-- ---- the subcommand that a word names

abbrev first_or : {X Y : Type 0} (f : X → Y) (b : Bool) (x : X) (a : Option Y) (r : Option X)
    → a ≡ option_map f r → cond b (Some (f x)) a ≡ option_map f (cond b (Some x) r)
first_or f true x a r same = refl
first_or f false x a r same = same

found : (word : Text) (rows : List Row)
    → find (λ s. answers_to word (label_of s)) (built (lined rows)).subs
    ≡ option_map sub (row_in rows word)
found word [] = refl
found word (row ∷ rows) =
    rw (or-false (bytes_eq row.word word))
    (first_or sub (bytes_eq row.word word) row _ _ (found word rows))

named : (word : Text) (rows : List Row)
    → find (answers_to word) (names_of (built (lined rows)))
    ≡ option_map (λ r. label_of (sub r)) (row_in rows word)
named word [] = refl
named word (row ∷ rows) =
    rw (or-false (bytes_eq row.word word))
    (first_or (λ r. label_of (sub r)) (bytes_eq row.word word) row _ _ (named word rows))

met : (word : Text) (rows : List Row) (row : Row) → row_in rows word ≡ Some row
    → subcommand_met (names_of (built (lined rows))) idle word ≡ Some row.word
met word rows row is =
    ap (option_map (λ s. s.0)) (named word rows ∙ ap (option_map (λ r. label_of (sub r))) is)

-- ---- what is made of words whose first is that of a row

module _ (row : Row) (rest : List Text) where
  -- the faults of a level that has met this subcommand
  abbrev faults_by : Option Shape → Kinds
  faults_by met =
      let top = (built (lined [])).top in
      let end = stopped_at row.word rest in
      or_else (or_else (turn_by top row.word (Some row.word)) [])
      (or_else (option_map_or (λ s. level_fault s [] nothing_held rest false []) met [])
      (or_else (settle_fault top.rules top.args_override_self end.held)
      (or_else (defaults_fault (settled top.rules end.held).rows top.rules)
      (check_fault top (finished top.rules end.held)
      (is_some (option_map (λ s. rows_at s rest) met))))))

  faults_are : (rows : List Row) → row_in rows row.word ≡ Some row
      → fault_of (lined rows) (row.word ∷ rest) ≡ faults_by (Some (sub row))
  faults_are rows is =
      faults_met (built (lined rows)) row.word row.word rest (met row.word rows row is)
      ∙ ap faults_by (found row.word rows ∙ ap (option_map sub) is)

  rows_are : (rows : List Row) → row_in rows row.word ≡ Some row
      → subcommand_of (lined rows) (row.word ∷ rest) ≡ Some (rows_at (sub row) rest)
  rows_are rows is =
      rows_met (built (lined rows)) row.word row.word rest (met row.word rows row is)
      ∙ ap (option_map (λ s. rows_at s rest)) (found row.word rows ∙ ap (option_map sub) is)

  -- by the first row alone, and by all
  alone : row_in (row ∷ []) row.word ≡ Some row
  alone = rw ((bytes_eq-Decides row.word row.word).1 refl) refl

  pub faults_same : (rows : List Row) → row_in rows row.word ≡ Some row
      → fault_of (line (row ∷ [])) (row.word ∷ rest) ≡ fault_of (line rows) (row.word ∷ rest)
  faults_same [] is = absurd cc
  faults_same (r ∷ rows) is =
      faults_are (row ∷ []) alone ∙ sym (faults_are (r ∷ rows) is)
      ∙ ap (λ a. fault_of a (row.word ∷ rest)) (sym (line_is r rows))

  pub rows_same : (rows : List Row) → row_in rows row.word ≡ Some row
      → subcommand_of (line (row ∷ [])) (row.word ∷ rest)
      ≡ subcommand_of (line rows) (row.word ∷ rest)
  rows_same [] is = absurd cc
  rows_same (r ∷ rows) is =
      rows_are (row ∷ []) alone ∙ sym (rows_are (r ∷ rows) is)
      ∙ ap (λ a. subcommand_of a (row.word ∷ rest)) (sym (line_is r rows))

-- ---- the rows of the table

-- clap takes the command line of the row alone as a simple one
abbrev stands : Row → Bool
stands row = is_simple_and_free (line (row ∷ [])) && is_simple (line (row ∷ []))

each_stands : list_all stands words ≡ true
unfolding words
each_stands = refl

all_are_free : is_simple_and_free (line words) ≡ true
unfolding words
all_are_free = refl

all_are_simple : is_simple (line words) ≡ true
unfolding words
all_are_simple = refl

-- what a search finds passes both tests
passed_or : {X : Type 0} (p test : X → Bool) (b : Bool) (y x : X) (rest : Option X) → test y ≡ b
    → p y ≡ true → cond b (Some y) rest ≡ Some x
    → (rest ≡ Some x → (p x ≡ true) × (test x ≡ true)) → (p x ≡ true) × (test x ≡ true)
passed_or {X} p test true y x rest passes holds is later =
    let same : y ≡ x = cc in
    subst (λ (z : X). (p z ≡ true) × (test z ≡ true)) same (holds, passes)
passed_or p test false y x rest passes holds is later = later is

passed : {X : Type 0} (p test : X → Bool) (xs : List X) (x : X) → list_all p xs ≡ true
    → find test xs ≡ Some x → (p x ≡ true) × (test x ≡ true)
passed p test [] x all is = absurd cc
passed p test (y ∷ ys) x all is =
    let parts = and_parts (p y) (list_all p ys) all in
    passed_or p test (test y) y x (find test ys) refl parts.0 is (passed p test ys x parts.1)

pub record IsEnough (a : App) (given : List Text) : Type 0 where
  pub free : is_simple_and_free a ≡ true
  pub plain : is_simple a ≡ true
  pub fault : fault_of a given ≡ fault_of (line words) given
  pub rows : subcommand_of a given ≡ subcommand_of (line words) given

all_are_enough : (given : List Text) → IsEnough (line words) given
all_are_enough given = record {
  free = all_are_free;
  plain = all_are_simple;
  fault = refl;
  rows = refl;
}

by_row : (row : Row) (rest : List Text) → stands row ≡ true → row_in words row.word ≡ Some row
    → IsEnough (line (row ∷ [])) (row.word ∷ rest)
by_row row rest stands_so is =
    let a = line (row ∷ []) in
    let parts = and_parts (is_simple_and_free a) (is_simple a) stands_so in
    record {
      free = parts.0;
      plain = parts.1;
      fault = faults_same row rest words is;
      rows = rows_same row rest words is;
    }

by_name : (word : Text) (rest : List Text) (o : Option Row) → row_in words word ≡ o
    → IsEnough (line (only_or_all words o)) (word ∷ rest)
by_name word rest None is = all_are_enough (word ∷ rest)
by_name word rest (Some row) is =
    let there = passed stands (is_named word) words row each_stands is in
    let name : row.word ≡ word = (bytes_eq-Decides row.word word).0 there.1 in
    subst (λ (w : Text). IsEnough (line (row ∷ [])) (w ∷ rest)) name
    (by_row row rest there.0 (subst (λ (w : Text). row_in words w ≡ Some row) (sym name) is))

-- as much of the command line as words need is enough for them
pub is_enough : (given : List Text) → IsEnough (line (needed words given)) given
is_enough [] = all_are_enough []
is_enough (word ∷ rest) = by_name word rest (row_in words word) refl
