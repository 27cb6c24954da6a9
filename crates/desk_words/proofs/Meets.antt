-- What clap makes of words whose first one names a subcommand: no other subcommand matters.
use Rattle.std.proofs.Common.{◌≡◌, ◌∙◌, List, [], ◌∷◌, ◌++◌, Option, Some}
use Rattle.std.proofs.Common.{refl, ap, sym, fold, is_some}
use Rattle.std.proofs.lemmas.List.{append_assoc, append-nil}
use Rattle.clap.specs.Faults.{built_fault, check_fault, defaults_fault, entered_fault}
use Rattle.clap.specs.Faults.{other_fault, settle_fault, step_fault, walk_fault}
use Rattle.clap.specs.Kinds.{Kinds, or_else}
use Rattle.clap.specs.Simple.{App, Shape, entered, names_of}
use Rattle.clap.specs.Walk.{Names, Rule, Text, Walk, after_step, finished, idle}
use Rattle.clap.specs.Walk.{nothing_held, settled, stop_after, subcommand_met, subcommand_or_other}
use Rattle.clap.specs.Walk.{walk, walk_from, walked}

-- where a walk stands that has met this subcommand, with these words after it
abbrev pub stopped_at : Text → List Text → Walk
stopped_at name rest = record (walk_from nothing_held) { stopped = Some (name, rest) }

-- it takes in all words that are left
stays_stopped : (rules : List Rule) (names : Names) (name : Text) (had words : List Text)
    → fold (walked rules names) (stopped_at name had) words ≡ stopped_at name (had ++ words)
unfolding walked
stays_stopped rules names name had [] = ap (stopped_at name) (sym (append-nil had))
stays_stopped rules names name had (word ∷ words) =
    stays_stopped rules names name (had ++ word ∷ []) words
    ∙ ap (stopped_at name) (append_assoc had (word ∷ []) words)

-- and refuses none
stopped_fault : (top : Shape) (names : Names) (name : Text) (had words : List Text)
    → walk_fault top names (stopped_at name had) words ≡ []
unfolding walk_fault walked
stopped_fault top names name had [] = refl
stopped_fault top names name had (word ∷ words) =
    stopped_fault top names name (had ++ word ∷ []) words

-- the walk after a first word, by what that word names
abbrev after_first : List Rule → Text → Option Text → Walk
after_first rules word met =
    let step = subcommand_or_other rules met idle 1 word nothing_held in
    after_step rules word (walk_from nothing_held) step.0 step.1

first_turn : (rules : List Rule) (names : Names) (word : Text)
    → walked rules names (walk_from nothing_held) word
    ≡ after_first rules word (subcommand_met names idle word)
unfolding walked
first_turn rules names word = refl

first_met : (rules : List Rule) (names : Names) (word name : Text)
    → subcommand_met names idle word ≡ Some name
    → walked rules names (walk_from nothing_held) word ≡ stopped_at name []
first_met rules names word name met =
    first_turn rules names word ∙ ap (after_first rules word) met

walk_met : (rules : List Rule) (names : Names) (word name : Text) (rest : List Text)
    → subcommand_met names idle word ≡ Some name
    → walk rules names nothing_held (word ∷ rest) ≡ stopped_at name rest
walk_met rules names word name rest met =
    ap (λ w. fold (walked rules names) w rest) (first_met rules names word name met)
    ∙ stays_stopped rules names name [] rest

-- the faults of a first word, by what that word names
abbrev pub turn_by : Shape → Text → Option Text → Kinds
turn_by top word met =
    let step = subcommand_or_other top.rules met idle 1 word nothing_held in
    or_else (other_fault top met word nothing_held) (step_fault top 1 step.0 step.1)

walk_fault_met : (top : Shape) (names : Names) (word name : Text) (rest : List Text)
    → subcommand_met names idle word ≡ Some name
    → walk_fault top names (walk_from nothing_held) (word ∷ rest)
    ≡ or_else (turn_by top word (Some name)) []
unfolding walk_fault
walk_fault_met top names word name rest met =
    let after : Walk → Kinds = λ w. walk_fault top names w rest in
    let next = walked top.rules names (walk_from nothing_held) word in
    ap (λ m. or_else (turn_by top word m) (after next)) met
    ∙ ap (λ w. or_else (turn_by top word (Some name)) (after w))
    (first_met top.rules names word name met)
    ∙ ap (or_else (turn_by top word (Some name))) (stopped_fault top names name [] rest)

-- what a level comes to, by its walk and by the faults on it
abbrev pub level_of : App → Walk → Kinds → Kinds
level_of a end faults =
    let top = a.top in
    or_else faults (or_else (entered_fault a end.stopped)
    (or_else (settle_fault top.rules top.args_override_self end.held)
    (or_else (defaults_fault (settled top.rules end.held).rows top.rules)
    (check_fault top (finished top.rules end.held) (is_some (entered a end.stopped))))))

pub faults_met : (a : App) (word name : Text) (rest : List Text)
    → subcommand_met (names_of a) idle word ≡ Some name
    → built_fault a nothing_held (word ∷ rest)
    ≡ level_of a (stopped_at name rest) (or_else (turn_by a.top word (Some name)) [])
faults_met a word name rest met =
    let names = names_of a in
    ap (λ w. level_of a w (walk_fault a.top names (walk_from nothing_held) (word ∷ rest)))
    (walk_met a.top.rules names word name rest met)
    ∙ ap (level_of a (stopped_at name rest)) (walk_fault_met a.top names word name rest met)

pub rows_met : (a : App) (word name : Text) (rest : List Text)
    → subcommand_met (names_of a) idle word ≡ Some name
    → entered a (stop_after a.top.rules (names_of a) (word ∷ rest)) ≡ entered a (Some (name, rest))
rows_met a word name rest met =
    ap (λ (w : Walk). entered a w.stopped) (walk_met a.top.rules (names_of a) word name rest met)
