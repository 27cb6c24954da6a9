-- words that don't fit the command line spell no command
use Rattle.std.proofs.Common.{◌≡◌, ◌≢◌, List, [], ◌∷◌, Option, None, Err, ap, refl, rules}
use Rattle.clap.specs.Words.{Kinds, Row, Text}
use Rattle.desk_words.specs.Spelling.{unless_fault}
use Rattle.desk_words.specs.declared.fault.WordsFault.TheVariants.{BadWords}
use Rattle.desk_words.proofs.given.command_of_words.Goals as goal

refused : (faults : Kinds) (met : Option (Text × List Row)) → faults ≢ [] → unless_fault faults met
    ≡ None
refused [] met some = absurd (some refl)
refused (k ∷ ks) met some = refl

pub returns-in_err-matches-clause-bad : goal.returns-in_err-matches-clause-bad
returns-in_err-matches-clause-bad c e =
    let bad : c.in_err-matches.field-0.0 ≡ BadWords = search rules in
    refused _ _ (c.in_err-matches.ensures.bad (ap (λ f. Err f) bad))
