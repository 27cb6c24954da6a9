-- The number and the name of each fault of words.
use Rattle.std.specs.Prelude.{ℕ, List, codes}
use Rattle.desk_words.specs.declared.fault.WordsFault.{WordsFault}
use Rattle.desk_words.specs.declared.fault.WordsFault.TheVariants.{BadQuote, BadWords, NoMemory}

abbrev pub number_of : WordsFault → ℕ
number_of BadQuote = 1
number_of BadWords = 2
number_of NoMemory = 3

abbrev pub name_of : WordsFault → List ℕ
name_of BadQuote = codes "BadQuote"
name_of BadWords = codes "BadWords"
name_of NoMemory = codes "NoMemory"
