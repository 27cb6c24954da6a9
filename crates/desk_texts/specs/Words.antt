-- What stands for nothing in a text, and for a moment.
use Rattle.std.specs.Prelude.{ℕ, List, Option, unwrap_or, codes}
use Rattle.std.specs.Option.{option_map}
use Rattle.hours_core.specs.Date.{text_of_minute}

-- a name, or a dash for none
abbrev pub or_dash : Option (List ℕ) → List ℕ
or_dash text = unwrap_or text (codes "-")

-- the owner, or `Nobody`
abbrev pub or_nobody : Option (List ℕ) → List ℕ
or_nobody owner = unwrap_or owner (codes "Nobody")

abbrev pub minute_or_dash : Option ℕ → List ℕ
minute_or_dash minute = or_dash (option_map text_of_minute minute)
