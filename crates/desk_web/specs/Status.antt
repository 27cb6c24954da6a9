-- The exit status where the tables can't be opened.
use Rattle.std.specs.Prelude.{ℕ, if◌then◌else◌, List, codes}
use Rattle.std.specs.Str.{bytes_eq}

-- after the line that tells of a name that the settings lack it is 5, whatever it was
abbrev pub after_line : List ℕ → ℕ → ℕ
after_line line status = if bytes_eq line (codes "attach: 2 UnknownName\n") then 5 else status
