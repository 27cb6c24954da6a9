-- Values under names.
use Rattle.std.specs.Prelude.{ℕ, List, Option, find}
use Rattle.std.specs.Option.{option_map}
use Rattle.std.specs.Str.{bytes_eq}
use Rattle.settings_core.specs.declared.named.Named.{Named}

-- the value of that name in a list
abbrev pub under : {T : Type 0} → List ℕ → List (Named T) → Option T
under name all = option_map (λ n. n.value) (find (λ n. bytes_eq n.name name) all)
