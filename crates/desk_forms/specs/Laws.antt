-- What holds of the table: a command is build_command of nothing but what was given for it.
use Rattle.std.specs.Prelude.{◌≡◌, ℕ, false, List, Option}
use Rattle.std.specs.List.{list_any}
use Rattle.desk_forms.specs.CommandFrom.{made_if}
use Rattle.desk_forms.specs.ArgumentSource.{ArgumentSource}
use Rattle.desk_forms.specs.Table.{arguments, build_command}
use Rattle.desk_forms.specs.Arguments.{Arguments, is_many, put_all}
use Rattle.desk_forms.specs.declared.table.CommandForm.{CommandForm}

-- whatever the values were before, what was given makes the same command
abbrev pub BlankIsNeverSeen : Type 0
BlankIsNeverSeen =
    (form : CommandForm) (sheet : ArgumentSource) (v w : Arguments) (many : Option (List (List ℕ)))
    → made_if form (put_all (arguments form) sheet v) many
    ≡ made_if form (put_all (arguments form) sheet w) many

-- where no argument is many, texts make no difference
abbrev pub TextsAreGiven : Type 0
TextsAreGiven =
    (form : CommandForm) (v : Arguments) (many more : List (List ℕ))
    → list_any (λ a. is_many a.kind) (arguments form) ≡ false
    → build_command form v many ≡ build_command form v more
