-- What a command is made of was given: no value from before is seen.
use Rattle.std.proofs.Common.{◌≡◌, List, ℕ, Option, arith}
use Rattle.desk_forms.specs.CommandFrom.{made_if}
use Rattle.desk_forms.specs.ArgumentSource.{ArgumentSource}
use Rattle.desk_forms.specs.Table.{arguments}
use Rattle.desk_forms.specs.Arguments.{Arguments, put_all}
use Rattle.desk_forms.specs.declared.table.CommandForm.{CommandForm}
use Rattle.desk_forms.specs.declared.table.CommandForm.TheVariants as form

pub none_seen : (f : CommandForm) (sheet : ArgumentSource) (v w : Arguments) (many : Option (List (List ℕ)))
    → made_if f (put_all (arguments f) sheet v) many ≡ made_if f (put_all (arguments f) sheet w) many
none_seen form.Create sheet v w many = grind arith
none_seen _ sheet v w many = grind arith
