-- Where no argument is many, no texts are seen.
use Rattle.std.proofs.Common.{◌≡◌, false, List, ℕ, refl}
use Rattle.std.specs.List.{list_any}
use Rattle.desk_forms.specs.Table.{arguments, build_command}
use Rattle.desk_forms.specs.Arguments.{Arguments, is_many}
use Rattle.desk_forms.specs.declared.table.CommandForm.{CommandForm}
use Rattle.desk_forms.specs.declared.table.CommandForm.TheVariants as form

pub none_seen : (f : CommandForm) (v : Arguments) (many more : List (List ℕ))
    → list_any (λ a. is_many a.kind) (arguments f) ≡ false → build_command f v many ≡ build_command f v more
none_seen form.Create v many more none = absurd cc
none_seen _ v many more none = refl
