-- Names among others.
use Rattle.std.proofs.Common.{◌≡◌, ℕ, List, ◌++◌, ◌||◌, bytes_eq}
use Rattle.std.proofs.lemmas.List.Folds.{list_any-append}
use Rattle.std.specs.List.{list_any}
use Rattle.browser_core.specs.Form.{is_among}
use Rattle.browser_core.specs.declared.form.Field.{Field}

pub among_both : (needed others : List (List ℕ)) (field : Field)
    → is_among (needed ++ others) field
    ≡ (list_any (bytes_eq field.name) needed || list_any (bytes_eq field.name) others)
among_both needed others field = list_any-append (bytes_eq field.name) needed others
