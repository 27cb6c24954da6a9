-- The rows of the table: one by one, and as the code holds them.
use Rattle.std.proofs.Common.{◌≡◌, ◌∙◌, ◌<◌, ℕ, Bool, true, List, [], length, get_or, map, sym, ap, subst}
use Rattle.std.specs.List.{list_all}
use Rattle.std.proofs.lemmas.List.{get_or-map, length-map}
use Rattle.std.proofs.lemmas.List.Sums.{AllPass-from_list_all}
use Rattle.desk_forms.specs.Paths.{Row, get, path_of}
use Rattle.desk_forms.specs.Table.{paths}
use Rattle.desk_forms.specs.declared.paths.Path.{Path as InCode}
use Rattle.desk_forms.specs.declared.table.CommandForm.TheVariants as form
use Rattle.client_core.specs.Spelled.{row_at}

pub row_is : (rows : List InCode) (i : ℕ) (d : InCode) → map path_of rows ≡ paths → i < length rows
    → path_of (get_or rows i d) ≡ row_at i
row_is rows i d are low =
    sym (get_or-map path_of rows i d (get [] form.Queues) low)
    ∙ ap (λ (ps : List Row). get_or ps i (get [] form.Queues)) are

pub row_within : (rows : List InCode) (i : ℕ) → map path_of rows ≡ paths → i < length paths
    → i < length rows
row_within rows i are low =
    subst (λ (n : ℕ). i < n) (length-map rows path_of)
    (subst (λ (ps : List Row). i < length ps) (sym are) low)

-- a test of each row of the table
pub of_row : (test : Row → Bool) → list_all test paths ≡ true → (place : ℕ) → place < length paths
    → test (row_at place) ≡ true
of_row test all place within =
    AllPass-from_list_all test paths all place (get [] form.Queues) within
