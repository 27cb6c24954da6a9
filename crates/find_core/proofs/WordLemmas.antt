-- A word stands in what is written among entries where one of them has it.
use Rattle.std.proofs.Common.{◌≡◌, ℕ, Bool, true, false, ◌&&◌, ◌||◌, cond, List, [], ◌∷◌, refl, ap}
use Rattle.std.specs.List.{list_any}
use Rattle.desk_model.specs.declared.rows.Entry.{Entry}
use Rattle.find_core.specs.Find.{is_written, replies_of}
use Rattle.find_core.specs.Words.{stands_in}

pub replied : (word : List ℕ) (entries : List Entry)
    → list_any (λ e. is_written e.kind && stands_in word e.body) entries
    ≡ list_any (stands_in word) (replies_of entries)
replied word [] = refl
replied word (e ∷ es) = by (is_written e.kind) refl (replied word es)
  where
    by : (b : Bool) → is_written e.kind ≡ b
        → list_any (λ e. is_written e.kind && stands_in word e.body) es
        ≡ list_any (stands_in word) (replies_of es)
        → ((is_written e.kind && stands_in word e.body)
        || list_any (λ e. is_written e.kind && stands_in word e.body) es)
        ≡ list_any (stands_in word) (replies_of (e ∷ es))
    by true is rest = rw is (ap (λ b. stands_in word e.body || b) rest)
    by false is rest = rw is rest
