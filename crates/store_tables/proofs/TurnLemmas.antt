-- What a statement makes of tables that are there: of what they hold, and of the requests that they
-- show.
use Rattle.std.proofs.Common.{◌≡◌, ◌==◌, ℕ, ℤ, Bool, List, ◌∷◌, false, subst, sym}
use Rattle.sqlite.specs.Edit.{id_in}
use Rattle.sqlite.specs.Effect.{Database}
use Rattle.sqlite.specs.Order.{Row}
use Rattle.sqlite.specs.Term.{Term}
use Rattle.sqlite.specs.Tree.{rowid}
use Rattle.sqlite.specs.declared.types.Value.TheVariants.{Int}
use Rattle.store_tables.specs.Contents.{Contents, Tables, desk_schema}
use Rattle.store_tables.specs.Contents.Request.{request}
use Rattle.store_tables.specs.Dated.{ShowsDated}
use Rattle.store_tables.specs.Picked.{passes, shows}
use Rattle.store_tables.proofs.ChangeLemmas.{Added, Drops, Moves}
use Rattle.store_tables.proofs.Contents.{Changed, Kept}
use Rattle.store_tables.proofs.DatedLemmas.{elsewhere}
use Rattle.store_tables.proofs.RowLemmas.{TableOf}
use Rattle.store_tables.proofs.TableLemmas.{puts, rest, takes}

pub record Turns (change : Contents → Contents) (old new : Database) : Type 0 where
  pub makes : (c : Contents) → Tables c old → Tables (change c) new
  pub shows : (c : Contents) → ShowsDated c.dated old → ShowsDated (change c).dated new

-- one that changes another table than that of the requests
module _ {change : Contents → Contents} {old new : Database} (has : old.schema ≡ desk_schema)
    (same : (c : Contents) → (change c).dated ≡ c.dated)
  where
    pub turns_beside : (tree : ℕ) → (request.tree == tree) ≡ false → Moves tree old.trees new.trees
        → ((c : Contents) → Tables c old → Tables (change c) new) → Turns change old new
    turns_beside tree other moves makes = record {
      makes = makes;
      shows = λ c shown. subst (λ xs. ShowsDated xs new) (sym (same c))
          (elsewhere other has moves shown);
    }

    module _ {K V : Type 0} (n : TableOf K V) (other : (request.tree == n.tree) ≡ false) where
      -- where a row is put in
      pub puts_beside : (k : K) → n.IsValue (n.view (n.value k)) → Added n.tree (n.row k) old new
          → ((c : Contents) → Kept n (n.value k ∷ n.list c) new
          → Changed n.tree (change c) c old new)
          → Turns change old new
      puts_beside k row it now = turns_beside n.tree other it.others
          (λ c t. puts n t (change c) k row it (now c))

      -- where one is taken out
      pub takes_beside : (test project : List Term) (params : Row) (p : V → Bool) (id : K → ℤ)
          → ((k : K) → rowid (n.row k) ≡ Int (id k))
          → ((k : K) → id_in (rowid (shows project params (n.row k))) ≡ id k)
          → ((k : K) → passes test params (n.row k) ≡ p (n.value k))
          → Drops n.tree test project params old new
          → ((c : Contents) → Kept n (rest n p c) new → Changed n.tree (change c) c old new)
          → Turns change old new
      takes_beside test project params p id numbers shown tests it now =
          turns_beside n.tree other it.others
          (λ c t. takes n t (change c) test project params p id numbers shown tests it (now c))
