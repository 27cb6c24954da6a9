-- A query is refused as one on a shut connection only where it is shut.
use Rattle.std.proofs.Common.{◌≡◌, ◌∙◌, ℕ, Bool, Err, IfOk, List, Ok, Option, Result, false}
use Rattle.std.proofs.Common.{inl, inr, subst, sym}
use Rattle.sqlite.specs.Effect.{Database, RefusesQuery, RefusesToRead}
use Rattle.sqlite.specs.Order.{Row}
use Rattle.sqlite.specs.State.{State, Fails, FailsToQuery, IsNoStatement, IsNotRun}
use Rattle.sqlite.specs.declared.error.Error.{Error}
use Rattle.sqlite_schema.specs.declared.program.Program.{Program}
use Rattle.sqlite_schema.specs.declared.command.Command.{Command}
use Rattle.sqlite_schema.specs.declared.command.Command.TheVariants as command
use Rattle.sqlite_trees.specs.declared.error.StoreError.TheVariants.{OutOfMemory, Io, Corrupt}
use Rattle.sqlite_trees.specs.declared.error.StoreError.TheVariants.{Full, Broken, Unstorable}
use Rattle.store_tables.specs.Calls.{ReadsAlone, shut}
use Rattle.store_tables.specs.declared.fault.StoreFault.{StoreFault}

no_query : (limit : Option ℕ) (db : Database) (q : Program) (params : Row)
    → RefusesQuery limit db q params shut → ⊥
no_query limit db q params (inl h) = let no = h.0 in cc
no_query limit db q params (inr (inl h)) = let no = h.0 in cc
no_query limit db q params (inr (inr h)) = let no = h.0 in cc

-- what is refused of the rows that are there is no shut connection
no_read : (limit : Option ℕ) (c : Command) (db : Database) (params : Row)
    → RefusesToRead limit c db params shut → ⊥
no_read limit (command.Select q names) db params h = no_query limit db q params h
no_read limit (command.Rows values width names) db params h = let no = h.0 in cc
no_read limit (command.Insert at from) db params h = let no = h in cc
no_read limit (command.InsertOr at how from clauses) db params h = let no = h in cc
no_read limit (command.Update at q) db params h = let no = h in cc
no_read limit (command.Delete at q) db params h = let no = h in cc
no_read limit command.CreateTable db params h = let no = h in cc
no_read limit (command.CreateIndex at) db params h = let no = h in cc
no_read limit (command.DropTable at) db params h = let no = h in cc
no_read limit (command.DropIndex at) db params h = let no = h in cc
no_read limit command.Begin db params h = let no = h in cc
no_read limit command.Commit db params h = let no = h in cc
no_read limit command.Rollback db params h = let no = h in cc
no_read limit (command.Savepoint name) db params h = let no = h in cc
no_read limit (command.Release name) db params h = let no = h in cc
no_read limit (command.RollbackTo name) db params h = let no = h in cc
no_read limit command.Nothing db params h = let no = h in cc
no_read limit command.CreateView db params h = let no = h in cc
no_read limit (command.DropView at) db params h = let no = h in cc

no_text : (s : State) (sql : List ℕ) (params : Row) → IsNoStatement s sql params shut → ⊥
no_text s sql params (inl h) = let no = h.2 in cc
no_text s sql params (inr (c, is, inl h)) = let no = h.1 in cc
no_text s sql params (inr (c, is, inr (inl h))) = let no = h.1 in cc
no_text s sql params (inr (c, is, inr (inr h))) = let no = h.1 in cc

failed : (old new : State) → Fails old new ⊥ shut → old.is_open ≡ false
failed old new (OutOfMemory, is, h, undone, tells) = absurd (cc)
failed old new (Io, is, h, undone, tells) = absurd (cc)
failed old new (Corrupt, is, h, undone, tells) = absurd (cc)
failed old new (Full, is, h, undone, tells) = absurd (cc)
failed old new (Broken, is, h, undone, tells) = h
failed old new (Unstorable, is, h, undone, tells) = absurd (cc)

pub is_shut : (sql : List ℕ) (params : Row) (old new : State) → ReadsAlone sql
    → FailsToQuery sql params old new shut → old.is_open ≡ false
unfolding FailsToQuery IsNotRun
is_shut sql params old new alone (inl (inl h)) = absurd (no_text old sql params h.0)
is_shut sql params old new alone (inl (inr h)) = failed old new h
is_shut sql params old new alone (inr h) =
    let it = rw (alone old.now.schema h.0 h.1.is) at h.2 in
    absurd (no_read old.step_limit h.0.command it.0 _ it.2)

-- so what is told of such an error is so of the connection
pub told : (sql : List ℕ) (params : Row) (old new : State) → ReadsAlone sql
    → (e : Error) → FailsToQuery sql params old new e
    → (r : Result Bool StoreFault) → IfOk r (λ live. (live ≡ false) × (e ≡ shut))
    → IfOk r (λ live. live ≡ old.is_open)
told sql params old new alone e fails (Ok live) h =
    h.0 ∙ sym (is_shut sql params old new alone (subst (FailsToQuery sql params old new) h.1 fails))
told sql params old new alone e fails (Err fault) h = h
