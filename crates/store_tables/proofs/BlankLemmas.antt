-- Without tables no version is told, and there are no tables still.
use Rattle.std.proofs.Common.{◌≡◌, [], true, false, List, Ok, Result, refl, sym, ap, subst}
use Rattle.std.proofs.Common.{◌∙◌, Err, IfErr, IfOk}
use Rattle.std.specs.Prelude.{is_ok}
use Rattle.sqlite_tied.specs.Compute.{everything}
use Rattle.sqlite.specs.Listing.{listing_schema, understood}
use Rattle.sqlite.specs.Order.{Row}
use Rattle.sqlite.specs.State.{State, HasCleanDisk, Shown}
use Rattle.sqlite_resolve.specs.declared.compiled.Compiled.{Compiled}
use Rattle.sqlite_resolve.specs.declared.error.CompileError.{CompileError}
use Rattle.store_tables.specs.Making.{RefusesBlank}
use Rattle.store_tables.specs.Contents.Meta.{version_text}
use Rattle.store_tables.specs.Strict.{no_schema}
use Rattle.store_tables.specs.Calls.{WasClean}
use Rattle.store_tables.specs.declared.fault.StoreFault.{StoreFault}
use Rattle.store_tables.specs.declared.fault.StoreFault.TheVariants.{Refused}
use Rattle.store_tables.proofs.StandLemmas.{shown_open}

no_statement : is_ok (understood no_schema version_text) ≡ false
unfolding understood everything listing_schema
no_statement = refl

never_ok : (r : Result Compiled CompileError) (c : Compiled) → is_ok r ≡ false → r ≡ Ok c → ⊥
never_ok r c none is = let e : true ≡ false = sym (ap is_ok is) ∙ none in cc

no_text : (s : State) → s.now.schema ≡ no_schema → (c : Compiled)
    → understood s.now.schema version_text ≡ Ok c → ⊥
no_text s none c is =
    never_ok _ c no_statement (subst (λ t. understood t version_text ≡ Ok c) none is)

pub none_shown : (old new : State) → old.now.schema ≡ no_schema → (rows : List Row)
    → Shown version_text [] old new rows → ⊥
unfolding Shown
none_shown old new none rows h = no_text old none h.0 h.1.is

-- so without tables the query is refused
pub refused_blank : {X : Type 0} (items : X → List Row) (old new : State)
    (r : Result X StoreFault) → WasClean old new
    → (HasCleanDisk new → IfOk r (λ x. Shown version_text [] old new (items x)))
    → IfErr r (λ e. e ≡ Refused) → RefusesBlank old new r
refused_blank items old new (Ok x) clean shown fault blank now =
    let h = shown now in
    let was = blank (clean now) (shown_open version_text [] old new (items x) h) in
    absurd (none_shown old new was.0 (items x) h)
refused_blank items old new (Err e) clean shown fault blank now = ap Err fault
