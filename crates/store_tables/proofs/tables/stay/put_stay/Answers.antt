use Rattle.std.proofs.Common.{arith, rules, ◌<◌, ◌≡◌, refl, ℕ, Ok}
use Rattle.store_tables.specs.Contents.Stay.{stay_row, add_stay_terms, add_stay_text, stay}
use Rattle.store_tables.specs.Contents.Stay.{IsStayRow, StayRow, stay_columns}
use Rattle.store_tables.proofs.StepLemmas.{does_one, ran_beside}
use Rattle.sqlite.specs.Edit.{next_rowid}
use Rattle.sqlite.specs.State.{State, Executes}
use Rattle.store_tables.specs.Contents.Entry.{entry}
use Rattle.store_tables.specs.Contents.Link.{link}
use Rattle.store_tables.specs.Contents.Queue.{queue}
use Rattle.store_tables.specs.Contents.Request.{request}
use Rattle.store_tables.specs.Contents.Watcher.{watcher}
use Rattle.store_tables.specs.Contents.{add_stay, desk_schema, first_schema}
use Rattle.store_tables.proofs.ChangeLemmas.{Added, adds, cast_null, cast_int, apart}
use Rattle.sqlite_tied.specs.Compute.{everything}
use Rattle.sqlite.specs.Source.TheVariants.{Values}
use Rattle.sqlite.specs.Command.TheVariants.{Insert}
use Rattle.store_tables.specs.Contents.Meta.{meta}
use Rattle.sqlite.specs.Listing.{understood}
use Rattle.store_tables.proofs.Meaning.{Changes}
use Rattle.sqlite.specs.Change.{KeepsRows}
use Rattle.store_tables.specs.Kept.{filed}
use Rattle.store_tables.proofs.TableLemmas.{cast_moment}
use Rattle.store_tables.proofs.TurnLemmas.{Turns, puts_beside}
use Rattle.store_tables.proofs.Contents.Stay.{stay_table}
use Rattle.store_tables.proofs.tables.stay.put_stay.Goals as goal

add_stay_is : Changes add_stay_text (Insert 6 (Values add_stay_terms 6))
unfolding understood everything
add_stay_is = record { is = refl; plain = (refl, refl) }

stay_added : (s : StayRow) (old new : State) (count : ℕ) → old.now.schema ≡ desk_schema
    → Executes add_stay_text (stay_columns s) old new (Ok count)
    → Added stay.tree (filed stay_columns (next_rowid (old.now.trees stay.tree), s)) old.now new.now
stay_added s old new count has h = adds _ _ _ _ _ stay _ old new count add_stay_is refl refl
    (simp (cast_null, cast_int, cast_moment)) has h

-- whatever rows the tables have, a stay that is added leaves the others
stay_beside : (s : StayRow) (old new : State) → old.now.schema ≡ desk_schema
    → Executes add_stay_text (stay_columns s) old new (Ok 1)
    → (new.now.schema ≡ desk_schema) × KeepsRows first_schema.tables old.now.trees new.now.trees
stay_beside s old new has h =
    let it = stay_added s old new 1 has h in
    let m = it.others in
    let meta = m.0 (apart meta.tree stay.tree refl) in
    let queues = m.1.0 (apart queue.tree stay.tree refl) in
    let requests = m.1.1.0 (apart request.tree stay.tree refl) in
    let watchers = m.1.1.1.0 (apart watcher.tree stay.tree refl) in
    let links = m.1.1.1.1.0 (apart link.tree stay.tree refl) in
    let entries = m.1.1.1.1.1.0 (apart entry.tree stay.tree refl) in
    assumption

adds_stay : (s : StayRow) (old new : State) → IsStayRow (stay_columns s)
    → old.now.schema ≡ desk_schema → Executes add_stay_text (stay_columns s) old new (Ok 1)
    → Turns (λ d. add_stay d s) old.now new.now
adds_stay s old new row has h =
    puts_beside has (λ d. refl) stay_table refl (next_rowid (old.now.trees stay.tree), s) row
    (stay_added s old new 1 has h) (λ d now. assumption)

pub returns : goal.returns
returns g c =
    let row = stay_row c.args.id c.args.place c.args.stay.now in
    let runs = rw (
      c.number.ensures.bound,
      c.number-2.ensures.bound,
      c.words.ensures.bound,
      c.minute.ensures.bound,
      c.nullable_minute.ensures.bound,
    ) at c.run_on_one.ensures.runs in
    record {
      same_reference = search rules;
      put = does_one runs
          (adds_stay row _ _ (let wide : 4 < 5 = omega arith in assumption));
      beside = ran_beside _ runs (stay_beside row _ _);
    }
