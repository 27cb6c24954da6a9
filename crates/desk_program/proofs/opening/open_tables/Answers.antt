-- what was held before the tables were made is held after it, and so when it is attached
use Rattle.std.proofs.Common.{inl, inr, refl}
use Rattle.std.proofs.lemmas.Result.{IfErr-weaker, IfOk-weaker}
use Rattle.desk_model.specs.Desk.{empty_desk}
use Rattle.store_core.specs.Seen.{state_of}
use Rattle.desk_program.specs.FaultLines.{attach_fault_text, store_fault_text}
use Rattle.desk_program.proofs.LedLines.{empty_is_desk}
use Rattle.desk_program.proofs.Opened.{brought, made_not_attached}
use Rattle.desk_program.proofs.opening.open_tables.Goals as goal

pub returns-in-Ok-clause-opened : goal.returns-in-Ok-clause-opened
returns-in-Ok-clause-opened g c =
    let on =
    brought (state_of g.S.Store c.args.store) (state_of g.S.Store c.create_schema.new.self)
    c.in-Ok.ensures.kept (λ d f due first. (c.in-Ok.ensures.migrated d f due first).0) in
    IfOk-weaker c.attach.result _ _
    (λ attached is. record {
      same = is.same;
      renewed = λ desk formed stand. is.renewed desk formed (on desk formed stand);
      made = λ blank. is.renewed empty_desk empty_is_desk (c.in-Ok.ensures.made blank).0;
      known = λ desk formed stand clean. is.known desk formed (on desk formed stand) clean;
    })
    c.attach.ensures.attached

pub returns-in-Ok-clause-told : goal.returns-in-Ok-clause-told
returns-in-Ok-clause-told g c =
    IfErr-weaker c.attach.result _ _
    (λ back told. (
      attach_fault_text told.0,
      (
        inr (
          told.0,
          refl,
          made_not_attached c.args.settings (state_of g.S.Store c.args.store)
              (state_of g.S.Store c.create_schema.new.self) (state_of g.S.Store back.1) told.0
              c.in-Ok.ensures.kept (λ d f due first. (c.in-Ok.ensures.migrated d f due first).0)
              c.in-Ok.ensures.honest
              (λ blank. (c.in-Ok.ensures.made blank).0)
              (λ contents stand clean.
              (c.in-Ok.ensures.version.0 contents stand clean).0)
              told.1,
        ),
        told.2,
      ),
      told.3,
    ))
    c.attach.ensures.told

pub returns-in-Err-clause-told : goal.returns-in-Err-clause-told
returns-in-Err-clause-told g c = (
  store_fault_text c.in-Err.fault,
  (
    inl (
      c.in-Err.fault,
      refl,
      record {
        kept = c.in-Err.ensures.kept;
        spared = c.in-Err.ensures.spared;
        first =
            λ desk formed stand. (
              stand.0,
              (c.in-Err.ensures.migrated desk formed stand.0 stand.1).1,
            );
        blank = λ blank. let made = c.in-Err.ensures.made blank in (made.1, made.2);
        version = λ contents stand clean. (c.in-Err.ensures.version.0 contents stand clean).1;
        fails = c.in-Err.ensures.refuses;
        honest = c.in-Err.ensures.honest;
        lasts = c.in-Err.ensures.lasts;
      },
    ),
    refl,
  ),
  c.put_store_fault.ensures.printed,
)
