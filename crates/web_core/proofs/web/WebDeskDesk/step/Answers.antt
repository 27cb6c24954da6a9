-- the step of the message, and the look whether the store is shut leaves its tables
use Rattle.std.proofs.Common.{◌∙◌, ℕ, Option, ap, refl, subst, sym}
use Rattle.std.specs.Prelude.{◌||◌}
use Rattle.connection_core.specs.Reply.{bytes_of}
use Rattle.service_core.specs.Seen.{settings_of, tables_of}
use Rattle.settings_core.specs.declared.settings.Settings.{Settings}
use Rattle.web_core.specs.Control.{CopiesBy, control_by, is_stop}
use Rattle.web_core.specs.Dates.{IsDatedAt}
use Rattle.web_core.specs.Guessing.{Guards}
use Rattle.web_core.specs.Messages.{Seen}
use Rattle.web_core.specs.declared.control.Control.{Control}
use Rattle.web_core.proofs.GuardLemmas.{only_tokens}
use Rattle.web_core.proofs.MessageLemmas.{replied}
use Rattle.web_core.proofs.NoteLemmas.{note_same}
use Rattle.web_core.proofs.StepLemmas.{step_spared}
use Rattle.web_core.proofs.web.WebDeskDesk.step.Goals as goal

pub returns : goal.returns
returns g c =
    let left = c.answer_to-whole.ensures.left in
    let seen : Seen = record {
      expects = c.is_expecting-expects.result;
      read = c.taken-read.result;
      guard = c.guarded-guard.result;
      copied = c.copy_if-copied.result;
    } in
    let is = c.control_by-control.ensures
    ∙ ap (λ s. control_by c.is_expecting-expects.result c.guarded-guard.result s c.taken-read.result)
    c.settings-2.ensures in (
      seen,
      bytes_of c.answer_to-whole.result,
      step_spared c.args.self.now.https (settings_of g.S.Store c.args.self.now.desk) seen c.args.minute
          (bytes_of c.answer_to-whole.result) (tables_of g.S.Store c.args.self.now.desk)
          (tables_of g.S.Store c.answer_to-whole.new.desk) (tables_of g.S.Store c.is_seen_shut-self.new.desk) (
            replied c.args.self.now.https (settings_of g.S.Store c.args.self.now.desk) seen c.args.minute
                c.control_by-control.result (bytes_of c.answer_to-whole.result)
                (tables_of g.S.Store c.args.self.now.desk) (tables_of g.S.Store c.answer_to-whole.new.desk) is
                c.answer_to-whole.ensures.step,
            left.clean,
            left.lasts,
          )
          c.is_seen_shut-self.ensures.kept,
      c.is_seen_shut-self.ensures.same ∙ left.same,
      refl,
      refl,
      (
        (
          c.is_expecting-expects.ensures,
          c.taken-read.ensures,
          only_tokens c.args.self.now.proxied c.args.self.now.https c.settings.result.now c.args.minute
              c.taken-read.result c.args.self.now.guesses c.guarded-guard.result
              c.guarded-guard.new.guesses c.guarded-guard.ensures,
        ),
        subst (λ (t : Option ℕ). IsDatedAt t (bytes_of c.answer_to-whole.result)
            (bytes_of c.with_date-reply.result)) (sym c.second.ensures.told) c.with_date-reply.ensures,
        (
          subst (λ (s : Settings). Guards c.args.self.now.proxied c.args.self.now.https s c.args.minute
              c.taken-read.result c.args.self.now.guesses c.guarded-guard.result
              c.guarded-guard.new.guesses) c.settings.ensures c.guarded-guard.ensures,
          subst (λ (a : Control). CopiesBy a c.copy_if-copied.result
              (g.C.System.made c.args.self.now.system) (g.C.System.made c.second.new.self))
              is (subst (λ (n : ℕ). CopiesBy c.control_by-control.result c.copy_if-copied.result
              (g.C.System.made c.args.self.now.system) n) (sym c.second.ensures.made)
              c.copy_if-copied.ensures),
          c.stops_then-self.ensures ∙ ap (λ (a : Control). c.args.self.now.stops || is_stop a) is,
          note_same c.args.self.now.proxied c.args.self.now.https _ _ c.args.minute c.taken-read.result _
              (bytes_of c.answer_to-whole.result) c.note_on-note.result.items
              (c.settings-3.ensures ∙ left.same) c.bytes.ensures c.note_on-note.ensures,
        ),
      ),
    )
