-- What is written of a list is what comes of its command.
use Rattle.std.specs.Prelude.{⊤}
use Rattle.std.proofs.Common.{◌≡◌, ◌≢◌, ℕ, [], Bool, false, List, None, Option, Some}
use Rattle.std.proofs.Common.{Err, Ok, Result, inl, inr, refl, subst}
use Rattle.settings_core.specs.declared.settings.Settings.{Settings}
use Rattle.desk_model.specs.Commands.{IsReading}
use Rattle.desk_model.specs.Desk.{Desk}
use Rattle.desk_model.specs.IsDesk.{IsDesk}
use Rattle.desk_model.specs.Step.{Ask, answer_of, guard}
use Rattle.desk_model.specs.declared.refusal.Refusal.{Refusal}
use Rattle.desk_model.specs.declared.refusal.Refusal.TheVariants.{Unavailable}
use Rattle.desk_reports.specs.Streams.{IsCutBy, IsPrintedOf}
use Rattle.desk_reports.specs.declared.fault.StreamFault.{StreamFault}
use Rattle.desk_reports.specs.declared.fault.StreamFault.TheVariants.{Refused, Write}
use Rattle.desk_texts.specs.Texts.{answer_text}
use Rattle.stream_core.specs.Seen.{has_write_failed, held_in}
use Rattle.stream_core.specs.Written.{IsWritten, Prints, WritesOn}
use Rattle.stream_core.specs.declared.writer.CountedWriter.{CountedWriter}
use Rattle.service_core.specs.Streaming.{IsStreamed, is_write}
use Rattle.service_core.proofs.Stepping.{reading_step, refused_step}

-- a list that is written
pub listed_stream : (s : Settings) (ask : Ask) (desk : Desk) → IsDesk desk
    → (failed : Bool) (printed : List ℕ) (result : Result ⊤ StreamFault) → IsReading ask.command
    → guard s ask.at ask.caller ask.command desk ≡ None → IsCutBy result failed
    → IsPrintedOf (answer_text (answer_of s ask.at ask.caller ask.command desk)) printed result
    → IsStreamed s ask desk result printed
listed_stream s ask desk is failed printed (Ok done) reads free cut is_text =
    (_, reading_step s ask desk _ is reads free refl, is_text)
listed_stream s ask desk is failed printed (Err Write) reads free cut is_text =
    (_, reading_step s ask desk _ is reads free refl, is_text)
listed_stream s ask desk is failed printed (Err (Refused refusal)) reads free cut is_text =
    inr (cut.1, (_, reading_step s ask desk _ is reads free refl, is_text))

-- a command that is refused
pub refused_stream : (s : Settings) (ask : Ask) (desk : Desk) → IsDesk desk → (refusal : Refusal)
    → (refusal ≢ Unavailable → guard s ask.at ask.caller ask.command desk ≡ Some refusal)
    → IsStreamed s ask desk (Err (Refused refusal)) []
refused_stream s ask desk is refusal refuses =
    inl (refused_step s ask desk refusal is refuses, refl)

-- ---- over a writer that counts from then on

pub is_cut_by : (result : Result ⊤ StreamFault) (failed : Bool) → IsCutBy result failed
    → failed ≡ is_write result
is_cut_by (Ok done) failed cut = cut
is_cut_by (Err Write) failed cut = cut
is_cut_by (Err (Refused refusal)) failed cut = cut.0

pub written_by : {W : Type 0} (contents : W → Option (List ℕ)) (old new : CountedWriter W)
    (failed : Bool) (text : List ℕ) → has_write_failed old ≡ false
    → has_write_failed new ≡ failed → Prints contents old new text
    → IsWritten failed (held_in contents old) (held_in contents new) text
written_by contents old new failed text fresh cut printed =
    subst (λ b. IsWritten b (held_in contents old) (held_in contents new) text) cut
    (subst (λ b. WritesOn b (has_write_failed new) (held_in contents old)
    (held_in contents new) text) fresh printed.written)
