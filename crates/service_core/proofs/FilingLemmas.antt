-- A filing with its text is a filing and one entry more: an entry that begins no stay changes no row, no
-- stay and no due moment.
use Rattle.std.proofs.Common.{◌≡◌, ◌≢◌, ◌∙◌, ℕ, ◌+◌, ◌==◌, true, false, List, [], ◌∷◌, map, Option}
use Rattle.std.proofs.Common.{Some, None, Ok, Err, IfErr, IfOk, OnErr, refl, ap, ap₂, sym, subst, arith}
use Rattle.std.proofs.Common.{inl, inr, if◌then◌else◌, option_and_then, unwrap_or}
use Rattle.std.specs.Option.{option_map, option_map_or}
use Rattle.std.proofs.lemmas.Bool.{and_from, and_parts}
use Rattle.sqlite.specs.State.{State, HasCleanDisk}
use Rattle.hours_core.specs.declared.stay.Stay.{Stay}
use Rattle.settings_core.specs.declared.settings.Settings.{Settings}
use Rattle.desk_model.specs.Change.{applied, entry_put, with_entry}
use Rattle.desk_model.specs.Desk.{Desk, Request, queue_at, request_at}
use Rattle.desk_model.specs.Due.{due_of}
use Rattle.desk_model.specs.Facts.{stays_at}
use Rattle.desk_model.specs.IsDesk.{IsDesk}
use Rattle.desk_model.specs.Plan.{answer_of_change}
use Rattle.desk_model.specs.Stays.{begins_stay, stays_of}
use Rattle.desk_model.specs.Step.{Ask, Outcome, call, effect, facts_of, guard}
use Rattle.desk_model.specs.declared.answer.Answer.{Answer}
use Rattle.desk_model.specs.declared.change.Change.{Change}
use Rattle.desk_model.specs.declared.command.Command.{Command}
use Rattle.desk_model.specs.declared.command.Command.TheVariants.{Create}
use Rattle.desk_model.specs.declared.facts.Facts.{Facts}
use Rattle.desk_model.specs.declared.refusal.Refusal.{Refusal}
use Rattle.desk_model.specs.declared.refusal.Refusal.TheVariants.{Unavailable}
use Rattle.desk_model.specs.declared.rows.Entry.{Entry}
use Rattle.desk_model.specs.declared.rows.RequestRow.{RequestRow}
use Rattle.desk_core.specs.Carried.{KeepsStays}
use Rattle.desk_core.specs.Decision.{change_of}
use Rattle.desk_core.proofs.Begun.{none_more}
use Rattle.desk_core.proofs.Changed.{found_mapped, left_at, noted_on}
use Rattle.desk_core.proofs.DeskLaw.ByKind.{change_fits}
use Rattle.desk_core.proofs.DeskLaw.Entries.{entries_follow}
use Rattle.desk_core.proofs.DeskLaw.Fitting.{Appends}
use Rattle.desk_core.proofs.DeskLaw.Links.{ends_there, links_rise}
use Rattle.desk_core.proofs.DeskLaw.Numbers.{stay_numbered}
use Rattle.desk_core.proofs.DeskLaw.Persons.{persons_after}
use Rattle.desk_core.proofs.DeskLaw.Queues.{each_in_queue, queues_named, queues_rise}
use Rattle.store_tables.specs.Calls.{LeavesTables}
use Rattle.store_tables.specs.Contents.{Contents, contents_of, request_rows}
use Rattle.store_tables.specs.Contents.Request.{Dated, dated_by}
use Rattle.store_tables.specs.Stands.{HoldCommitted}
use Rattle.store_tables.proofs.Spared.{stands}
use Rattle.store_core.specs.Due.{RepresentsWithDue, due_of_row}
use Rattle.store_core.specs.Written.{IsWritable, dues_after, is_there, with_filed}
use Rattle.store_core.proofs.Renewed.{renewed}
use Rattle.store_core.proofs.WritableByKind.{change_writable}
use Rattle.service_core.specs.Decided.{Writes}
use Rattle.service_core.specs.Filing.{FilesOn, FilesSeeing, FilesUnless, FilesWith, refusal_of_text}
use Rattle.service_core.specs.Filing.{text_entry, text_taken, texted, with_text}
use Rattle.service_core.specs.Leaves.{StepsSafely}
use Rattle.service_core.specs.TableSteps.{IsStep, OverTables, ask_by}
use Rattle.service_core.proofs.Laws.{lawful}
use Rattle.service_core.proofs.LeftLemmas.{keeps_after}
use Rattle.service_core.proofs.Stepping.{done, refused_step, spared_after, unavailable_or}

-- ---- one entry more on a desk

noted_row : (e : Entry) (r : Request) → (noted_on r e).row ≡ r.row
noted_row e r = left_at (λ x. x.row) e.id (with_entry e) (λ x. refl) r

noted_stays : (e : Entry) → begins_stay e.kind ≡ false → (r : Request)
    → stays_of (noted_on r e).entries ≡ stays_of r.entries
noted_stays e plain r =
    elim (r.row.id == e.id)
    as (λ b. stays_of (if b then with_entry e r else r).entries ≡ stays_of r.entries) [
      | true ↦ none_more r.entries (e ∷ []) (rw plain refl)
      | false ↦ refl
    ]

stays_found : (e : Entry) → begins_stay e.kind ≡ false → (o : Option Request)
    → option_map_or (λ (r : Request). stays_of r.entries) (option_map (λ r. noted_on r e) o) []
    ≡ option_map_or (λ (r : Request). stays_of r.entries) o []
stays_found e plain None = refl
stays_found e plain (Some r) = noted_stays e plain r

module _ (e : Entry) (plain : begins_stay e.kind ≡ false) (desk : Desk) where
  abbrev noted : Desk
  noted = entry_put desk e

  stays_noted : (id : ℕ) → stays_at noted id ≡ stays_at desk id
  stays_noted id =
      ap (λ (o : Option Request). option_map_or (λ r. stays_of r.entries) o [])
      (found_mapped (λ r. noted_on r e) (λ r. ap (λ (row : RequestRow). row.id) (noted_row e r)) id
      desk.requests)
      ∙ stays_found e plain (request_at desk id)

  due_noted : (s : Settings) (row : RequestRow) → due_of_row s noted row ≡ due_of_row s desk row
  due_noted s row =
      ap (λ (stays : List Stay). option_and_then (λ q. due_of s q stays row) (queue_at desk row.queue))
      (stays_noted row.id)

  rows_of : (rs : List Request)
      → map (λ (r : Request). r.row) (map (λ r. noted_on r e) rs) ≡ map (λ (r : Request). r.row) rs
  rows_of [] = refl
  rows_of (r ∷ rs) =
      ap₂ (λ (row : RequestRow) (rows : List RequestRow). row ∷ rows) (noted_row e r) (rows_of rs)

  rows_noted : request_rows noted ≡ request_rows desk
  rows_noted = rows_of desk.requests

dated_alike : (one other : RequestRow → Option ℕ) → ((row : RequestRow) → one row ≡ other row)
    → (rows : List RequestRow) → map (dated_by one) rows ≡ map (dated_by other) rows
dated_alike one other same [] = refl
dated_alike one other same (row ∷ rows) =
    ap₂ (λ (d : Dated) (ds : List Dated). d ∷ ds) (ap (λ (due : Option ℕ). (row, due)) (same row))
    (dated_alike one other same rows)

-- ---- the change of a filing with its text

module _ (s : Settings) (at : ℕ) (caller queue subject : List ℕ) (status : Option (List ℕ))
    (requestors : List (List ℕ)) (text : List ℕ) (desk : Desk) (is : IsDesk desk)
    (free : guard s at caller (Create queue subject status requestors) desk ≡ None)
  where
    abbrev command : Command
    command = Create queue subject status requestors

    abbrev plain : Change
    plain = change_of (call s at caller) (facts_of command desk) command

    abbrev more : Change
    more = texted caller text plain

    abbrev entry : Entry
    entry = text_entry ((facts_of command desk).request_count + 1) at caller text

    abbrev filed : Desk
    filed = applied plain desk

    applied_more : applied more desk ≡ entry_put filed entry
    applied_more = refl

    appends_more : Appends desk more
    appends_more =
        let appends = (change_fits s at caller command desk is free).appends in
        let follow = appends.follow in
        record {
          id = appends.id;
          count = appends.count;
          counted = appends.counted;
          follow = (follow.0, follow.1, (follow.0, omega (arith, follow.1), tt));
        }

    pub texted_desk : IsDesk (applied more desk)
    texted_desk =
        let fits = change_fits s at caller command desk is free in
        record {
          queues = queues_rise more desk fits.opens is.queues;
          named = queues_named more desk fits.named is.named;
          requests = stay_numbered more desk fits.files is.requests;
          persons = persons_after more desk is.persons;
          entries = entries_follow more desk appends_more is.entries;
          filed_in = each_in_queue more desk fits.files fits.stays is.filed_in;
          links = links_rise more desk fits.links is.links;
          ends = ends_there more desk fits.links is.ends;
        }

    pub texted_writable : IsWritable desk more
    texted_writable =
        let fits = change_writable s at caller command desk is free in
        let there = and_parts (is_there (with_filed plain desk) entry.id) true fits.notes in
        record {
          files = fits.files;
          sets = fits.sets;
          puts = fits.puts;
          notes = and_from _ _ there.0 (and_from _ _ there.0 refl);
          stays = record {
            filed = fits.stays.filed ∙ sym (stays_noted entry refl filed entry.id);
            set = tt;
            begun = fits.stays.begun;
          };
        }

    pub texted_renewed : contents_of (dues_after more (due_of_row s desk)) (applied more desk)
        ≡ contents_of (due_of_row s (applied more desk)) (applied more desk)
    texted_renewed =
        let after = entry_put filed entry in
        let rows = rows_noted entry refl filed in
        ap (λ (ds : List Dated). record (contents_of (due_of_row s after) after) { dated = ds })
        (ap (map (dated_by (dues_after more (due_of_row s desk)))) rows
        ∙ ap (λ (c : Contents). c.dated) (renewed s at caller command desk is free)
        ∙ dated_alike (due_of_row s filed) (due_of_row s after)
        (λ row. sym (due_noted entry refl filed s row)) (request_rows filed)
        ∙ ap (map (dated_by (due_of_row s after))) (sym rows))

    texted_step : (answer : Answer) → answer ≡ answer_of_change plain
        → refusal_of_text s text ≡ None
        → FilesWith s (ask_by at caller command) (Some text) desk (Ok answer) (applied more desk)
    texted_step answer told none =
        let ask = ask_by at caller command in
        let step = lawful s ask desk (Ok answer) filed is (done s ask desk answer free told) in
        subst (λ (o : Option Refusal). FilesUnless o s ask text desk (Ok answer) (applied more desk))
        (sym none)
        (filed, step, ap (λ (a : Answer). with_text at caller text (Ok a) filed) (sym told))

    pub texted_on : (answer : Answer) (old new : State) → answer ≡ answer_of_change plain
        → refusal_of_text s text ≡ None → Writes more old new → RepresentsWithDue s desk old
        → (after : Desk)
        × (FilesWith s (ask_by at caller command) (Some text) desk (Ok answer) after × IsDesk after)
        × RepresentsWithDue s after new
    texted_on answer old new told none writes stand = (
      applied more desk,
      (texted_step answer told none, texted_desk),
      subst (λ (c : Contents). HoldCommitted c new) texted_renewed
          (writes desk is texted_writable (due_of_row s desk) stand),
    )

-- ---- what is refused

-- a filing that its command refuses
pub refused_filing : (s : Settings) (ask : Ask) (text : List ℕ) (desk : Desk) (refusal : Refusal)
    → IsDesk desk → (refusal ≢ Unavailable → guard s ask.at ask.caller ask.command desk ≡ Some refusal)
    → FilesWith s ask (Some text) desk (Err refusal) desk
refused_filing s ask text desk refusal is refuses =
    elim (refusal_of_text s text) as (λ o. FilesUnless o s ask text desk (Err refusal) desk) [
      | None ↦ (desk, refused_step s ask desk refusal is refuses, refl)
      | Some bad ↦ (
        refl,
        λ other.
            ap (λ (o : Option Refusal). Err (unwrap_or o bad))
            (sym (refuses (λ same. other (ap Err same)))),
      )
    ]

-- a text that is refused
refused_text : (s : Settings) (ask : Ask) (text : List ℕ) (desk : Desk) (refusal : Refusal)
    → IsDesk desk → guard s ask.at ask.caller ask.command desk ≡ None
    → (refusal ≢ Unavailable → refusal_of_text s text ≡ Some refusal)
    → FilesWith s ask (Some text) desk (Err refusal) desk
refused_text s ask text desk refusal is free refuses =
    elim (unavailable_or refusal) [
      | inl same ↦ refused_filing s ask text desk refusal is (λ other. absurd (other same))
      | inr other ↦
          subst (λ (o : Option Refusal). FilesUnless o s ask text desk (Err refusal) desk)
          (sym (refuses other))
          (refl, λ known. ap (λ (o : Option Refusal). Err (unwrap_or o refusal)) (sym free))
    ]

-- ---- on tables

filed_on : (s : Settings) (at : ℕ) (caller : List ℕ) (command : Command) (text : List ℕ)
    (desk : Desk) (change : Change) (answer : Answer) (old new : State) → IsDesk desk
    → guard s at caller command desk ≡ None → text_taken command (Some text) ≡ Some text
    → change ≡ change_of (call s at caller) (facts_of command desk) command
    → answer ≡ answer_of_change change → refusal_of_text s text ≡ None
    → Writes (texted caller text change) old new → RepresentsWithDue s desk old
    → (after : Desk)
    × (FilesWith s (ask_by at caller command) (Some text) desk (Ok answer) after × IsDesk after)
    × RepresentsWithDue s after new
filed_on s at caller (Create queue subject status requestors) text desk change answer old new is free
    takes made told none writes stand =
    texted_on s at caller queue subject status requestors text desk is free answer old new
    (told ∙ ap answer_of_change made) none
    (subst (λ (c : Change). Writes (texted caller text c) old new) made writes) stand
filed_on s at caller other text desk change answer old new is free takes made told none writes stand =
    cc

-- what was written, or wasn't, of a filing that isn't refused
pub written_filing : (facts : Facts) (change : Change) (s : Settings) (ask : Ask) (text : List ℕ)
    (outcome : Outcome) (old new : State) → text_taken ask.command (Some text) ≡ Some text
    → ((desk : Desk) → facts ≡ facts_of ask.command desk
    → (guard s ask.at ask.caller ask.command desk ≡ None)
    × (applied change desk ≡ effect s ask.at ask.caller ask.command desk))
    → change ≡ change_of (call s ask.at ask.caller) facts ask.command
    → IfOk outcome (λ answer. (answer ≡ answer_of_change change)
    × (refusal_of_text s text ≡ None) × Writes (texted ask.caller text change) old new)
    → IfErr outcome (λ refusal. refusal ≢ Unavailable → refusal_of_text s text ≡ Some refusal)
    → OnErr outcome (LeavesTables old new)
    → FilesSeeing facts s ask text outcome old new
written_filing facts change s ask text (Ok answer) old new takes accepts made written fault kept desk is
    seen stand clean =
    filed_on s ask.at ask.caller ask.command text desk change answer old new is (accepts desk seen).0
    takes (made ∙ ap (λ (f : Facts). change_of (call s ask.at ask.caller) f ask.command) seen)
    written.0 written.1 written.2 stand
written_filing facts change s ask text (Err refusal) old new takes accepts made written fault kept desk
    is seen stand clean = (
      desk,
      (refused_text s ask text desk refusal is (accepts desk seen).0 fault, is),
      stands kept (contents_of (due_of_row s desk) desk) stand,
    )

-- what its command refuses, by what it sees
pub refused_seen : (facts : Facts) (s : Settings) (ask : Ask) (text : List ℕ) (refusal : Refusal)
    (tables : State)
    → ((desk : Desk) → facts ≡ facts_of ask.command desk → refusal ≢ Unavailable
    → guard s ask.at ask.caller ask.command desk ≡ Some refusal)
    → FilesSeeing facts s ask text (Err refusal) tables tables
refused_seen facts s ask text refusal tables refuses desk is seen stand clean =
    (desk, (refused_filing s ask text desk refusal is (refuses desk seen), is), stand)

-- a text is taken by the command's own word
pub takes_text : (s : Settings) (ask : Ask) (text : List ℕ) (outcome : Outcome) (old new : State)
    → text_taken ask.command (Some text) ≡ Some text
    → ((desk : Desk) → IsDesk desk → RepresentsWithDue s desk old → HasCleanDisk new
    → (after : Desk) × (FilesWith s ask (Some text) desk outcome after × IsDesk after)
    × RepresentsWithDue s after new)
    → FilesOn s ask (Some text) outcome old new
takes_text s ask text outcome old new takes leads =
    rw takes leads

-- memory or the store refused before anything was done
pub unavailable_filing : (s : Settings) (ask : Ask) (text : List ℕ) (refusal : Refusal)
    (old new : State) → text_taken ask.command (Some text) ≡ Some text → refusal ≡ Unavailable
    → LeavesTables old new → FilesOn s ask (Some text) (Err refusal) old new
unavailable_filing s ask text refusal old new takes same kept =
    takes_text s ask text (Err refusal) old new takes (λ desk is stand clean. (
      desk,
      (refused_filing s ask text desk refusal is (λ other. absurd (other same)), is),
      stands kept (contents_of (due_of_row s desk) desk) stand,
    ))

-- what every desk refuses
pub refused_anywhere : (s : Settings) (ask : Ask) (text : List ℕ) (refusal : Refusal)
    (tables : State) → text_taken ask.command (Some text) ≡ Some text
    → ((desk : Desk) → guard s ask.at ask.caller ask.command desk ≡ Some refusal)
    → FilesOn s ask (Some text) (Err refusal) tables tables
refused_anywhere s ask text refusal tables takes always =
    takes_text s ask text (Err refusal) tables tables takes (λ desk is stand clean.
    (desk, (refused_filing s ask text desk refusal is (λ known. always desk), is), stand))

-- a filing by what is seen of the desk is the desk's own
pub seen_filing : (facts : Facts) (s : Settings) (ask : Ask) (text : List ℕ) (old mid new : State)
    (outcome : Outcome) → text_taken ask.command (Some text) ≡ Some text
    → ((desk : Desk) → IsDesk desk → RepresentsWithDue s desk old → HasCleanDisk mid
    → facts ≡ facts_of ask.command desk)
    → LeavesTables old mid → StepsSafely (FilesSeeing facts s ask text) mid new outcome
    → StepsSafely (FilesOn s ask (Some text)) old new outcome
seen_filing facts s ask text old mid new outcome takes seen kept made = record {
  step = takes_text s ask text outcome old new takes (λ desk is stand clean.
      made.step desk is (seen desk is stand (made.keeps.clean clean))
      (stands kept (contents_of (due_of_row s desk) desk) stand) clean);
  refused = spared_after outcome old mid new kept made.refused;
  keeps = keeps_after kept made.keeps;
}

-- the change that was written is that of the filing with its text
pub texted_written : (s : Settings) (caller text : List ℕ) (change made : Change) (r : Outcome)
    (old new : State) → made ≡ texted caller text change → None ≡ refusal_of_text s text
    → IfOk r (λ answer. (answer ≡ answer_of_change made) × Writes made old new)
    → IfOk r (λ answer. (answer ≡ answer_of_change change) × (refusal_of_text s text ≡ None)
    × Writes (texted caller text change) old new)
texted_written s caller text change made (Ok answer) old new is none written = (
  written.0 ∙ ap answer_of_change is,
  sym none,
  subst (λ (c : Change). Writes c old new) is written.1,
)
texted_written s caller text change made (Err refusal) old new is none written = tt

-- what a command does with the text that it takes
pub filed_by_taken : (s : Settings) (ask : Ask) (text taken : Option (List ℕ)) (outcome : Outcome)
    (old new : State) → taken ≡ text_taken ask.command text
    → OverTables s (λ desk after. FilesWith s ask taken desk outcome after) old new
    → FilesOn s ask text outcome old new
filed_by_taken s ask text taken outcome old new is leads =
    subst (λ (t : Option (List ℕ)). OverTables s (λ desk after. FilesWith s ask t desk outcome after)
    old new) is leads

-- and of itself, where it takes it
pub filed_by_itself : (s : Settings) (ask : Ask) (text : List ℕ) (outcome : Outcome)
    (old new : State) → text_taken ask.command (Some text) ≡ Some text
    → FilesOn s ask (Some text) outcome old new
    → OverTables s (λ desk after. FilesWith s ask (Some text) desk outcome after) old new
filed_by_itself s ask text outcome old new takes leads =
    subst (λ (t : Option (List ℕ)). OverTables s (λ desk after. FilesWith s ask t desk outcome after)
    old new) takes leads

-- a text that a command takes is one that it takes
pub taken_again : (command : Command) (text : Option (List ℕ)) (taken : List ℕ)
    → Some taken ≡ text_taken command text → text_taken command (Some taken) ≡ Some taken
taken_again (Create queue subject status requestors) text taken is = refl
taken_again other text taken is = cc
