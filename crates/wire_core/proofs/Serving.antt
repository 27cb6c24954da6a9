-- What stands after a reply was written, and after a list of messages.
use Rattle.std.proofs.Common.{◌≡◌, ◌≢◌, ◌∙◌, ◌<◌, ◌≤◌, ◌+◌, inl, inr, ℕ, Bool, true, false, List, []}
use Rattle.std.proofs.Common.{◌∷◌, ◌++◌, Option, Some, None, Result, Ok, Err, refl, ap, sym, subst}
use Rattle.std.proofs.Common.{length, map, take, get_or}
use Rattle.std.proofs.lemmas.List.{map-append, take_all, take_more}
use Rattle.std.specs.Prelude.{OnErr, Vec, ⊤}
use Rattle.sqlite.specs.State.{HasCleanDisk, State}
use Rattle.settings_core.specs.declared.settings.Settings.{Settings}
use Rattle.desk_model.specs.Desk.{Desk}
use Rattle.desk_model.specs.IsDesk.{IsDesk}
use Rattle.store_tables.proofs.Spared.{unread}
use Rattle.store_tables.specs.Calls.{LeavesTables, WasClean}
use Rattle.stream_core.specs.Seen.{has_write_failed, held_in}
use Rattle.stream_core.specs.Streams.{ConsumesAtMost}
use Rattle.stream_core.specs.Written.{IsWritten, Prints, WritesOn}
use Rattle.stream_core.specs.declared.writer.CountedWriter.{CountedWriter}
use Rattle.message_core.specs.Fault.{is_read}
use Rattle.message_core.specs.declared.fault.WireFault.{WireFault}
use Rattle.wire_core.specs.Fault.{is_unread, tells_failed_read, tells_failed_write}
use Rattle.wire_core.specs.Runs.{IsReplyOver, Replied, RunsMessagesOn, RunsOver, Sent}
use Rattle.wire_core.specs.Runs.{all_replied, all_sent, replied_of, sent_of}
use Rattle.wire_core.specs.Served.{HasRoomOrLeft, IsAnswer, IsSent, IsServed, IsServedBy, Replies, TellsRead}
use Rattle.wire_core.specs.Served.{reply_in}
use Rattle.wire_core.specs.Steps.{CommandSteps, ReadSteps, StaysOn, StreamSteps, StreamStepsOn}
use Rattle.wire_core.specs.declared.fault.ServeFault.{ServeFault}
use Rattle.wire_core.specs.declared.fault.ServeFault.TheVariants.{NoMemory, Read, Write}
use Rattle.wire_core.specs.declared.fault.Unanswered.{Unanswered}
use Rattle.wire_core.specs.declared.fault.Unanswered.TheVariants.{NoRoom, Unread}
use Rattle.wire_core.specs.declared.room.Room.{Room}
use Rattle.wire_core.proofs.Stepping.{replied, stays}

-- ---- one message

-- a reply was written, whole or up to a write that failed
pub sent_reply : {W : Type 0} (contents : W → Option (List ℕ)) (before after : CountedWriter W)
    (reply bytes : List ℕ) (r : Result ⊤ ServeFault) → bytes ≡ reply
    → Prints contents before after bytes → OnErr r (r ≡ Err Write)
    → IsSent contents before after (Some reply) r
sent_reply contents before after reply bytes (Ok done) same printed kinds =
    subst (Prints contents before after) same printed
sent_reply contents before after reply bytes (Err Write) same printed kinds =
    subst (Prints contents before after) same printed
sent_reply contents before after reply bytes (Err Read) same printed kinds = absurd cc
sent_reply contents before after reply bytes (Err NoMemory) same printed kinds = absurd cc

-- and no read failed in it
pub not_unread : (r : Result ⊤ ServeFault) → OnErr r (r ≡ Err Write)
    → tells_failed_read r ≡ false
not_unread (Ok done) kinds = refl
not_unread (Err Write) kinds = refl
not_unread (Err Read) kinds = absurd cc
not_unread (Err NoMemory) kinds = absurd cc

-- what was answered went out, and so the message was served
pub served_by : {W D : Type 0} (contents : W → Option (List ℕ)) (tables : D → State)
    (s : Settings) (at : ℕ) (had left : Option (List ℕ)) (before after : CountedWriter W)
    (reply : Option (List ℕ)) (r : Result ⊤ ServeFault) (old new : D)
    → IsAnswer s at had left reply (tables old) (tables new) → (reply ≡ None → new ≡ old)
    → IsSent contents before after reply r
    → IsServedBy contents tables s at had left before after r old new
served_by contents tables s at had left before after (Some bytes) (Ok done) old new steps same
    sent =
    (bytes, steps, sent)
served_by contents tables s at had left before after (Some bytes) (Err Write) old new steps same
    sent =
    (bytes, steps, sent)
served_by contents tables s at had left before after (Some bytes) (Err Read) old new steps same
    sent =
    absurd sent
served_by contents tables s at had left before after (Some bytes) (Err NoMemory) old new steps same
    sent =
    absurd sent
served_by contents tables s at had left before after None (Ok done) old new kept same sent =
    absurd sent
served_by contents tables s at had left before after None (Err Write) old new kept same sent =
    absurd sent
served_by contents tables s at had left before after None (Err Read) old new kept same sent =
    (sent, same refl)
served_by contents tables s at had left before after None (Err NoMemory) old new kept same sent =
    absurd sent

reads_not : (fault : WireFault) → fault ≢ WireFault.Read → is_read fault ≡ false
reads_not WireFault.Read other = absurd (other refl)
reads_not WireFault.NoMemory other = refl
reads_not WireFault.TooLong other = refl
reads_not WireFault.Truncated other = refl
reads_not WireFault.BadHead other = refl
reads_not WireFault.BadLength other = refl

-- whether a read failed is told by there being no reply
pub unread_told : (fault : WireFault) (r : Result Room Unanswered)
    → TellsRead fault (reply_in r) → is_unread r ≡ is_read fault
unread_told fault (Ok room) told = sym (reads_not fault told.0)
unread_told fault (Err NoRoom) told = sym (reads_not fault told.0)
unread_told fault (Err Unread) told = sym (ap is_read told)

-- where there is no reply the desk is as it was
pub untouched_by : {D : Type 0} (whole : Bool) (r : Result Room Unanswered) (old new : D)
    → HasRoomOrLeft whole r old new → reply_in r ≡ None → new ≡ old
untouched_by whole (Ok room) old new given none = absurd cc
untouched_by whole (Err fault) old new same none = same

-- a text was written by a writer that hadn't failed, and whether it failed then
is_written : {W : Type 0} (contents : W → Option (List ℕ)) (before after : CountedWriter W)
    (bytes : List ℕ) (failed : Bool) → has_write_failed before ≡ false
    → has_write_failed after ≡ failed → Prints contents before after bytes
    → IsWritten failed (held_in contents before) (held_in contents after) bytes
is_written contents before after bytes failed unfailed is printed =
    subst (λ (f : Bool). IsWritten f (held_in contents before) (held_in contents after) bytes) is
    (subst (λ (f : Bool). WritesOn f (has_write_failed after) (held_in contents before)
    (held_in contents after) bytes) unfailed printed.written)

-- what a counted reader had and has left, and a counted writer held and holds, is what the reader
-- and the writer do for which they count
replies_of : (s : Settings) (at : ℕ) (had left before after h l b a : Option (List ℕ))
    (bytes : List ℕ) (failed : Bool) (old new : State) → h ≡ had → l ≡ left → b ≡ before → a ≡ after
    → StreamStepsOn s at h l bytes old new → IsWritten failed b a bytes
    → Replies s at had left before after failed old new
replies_of s at had left before after h l b a bytes failed old new had_is left_is before_is after_is
    steps written = (
      bytes,
      subst (λ (x : Option (List ℕ)). StreamStepsOn s at had x bytes old new) left_is
          (subst (λ (x : Option (List ℕ)). StreamStepsOn s at x l bytes old new) had_is steps),
      subst (λ (x : Option (List ℕ)). IsWritten failed before x bytes) after_is
          (subst (λ (x : Option (List ℕ)). IsWritten failed x a bytes) before_is written),
    )

-- so it is of a message that was served
pub served_counted : {W D : Type 0} (contents : W → Option (List ℕ)) (tables : D → State)
    (s : Settings) (at : ℕ) (had left before after h l : Option (List ℕ))
    (from to : CountedWriter W) (r : Result ⊤ ServeFault) (old new : D)
    → h ≡ had → l ≡ left → held_in contents from ≡ before → held_in contents to ≡ after
    → has_write_failed from ≡ false → has_write_failed to ≡ tells_failed_write r
    → IsServedBy contents tables s at h l from to r old new
    → IsServed s at had left before after r (tables old) (tables new)
served_counted contents tables s at had left before after h l from to (Ok done) old new had_is
    left_is before_is after_is unfailed failed served =
    replies_of s at had left before after h l (held_in contents from) (held_in contents to) served.0
    false (tables old) (tables new) had_is left_is before_is after_is served.1
    (is_written contents from to served.0 false unfailed failed served.2)
served_counted contents tables s at had left before after h l from to (Err Write) old new had_is
    left_is before_is after_is unfailed failed served =
    replies_of s at had left before after h l (held_in contents from) (held_in contents to) served.0
    true (tables old) (tables new) had_is left_is before_is after_is served.1
    (is_written contents from to served.0 true unfailed failed served.2)
served_counted {W} {D} contents tables s at had left before after h l from to (Err Read) old new
    had_is left_is before_is after_is unfailed failed served = (
      sym after_is ∙ ap (held_in contents) served.0 ∙ before_is,
      subst (λ (d : D). LeavesTables (tables old) (tables d)) (sym served.1) (unread (tables old)),
    )
served_counted contents tables s at had left before after h l from to (Err NoMemory) old new had_is
    left_is before_is after_is unfailed failed served = absurd served

-- where a read failed the desk is as it was
pub served_unread : {W D : Type 0} (contents : W → Option (List ℕ)) (tables : D → State)
    (s : Settings) (at : ℕ) (had left : Option (List ℕ)) (before after : CountedWriter W)
    (r : Result ⊤ ServeFault) (old new : D)
    → IsServedBy contents tables s at had left before after r old new → r ≡ Err Read → new ≡ old
served_unread contents tables s at had left before after (Ok done) old new served is = absurd cc
served_unread contents tables s at had left before after (Err Write) old new served is = absurd cc
served_unread contents tables s at had left before after (Err Read) old new served is = served.1
served_unread contents tables s at had left before after (Err NoMemory) old new served is =
    absurd served

-- what a counted reader lost is what the reader lost for which it counts
pub taken_of : (had left h l : Option (List ℕ)) (most : ℕ) → h ≡ had → l ≡ left
    → ConsumesAtMost h l most → ConsumesAtMost had left most
taken_of had left h l most had_is left_is taken =
    subst (λ (x : Option (List ℕ)). ConsumesAtMost had x most) left_is
    (subst (λ (x : Option (List ℕ)). ConsumesAtMost x l most) had_is taken)

-- ---- a message step leaves a well-formed desk

formed_command : (s : Settings) (at : ℕ) (message : _) (asked : _) (old : Desk) (bytes : List ℕ)
    (new : Desk) → IsDesk old → CommandSteps s at message asked old bytes new → IsDesk new
formed_command s at message (Err fault) old bytes new is did = subst IsDesk (sym did.1) is
formed_command s at message (Ok asked) old bytes new is did = did.1.laws.desk

formed_read : (s : Settings) (at : ℕ) (read : _) (old : Desk) (bytes : List ℕ) (new : Desk)
    → IsDesk old → ReadSteps s at read old bytes new → IsDesk new
formed_read s at (Err fault) old bytes new is told = subst IsDesk (sym told.1) is
formed_read s at (Ok message) old bytes new is (inl left) = subst IsDesk (sym left.1) is
formed_read s at (Ok message) old bytes new is (inr did) =
    formed_command s at message _ old bytes new is did

pub formed_stream : (s : Settings) (at : ℕ) (had left : Option (List ℕ)) (old : Desk)
    (bytes : List ℕ) (new : Desk) → IsDesk old → StreamSteps s at had left old bytes new
    → IsDesk new
formed_stream s at had left old bytes new is did =
    formed_read s at did.0 old bytes new is did.2

-- ---- a run

module _ {D : Type 0} (tables : D → State) (s : Settings) where
  -- a disk that is clean after a run was clean before it
  clean_run : (sent : List Sent) (replies : List Replied) (old new : D)
      → RunsOver tables s sent replies old new → WasClean (tables old) (tables new)
  clean_run [] [] old new same clean = subst (λ (d : D). HasCleanDisk (tables d)) same clean
  clean_run (m ∷ sent) (r ∷ replies) old new run clean =
      run.2 (clean_run sent replies run.0 new run.3 clean)
  clean_run [] (r ∷ replies) old new run clean = absurd run
  clean_run (m ∷ sent) [] old new run clean = absurd run

  -- a run over tables is one of whatever desk they stand for
  pub run_leads : (sent : List Sent) (replies : List Replied) (old new : D)
      → RunsOver tables s sent replies old new
      → RunsMessagesOn s sent replies (tables old) (tables new)
  run_leads [] [] old new same desk is stand clean =
      subst (λ (d : D). StaysOn s (tables old) (tables d)) (sym same) (stays s (tables old)) desk is
      stand clean
  run_leads (m ∷ sent) (r ∷ replies) old new run desk is stand clean =
      let between = clean_run sent replies run.0 new run.3 clean in
      let here = replied s m r (tables old) (tables run.0) run.1 desk is stand between in
      let then = run_leads sent replies run.0 new run.3 here.0 here.1.1 here.2 clean in
      (then.0, ((here.0, here.1.0, then.1.0), then.1.1), then.2)
  run_leads [] (r ∷ replies) old new run desk is stand clean = absurd run
  run_leads (m ∷ sent) [] old new run desk is stand clean = absurd run

  run_more : (sent : List Sent) (replies : List Replied) (m : Sent) (r : Replied)
      (old mid new : D)
      → RunsOver tables s sent replies old mid → IsReplyOver s m r (tables mid) (tables new)
      → WasClean (tables mid) (tables new)
      → RunsOver tables s (sent ++ m ∷ []) (replies ++ r ∷ []) old new
  run_more [] [] m r old mid new same did honest = (
    new,
    subst (λ (d : D). IsReplyOver s m r (tables d) (tables new)) same did,
    subst (λ (d : D). WasClean (tables d) (tables new)) same honest,
    refl,
  )
  run_more (a ∷ sent) (b ∷ replies) m r old mid new run did honest =
      (run.0, run.1, run.2, run_more sent replies m r run.0 mid new run.3 did honest)
  run_more [] (b ∷ replies) m r old mid new run did honest = absurd run
  run_more (a ∷ sent) [] m r old mid new run did honest = absurd run

map_more : {X Y : Type 0} (f : X → Y) (xs : List X) (i : ℕ) (d : X) → i < length xs
    → map f (take (i + 1) xs) ≡ map f (take i xs) ++ f (get_or xs i d) ∷ []
map_more f xs i d low =
    ap (map f) (take_more xs i d low) ∙ map-append f (take i xs) (get_or xs i d ∷ [])

-- the next of the messages
pub run_on : {A B D : Type 0} (tables : D → State) (s t : Settings) (all : List (ℕ × Vec ℕ A))
    (i : ℕ) (item : ℕ × Vec ℕ A) (seen : List ℕ)
    (before after : List (Result (Vec ℕ B) ServeFault)) (r : Result (Vec ℕ B) ServeFault)
    (old mid new : D)
    → i < length all → after ≡ before ++ r ∷ [] → t ≡ s
    → item ≡ get_or all i item → seen ≡ item.1.items
    → RunsOver tables s (map sent_of (take i all)) (all_replied before) old mid
    → WasClean (tables mid) (tables new)
    → IsReplyOver t (item.0, seen) (replied_of r) (tables mid) (tables new)
    → RunsOver tables s (map sent_of (take (i + 1) all)) (all_replied after) old new
run_on tables s t all i item seen before after r old mid new low pushed same is shown run honest
    step =
    let sent = map sent_of (take i all) in
    let shown_step =
    subst (λ (bytes : List ℕ). IsReplyOver t (item.0, bytes) (replied_of r) (tables mid)
    (tables new)) shown step in
    let this_step =
    subst (λ (x : Settings). IsReplyOver x (sent_of item) (replied_of r) (tables mid) (tables new))
    same shown_step in
    let goes =
    run_more tables s sent (all_replied before) (sent_of item) (replied_of r) old mid new run
    this_step honest in
    let grown = map_more sent_of all i item low ∙ ap (λ x. sent ++ sent_of x ∷ []) (sym is) in
    let longer = ap all_replied pushed ∙ map-append replied_of before (r ∷ []) in
    subst (λ (xs : List Sent). RunsOver tables s xs (all_replied after) old new) (sym grown)
    (subst (λ (rs : List Replied). RunsOver tables s (sent ++ sent_of item ∷ []) rs old new)
    (sym longer) goes)

pub all_run : {A D : Type 0} (tables : D → State) (s : Settings) (all : List (ℕ × Vec ℕ A))
    (i : ℕ) (replies : List Replied) (old new : D) → length all ≤ i
    → RunsOver tables s (map sent_of (take i all)) replies old new
    → RunsOver tables s (all_sent all) replies old new
all_run tables s all i replies old new whole run =
    subst (λ (xs : List (ℕ × Vec ℕ _)). RunsOver tables s (map sent_of xs) replies old new)
    (take_all i all whole) run
