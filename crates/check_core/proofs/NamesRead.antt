-- The first name that settings don't know, by what is read of the tables.
use Rattle.std.proofs.Common.{◌≡◌, ◌∙◌, ℕ, Bool, true, false, List, [], ◌∷◌, ◌++◌, Option, None, Some}
use Rattle.std.proofs.Common.{All, Err, IfErr, IfOk, Ok, Result, ap, ap₂, drop, flat_map, get_or, length}
use Rattle.std.proofs.Common.{map, refl, subst, sym, ◌+◌, ◌<◌, ◌≤◌}
use Rattle.std.proofs.lemmas.List.{drop_all}
use Rattle.std.proofs.lemmas.List.Elements.{All-head, All-tail}
use Rattle.std.specs.Option.{option_map, option_or}
use Rattle.std.specs.Prelude.{if◌then◌else◌, is_none, String, string_bytes, ⊤}
use Rattle.sqlite.specs.State.{State, HasCleanDisk}
use Rattle.settings_core.specs.Settings.{knows}
use Rattle.settings_core.specs.declared.settings.Settings.{Settings}
use Rattle.desk_model.specs.Desk.{Desk, Request, request_at}
use Rattle.desk_model.specs.IsDesk.{IsDesk}
use Rattle.desk_model.specs.declared.rows.Entry.{Entry}
use Rattle.desk_model.specs.declared.rows.QueueRow.{QueueRow}
use Rattle.desk_model.specs.declared.rows.RequestRow.{RequestRow}
use Rattle.desk_core.proofs.EachRequest.{found_each}
use Rattle.store_tables.specs.Calls.{LeavesTables}
use Rattle.store_tables.specs.Contents.{entries, history_at, request_rows, watchers}
use Rattle.store_tables.specs.Readings.{MismatchMeansBadRow}
use Rattle.store_tables.specs.Stands.{Represents}
use Rattle.store_tables.specs.declared.fault.StoreFault.{StoreFault}
use Rattle.store_tables.specs.declared.fault.StoreFault.TheVariants.{Refused}
use Rattle.store_tables.proofs.ReadOn.{blames_after, blames_failed, blames_refused}
use Rattle.store_tables.proofs.ReadingLemmas.{if_ok}
use Rattle.store_tables.proofs.Spared.{joined, stands_for, unread}
use Rattle.check_core.specs.Rows.{Unknown, first_unknown, histories, seen, unknown_entry}
use Rattle.check_core.specs.Rows.{unknown_person, unknown_row, unknown_watcher}
use Rattle.check_core.specs.Tables.{TellsName, TellsUnknown}
use Rattle.check_core.specs.Words.{unknown_text}
use Rattle.check_core.specs.declared.rows.Unknown.{Unknown as UnknownInCode}
use Rattle.check_core.proofs.Naming.{known_of_none}
use Rattle.check_core.proofs.Searching.{rest_of}

-- ---- the first of two

none_told : {X Y : Type 0} (f : X → Y) (o : Option X) → None ≡ option_map f o → o ≡ None
none_told f None is = refl
none_told f (Some x) is = absurd (cc)

first_told : {X Y : Type 0} (f : X → Y) (a b : Option X) (y : Y) → Some y ≡ option_map f a
    → Some y ≡ option_map f (option_or a b)
first_told f None b y is = absurd (cc)
first_told f (Some x) b y is = is

words_of : (u : Option UnknownInCode)
    → option_map (λ f. unknown_text (seen f)) u ≡ option_map unknown_text (option_map seen u)
words_of None = refl
words_of (Some f) = refl

-- ---- entries

of_rest : {X : Type 0} (b : Bool) (a c d : Option X) (x : X) → a ≡ option_or c d
    → (if b then a else Some x) ≡ option_or (if b then c else Some x) d
of_rest true a c d x is = is
of_rest false a c d x is = refl

entries_joined : (s : Settings) (xs ys : List Entry)
    → unknown_entry s (xs ++ ys) ≡ option_or (unknown_entry s xs) (unknown_entry s ys)
entries_joined s [] ys = refl
entries_joined s (e ∷ es) ys =
    of_rest (knows s e.actor) (unknown_entry s (es ++ ys)) (unknown_entry s es)
    (unknown_entry s ys) _ (entries_joined s es ys)

each_history : (desk : Desk) (rs : List Request) → All (λ r. request_at desk r.row.id ≡ Some r) rs
    → histories (map (λ r. r.row) rs) desk ≡ flat_map (λ (r : Request). r.entries) rs
each_history desk [] found = refl
each_history desk (r ∷ rs) found =
    let IsFound = λ (x : Request). request_at desk x.row.id ≡ Some x in
    simp (All-head IsFound r rs found, each_history desk rs (All-tail IsFound r rs found))

histories_of : (desk : Desk) → IsDesk desk → histories (request_rows desk) desk ≡ entries desk
histories_of desk is = each_history desk desk.requests (found_each 1 desk.requests is.requests)

-- ---- rows, and then persons

module _ (s : Settings) (desk : Desk) {queues : List QueueRow} {requests : List RequestRow}
    (these : queues ≡ desk.queues) (those : requests ≡ request_rows desk)
  where
    abbrev rest : List Entry → Option Unknown
    rest es = option_or (unknown_watcher s (watchers desk)) (unknown_entry s es)

    rows_read : unknown_row s desk.queues (request_rows desk) ≡ unknown_row s queues requests
    rows_read = sym (ap₂ (unknown_row s) these those)

    pub first_of_row : (u : Unknown) → unknown_row s queues requests ≡ Some u
        → Some u ≡ first_unknown s desk
    unfolding first_unknown
    first_of_row u is = sym (ap (λ o. option_or o (rest (entries desk))) (rows_read ∙ is))

    pub first_of_person : IsDesk desk → unknown_row s queues requests ≡ None
        → unknown_person s requests desk ≡ first_unknown s desk
    unfolding first_unknown
    first_of_person is none =
        ap rest (ap (λ (rs : List RequestRow). histories rs desk) those ∙ histories_of desk is)
        ∙ sym (ap (λ o. option_or o (rest (entries desk))) (rows_read ∙ none))

-- ---- what is told by it

pub told_failed : {A : Type 0} {name : Desk → Option Unknown} {a b : State} {e : StoreFault}
    {r : Result (Option (String A)) StoreFault} → LeavesTables a b
    → (let it : Result ⊤ StoreFault = Err e in MismatchMeansBadRow a b it) → r ≡ Err e
    → TellsUnknown name a b r
told_failed kept blames is =
    record { told = λ desk d stand clean. rw is tt; kept = kept; blames = blames_failed blames is }

-- a reading, and then what tells of it
pub told_after : {A : Type 0} {name other : Desk → Option Unknown} {a b c : State}
    {r : Result (Option (String A)) StoreFault} → LeavesTables a b
    → ((desk : Desk) → IsDesk desk → Represents desk a → HasCleanDisk b → other desk ≡ name desk)
    → TellsUnknown other b c r → TellsUnknown name a c r
told_after {r = r} kept same it = record {
  told = λ desk is stand clean.
      if_ok r
      (λ found words. words
      ∙ ap (option_map unknown_text) (same desk is stand (it.kept.clean clean)))
      (it.told desk is (stands_for kept desk stand) clean);
  kept = joined kept it.kept;
  blames = blames_after kept it.kept.clean it.blames;
}

-- what is found in what was read
pub told_by : {A : Type 0} {name : Desk → Option Unknown} {a b : State}
    {r : Result (Option (String A)) StoreFault} (u : Option UnknownInCode) → LeavesTables a b
    → ((desk : Desk) → IsDesk desk → Represents desk a → HasCleanDisk b
    → option_map seen u ≡ name desk)
    → IfOk r (λ told. option_map string_bytes told ≡ option_map (λ f. unknown_text (seen f)) u)
    → IfErr r (λ e. e ≡ Refused) → TellsUnknown name a b r
told_by {r = r} u kept same words fault = record {
  told = λ desk is stand clean.
      if_ok r
      (λ found its. its ∙ words_of u ∙ ap (option_map unknown_text) (same desk is stand clean))
      words;
  kept = kept;
  blames = blames_refused r fault;
}

-- none is told, and then the first of others
pub second_of : {A : Type 0} {name other : Desk → Option Unknown} {a b c : State}
    {r : Result (Option (String A)) StoreFault} → TellsUnknown {A = A} name a b (Ok None)
    → TellsUnknown other b c r → TellsUnknown (λ desk. option_or (name desk) (other desk)) a c r
second_of {name = name} {other} first second =
    told_after first.kept
    (λ desk is stand clean.
    sym (ap (λ o. option_or o (other desk))
    (none_told unknown_text (name desk) (first.told desk is stand clean))))
    second

-- the first is told
pub first_of : {A : Type 0} {name : Desk → Option Unknown} {a b : State} {told : String A}
    (other : Desk → Option Unknown) → TellsUnknown {A = A} name a b (Ok (Some told))
    → TellsUnknown {A = A} (λ desk. option_or (name desk) (other desk)) a b (Ok (Some told))
first_of {name = name} {told = told} other it = record {
  told = λ desk is stand clean.
      first_told unknown_text (name desk) (other desk) (string_bytes told)
      (it.told desk is stand clean);
  kept = it.kept;
  blames = record { known = tt; mismatch = tt };
}

-- ---- of the histories of requests, one after another

pub record HistoriesLeft (s : Settings) (requests : List RequestRow) (i : ℕ) (old now : State) :
    Type 0 where
  pub kept : LeavesTables old now
  pub rest : (desk : Desk) → IsDesk desk → Represents desk old → HasCleanDisk now
      → unknown_entry s (histories (drop i requests) desk) ≡ unknown_entry s (histories requests desk)

pub none_searched : (s : Settings) (requests : List RequestRow) (a : State)
    → HistoriesLeft s requests 0 a a
none_searched s requests a =
    record { kept = unread a; rest = λ desk is stand clean. refl }

abbrev pub IsToldOf : {A : Type 0} → Settings → List RequestRow → State → State
    → Result (Option (String A)) StoreFault → Type 0
IsToldOf s requests old new result =
    TellsUnknown (λ desk. unknown_entry s (histories requests desk)) old new result

abbrev pub IsToldAt : {A : Type 0} → Settings → RequestRow → State → State → Result (Option (String A)) StoreFault
    → Type 0
IsToldAt s request old new result =
    TellsUnknown (λ desk. unknown_entry s (history_at desk request.id)) old new result

module _ (s : Settings) (requests : List RequestRow) (i : ℕ) {old mid : State}
    (left : HistoriesLeft s requests i old mid)
  where
    pub none_left : {A : Type 0} → length requests ≤ i → IsToldOf {A = A} s requests old mid (Ok None)
    none_left past = record {
      told = λ desk is stand clean.
          ap (option_map unknown_text)
          (ap (λ (rs : List RequestRow). unknown_entry s (histories rs desk))
          (sym (drop_all i requests past))
          ∙ left.rest desk is stand clean);
      kept = left.kept;
      blames = record { known = tt; mismatch = tt };
    }

    module _ (request : RequestRow) (low : i < length requests)
        (is_next : request ≡ get_or requests i request)
      where
        abbrev later : Desk → List Entry
        later desk = histories (drop (i + 1) requests) desk

        in_two : (desk : Desk) → IsDesk desk → Represents desk old → HasCleanDisk mid
            → option_or (unknown_entry s (history_at desk request.id)) (unknown_entry s (later desk))
            ≡ unknown_entry s (histories requests desk)
        in_two desk is stand clean =
            sym (entries_joined s (history_at desk request.id) (later desk))
            ∙ ap (λ (rs : List RequestRow). unknown_entry s (histories rs desk))
            (rest_of requests i request low is_next)
            ∙ left.rest desk is stand clean

        module _ {A : Type 0} {new : State} where
          pub next_left : IsToldAt {A = A} s request mid new (Ok None)
              → HistoriesLeft s requests (i + 1) old new
          next_left it = record {
            kept = joined left.kept it.kept;
            rest = λ desk is stand clean.
                let none = none_told unknown_text (unknown_entry s (history_at desk request.id))
                (it.told desk is (stands_for left.kept desk stand) clean) in
                sym (ap (λ o. option_or o (unknown_entry s (later desk))) none)
                ∙ in_two desk is stand (it.kept.clean clean);
          }

          pub some_left : {told : String A} → IsToldAt {A = A} s request mid new (Ok (Some told))
              → IsToldOf {A = A} s requests old new (Ok (Some told))
          some_left {told} it = record {
            told = λ desk is stand clean.
                first_told unknown_text (unknown_entry s (history_at desk request.id))
                (unknown_entry s (later desk)) (string_bytes told)
                (it.told desk is (stands_for left.kept desk stand) clean)
                ∙ ap (option_map unknown_text) (in_two desk is stand (it.kept.clean clean));
            kept = joined left.kept it.kept;
            blames = record { known = tt; mismatch = tt };
          }

          pub fault_left : {e : StoreFault} {r : Result (Option (String A)) StoreFault}
              → IsToldAt {A = A} s request mid new (Err e) → r ≡ Err e
              → IsToldOf {A = A} s requests old new r
          fault_left it is = record {
            told = λ desk d stand clean. rw is tt;
            kept = joined left.kept it.kept;
            blames = blames_failed (blames_after left.kept it.kept.clean it.blames) is;
          }

-- ---- of a desk that has such a name

pub none_lacked : {A : Type 0} (s : Settings) {old new : State} (told : List ℕ)
    → TellsUnknown {A = A} (first_unknown s) old new (Ok None) → TellsName s old new told
none_lacked s told it desk is stand lacks clean =
    let none = none_told unknown_text (first_unknown s desk) (it.told desk is stand clean) in
    absurd (let no = sym lacks ∙ known_of_none s desk ∙ ap is_none none in cc)

pub first_lacked : {A : Type 0} (s : Settings) {old new : State} {told : String A}
    → TellsUnknown (first_unknown s) old new (Ok (Some told)) → TellsName s old new (string_bytes told)
first_lacked s it desk is stand lacks clean = sym (it.told desk is stand clean)

-- what is so of whatever is answered
pub if_any : {T E : Type 0} {P : T → Type 0} (r : Result T E) → ((x : T) → P x) → IfOk r P
if_any (Ok x) all = all x
if_any (Err e) all = tt
