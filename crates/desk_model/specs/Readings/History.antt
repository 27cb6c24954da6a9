-- Tells the history of a request, without the comments that the caller may not see.
use Rattle.std.specs.Prelude.{ℕ, Bool, true, false, not, ◌||◌, nat_lt, List, filter}
use Rattle.settings_core.specs.declared.settings.Settings.{Settings}
use Rattle.desk_model.specs.Desk.{Desk, Request, request_at}
use Rattle.desk_model.specs.Facts.{seen_request}
use Rattle.desk_model.specs.Plan.{Call, Plan, OneRequest, Reads, answer_of_request}
use Rattle.desk_model.specs.Rights.{may_show_comments}
use Rattle.desk_model.specs.declared.answer.Answer.{Answer}
use Rattle.desk_model.specs.declared.answer.Answer.TheVariants as answer
use Rattle.desk_model.specs.declared.rows.Entry.{Entry}
use Rattle.desk_model.specs.declared.rows.EntryKind.{EntryKind}
use Rattle.desk_model.specs.declared.rows.EntryKind.TheVariants.{Comment}

abbrev pub is_comment : EntryKind → Bool
is_comment Comment = true
is_comment other = false

-- an entry is told unless it is a comment that the caller may not see
abbrev pub is_told : Settings → List ℕ → Request → Entry → Bool
is_told settings caller request entry =
    not (is_comment entry.kind) || may_show_comments settings caller (seen_request request)

-- the entries of a request that the caller is told of, with their own numbers
abbrev pub entries_told : Settings → List ℕ → Request → List Entry
entries_told settings caller request = filter (is_told settings caller request) request.entries

abbrev pub has_lower_number : Entry → Entry → Bool
has_lower_number a b = nat_lt a.number b.number

abbrev pub told : ℕ → Call → Desk → Answer
told id call desk =
    answer_of_request (request_at desk id)
    (λ request. answer.History (entries_told call.settings call.caller request))

abbrev pub reading : ℕ → Plan
reading id = Reads (OneRequest id) (told id)
