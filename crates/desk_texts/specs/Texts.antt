-- The texts of answers and refusals, as lists of bytes.
use Rattle.std.specs.Prelude.{ℕ, List, [], ◌∷◌, ◌++◌, Option, Ok, Err, codes, decimal}
use Rattle.std.specs.List.{flat_map}
use Rattle.hours_core.specs.Date.{text_of_minute}
use Rattle.desk_model.specs.Refusals.{number_of, name_of}
use Rattle.desk_model.specs.Step.{Outcome}
use Rattle.desk_model.specs.declared.answer.Answer.{Answer}
use Rattle.desk_model.specs.declared.answer.Answer.TheVariants as answer
use Rattle.desk_model.specs.declared.answer.Links.{Links}
use Rattle.desk_model.specs.declared.answer.Shown.{Shown}
use Rattle.desk_model.specs.declared.refusal.Refusal.{Refusal}
use Rattle.desk_model.specs.declared.refusal.Refusal.TheVariants.{Denied}
use Rattle.desk_model.specs.declared.rows.RequestRow.{RequestRow}
use Rattle.desk_texts.specs.Texts.History.{history_text}
use Rattle.desk_texts.specs.Texts.Listed.{list_text}
use Rattle.desk_texts.specs.Texts.Overdue.{overdue_text}
use Rattle.desk_texts.specs.Texts.Queues.{queues_text}
use Rattle.desk_texts.specs.Texts.Workload.{workload_text}
use Rattle.desk_texts.specs.Words.{minute_or_dash, or_dash, or_nobody}
pub mod History
pub mod Listed
pub mod Overdue
pub mod Queues
pub mod Workload

-- a label, its value and a line feed
unfoldable pub line : List ℕ → List ℕ → List ℕ
line label value = label ++ (codes ": " ++ (value ++ codes "\n"))

abbrev pub after_space : List ℕ → List ℕ
after_space text = codes " " ++ text

-- the texts, each but the first after a space, or a dash for none
abbrev pub listed : List (List ℕ) → List ℕ
listed [] = codes "-"
listed (first ∷ rest) = first ++ flat_map after_space rest

abbrev pub after_number : ℕ → List ℕ
after_number n = after_space (decimal n)

-- the same of numbers in digits
abbrev pub numbers : List ℕ → List ℕ
numbers [] = codes "-"
numbers (first ∷ rest) = decimal first ++ flat_map after_number rest

abbrev pub row_lines : RequestRow → List ℕ
row_lines row =
    line (codes "id") (decimal row.id)
    ++ (line (codes "queue") row.queue
    ++ (line (codes "subject") row.subject
    ++ (line (codes "status") row.status
    ++ line (codes "owner") (or_nobody row.owner))))

abbrev pub person_lines : Shown → List ℕ
person_lines shown =
    line (codes "requestors") (listed shown.requestors)
    ++ (line (codes "cc") (listed shown.cc)
    ++ line (codes "admincc") (listed shown.admin_cc))

abbrev pub moment_lines : RequestRow → Option ℕ → List ℕ
moment_lines row due =
    line (codes "level") (or_dash row.level)
    ++ (line (codes "created") (text_of_minute row.created)
    ++ line (codes "due") (minute_or_dash due))

-- both directions of one kind of link
unfoldable pub both_lines : List ℕ → List ℕ → List ℕ → List ℕ → List ℕ
both_lines label there back_label back =
    line label (numbers there) ++ line back_label (numbers back)

abbrev pub link_lines : Links → List ℕ
link_lines links =
    both_lines (codes "DependsOn") links.depends_on (codes "DependedOnBy") links.depended_on_by
    ++ (both_lines (codes "MemberOf") links.member_of (codes "HasMember") links.has_member
    ++ both_lines (codes "RefersTo") links.refers_to (codes "ReferredToBy") links.referred_to_by)

-- a request, a line for each of its parts
abbrev pub show_text : Shown → List ℕ
show_text shown =
    row_lines shown.row
    ++ (person_lines shown ++ (moment_lines shown.row shown.due ++ link_lines shown.links))

abbrev pub done_text : List ℕ
done_text = codes "ok\n"

abbrev pub created_text : ℕ → List ℕ
created_text id = codes "request " ++ (decimal id ++ codes "\n")

abbrev pub answer_text : Answer → List ℕ
answer_text answer.Done = done_text
answer_text (answer.Created id) = created_text id
answer_text (answer.Queues queues) = queues_text queues
answer_text (answer.Shown shown) = show_text shown
answer_text (answer.Listed requests) = list_text requests
answer_text (answer.History entries) = history_text entries
answer_text (answer.Late requests) = overdue_text requests
answer_text (answer.Workload loads) = workload_text loads

-- a refusal's number and name, and what comes after them
abbrev pub refused_text : Refusal → List ℕ → List ℕ
refused_text refusal rest =
    codes "refused "
    ++ (decimal (number_of refusal) ++ (codes " " ++ (name_of refusal ++ (rest ++ codes "\n"))))

-- the right that is lacking comes after the name
abbrev pub right_text : Refusal → List ℕ
right_text (Denied right) = codes " " ++ right
right_text other = []

abbrev pub refusal_text : Refusal → List ℕ
refusal_text refusal = refused_text refusal (right_text refusal)

abbrev pub outcome_text : Outcome → List ℕ
outcome_text (Ok answer) = answer_text answer
outcome_text (Err refusal) = refusal_text refusal
