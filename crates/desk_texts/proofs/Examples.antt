-- Examples of the definitions: the text of each kind of answer with its columns and of refusals, a
-- text on one line, and what stands for nothing.
use Rattle.std.specs.Prelude.{◌≡◌, refl, true, false, [], ◌∷◌, ◌++◌, codes, Some, None}
use Rattle.std.specs.Prelude.{Ok, Err}
use Rattle.std.specs.Fmt.{char_count, digits}
use Rattle.std.specs.Str.{chars}
use Rattle.std.proofs.Common.{arith}
use Rattle.std.proofs.lemmas.Str.{encode_ascii}
use Rattle.hours_core.specs.Date.{text_of_minute}
use Rattle.desk_model.specs.declared.answer.Answer.TheVariants as answer
use Rattle.desk_model.specs.declared.answer.Links.{Links}
use Rattle.desk_model.specs.declared.refusal.Refusal.TheVariants.{Denied, NotFound, Unavailable}
use Rattle.desk_model.specs.declared.rows.EntryKind.TheVariants as kind
use Rattle.desk_model.specs.declared.rows.RequestRow.{RequestRow}
use Rattle.desk_model.specs.declared.rows.Turn.TheVariants.{Desk}
use Rattle.desk_texts.specs.Columns.{left, right, right_number}
use Rattle.desk_texts.specs.Short.{is_short}
use Rattle.desk_texts.specs.Texts.{both_lines, line, link_lines, listed, moment_lines}
use Rattle.desk_texts.specs.Texts.{numbers, outcome_text, person_lines, refusal_text, row_lines}
use Rattle.desk_texts.specs.Texts.History.{columns as entry_columns, entry_words, history_text}
use Rattle.desk_texts.specs.Texts.History.{on_one_line}
use Rattle.desk_texts.specs.Texts.Listed.{columns as list_columns, list_text}
use Rattle.desk_texts.specs.Texts.Overdue.{columns as late_columns, overdue_text}
use Rattle.desk_texts.specs.Texts.Queues.{queues_text}
use Rattle.desk_texts.specs.Texts.Workload.{columns as load_columns, workload_text}
use Rattle.desk_texts.specs.Words.{minute_or_dash, or_dash, or_nobody}

-- Words.antt

dash_for_none : or_dash None ≡ codes "-"
dash_for_none = refl

nobody_for_none : or_nobody None ≡ codes "Nobody"
nobody_for_none = refl

owner_by_name : or_nobody (Some (codes "bob")) ≡ codes "bob"
owner_by_name = refl

no_moment : minute_or_dash None ≡ codes "-"
no_moment = refl

-- Columns.antt

text_at_the_left : left 5 (codes "abc") ≡ codes "abc  "
unfolding char_count
text_at_the_left = refl

text_at_the_right : right 5 (codes "abc") ≡ codes "  abc"
unfolding char_count
text_at_the_right = refl

text_of_the_width : left 3 (codes "abc") ≡ codes "abc"
unfolding char_count
text_of_the_width = refl

longer_text_stands_whole : right 2 (codes "abc") ≡ codes "abc"
unfolding char_count
longer_text_stands_whole = refl

-- é, of two bytes
width_counts_characters : left 3 (195 ∷ 169 ∷ []) ≡ 195 ∷ 169 ∷ 32 ∷ 32 ∷ []
unfolding char_count
width_counts_characters = refl

number_at_the_right : right_number 5 42 ≡ codes "   42"
unfolding digits
number_at_the_right = refl

-- Texts.antt: short answers and refusals

done_is_told : outcome_text (Ok answer.Done) ≡ codes "ok\n"
done_is_told = refl

filed_is_told : outcome_text (Ok (answer.Created 12)) ≡ codes "request 12\n"
unfolding digits
filed_is_told = refl

refusal_with_its_number : outcome_text (Err NotFound) ≡ codes "refused 4 NotFound\n"
unfolding digits
refusal_with_its_number = refl

refusal_of_two_digits : refusal_text Unavailable ≡ codes "refused 16 Unavailable\n"
unfolding digits
refusal_of_two_digits = refl

denied_names_its_right :
    refusal_text (Denied (codes "OwnTicket")) ≡ codes "refused 6 Denied OwnTicket\n"
unfolding digits
denied_names_its_right = refl

created_is_short : is_short (Ok (answer.Created 12)) ≡ true
created_is_short = refl

list_is_not_short : is_short (Ok (answer.Queues [])) ≡ false
list_is_not_short = refl

refusal_is_short : is_short (Err NotFound) ≡ true
refusal_is_short = refl

-- Texts.antt: a request

no_names : listed [] ≡ codes "-"
no_names = refl

three_names : listed (codes "ann" ∷ codes "bob" ∷ codes "cid" ∷ []) ≡ codes "ann bob cid"
three_names = refl

no_numbers : numbers [] ≡ codes "-"
no_numbers = refl

two_numbers : numbers (2 ∷ 10 ∷ []) ≡ codes "2 10"
unfolding digits
two_numbers = refl

abbrev row : RequestRow
row =
    record {
      id = 1;
      queue = codes "support";
      subject = codes "The printer is jammed";
      status = codes "open";
      owner = None;
      level = Some (codes "standard");
      created = 29919660;
      opened = 29919660;
      turn = Desk;
      since = 29919660;
    }

lines_of_a_row :
    row_lines row
    ≡ codes "id: 1\nqueue: support\nsubject: The printer is jammed\nstatus: open\nowner: Nobody\n"
unfolding line digits
lines_of_a_row = refl

lines_of_moments :
    moment_lines row None
    ≡ codes "level: standard\ncreated: "
    ++ ((text_of_minute 29919660 ++ codes "\n") ++ codes "due: -\n")
unfolding line
lines_of_moments = refl

abbrev links : Links
links =
    record {
      depends_on = 2 ∷ 3 ∷ [];
      depended_on_by = [];
      member_of = [];
      has_member = 4 ∷ [];
      refers_to = [];
      referred_to_by = 5 ∷ [];
    }

lines_of_persons :
    person_lines
    (record {
      row = row;
      requestors = codes "ann" ∷ codes "cid" ∷ [];
      cc = [];
      admin_cc = codes "dora" ∷ [];
      due = None;
      links = links;
    })
    ≡ codes "requestors: ann cid\ncc: -\nadmincc: dora\n"
unfolding line
lines_of_persons = refl

lines_of_links :
    link_lines links
    ≡ codes "DependsOn: 2 3\nDependedOnBy: -\nMemberOf: -\nHasMember: 4\n"
    ++ codes "RefersTo: -\nReferredToBy: 5\n"
unfolding line both_lines digits
lines_of_links = refl

-- Texts/Queues.antt

header_of_no_queues : queues_text [] ≡ codes "queue                lifecycle            level\n"
unfolding char_count
header_of_no_queues = refl

two_queues :
    queues_text
    (record { name = codes "general"; lifecycle = codes "default"; level = None }
    ∷ record { name = codes "sales"; lifecycle = codes "orders"; level = Some (codes "fast") } ∷ [])
    ≡ codes "queue                lifecycle            level\n"
    ++ (codes "general              default              -\n"
    ++ codes "sales                orders               fast\n")
unfolding char_count
two_queues = refl

-- Texts/Listed.antt

header_of_no_requests :
    list_text []
    ≡ codes "     id status               owner                due              subject\n"
unfolding char_count list_columns
header_of_no_requests = refl

one_request :
    list_text
    (record {
      id = 1;
      status = codes "open";
      owner = Some (codes "bob");
      due = None;
      subject = codes "Printer";
    }
    ∷ [])
    ≡ codes "     id status               owner                due              subject\n"
    ++ codes "      1 open                 bob                  -                Printer\n"
unfolding char_count list_columns digits
one_request = refl

-- Texts/Overdue.antt

header_of_no_late_requests :
    overdue_text []
    ≡ codes "     id queue                owner                due                  late\n"
unfolding char_count late_columns
header_of_no_late_requests = refl

late_by_a_minute :
    late_columns (codes "1") (codes "general") (codes "Nobody") (codes "2026-03-09 09:30")
    (codes "1")
    ≡ codes "      1 general              Nobody               2026-03-09 09:30        1\n"
unfolding char_count late_columns
late_by_a_minute = refl

-- Texts/Workload.antt

no_load :
    workload_text []
    ≡ codes "owner                   open overdue\nTotal                      0       0\n"
unfolding char_count load_columns digits
no_load = refl

-- with the sums, those of nobody among them
two_loads :
    workload_text
    (record { owner = None; live = 2; overdue = 2 }
    ∷ record { owner = Some (codes "bob"); live = 1; overdue = 0 } ∷ [])
    ≡ codes "owner                   open overdue\n"
    ++ (codes "Nobody                     2       2\n"
    ++ (codes "bob                        1       0\n"
    ++ codes "Total                      3       2\n"))
unfolding char_count load_columns digits
two_loads = refl

-- Texts/History.antt

no_history : history_text [] ≡ []
no_history = refl

columns_of_an_entry :
    entry_columns 12 (codes "2026-11-20 13:00") (codes "ann")
    ≡ codes "   12 2026-11-20 13:00 ann                  "
unfolding char_count entry_columns digits
columns_of_an_entry = refl

words_of_a_filing : entry_words kind.Create [] (codes "new") ≡ codes "create new"
words_of_a_filing = refl

words_of_a_move : entry_words kind.Status (codes "new") (codes "open") ≡ codes "status new open"
words_of_a_move = refl

words_of_an_owner : entry_words kind.Owner (codes "Nobody") (codes "bob") ≡ codes "owner Nobody bob"
words_of_an_owner = refl

words_of_a_link : entry_words kind.Link (codes "DependsOn") (codes "2") ≡ codes "link DependsOn 2"
words_of_a_link = refl

-- a text's own line breaks don't break the line
three_escapes : on_one_line (codes "\\\n\t") ≡ codes "\\\\\\n\\t"
unfolding chars
three_escapes = refl

words_of_a_reply : entry_words kind.Reply [] (codes "a\nb") ≡ codes "reply a\\nb"
unfolding chars
words_of_a_reply = simp (encode_ascii 97 (omega arith), encode_ascii 98 (omega arith))
