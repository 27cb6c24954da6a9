-- The text of a history: a line for each entry.
use Rattle.std.specs.Prelude.{ℕ, ◌==◌, List, [], ◌∷◌, ◌++◌, codes, encode_utf8, if◌then◌else◌}
use Rattle.std.specs.List.{flat_map}
use Rattle.std.specs.Str.{chars}
use Rattle.hours_core.specs.Date.{text_of_minute}
use Rattle.desk_model.specs.declared.rows.Entry.{Entry}
use Rattle.desk_model.specs.declared.rows.EntryKind.{EntryKind}
use Rattle.desk_model.specs.declared.rows.EntryKind.TheVariants as kind
use Rattle.desk_texts.specs.Columns.{left, right_number, then as spaced}

-- a backslash, a line feed and a tab as a backslash with another backslash, `n` and `t`; any other
-- character as it is
abbrev pub escape : ℕ → List ℕ
escape c =
    if c == 92 then 92 ∷ 92 ∷ []
    else if c == 10 then 92 ∷ 110 ∷ []
    else if c == 9 then 92 ∷ 116 ∷ []
    else encode_utf8 c

-- a text on one line
abbrev pub on_one_line : List ℕ → List ℕ
on_one_line text = flat_map escape (chars text)

abbrev pub kind_word : EntryKind → List ℕ
kind_word kind.Create = codes "create"
kind_word kind.Status = codes "status"
kind_word kind.Owner = codes "owner"
kind_word kind.Reply = codes "reply"
kind_word kind.Comment = codes "comment"
kind_word kind.Watch = codes "watch"
kind_word kind.Unwatch = codes "unwatch"
kind_word kind.Link = codes "link"
kind_word kind.Unlink = codes "unlink"
kind_word kind.Level = codes "level"

-- what an entry tells after its kind: a status, a text, or from what to what
abbrev pub told : EntryKind → List ℕ → List ℕ → List ℕ
told kind.Create head body = body
told kind.Reply head body = on_one_line body
told kind.Comment head body = on_one_line body
told other head body = spaced head body

abbrev pub entry_words : EntryKind → List ℕ → List ℕ → List ℕ
entry_words kind head body = spaced (kind_word kind) (told kind head body)

-- a number, a moment and a person, each with a space after it
unfoldable pub columns : ℕ → List ℕ → List ℕ → List ℕ
columns number moment person =
    spaced (right_number 5 number) (spaced moment (left 20 person ++ codes " "))

-- its number, its moment, who did it, and what
unfoldable pub entry_line : Entry → List ℕ
entry_line entry =
    columns entry.number (text_of_minute entry.moment) entry.actor
    ++ (entry_words entry.kind entry.head entry.body ++ codes "\n")

-- no header: a history without entries is no text at all
abbrev pub history_text : List Entry → List ℕ
history_text entries = flat_map entry_line entries
