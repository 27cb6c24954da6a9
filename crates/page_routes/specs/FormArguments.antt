-- The command for which the fields of a form ask.
use Rattle.std.specs.Prelude.{ℕ, ◌==◌, Bool, true, false, not, ◌&&◌, if◌then◌else◌, List, [], ◌∷◌}
use Rattle.std.specs.Prelude.{length, codes, Option, Some, None, is_some, unwrap_or}
use Rattle.std.specs.List.{filter, slice_split}
use Rattle.std.specs.Option.{option_and_then}
use Rattle.desk_model.specs.declared.command.Command.{Command}
use Rattle.browser_core.specs.Form.{has_fields, value_of}
use Rattle.browser_core.specs.declared.form.Field.{Field}
use Rattle.desk_forms.specs.CommandFrom.{command_from}
use Rattle.desk_forms.specs.Keys.{queue_or, request_in}
use Rattle.desk_forms.specs.Number.{number_of}
use Rattle.desk_forms.specs.Paths.{PathParameter}
use Rattle.desk_forms.specs.ArgumentSource.{ArgumentSource}
use Rattle.desk_forms.specs.declared.table.CommandForm.{CommandForm}
use Rattle.desk_forms.specs.declared.table.CommandForm.TheVariants as forms

-- ---- the fields of each form

-- its own that it sends
abbrev pub own : CommandForm → List (List ℕ)
own forms.OpenQueue = codes "queue" ∷ codes "lifecycle" ∷ codes "level" ∷ []
own forms.Create = codes "subject" ∷ codes "requestors" ∷ []
own forms.SetStatus = codes "status" ∷ []
own forms.SetLevel = codes "level" ∷ []
own forms.Give = codes "person" ∷ []
own forms.Reply = codes "seen" ∷ codes "text" ∷ []
own forms.Comment = codes "text" ∷ []
own forms.Watch = codes "role" ∷ codes "person" ∷ []
own forms.Unwatch = codes "role" ∷ codes "person" ∷ []
own forms.Link = codes "kind" ∷ codes "other" ∷ []
own forms.Unlink = codes "kind" ∷ codes "other" ∷ []
own _ = []

-- those that it sends: the person on whose page it stood, and its own
abbrev pub needed : CommandForm → List (List ℕ)
needed form = codes "me" ∷ own form

-- those that it may send: with a new request the first text, and with a reply a status
abbrev pub others : CommandForm → List (List ℕ)
others forms.Create = codes "status" ∷ codes "text" ∷ []
others forms.Reply = codes "status" ∷ []
others _ = []

-- ---- the command

abbrev pub is_filled : List ℕ → Bool
is_filled text = not (length text == 0)

-- an empty value is none
abbrev pub filled : Option (List ℕ) → Option (List ℕ)
filled None = None
filled (Some value) = if length value == 0 then None else Some value

-- the names that stand between spaces
abbrev pub names_in : List ℕ → List (List ℕ)
names_in text = filter is_filled (slice_split (λ b. b == 32) text)

-- the number that is told as that of the last entry which the page showed, if one is
abbrev pub seen_told : List Field → Option ℕ
seen_told fields = option_and_then number_of (value_of (codes "seen") fields)

-- the same, and 0 where none is told
abbrev pub seen_in : List Field → ℕ
seen_in fields = unwrap_or (seen_told fields) 0

-- a reply has to tell it
abbrev pub tells_seen : CommandForm → List Field → Bool
tells_seen forms.Reply fields = is_some (seen_told fields)
tells_seen form fields = true

-- what the path and the fields give, by the keys of arguments; where a text may be left out, an
-- empty one is none
abbrev pub sheet_of : PathParameter → List Field → ArgumentSource
sheet_of b fields = record {
  id = λ k. request_in b;
  queue = λ k. queue_or b (value_of k fields);
  number = λ k. option_and_then number_of (value_of k fields);
  text = λ k. value_of k fields;
  maybe = λ k. Some (filled (value_of k fields));
  texts = λ k. Some (names_in (unwrap_or (value_of k fields) []));
  is_set = λ k. false;
}

-- the command of a form, where the fields are just its own, and a reply tells what was seen
abbrev pub command_in : CommandForm → PathParameter → List Field → Option Command
command_in form b fields =
    if has_fields (needed form) (others form) fields && tells_seen form fields
    then command_from form (sheet_of b fields) else None
