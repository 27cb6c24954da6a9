-- The fields of an address that asks for a search.
use Rattle.std.specs.Prelude.{ℕ, Bool, if◌then◌else◌, List, [], ◌∷◌, codes}
use Rattle.std.specs.Prelude.{Option, Some, None, option_and_then, unwrap_or}
use Rattle.browser_core.specs.Form as form
use Rattle.browser_core.specs.Form.{fields_of, has_fields, value_of}
use Rattle.browser_core.specs.declared.form.Field.{Field}
use Rattle.find_form.specs.declared.form.FindForm.{FindForm}

abbrev pub names : List (List ℕ)
names =
    codes "words" ∷ codes "replies" ∷ codes "queue" ∷ codes "state" ∷ codes "status" ∷ codes "owner"
    ∷ codes "requestor" ∷ codes "turn" ∷ codes "late" ∷ codes "from" ∷ codes "to" ∷ codes "order" ∷ []

-- each of the fields is one of these, and stands once
abbrev pub are_known : List Field → Bool
are_known fields = has_fields [] names fields

-- the value of a field, and nothing where there is none
abbrev pub typed : List ℕ → List Field → List ℕ
typed name fields = unwrap_or (value_of name fields) []

abbrev pub filled : List Field → FindForm
filled fields =
    record {
      words = typed (codes "words") fields;
      replies = typed (codes "replies") fields;
      queue = typed (codes "queue") fields;
      state = typed (codes "state") fields;
      status = typed (codes "status") fields;
      owner = typed (codes "owner") fields;
      requestor = typed (codes "requestor") fields;
      turn = typed (codes "turn") fields;
      late = typed (codes "late") fields;
      from = typed (codes "from") fields;
      to = typed (codes "to") fields;
      order = typed (codes "order") fields;
    }

abbrev pub form_in : List Field → Option FindForm
form_in fields = if are_known fields then Some (filled fields) else None

-- what the fields of an address ask, if they are those of a search
abbrev pub form_of : List ℕ → Option FindForm
form_of query = option_and_then form_in (fields_of query)
