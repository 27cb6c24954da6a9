-- Where the box in the head of each page leads: to a request by its number, or to a search.
use Rattle.std.specs.Prelude.{ℕ, ◌==◌, if◌then◌else◌, List, [], ◌∷◌, ◌++◌, codes}
use Rattle.std.specs.Prelude.{Option, Some, None}
use Rattle.std.specs.Option.{option_and_then}
use Rattle.browser_core.specs.Form.{fields_of, value_of}
use Rattle.browser_core.specs.Texts.{text_in}
use Rattle.browser_core.specs.Trim.{trimmed}
use Rattle.browser_core.specs.declared.form.Field.{Field}
use Rattle.desk_forms.specs.Number.{number_of}
use Rattle.find_form.specs.declared.shown.Start.TheVariants.{First}
use Rattle.page_routes.specs.Fronts.{behind}
use Rattle.page_routes.specs.declared.page.Page.{Page}
use Rattle.page_routes.specs.declared.page.Page.TheVariants.{Find, Request}

-- without the number sign in front, if there is one
abbrev pub unmarked : List ℕ → List ℕ
unmarked [] = []
unmarked (b ∷ bytes) = if b == 35 then bytes else b ∷ bytes

-- the number that was typed, with blanks round it or a number sign in front
abbrev pub number_typed : List ℕ → Option ℕ
number_typed typed = option_and_then number_of (text_in (unmarked (trimmed typed)))

abbrev pub number_sought : Option (List Field) → Option ℕ
number_sought None = None
number_sought (Some fields) = option_and_then number_typed (value_of (codes "q") fields)

-- the fields of the search for the words that were typed, which stay as the browser coded them
abbrev pub words_query : Option (List ℕ) → List ℕ
words_query None = []
words_query (Some coded) = codes "words=" ++ coded

abbrev pub leads : Option ℕ → List ℕ → Page
leads (Some id) query = Request id
leads None query = Find (words_query (option_and_then text_in (behind (codes "q=") query))) First

-- where the box leads by the query of its address
abbrev pub box_page : List ℕ → Page
box_page query = leads (number_sought (fields_of query)) query
