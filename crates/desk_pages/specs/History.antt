-- The history of a request: an entry for each thing that happened.
use Rattle.std.specs.Prelude.{ℕ, nat_lt, Bool, List, [], ◌∷◌, ◌++◌, decimal, map}
use Rattle.std.specs.List.{filter, flat_map, fold}
use Rattle.desk_model.specs.declared.rows.Entry.{Entry}
use Rattle.desk_model.specs.declared.rows.EntryKind.{EntryKind}
use Rattle.desk_model.specs.declared.rows.EntryKind.TheVariants as kind
use Rattle.desk_texts.specs.Texts.History.{kind_word}
use Rattle.page_core.specs.Page.{Part}
use Rattle.page_core.specs.Template.{filled}
use Rattle.page_core.specs.Values.{clock, day}
use Rattle.desk_pages.specs.declared.markup.history.TheConstants as markup

-- an entry, up to what it tells
unfoldable pub head : Entry → List Part
head e = filled markup.ENTRY.now (decimal e.number ∷ kind_word e.kind ∷ decimal e.number ∷ e.actor
    ∷ []) []

-- what an entry tells, by its kind
unfoldable pub telling : EntryKind → List ℕ → List ℕ → List Part
telling kind.Create head body = filled markup.FILED.now (body ∷ []) []
telling kind.Status head body = filled markup.MOVED.now (head ∷ body ∷ []) []
telling kind.Owner head body = filled markup.OWNER_CHANGED.now (head ∷ body ∷ []) []
telling kind.Reply head body = filled markup.REPLIED.now [] []
telling kind.Comment head body = filled markup.COMMENTED.now [] []
telling kind.Watch head body = filled markup.PUT_IN.now (body ∷ head ∷ []) []
telling kind.Unwatch head body = filled markup.TAKEN_OUT.now (body ∷ head ∷ []) []
telling kind.Link head body = filled markup.LINKED.now (head ∷ body ∷ body ∷ []) []
telling kind.Unlink head body = filled markup.UNLINKED.now (head ∷ body ∷ body ∷ []) []
telling kind.Level head body = filled markup.LEVEL_CHANGED.now (head ∷ body ∷ []) []

-- when it was made
unfoldable pub entry_moment : ℕ → List Part
entry_moment moment =
    filled markup.ENTRY_TIME.now
    (day moment ∷ clock moment ∷ day moment ∷ clock moment ∷ []) []

-- the text of a reply or a comment; nothing of the others
unfoldable pub text_of : EntryKind → List ℕ → List Part
text_of kind.Reply body = filled markup.WRITTEN.now (body ∷ []) []
text_of kind.Comment body = filled markup.WRITTEN.now (body ∷ []) []
text_of _ body = []

-- an entry
unfoldable pub entry : Entry → List Part
entry e =
    head e
    ++ (telling e.kind e.head e.body
    ++ (entry_moment e.moment ++ (text_of e.kind e.body ++ filled markup.ENTRY_END.now [] [])))

-- the entries of a request
abbrev pub history : List Entry → List Part
history entries =
    filled markup.HISTORY_TOP.now [] []
    ++ (flat_map entry entries ++ filled markup.HISTORY_END.now [] [])

-- the number of the last entry, and 0 where there is none
abbrev pub last_number : List Entry → ℕ
last_number entries = fold (λ last e. e.number) 0 entries

-- an entry behind the one of this number
abbrev pub is_newer : ℕ → Entry → Bool
is_newer seen e = nat_lt seen e.number

-- those that one hasn't seen who has seen the entries up to this number
abbrev pub newer_entries : ℕ → List Entry → List Entry
newer_entries seen entries = filter (is_newer seen) entries

-- what came meanwhile
abbrev pub newer : ℕ → List Entry → List Part
newer seen entries =
    filled markup.NEWER_TOP.now [] []
    ++ (flat_map entry (newer_entries seen entries) ++ filled markup.NEWER_END.now [] [])

-- what the markup tells: the kinds of the entries
abbrev pub kinds_told : List Entry → List EntryKind
kinds_told entries = map (λ e. e.kind) entries
