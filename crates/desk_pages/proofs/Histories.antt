-- The markup of the history of a request.
use Rattle.std.proofs.Common.{◌≡◌, ℕ, List, refl, subst}
use Rattle.desk_model.specs.declared.rows.Entry.{Entry}
use Rattle.desk_model.specs.declared.rows.EntryKind.{EntryKind}
use Rattle.desk_model.specs.declared.rows.EntryKind.TheVariants as kind
use Rattle.page_core.specs.Markup.{SameMarkup}
use Rattle.page_core.specs.Template.{through}
use Rattle.page_core.proofs.Same.{same_both, same_filled, same_none, same_rows}
use Rattle.desk_pages.specs.History.{entry, entry_moment, head, history, kinds_told, newer}
use Rattle.desk_pages.specs.History.{newer_entries, telling, text_of}
use Rattle.desk_pages.specs.declared.markup.history.TheConstants as markup

same_head : (e f : Entry) → SameMarkup (head e) (head f)
unfolding head through
same_head e f = same_filled markup.ENTRY.now refl _ _ _

same_telling : (k : EntryKind) (head other body text : List ℕ)
    → SameMarkup (telling k head body) (telling k other text)
unfolding telling through
same_telling kind.Create head other body text = same_filled markup.FILED.now refl _ _ _
same_telling kind.Status head other body text = same_filled markup.MOVED.now refl _ _ _
same_telling kind.Owner head other body text = same_filled markup.OWNER_CHANGED.now refl _ _ _
same_telling kind.Reply head other body text = same_filled markup.REPLIED.now refl _ _ _
same_telling kind.Comment head other body text = same_filled markup.COMMENTED.now refl _ _ _
same_telling kind.Watch head other body text = same_filled markup.PUT_IN.now refl _ _ _
same_telling kind.Unwatch head other body text = same_filled markup.TAKEN_OUT.now refl _ _ _
same_telling kind.Link head other body text = same_filled markup.LINKED.now refl _ _ _
same_telling kind.Unlink head other body text = same_filled markup.UNLINKED.now refl _ _ _
same_telling kind.Level head other body text = same_filled markup.LEVEL_CHANGED.now refl _ _ _

same_moment : (moment later : ℕ) → SameMarkup (entry_moment moment) (entry_moment later)
unfolding entry_moment through
same_moment moment later = same_filled markup.ENTRY_TIME.now refl _ _ _

same_text : (k : EntryKind) (body text : List ℕ) → SameMarkup (text_of k body) (text_of k text)
unfolding text_of through
same_text kind.Reply body text = same_filled markup.WRITTEN.now refl _ _ _
same_text kind.Comment body text = same_filled markup.WRITTEN.now refl _ _ _
same_text _ body text = same_none

same_entry : (e f : Entry) → e.kind ≡ f.kind → SameMarkup (entry e) (entry f)
unfolding entry through
same_entry e f same =
    same_both (same_head e f)
    (same_both
    (subst (λ k. SameMarkup (telling e.kind e.head e.body) (telling k f.head f.body)) same
    (same_telling e.kind e.head f.head e.body f.body))
    (same_both (same_moment e.moment f.moment)
    (same_both
    (subst (λ k. SameMarkup (text_of e.kind e.body) (text_of k f.body)) same
    (same_text e.kind e.body f.body))
    (same_filled markup.ENTRY_END.now refl _ _ _))))

pub same_history : (entries others : List Entry) → kinds_told entries ≡ kinds_told others
    → SameMarkup (history entries) (history others)
unfolding through
same_history entries others same =
    same_both (same_filled markup.HISTORY_TOP.now refl _ _ _)
    (same_both (same_rows entry entry (λ e. e.kind) (λ e. e.kind) same_entry entries others same)
    (same_filled markup.HISTORY_END.now refl _ _ _))

pub same_newer : (seen last : ℕ) (entries others : List Entry)
    → kinds_told (newer_entries seen entries) ≡ kinds_told (newer_entries last others)
    → SameMarkup (newer seen entries) (newer last others)
unfolding through
same_newer seen last entries others same =
    same_both (same_filled markup.NEWER_TOP.now refl _ _ _)
    (same_both (same_rows entry entry (λ e. e.kind) (λ e. e.kind) same_entry
    (newer_entries seen entries) (newer_entries last others) same)
    (same_filled markup.NEWER_END.now refl _ _ _))
