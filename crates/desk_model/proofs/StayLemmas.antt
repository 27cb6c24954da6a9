-- The stays of a history: with one entry before, with more after it, and without comments.
use Rattle.std.proofs.Common.{◌≡◌, ℕ, Bool, true, false, not, List, [], ◌∷◌, Option, Some}
use Rattle.std.proofs.Common.{None, inl, inr, refl, sym, ap, length, ◌++◌, arith}
use Rattle.std.specs.Option.{option_to_list}
use Rattle.std.proofs.Common.{if◌then◌else◌}
use Rattle.std.specs.List.{filter}
use Rattle.std.proofs.lemmas.Bool.{true≢false, cases_Bool, or_parts, not-false}
use Rattle.settings_core.specs.declared.settings.Settings.{Settings}
use Rattle.desk_model.specs.Desk.{Request}
use Rattle.desk_model.specs.Facts.{seen_request}
use Rattle.desk_model.specs.Readings.History.{is_comment, is_told, entries_told}
use Rattle.desk_model.specs.Rights.{may_show_comments}
use Rattle.desk_model.specs.Stays.{begins_stay, next_begin, stay_from, stays_of, stays_on}
use Rattle.desk_model.specs.Stays.{stays_after}
use Rattle.desk_model.specs.declared.rows.Entry.{Entry}
use Rattle.desk_model.specs.declared.rows.EntryKind.{EntryKind}
use Rattle.desk_model.specs.declared.rows.EntryKind.TheVariants as kind
use Rattle.hours_core.specs.declared.stay.Stay.{Stay}

full : (stay : Stay) (stays : List Stay) → stay ∷ stays ≡ [] → ⊥
full stay stays none = omega (arith, ap length none)

-- where the entries so far begin no stay, the next begins with one of the others
next_none : (entries more : List Entry) → stays_of entries ≡ []
    → next_begin (entries ++ more) ≡ next_begin more
next_none [] more none = refl
next_none (e ∷ entries) more none =
    elim (begins_stay e.kind) as (λ b.
    (if b then stay_from e entries ∷ stays_of entries else stays_of entries) ≡ []
    → (if b then Some e.moment else next_begin (entries ++ more)) ≡ next_begin more) [
      | true ↦ λ other. absurd (full (stay_from e entries) (stays_of entries) other)
      | false ↦ next_none entries more
    ] none

-- where they begin one, the next begins with one of them
next_some : (entries more : List Entry) (stay : Stay) (stays : List Stay)
    → stays_of entries ≡ stay ∷ stays
    → next_begin (entries ++ more) ≡ next_begin entries
next_some [] more stay stays some = absurd (full stay stays (sym some))
next_some (e ∷ entries) more stay stays some =
    elim (begins_stay e.kind) as (λ b.
    (if b then stay_from e entries ∷ stays_of entries else stays_of entries) ≡ stay ∷ stays
    → (if b then Some e.moment else next_begin (entries ++ more))
    ≡ (if b then Some e.moment else next_begin entries)) [
      | true ↦ λ here. refl
      | false ↦ next_some entries more stay stays
    ] some

-- an entry that begins no stay changes none
pub stays_past : (last : Option Stay) (e : Entry) (later : List Entry) → begins_stay e.kind ≡ false
    → stays_on last (e ∷ later) ≡ stays_on last later
stays_past last e later none = rw none refl

-- the last of the stays so far is the one that ends
pub after_last : (stays : List Stay) (last : Stay) (entries : List Entry)
    → stays_after (stays ++ last ∷ []) entries ≡ stays ++ stays_on (Some last) entries
after_last [] last entries = refl
after_last (stay ∷ []) last entries = refl
after_last (stay ∷ next ∷ stays) last entries =
    ap (λ (rest : List Stay). stay ∷ rest) (after_last (next ∷ stays) last entries)

-- where the last of the stays so far, if there is one, is taken from them
pub last_taken : (old new : List Stay) (last : Option Stay) (entries : List Entry)
    → old ≡ new ++ option_to_list last
    → (last ≡ None → length new ≡ 0)
    → new ++ stays_on last entries ≡ stays_after old entries
last_taken old [] None entries items none = rw items refl
last_taken old (stay ∷ new) None entries items none = absurd (omega (arith, none refl))
last_taken old new (Some last) entries items some =
    rw items (sym (after_last new last entries))

-- with an entry before that begins a stay, which goes up to where the next one begins
begun : (e : Entry) (entries more : List Entry) (stays : List Stay) → stays_of entries ≡ stays
    → stays_of (entries ++ more) ≡ stays_after stays more
    → stays_after (stay_from e entries ∷ stays) more
    ≡ stay_from e (entries ++ more) ∷ stays_of (entries ++ more)
begun e entries more [] none rest =
    rw (next_none entries more none, rest) refl
begun e entries more (stay ∷ stays) some rest =
    rw (next_some entries more stay stays some, rest) refl

-- the stays of a history to which entries are added
pub stays_joined : (entries more : List Entry)
    → stays_after (stays_of entries) more ≡ stays_of (entries ++ more)
stays_joined [] more = refl
stays_joined (e ∷ entries) more =
    elim (cases_Bool (begins_stay e.kind)) [
      | inl begins ↦ rw (begins)
          (begun e entries more (stays_of entries) refl (sym (stays_joined entries more)))
      | inr none ↦ rw none (stays_joined entries more)
    ]

-- without entries that begin no stay the next one begins at the same moment
next_kept : (keep : Entry → Bool) (entries : List Entry)
    → ((e : Entry) → keep e ≡ false → begins_stay e.kind ≡ false)
    → next_begin (filter keep entries) ≡ next_begin entries
next_kept keep [] none = refl
next_kept keep (e ∷ entries) none =
    elim (cases_Bool (keep e)) [
      | inl kept ↦ rw (kept, next_kept keep entries none) refl
      | inr left ↦ rw (left, none e left) (next_kept keep entries none)
    ]

-- and the stays are the same
pub stays_kept : (keep : Entry → Bool) (entries : List Entry)
    → ((e : Entry) → keep e ≡ false → begins_stay e.kind ≡ false)
    → stays_of (filter keep entries) ≡ stays_of entries
stays_kept keep [] none = refl
stays_kept keep (e ∷ entries) none =
    elim (cases_Bool (keep e)) [
      | inl kept ↦ rw (kept, next_kept keep entries none, stays_kept keep entries none) refl
      | inr left ↦ rw (left, none e left) (stays_kept keep entries none)
    ]

-- a comment begins no stay
comments : (k : EntryKind) → is_comment k ≡ true → begins_stay k ≡ false
comments kind.Create h = absurd (true≢false (sym h))
comments kind.Status h = absurd (true≢false (sym h))
comments kind.Owner h = refl
comments kind.Reply h = refl
comments kind.Comment h = refl
comments kind.Watch h = refl
comments kind.Unwatch h = refl
comments kind.Link h = refl
comments kind.Unlink h = refl
comments kind.Level h = refl

-- who may not see comments sees the same stays
pub stays_told : (settings : Settings) (caller : List ℕ) (request : Request)
    → stays_of (entries_told settings caller request) ≡ stays_of request.entries
stays_told settings caller request =
    stays_kept (is_told settings caller request) request.entries
    (λ e left.
    let parts = or_parts (not (is_comment e.kind))
    (may_show_comments settings caller (seen_request request)) left in
    comments e.kind (not-false (is_comment e.kind) parts.0))
