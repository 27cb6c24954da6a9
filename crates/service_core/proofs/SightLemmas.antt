-- What a person may see of queues, by the grants.
use Rattle.std.proofs.Common.{◌≡◌, ◌&&◌, ◌∙◌, ℕ, Bool, true, false, List}
use Rattle.std.proofs.Common.{[], ◌∷◌, Some, cond, filter, find, refl, sym, ap}
use Rattle.std.proofs.lemmas.Bool.{and_parts}
use Rattle.std.specs.Cmp.Lexicographic.{nat_list_cmp_total, nat_list_eq_equiv, same_text, texts_ties}
use Rattle.std.specs.List.{list_any}
use Rattle.std.specs.Option.{option_to_list}
use Rattle.std.specs.Ordering.{is_eq, is_lt}
use Rattle.std.specs.Str.{bytes_eq}
use Rattle.desk_model.specs.Desk.{has_lower_name}
use Rattle.desk_model.specs.Rising.{comes_first, is_rising}
use Rattle.desk_model.specs.Names.{text_order}
use Rattle.desk_model.specs.declared.rows.QueueRow.{QueueRow}
use Rattle.rights_core.specs.People.{holds, knows, no_roles}
use Rattle.rights_core.specs.Right.{see_queue}
use Rattle.rights_core.specs.declared.parts.Parts.{Parts}
use Rattle.sorted_lists.proofs.Rising.{lesser}
use Rattle.service_core.specs.QueueVisibility.{IsSight, lets_see}
use Rattle.service_core.specs.declared.sight.QueueVisibility.{QueueVisibility}
use Rattle.service_core.specs.declared.sight.QueueVisibility.TheVariants.{Nothing, One, Several}

-- by all grants, of a person who is known
pub known_sees : (people : Parts) (person name : List ℕ) → knows people person ≡ true
    → list_any (lets_see people person name) people.grants
    ≡ holds people person see_queue name no_roles
unfolding holds
known_sees people person name e =
    sym (ap (λ b. b && list_any (lets_see people person name) people.grants) e)

pub unknown_sees : (people : Parts) (person name : List ℕ) → knows people person ≡ false
    → false ≡ holds people person see_queue name no_roles
unfolding holds
unknown_sees people person name e =
    sym (ap (λ b. b && list_any (lets_see people person name) people.grants) e)

-- what is seen alike
pub seen_alike : (sight : QueueVisibility) (f g : List ℕ → Bool) → ((name : List ℕ) → f name ≡ g name)
    → IsSight sight f → IsSight sight g
seen_alike Nothing f g same h = λ name. sym (same name) ∙ h name
seen_alike (One one) f g same h = λ name. sym (same name) ∙ h name
seen_alike Several f g same h = h

-- ---- the one queue that is seen

-- a queue that comes after one of this name has another name
unlike : (one : List ℕ) (a b : QueueRow) → bytes_eq a.name one ≡ true → has_lower_name a b ≡ true
    → bytes_eq one b.name ≡ false
unlike one a b here below =
    ap (λ n. bytes_eq n b.name) (sym (same_text a.name one (sym here))) ∙ texts_ties a.name b.name
    ∙ ap is_eq (lesser (text_order a.name b.name) below)

first_further : (a b : QueueRow) (rest : List QueueRow) → has_lower_name a b ≡ true
    → comes_first has_lower_name b rest ≡ true → comes_first has_lower_name a rest ≡ true
first_further a b [] below first = refl
first_further a b (c ∷ rest) below first =
    ap is_lt (nat_list_cmp_total.trans a.name b.name c.name
    (lesser (text_order a.name b.name) below) (lesser (text_order b.name c.name) first))

-- after one of this name no other is seen
none_after : (sees : List ℕ → Bool) (one : List ℕ)
    → ((name : List ℕ) → sees name ≡ bytes_eq one name)
    → (a : QueueRow) (queues : List QueueRow) → bytes_eq a.name one ≡ true
    → comes_first has_lower_name a queues ≡ true → is_rising has_lower_name queues ≡ true
    → filter (λ q. sees q.name) queues ≡ []
none_after sees one only a [] here first rises = refl
none_after sees one only a (b ∷ rest) here first rises =
    let parts = and_parts (comes_first has_lower_name b rest) (is_rising has_lower_name rest)
    rises in
    ap (λ s. cond s (b ∷ filter (λ q. sees q.name) rest) (filter (λ q. sees q.name) rest))
    (only b.name ∙ unlike one a b here first)
    ∙ none_after sees one only a rest here
    (first_further a b rest first parts.0) parts.1

-- of queues whose names rise, who sees one name alone sees what is found by it
pub one_seen : (sees : List ℕ → Bool) (one : List ℕ)
    → ((name : List ℕ) → sees name ≡ bytes_eq one name)
    → (queues : List QueueRow) → is_rising has_lower_name queues ≡ true
    → filter (λ q. sees q.name) queues
    ≡ option_to_list (find (λ q. bytes_eq q.name one) queues)
one_seen sees one only [] rises = refl
one_seen sees one only (a ∷ rest) rises =
    let parts = and_parts (comes_first has_lower_name a rest) (is_rising has_lower_name rest)
    rises in
    let kept = filter (λ q. sees q.name) rest in
    let seen : sees a.name ≡ bytes_eq a.name one =
    only a.name ∙ nat_list_eq_equiv.symm one a.name in
    elim (bytes_eq a.name one) as (λ b. bytes_eq a.name one ≡ b → sees a.name ≡ b
    → cond (sees a.name) (a ∷ kept) kept
    ≡ option_to_list (cond b (Some a) (find (λ q. bytes_eq q.name one) rest))) [
      | true ↦ λ here yes.
          ap (λ s. cond s (a ∷ kept) kept) yes
          ∙ ap (λ l. a ∷ l) (none_after sees one only a rest here parts.0 parts.1)
      | false ↦ λ other no.
          ap (λ s. cond s (a ∷ kept) kept) no ∙ one_seen sees one only rest parts.1
    ] refl seen
