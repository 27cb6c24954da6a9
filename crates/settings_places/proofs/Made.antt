-- A grant of this index is one that its table makes.
use Rattle.std.proofs.Common.{◌≡◌, ℕ, zero, suc, ◌+◌, ◌-◌, ◌<◌, ◌≤◌, Bool, true, false, List, [], ◌∷◌}
use Rattle.std.proofs.Common.{◌++◌, map, length, Option, Some, None, slice_get, nat_lt}
use Rattle.std.proofs.Common.{unwrap_or, codes, refl, sym, ◌∙◌, ap, subst, arith, if◌then◌else◌}
use Rattle.std.specs.List.{list_any, position, position_from}
use Rattle.std.specs.Option.{option_map_or}
use Rattle.std.specs.Str.{bytes_eq}
use Rattle.std.proofs.lemmas.Bool.{ltb-false, ltb-true}
use Rattle.std.proofs.lemmas.Iterator.Adapters.{position_from-zero}
use Rattle.std.proofs.lemmas.Option.{slice_get-map, slice_get_within}
use Rattle.toml.specs.Data.{Data, Items, no_items, item, Members, get_item}
use Rattle.rights_core.specs.People.{is_among}
use Rattle.rights_core.specs.declared.grant.Grant.{Grant}
use Rattle.rights_core.specs.declared.grant.Subject.{Subject}
use Rattle.settings_form.specs.Grantee.{subject_in}
use Rattle.settings_parts.specs.PeopleParts.{grant_of, grants_at, grants_in}
use Rattle.settings_parts.specs.Values.{items_at, members_of, text_at, texts_at}
use Rattle.settings_places.specs.Grants.{table_among}
use Rattle.settings_places.specs.Placed.{HasGrant}
use Rattle.settings_places.proofs.Found.{found_or, itself, mapped_some, or_left, or_right}

-- ---- the index of what passes a test

found_from : {A : Type 0} (p : A → Bool) (n i : ℕ) (xs : List A) → position_from p n xs ≡ Some i
    → (k : ℕ) × (x : A) × (i ≡ k + n) × (slice_get xs k ≡ Some x) × (p x ≡ true)
found_from p n i [] h = absurd (cc)
found_from p n i (y ∷ ys) h =
    found_or {A = ℕ}
    (λ j. (k : ℕ) × (x : _) × (j ≡ k + n) × (slice_get (y ∷ ys) k ≡ Some x) × (p x ≡ true))
    (p y) n (position_from p (n + 1) ys) i h
    (λ is. (zero, y, omega arith, refl, is))
    (λ rest. let (k, x, at, is, passes) = found_from p (n + 1) i ys rest in
    (suc k, x, omega (arith, at), is, passes))

-- what stands at the first place passes
pub at_position : {A : Type 0} (p : A → Bool) (xs : List A) (i : ℕ) → position p xs ≡ Some i
    → (x : A) × (slice_get xs i ≡ Some x) × (p x ≡ true)
at_position p xs i h =
    let (k, x, at, is, passes) = found_from p 0 i xs (sym (position_from-zero p xs) ∙ h) in
    let same : k ≡ i = omega (arith, at) in
    (x, ap (slice_get xs) (sym same) ∙ is, passes)

pub any_at : {A : Type 0} (p : A → Bool) (xs : List A) (i : ℕ) (x : A) → slice_get xs i ≡ Some x
    → p x ≡ true → list_any p xs ≡ true
any_at p [] i x h is = absurd (cc)
any_at p (y ∷ ys) zero x h is =
    let same : y ≡ x = cc in or_left (p y) (list_any p ys) (ap p same ∙ is)
any_at p (y ∷ ys) (suc i) x h is = or_right (p y) (list_any p ys) (any_at p ys i x h is)

-- ---- tables

front : {A : Type 0} (xs ys : List A) (i : ℕ) → i < length xs
    → slice_get (xs ++ ys) i ≡ slice_get xs i
front [] ys i h = absurd (omega (arith, h))
front (x ∷ xs) ys zero h = refl
front (x ∷ xs) ys (suc i) h = front xs ys i (omega (arith, h))

behind : {A : Type 0} (xs ys : List A) (i : ℕ) → length xs ≤ i
    → slice_get (xs ++ ys) i ≡ slice_get ys (i - length xs)
behind [] ys i h = let same : i ≡ i - 0 = omega arith in ap (slice_get ys) same
behind (x ∷ xs) ys zero h = absurd (omega (arith, h))
behind (x ∷ xs) ys (suc i) h =
    let same : i - length xs ≡ suc i - suc (length xs) = omega arith in
    behind xs ys i (omega (arith, h)) ∙ ap (slice_get ys) same

-- a table, of which the first has the number n, that makes the grant
IsMaker : Grant → ℕ → Items → ℕ × Members → Type 0
IsMaker g n ds t =
    (k : ℕ) × (t.0 ≡ k + n) × (d : _) × (get_item k ds ≡ Some d) × (members_of d ≡ t.1)
    × (j : ℕ) × (slice_get (grants_at t.1) j ≡ Some g)

made_or : (n i : ℕ) (d : Data) (ds : Items) (g : Grant) (b : Bool)
    → nat_lt i (length (grants_at (members_of d))) ≡ b
    → slice_get (grants_at (members_of d) ++ grants_in ds) i ≡ Some g
    → (slice_get (grants_in ds) (i - length (grants_at (members_of d))) ≡ Some g
    → (t : ℕ × Members)
    × (table_among (n + 1) (i - length (grants_at (members_of d))) ds ≡ Some t)
    × IsMaker g (n + 1) ds t)
    → (t : ℕ × Members)
    × ((if b then Some (n, members_of d)
    else table_among (n + 1) (i - length (grants_at (members_of d))) ds) ≡ Some t)
    × IsMaker g n (item d ds) t
unfolding IsMaker
made_or n i d ds g true is h rest =
    let own = grants_at (members_of d) in
    let here = sym (front own (grants_in ds) i (ltb-true i (length own) is)) ∙ h in
    ((n, members_of d), refl, (zero, omega arith, d, refl, refl, i, here))
made_or n i d ds g false is h rest =
    let own = grants_at (members_of d) in
    let there = sym (behind own (grants_in ds) i (ltb-false i (length own) is)) ∙ h in
    let (t, found, maker) = rest there in
    let (k, at, e, stands, same, j, made) = maker in
    (t, found, (suc k, omega (arith, at), e, stands, same, j, made))

made_from : (n i : ℕ) (ds : Items) (g : Grant) → slice_get (grants_in ds) i ≡ Some g
    → (t : ℕ × Members) × (table_among n i ds ≡ Some t) × IsMaker g n ds t
made_from n i no_items g h = absurd (cc)
made_from n i (item d ds) g h =
    made_or n i d ds g (nat_lt i (length (grants_at (members_of d)))) refl h
    (made_from (n + 1) (i - length (grants_at (members_of d))) ds g)

-- the table of a grant that a text makes, and what is so of it since it makes it
pub made_by : (ms : Members) (i : ℕ) (g : Grant)
    → slice_get (grants_in (items_at (codes "grant") ms)) i ≡ Some g
    → (t : ℕ × Members) × (table_among 1 i (items_at (codes "grant") ms) ≡ Some t)
    × ((IsSo : Members → Type 0) → ((j : ℕ) → slice_get (grants_at t.1) j ≡ Some g → IsSo t.1)
    → HasGrant IsSo t.0 ms)
unfolding IsMaker
made_by ms i g h =
    let (t, found, maker) = made_from 1 i (items_at (codes "grant") ms) g h in
    let (k, at, d, stands, same, j, made) = maker in
    (t, found, λ IsSo so. (k, d, at, stands, subst IsSo (sym same) (so j made)))

-- ---- what a table makes

-- the right, the queue and the subject of a grant are those of its table
pub record IsOf (t : Members) (g : Grant) : Type 0 where
  pub right : is_among (texts_at (codes "rights") t) g.right ≡ true
  pub queue : g.queue ≡ text_at (codes "queue") t
  pub some : 1 ≤ length (texts_at (codes "rights") t)

of_map : (s : Subject) (t : Members) (j : ℕ) (g : Grant)
    → slice_get (map (grant_of s (text_at (codes "queue") t)) (texts_at (codes "rights") t)) j
    ≡ Some g
    → IsOf t g
of_map s t j g h =
    let queue = text_at (codes "queue") t in
    let texts = texts_at (codes "rights") t in
    let (r, is, same) =
    mapped_some (grant_of s queue) (slice_get texts j) g
    (sym (slice_get-map (grant_of s queue) texts j) ∙ h) in
    subst (IsOf t) same
    (record {
      right = any_at (λ x. bytes_eq x r) texts j r is (itself r);
      queue = refl;
      some = let within = slice_get_within texts j r is in omega (arith, within);
    })

pub of_table : (t : Members) (j : ℕ) (g : Grant) → slice_get (grants_at t) j ≡ Some g → IsOf t g
of_table t j g h = made_of t j g (subject_in (unwrap_or (text_at (codes "to") t) [])) h
  where
    made_of : (t : Members) (j : ℕ) (g : Grant) (s : Option Subject)
        → slice_get
        (option_map_or
        (λ s. map (grant_of s (text_at (codes "queue") t)) (texts_at (codes "rights") t)) s
        []) j ≡ Some g
        → IsOf t g
    made_of t j g None h = absurd (cc)
    made_of t j g (Some s) h = of_map s t j g h

-- the text says for whom a grant is
pub said_by : (t : Members) (j : ℕ) (g : Grant) → slice_get (grants_at t) j ≡ Some g
    → text_at (codes "to") t ≡ Some (unwrap_or (text_at (codes "to") t) [])
said_by t j g h = said t j g (text_at (codes "to") t) h
  where
    said : (t : Members) (j : ℕ) (g : Grant) (to : Option (List ℕ))
        → slice_get
        (option_map_or
        (λ s. map (grant_of s (text_at (codes "queue") t)) (texts_at (codes "rights") t))
        (subject_in (unwrap_or to [])) []) j ≡ Some g
        → to ≡ Some (unwrap_or to [])
    said t j g None h = absurd (cc)
    said t j g (Some to) h = refl
