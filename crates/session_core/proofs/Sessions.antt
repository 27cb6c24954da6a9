-- For whom a cookie stands.
use Rattle.std.proofs.Common.{◌≡◌, ◌∙◌, ℕ, ◌+◌, ◌^◌, ◌<◌, ◌≤◌, Bool, true, false, ◌⊎◌, inl, inr, if◌then◌else◌}
use Rattle.std.proofs.Common.{cond, List, [], ◌∷◌, Option, Some, None, nat_le, nat_lt, find}
use Rattle.std.proofs.Common.{option_map, refl, sym, ap, arith}
use Rattle.std.specs.List.{Contains}
use Rattle.std.proofs.lemmas.Bool.{and_from, and_parts, cases_Bool, leb-true, le-leb, lt-ltb, ltb-true, true≢false}
use Rattle.std.proofs.lemmas.List.Elements.{Contains-append_cases, Contains-append_left}
use Rattle.std.proofs.lemmas.List.Elements.{Contains-append_right, Contains-push, Contains-push_cases}
use Rattle.std.proofs.lemmas.Option.{none-some, same_Some}
use Rattle.settings_parts.specs.declared.people.Token.{Token}
use Rattle.settings_core.specs.Settings.{tokens_of}
use Rattle.settings_core.specs.declared.settings.Settings.{Settings}
use Rattle.session_core.specs.Laws.{CallersAreThose, CookiesNeedTheirToken, SessionsAreReadBack, StandsFor}
use Rattle.session_core.specs.Seal.{mac_of, opened, sealed}
use Rattle.session_core.specs.Sessions.{caller_of, is_open, is_open_to, made, minutes_of, seals}
use Rattle.session_core.specs.declared.session.Lasts.{Lasts}
use Rattle.session_core.specs.declared.session.Lasts.TheVariants.{Day, Month}
use Rattle.session_core.proofs.Seals.{one_sealed, opened_is, opened_sealed}

-- ---- options and lists

pub map_some : {X Y : Type 0} (f : X → Y) (o : Option X) (y : Y) → option_map f o ≡ Some y
    → (x : X) × (o ≡ Some x) × (f x ≡ y)
map_some f None y h = absurd (none-some y h)
map_some f (Some x) y h = (x, refl, same_Some (f x) y h)

no_value : {X : Type 0} (o : Option X) → ((x : X) → o ≡ Some x → ⊥) → o ≡ None
no_value None h = refl
no_value (Some x) h = absurd (h x refl)

one_of : {X : Type 0} (x : X) (xs : List X) (y : X) → Contains (x ∷ xs) y → (x ≡ y) ⊎ Contains xs y
one_of x xs y h =
    elim (Contains-append_cases (x ∷ []) xs y h) [
      | inl first ↦ elim (Contains-push_cases [] x y first) [
        | inl none ↦ absurd (omega (arith, none.1))
        | inr same ↦ inl same
      ]
      | inr later ↦ inr later
    ]

picked : {X : Type 0} (b : Bool) (y x : X) (rest : Option X) → cond b (Some y) rest ≡ Some x
    → ((b ≡ true) × (y ≡ x)) ⊎ (rest ≡ Some x)
picked true y x rest h = inl (refl, same_Some y x h)
picked false y x rest h = inr h

-- what is found is of the list, and passes
pub found_is : {X : Type 0} (p : X → Bool) (xs : List X) (x : X) → find p xs ≡ Some x
    → Contains xs x × (p x ≡ true)
found_is p [] x h = absurd (none-some x h)
found_is p (y ∷ ys) x h =
    elim (picked (p y) y x (find p ys) h) [
      | inl first ↦ (
        rw first.1 at (Contains-append_left (y ∷ []) ys y (Contains-push [] y)),
        ap p (sym first.1) ∙ first.0,
      )
      | inr later ↦
          let ih = found_is p ys x later in
          (Contains-append_right (y ∷ []) ys x ih.0, ih.1)
    ]

-- where one of the list passes, one is found
is_found : {X : Type 0} (p : X → Bool) (xs : List X) (x : X) → Contains xs x → p x ≡ true
    → (y : X) × (find p xs ≡ Some y)
is_found p [] x has passes = absurd (omega (arith, has.1))
is_found p (y ∷ ys) x has passes =
    elim (cases_Bool (p y)) [
      | inl first ↦ (y, rw first refl)
      | inr other ↦ elim (one_of y ys x has) [
        | inl same ↦ absurd (true≢false (sym passes ∙ ap p (sym same) ∙ other))
        | inr later ↦ let ih = is_found p ys x later passes in (ih.0, rw other ih.1)
      ]
    ]

-- ---- the token of a cookie

open_is : (now : ℕ) (o : Option ℕ) → is_open_to now o ≡ true
    → (ends : ℕ) × (o ≡ Some ends) × (is_open now ends ≡ true)
open_is now None h = absurd (true≢false (sym h))
open_is now (Some ends) h = (ends, refl, h)

abbrev person_of : Token → List ℕ
person_of token = token.person

record IsSealed (settings : Settings) (cookie : List ℕ) (now : ℕ) (person : List ℕ) : Type 0 where
  pub token : Token
  pub ends : ℕ
  pub of_settings : Contains (tokens_of settings) token
  pub of_person : token.person ≡ person
  pub cookie_is : cookie ≡ sealed token ends
  pub opens : is_open now ends ≡ true
  pub small : ends < 2 ^ 32

caller_is : (settings : Settings) (cookie : List ℕ) (now : ℕ) (person : List ℕ)
    → caller_of settings cookie now ≡ Some person → IsSealed settings cookie now person
caller_is settings cookie now person h =
    let found = map_some person_of (find (seals cookie now) (tokens_of settings)) person h in
    let known = found_is (seals cookie now) (tokens_of settings) found.0 found.1 in
    let opens = open_is now (opened found.0 cookie) known.1 in
    let parts = opened_is found.0 cookie opens.0 opens.1 in
    record {
      token = found.0;
      ends = opens.0;
      of_settings = known.0;
      of_person = found.2;
      cookie_is = parts.0;
      opens = opens.2;
      small = parts.1;
    }

seals_its_own : (token : Token) (ends now : ℕ) → ends < 2 ^ 32 → is_open now ends ≡ true
    → seals (sealed token ends) now token ≡ true
seals_its_own token ends now small opens = ap (is_open_to now) (opened_sealed token ends small) ∙ opens

caller_sealed : (settings : Settings) (token : Token) (ends now : ℕ)
    → Contains (tokens_of settings) token → ends < 2 ^ 32 → is_open now ends ≡ true
    → caller_of settings (sealed token ends) now ≡ Some token.person
caller_sealed settings token ends now has small opens =
    let cookie = sealed token ends in
    let found = is_found (seals cookie now) (tokens_of settings) token has
    (seals_its_own token ends now small opens) in
    let whose : caller_of settings cookie now ≡ Some found.0.person = ap (option_map person_of) found.1 in
    let known = caller_is settings cookie now found.0.person whose in
    let same = one_sealed token known.token ends known.ends small known.small known.cookie_is in
    whose ∙ ap (λ (p : List ℕ). Some p) (sym known.of_person ∙ sym same.0)

not_open : (settings : Settings) (token : Token) (ends now : ℕ) (person : List ℕ) → ends < 2 ^ 32
    → caller_of settings (sealed token ends) now ≡ Some person → is_open now ends ≡ true
not_open settings token ends now person small h =
    let known = caller_is settings (sealed token ends) now person h in
    let same = one_sealed token known.token ends known.ends small known.small known.cookie_is in
    ap (is_open now) same.1 ∙ known.opens

-- the cookie of a token is read back while it is open
read_back : (settings : Settings) (token : Token) (ends now : ℕ) → Contains (tokens_of settings) token
    → ends < 2 ^ 32
    → caller_of settings (sealed token ends) now ≡ (if is_open now ends then Some token.person else None)
read_back settings token ends now has small =
    elim (cases_Bool (is_open now ends)) [
      | inl opens ↦ rw opens (caller_sealed settings token ends now has small opens)
      | inr shut ↦ rw shut (no_value (caller_of settings (sealed token ends) now) (λ person h.
          true≢false (sym (not_open settings token ends now person small h) ∙ shut)))
    ]

-- ---- the laws

is_open_from : (now ends : ℕ) → now < ends → ends ≤ now + 43200 → is_open now ends ≡ true
is_open_from now ends later soon =
    and_from (nat_lt now ends) (nat_le ends (now + 43200)) (lt-ltb now ends later) (le-leb ends (now + 43200) soon)

stands_for : (settings : Settings) (cookie : List ℕ) (now : ℕ) (person : List ℕ)
    → IsSealed settings cookie now person → StandsFor settings cookie now person
stands_for settings cookie now person known =
    let times = and_parts (nat_lt now known.ends) (nat_le known.ends (now + 43200)) known.opens in
    record {
      token = known.token;
      ends = known.ends;
      of_settings = known.of_settings;
      of_person = known.of_person;
      cookie_is = known.cookie_is;
      later = ltb-true now known.ends times.0;
      soon = leb-true known.ends (now + 43200) times.1;
      small = known.small;
    }

pub callers_are_those : CallersAreThose
callers_are_those settings cookie now person = (
  λ h. stands_for settings cookie now person (caller_is settings cookie now person h),
  λ h.
      ap (λ (c : List ℕ). caller_of settings c now) h.cookie_is
      ∙ caller_sealed settings h.token h.ends now h.of_settings h.small
      (is_open_from now h.ends h.later h.soon)
      ∙ ap (λ (p : List ℕ). Some p) h.of_person,
)

pub few_minutes : (lasts : Lasts) → minutes_of lasts ≤ 43200
few_minutes Day = omega arith
few_minutes Month = omega arith

pub sessions_are_read_back : SessionsAreReadBack
sessions_are_read_back settings later typed cookie token lasts began now when is given has =
    let is_made : made token began lasts ≡ cookie =
    same_Some (made token began lasts) cookie
    (ap (option_map (λ (t : Token). made t began lasts)) (sym is) ∙ given) in
    let small : began + minutes_of lasts < 2 ^ 32 = omega (arith, when.1, few_minutes lasts) in
    ap (λ (c : List ℕ). caller_of later c now) (sym is_made)
    ∙ read_back later token (began + minutes_of lasts) now has small

pub cookies_need_their_token : CookiesNeedTheirToken
cookies_need_their_token settings token ends now person small h =
    let known = caller_is settings (sealed token ends) now person h in
    let same = one_sealed token known.token ends known.ends small known.small known.cookie_is in
    record {
      other = known.token;
      of_settings = known.of_settings;
      same_person = sym same.0;
      person_is = sym known.of_person ∙ sym same.0;
      same_mac = ap (λ (p : List ℕ). mac_of known.token.token p ends) same.0
          ∙ ap (mac_of known.token.token known.token.person) same.1 ∙ sym same.2;
    }
