-- What cookies mean, apart from how they are read.
use Rattle.std.specs.Prelude.{◌≡◌, ◌↔◌, ℕ, ◌+◌, ◌<◌, ◌≤◌, ◌^◌, ◌==◌, Bool, true, ◌||◌, if◌then◌else◌}
use Rattle.std.specs.Prelude.{List, Some, None}
use Rattle.std.specs.List.{Contains, list_all}
use Rattle.text_core.specs.Form.{is_name, is_name_byte}
use Rattle.hours_core.specs.Moment.{IsDueMoment}
use Rattle.settings_parts.specs.declared.people.Token.{Token}
use Rattle.settings_core.specs.Settings.{tokens_of}
use Rattle.settings_core.specs.declared.settings.Settings.{Settings}
use Rattle.session_core.specs.Seal.{mac_of, sealed}
use Rattle.session_core.specs.Sessions.{caller_of, is_open, minutes_of, signed_in, token_typed}
use Rattle.session_core.specs.declared.session.Lasts.{Lasts}

-- the cookie is PERSON.EXPIRES.MAC by a token of this person that the settings have, it hasn't
-- ended, and it ends no later than one that is made now
pub record StandsFor (settings : Settings) (cookie : List ℕ) (now : ℕ) (person : List ℕ) : Type 0 where
  pub token : Token
  pub ends : ℕ
  pub of_settings : Contains (tokens_of settings) token
  pub of_person : token.person ≡ person
  pub cookie_is : cookie ≡ sealed token ends
  pub later : now < ends
  pub soon : ends ≤ now + 43200
  pub small : ends < 2 ^ 32

-- a cookie is somebody's just where it stands for that person
abbrev pub CallersAreThose : Type 0
CallersAreThose = (settings : Settings) (cookie : List ℕ) (now : ℕ) (person : List ℕ)
    → (caller_of settings cookie now ≡ Some person) ↔ StandsFor settings cookie now person

-- what one who signed in is given is read as the person of the token that was typed until the
-- session ends, and as nobody else at any time: by any settings that have the token
abbrev pub SessionsAreReadBack : Type 0
SessionsAreReadBack = (settings later : Settings) (typed cookie : List ℕ) (token : Token) (lasts : Lasts)
    (began now : ℕ) → IsDueMoment began → token_typed settings typed ≡ Some token
    → signed_in settings typed began lasts ≡ Some cookie → Contains (tokens_of later) token
    → caller_of later cookie now
    ≡ (if is_open now (began + minutes_of lasts) then Some token.person else None)

-- a byte of a name, or the full stop between the parts: none of them ends the text of a cookie, or a line
abbrev pub is_cookie_byte : ℕ → Bool
is_cookie_byte b = is_name_byte b || (b == 46)

-- whoever a token stands for has a name
abbrev pub AreNamed : Settings → Type 0
AreNamed settings = (token : Token) → Contains (tokens_of settings) token → is_name token.person ≡ true

-- then what one who signs in is given has such bytes alone
abbrev pub CookiesAreTexts : Type 0
CookiesAreTexts = (settings : Settings) (typed cookie : List ℕ) (lasts : Lasts) (now : ℕ)
    → AreNamed settings → IsDueMoment now → signed_in settings typed now lasts ≡ Some cookie
    → list_all is_cookie_byte cookie ≡ true

-- whoever a token's cookie stands for under any settings is the token's person, by a token of the
-- settings that makes the same MAC
pub record IsMadeBy (settings : Settings) (token : Token) (ends : ℕ) (person : List ℕ) : Type 0 where
  pub other : Token
  pub of_settings : Contains (tokens_of settings) other
  pub same_person : other.person ≡ token.person
  pub person_is : person ≡ token.person
  pub same_mac : mac_of other.token token.person ends ≡ mac_of token.token token.person ends

abbrev pub CookiesNeedTheirToken : Type 0
CookiesNeedTheirToken = (settings : Settings) (token : Token) (ends now : ℕ) (person : List ℕ)
    → ends < 2 ^ 32 → caller_of settings (sealed token ends) now ≡ Some person
    → IsMadeBy settings token ends person
