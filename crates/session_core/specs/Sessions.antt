-- Who is signed in by a cookie, and until when.
use Rattle.std.specs.Prelude.{ℕ, ◌+◌, nat_le, nat_lt, Bool, false, ◌&&◌, List, Option, Some, None, find}
use Rattle.std.specs.Option.{option_map}
use Rattle.std.specs.Str.{bytes_eq}
use Rattle.settings_parts.specs.declared.people.Token.{Token}
use Rattle.settings_core.specs.Settings.{tokens_of}
use Rattle.settings_core.specs.declared.settings.Settings.{Settings}
use Rattle.session_core.specs.Seal.{opened, sealed}
use Rattle.session_core.specs.declared.session.Lasts.{Lasts}
use Rattle.session_core.specs.declared.session.Lasts.TheVariants.{Day, Month}

-- 12 hours or 30 days, in minutes
abbrev pub minutes_of : Lasts → ℕ
minutes_of Day = 720
minutes_of Month = 43200

-- ---- signing in

-- the cookie of a token, from a minute on
abbrev pub made : Token → ℕ → Lasts → List ℕ
made token now lasts = sealed token (now + minutes_of lasts)

-- the token of the settings that was typed, with its person
abbrev pub token_typed : Settings → List ℕ → Option Token
token_typed settings typed = find (λ t. bytes_eq t.token typed) (tokens_of settings)

-- the cookie of one who signs in by a token of the settings
abbrev pub signed_in : Settings → List ℕ → ℕ → Lasts → Option (List ℕ)
signed_in settings typed now lasts =
    option_map (λ token. made token now lasts) (token_typed settings typed)

-- ---- for whom a cookie stands

-- a session that ends then hasn't ended, and ends no later than one that is made now
abbrev pub is_open : ℕ → ℕ → Bool
is_open now ends = nat_lt now ends && nat_le ends (now + minutes_of Month)

abbrev pub is_open_to : ℕ → Option ℕ → Bool
is_open_to now None = false
is_open_to now (Some ends) = is_open now ends

-- the token seals the cookie, and its session is open
abbrev pub seals : List ℕ → ℕ → Token → Bool
seals cookie now token = is_open_to now (opened token cookie)

-- the person of the first token that does
abbrev pub caller_in : List Token → List ℕ → ℕ → Option (List ℕ)
caller_in tokens cookie now = option_map (λ t. t.person) (find (seals cookie now) tokens)

abbrev pub caller_of : Settings → List ℕ → ℕ → Option (List ℕ)
caller_of settings cookie now = caller_in (tokens_of settings) cookie now
