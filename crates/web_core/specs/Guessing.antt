-- Wrong tokens on the page that signs in, behind a proxy: ten from one address in a minute bar it for the
-- rest of that minute.
use Rattle.std.specs.Prelude.{◌≡◌, ◌⊎◌, ◌&&◌, ℕ, Bool, true, false, if◌then◌else◌, List, [], take}
use Rattle.std.specs.Prelude.{MatchBool, None, Result, Ok, Err, codes}
use Rattle.std.specs.Str.{bytes_eq}
use Rattle.httparse.specs.Grammar.{RequestHead}
use Rattle.guess_core.specs.Guesses.{Table, begun, is_barred, noted}
use Rattle.log_core.specs.Log.{address_of}
use Rattle.settings_core.specs.declared.settings.Settings.{Settings}
use Rattle.message_core.specs.Head.{StartsWith}
use Rattle.message_core.specs.Request.{values_in}
use Rattle.message_core.specs.declared.fault.WireFault.{WireFault}
use Rattle.message_core.specs.declared.message.Message.{Message}
use Rattle.message_core.specs.declared.reply.Reply.{Reply}
use Rattle.message_core.specs.declared.request.Request.{Request}
use Rattle.page_routes.specs.Places.{path_in}
use Rattle.page_routes.specs.Visits.{is_wrong_token}
use Rattle.wire_core.specs.Replies.{reply_with}
use Rattle.web_core.specs.Notes.{forwarded_in}
use Rattle.web_core.specs.declared.guessing.Guard.{Guard}
use Rattle.web_core.specs.declared.guessing.Guard.TheVariants.{Open, Barred, Unseen}

-- a POST of `/sign-in`
abbrev pub sends_token : Message → Bool
sends_token message =
    bytes_eq message.method (codes "POST") && bytes_eq (path_in message.target) (codes "/sign-in")

-- the address that a proxy tells, as the log has it
abbrev pub address_in : RequestHead → List ℕ
address_in h = take 45 (address_of (forwarded_in true h))

-- it is barred at a minute
abbrev pub bars : Table → ℕ → RequestHead → Bool
bars guesses at h = is_barred guesses (address_in h) at

abbrev pub noted_if : Bool → Table → List ℕ → ℕ → Table
noted_if wrong guesses address at = if wrong then noted guesses address at else guesses

-- a wrong token is noted; one from an address that is barred isn't looked at
abbrev pub with_token : Table → List ℕ → Bool → ℕ → Table
with_token guesses address wrong at =
    if is_barred guesses address at then guesses else noted_if wrong guesses address at

abbrev pub after_token : Bool → Settings → ℕ → Message → RequestHead → Table → Table
after_token https settings at message h guesses =
    with_token guesses (address_in h) (is_wrong_token https settings at message (values_in h)) at

abbrev pub guard_by : Bool → Guard
guard_by barred = if barred then Barred else Open

-- A token that is sent is let through exactly where its address isn't barred. Where there was no memory
-- to look at it, at most the table's minute has begun.
abbrev pub GuardsToken : Bool → Settings → ℕ → Request → Table → Guard → Table → Type 0
GuardsToken https settings at request old Unseen new = (new ≡ old) ⊎ (new ≡ begun old at)
GuardsToken https settings at request old guard new =
    (h : RequestHead) → StartsWith request.head h [] → (guard ≡ guard_by (bars old at h))
    × (new ≡ after_token https settings at request.message h old)

-- what is no token is let through
abbrev pub LetsThrough : Table → Guard → Table → Type 0
LetsThrough old guard new = (guard ≡ Open) × (new ≡ old)

abbrev pub GuardsRequest : Bool → Bool → Settings → ℕ → Request → Table → Guard → Table → Type 0
GuardsRequest proxied https settings at request old guard new =
    MatchBool (proxied && sends_token request.message)
    (GuardsToken https settings at request old guard new) (LetsThrough old guard new)

-- what was read is let through, or not
abbrev pub Guards : Bool → Bool → Settings → ℕ → Result Request WireFault → Table → Guard → Table → Type 0
Guards proxied https settings at (Err fault) old guard new = LetsThrough old guard new
Guards proxied https settings at (Ok request) old guard new =
    GuardsRequest proxied https settings at request old guard new

-- only a token that is sent may not be let through
abbrev pub IsGuardOf : Result Request WireFault → Guard → Type 0
IsGuardOf (Err fault) guard = guard ≡ Open
IsGuardOf (Ok request) guard = sends_token request.message ≡ false → guard ≡ Open

-- what is told of a token from an address that is barred
abbrev pub barred_reply : Reply
barred_reply = reply_with 429 None (codes "too many wrong tokens: try again in a minute\n") false
