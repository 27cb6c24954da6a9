-- A note of the desk's settings and of the bytes of a reply.
use Rattle.std.proofs.Common.{◌≡◌, ℕ, Bool, List, Result, subst}
use Rattle.settings_core.specs.declared.settings.Settings.{Settings}
use Rattle.message_core.specs.declared.fault.WireFault.{WireFault}
use Rattle.message_core.specs.declared.request.Request.{Request}
use Rattle.web_core.specs.Notes.{IsNote}

pub note_same : (proxied https : Bool) (s t : Settings) (at : ℕ) (read : Result Request WireFault)
    (bytes reply note : List ℕ) → t ≡ s → bytes ≡ reply → IsNote proxied https t at read bytes note
    → IsNote proxied https s at read reply note
note_same proxied https s t at read bytes reply note same is noted =
    subst (λ (b : List ℕ). IsNote proxied https s at read b note) is
    (subst (λ (x : Settings). IsNote proxied https x at read bytes note) same noted)
