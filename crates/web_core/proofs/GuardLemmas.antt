-- What was seen of a token, by the address that its head tells.
use Rattle.std.proofs.Common.{◌≡◌, ◌∙◌, ℕ, Bool, true, false, List, if◌then◌else◌, ap, subst, sym}
use Rattle.std.proofs.Common.{Result, Ok, Err}
use Rattle.std.specs.Prelude.{MatchBool}
use Rattle.std.proofs.lemmas.Bool.{and_right}
use Rattle.httparse.specs.Grammar.{RequestHead}
use Rattle.guess_core.specs.Guesses.{Table, is_barred}
use Rattle.settings_core.specs.declared.settings.Settings.{Settings}
use Rattle.message_core.specs.Request.{values_in}
use Rattle.message_core.specs.declared.fault.WireFault.{WireFault}
use Rattle.message_core.specs.declared.message.Message.{Message}
use Rattle.message_core.specs.declared.request.Request.{Request}
use Rattle.page_routes.specs.Visits.{is_wrong_token}
use Rattle.web_core.specs.Guessing as form
use Rattle.web_core.specs.declared.guessing.Guard.{Guard}

module _ (https : Bool) (s : Settings) (at : ℕ) (message : Message) (h : RequestHead) (guesses : Table)
    (address : List ℕ) (same : address ≡ form.address_in h) where
  abbrev after : Bool → Table → Table
  after barred noted = if barred then guesses else noted

  abbrev wrong_at : Bool
  wrong_at = is_wrong_token https s at message (values_in h)

  bars_so : (b : Bool) → is_barred guesses address at ≡ b → form.bars guesses at h ≡ b
  bars_so b is = subst (λ (a : List ℕ). is_barred guesses a at ≡ b) same is

  -- its address is barred
  pub barred_so : is_barred guesses address at ≡ true
      → (true ≡ form.bars guesses at h) × (guesses ≡ form.after_token https s at message h guesses)
  barred_so is =
      let barred = bars_so true is in
      (sym barred, sym (ap (λ (b : Bool). after b (form.noted_if wrong_at guesses (form.address_in h) at)) barred))

  -- it isn't, and the token was noted if it was wrong
  pub noted_so : (wrong : Bool) (new : Table) → is_barred guesses address at ≡ false → wrong ≡ wrong_at
      → new ≡ form.noted_if wrong guesses address at
      → (false ≡ form.bars guesses at h) × (new ≡ form.after_token https s at message h guesses)
  noted_so wrong new is told noted =
      let barred = bars_so false is in (
        sym barred,
        noted ∙ ap (λ (w : Bool). form.noted_if w guesses address at) told
            ∙ ap (λ (a : List ℕ). form.noted_if wrong_at guesses a at) same
            ∙ sym (ap (λ (b : Bool). after b (form.noted_if wrong_at guesses (form.address_in h) at)) barred),
      )

-- what is no token is let through
pub only_tokens : (proxied https : Bool) (s : Settings) (at : ℕ) (read : Result Request WireFault)
    (old : Table) (guard : Guard) (new : Table) → form.Guards proxied https s at read old guard new
    → form.IsGuardOf read guard
only_tokens proxied https s at (Err fault) old guard new guards = guards.0
only_tokens proxied https s at (Ok request) old guard new guards = λ none.
    let through : form.LetsThrough old guard new =
    subst (λ (b : Bool). MatchBool b (form.GuardsToken https s at request old guard new)
    (form.LetsThrough old guard new))
    (and_right proxied (form.sends_token request.message) none) guards in
    through.0
