-- The date of a reply.
use Rattle.std.specs.Prelude.{◌≡◌, ◌⊎◌, ℕ, List, Option, Some}
use Rattle.httpdate.specs.Date.{date_text, unix_secs}
use Rattle.httpdate.specs.declared.date.HttpDate.{HttpDate}
use Rattle.http_rules.specs.Date.{dated}

-- it was given the date of this second; or stayed as it was, where there was no second or no memory
abbrev pub IsDatedAt : Option ℕ → List ℕ → List ℕ → Type 0
IsDatedAt second whole reply =
    (reply ≡ whole)
    ⊎ ((date : HttpDate) × (second ≡ Some (unix_secs date)) × (reply ≡ dated (date_text date) whole))

-- the same of some second
abbrev pub IsDated : List ℕ → List ℕ → Type 0
IsDated whole reply = (second : Option ℕ) × IsDatedAt second whole reply
