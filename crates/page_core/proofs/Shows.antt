-- A piece of a page, and the markup that is read in it.
use Rattle.std.proofs.Common.{◌≡◌, ◌∙◌, ℕ, List}
use Rattle.page_core.specs.Page.{Part, page_bytes, without_texts}
use Rattle.page_core.specs.Reading.{InText, IsPage, outline}
use Rattle.page_core.proofs.Injection.{same_outline}

-- each text stands where it may, and this is the markup
pub record Shows (parts : List Part) (markup : List ℕ) : Type 0 where
  pub page : IsPage parts
  pub outlined : outline InText (page_bytes parts) ≡ markup

-- the markup of the piece with every text empty
pub shows : (parts : List Part) (markup : List ℕ) → IsPage parts
    → outline InText (page_bytes (without_texts parts)) ≡ markup → Shows parts markup
shows parts markup page empty =
    record { page = page; outlined = same_outline parts page ∙ empty }
