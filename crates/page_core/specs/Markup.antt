-- What of a page's markup a law says.
use Rattle.std.specs.Prelude.{◌≡◌, ℕ, List}
use Rattle.page_core.specs.Page.{Part, page_bytes}
use Rattle.page_core.specs.Reading.{InText, IsPage, outline}

-- the markup that is read in these parts
abbrev pub markup_of : List Part → List ℕ
markup_of parts = outline InText (page_bytes parts)

-- in both each text stands in text or in a value, and the same markup is read in both
pub record SameMarkup (parts others : List Part) : Type 0 where
  pub placed : IsPage parts
  pub other : IsPage others
  pub same : markup_of parts ≡ markup_of others
