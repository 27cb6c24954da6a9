-- A page: markup of the program, and texts of somebody's in it.
use Rattle.std.specs.Prelude.{ℕ, List, [], map}
use Rattle.std.specs.List.{flat_map}
use Rattle.page_core.specs.Escape.{escaped}

pub data Part : Type 0 where
  Markup : List ℕ → Part
  Text : List ℕ → Part

-- markup as it is, a text escaped
abbrev pub part_bytes : Part → List ℕ
part_bytes (Markup bytes) = bytes
part_bytes (Text text) = escaped text

abbrev pub page_bytes : List Part → List ℕ
page_bytes parts = flat_map part_bytes parts

-- the page with every text empty
abbrev pub emptied : Part → Part
emptied (Markup bytes) = Markup bytes
emptied (Text text) = Text []

abbrev pub without_texts : List Part → List Part
without_texts parts = map emptied parts
