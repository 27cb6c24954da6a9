-- What is known of values that are told one after the other: none, one, or several.
use Rattle.std.specs.Prelude.{ℕ, List, [], ◌∷◌, Option, Some, None}
use Rattle.browser_core.specs.declared.known.Known.{Known as InCode}
use Rattle.browser_core.specs.declared.known.Known.TheVariants as code

pub data Known : Type 0 where
  Nothing : Known
  One : List ℕ → Known
  Several : Known

abbrev pub with_one : Known → List ℕ → Known
with_one Nothing value = One value
with_one (One other) value = Several
with_one Several value = Several

abbrev pub with_all : Known → List (List ℕ) → Known
with_all known [] = known
with_all known (value ∷ values) = with_all (with_one known value) values

abbrev pub the_one : Known → Option (List ℕ)
the_one Nothing = None
the_one (One value) = Some value
the_one Several = None

-- the same as the code holds it
abbrev pub known_of : InCode → Known
known_of code.Nothing = Nothing
known_of (code.One value) = One value.now
known_of code.Several = Several
