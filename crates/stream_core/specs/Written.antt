-- What a writer has taken of a text.
use Rattle.std.specs.Prelude.{◌≡◌, ◌≤◌, ◌+◌, ℕ, Bool, true, false, List, ◌∷◌, ◌++◌, Option, length}
use Rattle.std.specs.Io.KnownBytes.{Appends}
use Rattle.stream_core.specs.Seen.{has_write_failed, held_in, writes_of}
use Rattle.stream_core.specs.declared.writer.CountedWriter.{CountedWriter}

-- a text was written whole, or where a write failed a part from its front that lacks a byte or more
abbrev pub IsWritten : Bool → Option (List ℕ) → Option (List ℕ) → List ℕ → Type 0
IsWritten false old new text = Appends old new text
IsWritten true old new text =
    (part : List ℕ) × (byte : ℕ) × (rest : List ℕ)
    × (text ≡ part ++ byte ∷ rest) × Appends old new part

-- the same after other texts: where a write has failed, nothing more is written
abbrev pub WritesOn : Bool → Bool → Option (List ℕ) → Option (List ℕ) → List ℕ → Type 0
WritesOn false failed old new text = IsWritten failed old new text
WritesOn true failed old new text = (failed ≡ true) × (new ≡ old)

-- a text was written after other texts, in at most as many writes as it has bytes
pub record Prints {W : Type 0} (contents : W → Option (List ℕ)) (old new : CountedWriter W)
    (text : List ℕ) : Type 0 where
  pub written : WritesOn (has_write_failed old) (has_write_failed new)
      (held_in contents old) (held_in contents new) text
  pub counted : writes_of new ≤ writes_of old + length text
