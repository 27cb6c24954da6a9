-- What a disk of cases shows: what the one does that it is.
use Rattle.std.specs.Prelude.{List, ℕ}
use Rattle.case_disk.specs.declared.disk.EitherDisk.{EitherDisk}
use Rattle.case_disk.specs.declared.disk.EitherDisk.TheVariants.{Memory, File}

module _ {M F : Type 0} where
  -- f of a disk in memory, and g of a file
  abbrev pub shown : {T : Type 0} → (M → T) → (F → T) → EitherDisk M F → T
  shown f g (Memory disk) = f disk
  shown f g (File disk) = g disk

  -- the same, of the contents that a crash may leave
  abbrev pub Leaves : (M → List ℕ → Type 0) → (F → List ℕ → Type 0) → EitherDisk M F → List ℕ → Type 0
  Leaves P Q (Memory disk) = P disk
  Leaves P Q (File disk) = Q disk

  -- what holds of each of both holds of the one that it is
  pub of_each : (P : EitherDisk M F → Type 0) → ((disk : M) → P (Memory disk)) → ((disk : F) → P (File disk)) → (it : EitherDisk M F) → P it
  of_each P f g (Memory disk) = f disk
  of_each P f g (File disk) = g disk
