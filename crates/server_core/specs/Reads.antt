-- What one read and one write do.
use Rattle.std.specs.Prelude.{◌≡◌, ◌≢◌, ◌≤◌, ◌⊎◌, ℕ, Bool, true, false, List, [], ◌∷◌, Option}
use Rattle.std.specs.Prelude.{None, length, take}
use Rattle.std.specs.Io.KnownBytes.{Appends, Consumes, IsAtEnd, Keeps}
use Rattle.connection_core.specs.Machine.{Conn, Hears, closed, ended, wrote}
use Rattle.connection_core.specs.declared.phase.Phase.{Phase}
use Rattle.connection_core.specs.declared.phase.Phase.TheVariants.{Reading, Ready, Writing, Lingering, Closed}
use Rattle.server_core.specs.Calls.{Io, Reads, Writes, is_idle}
use Rattle.server_core.specs.declared.host.Readiness.{Readiness}

-- One read, which gave so many bytes if it didn't fail. Bytes came, and were taken by what their head
-- states, or the connection is dropped for want of memory; or the peer sends no more; or the read
-- failed: then no byte is lost, and the connection stays or is dropped.
abbrev pub HasRead : (List ℕ → Option ℕ → Type 0) → Option (List ℕ) → Option (List ℕ)
    → Option ℕ → Conn → Conn → Type 0
HasRead States had left got old new =
    ((b : ℕ) × (bs : List ℕ) × Consumes had left (b ∷ bs)
    × (Hears States old (b ∷ bs) new ⊎ (new ≡ closed)))
    ⊎ (Consumes had left [] × IsAtEnd left × (new ≡ ended old))
    ⊎ (Keeps had left × (got ≡ None) × ((new ≡ old) ⊎ (new ≡ closed)))

-- one write at this moment: so many bytes of the reply were taken; or it failed
abbrev pub HasWritten : ℕ → Option (List ℕ) → Option (List ℕ) → Option ℕ → Conn → Conn → Type 0
HasWritten now before held took old new =
    ((n : ℕ) × Appends before held (take n old.left) × (n ≤ length old.left) × (new ≡ wrote old n now))
    ⊎ (Keeps before held × (took ≡ None) × ((new ≡ old) ⊎ (new ≡ closed)))

-- a mark is taken away only by a call that failed
abbrev pub KeepsMark : Bool → Bool → Option ℕ → Type 0
KeepsMark old new got = (new ≡ old) ⊎ ((new ≡ false) × (got ≡ None))

-- the mark of a write: only by a call that failed, or that took nothing
abbrev pub KeepsWritable : Bool → Bool → Option ℕ → Type 0
KeepsWritable old new took = (new ≡ old) ⊎ ((new ≡ false) × (is_idle took ≡ true))

-- what comes is looked at
abbrev pub listens : Phase → Bool
listens (Reading part) = true
listens Ready = false
listens Writing = false
listens Lingering = true
listens Closed = false

-- its stream was read once, where its mark says that something came, and it is looked at; else not
abbrev pub ReadsOnce : Readiness → Bool → List Io → Readiness → Type 0
ReadsOnce old listening ios new =
    ((old.readable ≡ true) × (listening ≡ true)
    × (got : Option ℕ) × (ios ≡ Reads got ∷ []) × KeepsMark old.readable new.readable got
    × (new.writable ≡ old.writable))
    ⊎ (((old.readable ≡ false) ⊎ (listening ≡ false)) × (ios ≡ []) × (new ≡ old))

-- its stream was written once, where its mark says that something may be taken, and a reply goes out;
-- else not
abbrev pub WritesOnce : Readiness → Phase → List Io → Readiness → Type 0
WritesOnce old phase ios new =
    ((old.writable ≡ true) × (phase ≡ Writing)
    × (took : Option ℕ) × (ios ≡ Writes took ∷ []) × KeepsWritable old.writable new.writable took
    × (new.readable ≡ old.readable))
    ⊎ (((old.writable ≡ false) ⊎ (phase ≢ Writing)) × (ios ≡ []) × (new ≡ old))
