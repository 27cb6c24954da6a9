-- What one read and one write do to a connection.
use Rattle.std.proofs.Common.{◌≡◌, ◌∙◌, ◌⊎◌, inl, inr, ◌≤◌, ◌<◌, ◌==◌, ℕ, Bool, false, List, [], ◌∷◌}
use Rattle.std.proofs.Common.{Option, Some, None, refl, ap, sym, take, length, arith}
use Rattle.std.specs.Io.KnownBytes.{Appends, Consumes, IsAtEnd, Keeps}
use Rattle.connection_core.specs.Machine.{Conn, Came, Ended, Hears, Wrote, Broke, closed}
use Rattle.connection_core.specs.Machine.{ended, wrote, wrote_in}
use Rattle.connection_core.specs.declared.phase.Phase.{Phase}
use Rattle.connection_core.specs.declared.phase.Phase.TheVariants.{Writing}
use Rattle.server_core.specs.Calls.{Adds, At, Call, Reads, Writes}
use Rattle.server_core.specs.Reads.{HasRead, HasWritten, KeepsMark, KeepsWritable}
use Rattle.server_core.specs.Turns.{Moves}

abbrev ReadSo : (List ℕ → Option ℕ → Type 0) → Option (List Call) → Option (List Call) → ℕ
    → Option (List ℕ) → Option (List ℕ) → Conn → Conn → Bool → Bool → Type 0
ReadSo States calls called place had left old new mark after =
    (got : Option ℕ) × Adds calls called (At place (Reads got) ∷ [])
    × HasRead States had left got old new × KeepsMark mark after got

pub read_end : (States : List ℕ → Option ℕ → Type 0) (calls called : Option (List Call)) (place : ℕ)
    (had left : Option (List ℕ)) (old new : Conn) (mark after : Bool)
    → Adds calls called (At place (Reads (Some 0)) ∷ []) → new ≡ ended old → Consumes had left []
    → IsAtEnd left → after ≡ mark → ReadSo States calls called place had left old new mark after
read_end States calls called place had left old new mark after told is lost end same =
    (Some 0, told, inr (inl (lost, end, is)), inl same)

bytes_came : (States : List ℕ → Option ℕ → Type 0) (had left : Option (List ℕ)) (got : Option ℕ)
    (old new : Conn) (bytes : List ℕ) → 0 < length bytes → Hears States old bytes new ⊎ (new ≡ closed)
    → Consumes had left bytes → HasRead States had left got old new
bytes_came States had left got old new [] some took lost =
    let no : 0 < 0 = some in absurd (omega (arith, no))
bytes_came States had left got old new (b ∷ bs) some took lost = inl (b, bs, lost, took)

pub read_came : (States : List ℕ → Option ℕ → Type 0) (calls called : Option (List Call))
    (place count : ℕ) (had left : Option (List ℕ)) (old new : Conn) (mark after : Bool)
    (bytes : List ℕ) → Adds calls called (At place (Reads (Some count)) ∷ []) → 0 < length bytes
    → Hears States old bytes new ⊎ (new ≡ closed) → Consumes had left bytes → after ≡ mark
    → ReadSo States calls called place had left old new mark after
read_came States calls called place count had left old new mark after bytes told some took lost same =
    (Some count, told, bytes_came States had left (Some count) old new bytes some took lost, inl same)

pub read_fault : (States : List ℕ → Option ℕ → Type 0) (calls called : Option (List Call)) (place : ℕ)
    (had left : Option (List ℕ)) (old new : Conn) (mark after : Bool)
    → Adds calls called (At place (Reads None) ∷ []) → Keeps had left
    → (new ≡ old) ⊎ (new ≡ closed) → (after ≡ mark) ⊎ (after ≡ false)
    → ReadSo States calls called place had left old new mark after
read_fault States calls called place had left old new mark after told keeps is (inl same) =
    (None, told, inr (inr (keeps, refl, is)), inl same)
read_fault States calls called place had left old new mark after told keeps is (inr gone) =
    (None, told, inr (inr (keeps, refl, is)), inr (gone, refl))

abbrev WroteSo : ℕ → Option (List Call) → Option (List Call) → ℕ → Option (List ℕ)
    → Option (List ℕ) → Conn → Conn → Bool → Bool → Type 0
WroteSo now calls called place before held old new mark after =
    (took : Option ℕ) × Adds calls called (At place (Writes took) ∷ [])
    × HasWritten now before held took old new × KeepsWritable mark after took

pub write_took : (now : ℕ) (calls called : Option (List Call)) (place n : ℕ)
    (before held : Option (List ℕ)) (old new : Conn) (mark after : Bool)
    → Adds calls called (At place (Writes (Some n)) ∷ []) → Appends before held (take n old.left)
    → n ≤ length old.left → new ≡ wrote old n now → (after ≡ mark) ⊎ ((after ≡ false) × (n ≡ 0))
    → WroteSo now calls called place before held old new mark after
write_took now calls called place n before held old new mark after told gained few is (inl same) =
    (Some n, told, inl (n, gained, few, is), inl same)
write_took now calls called place n before held old new mark after told gained few is (inr (gone, none)) =
    (Some n, told, inl (n, gained, few, is), inr (gone, ap (λ (k : ℕ). k == 0) none))

pub write_fault : (now : ℕ) (calls called : Option (List Call)) (place : ℕ)
    (before held : Option (List ℕ)) (old new : Conn) (mark after : Bool)
    → Adds calls called (At place (Writes None) ∷ []) → Keeps before held
    → (new ≡ old) ⊎ (new ≡ closed) → (after ≡ mark) ⊎ (after ≡ false)
    → WroteSo now calls called place before held old new mark after
write_fault now calls called place before held old new mark after told keeps is (inl same) =
    (None, told, inr (keeps, refl, is), inl same)
write_fault now calls called place before held old new mark after told keeps is (inr gone) =
    (None, told, inr (keeps, refl, is), inr (gone, refl))

-- ---- the same as events

heard_moves : (States : List ℕ → Option ℕ → Type 0) (now : ℕ) (old new : Conn) (bytes : List ℕ)
    → Hears States old bytes new → Moves States now old new
heard_moves States now old new bytes (said, told, is) =
    (Came said bytes ∷ [], (tt, tt), (told, tt), is)

kept_moves : (States : List ℕ → Option ℕ → Type 0) (now : ℕ) (old new : Conn)
    → (new ≡ old) ⊎ (new ≡ closed) → Moves States now old new
kept_moves States now old new (inl same) = ([], tt, tt, same)
kept_moves States now old new (inr is) = (Broke ∷ [], (tt, tt), (tt, tt), is)

pub moves_read : (States : List ℕ → Option ℕ → Type 0) (now : ℕ)
    (had left : Option (List ℕ)) (got : Option ℕ) (old new : Conn)
    → HasRead States had left got old new → Moves States now old new
moves_read States now had left got old new (inl (b, bs, lost, inl looked)) =
    heard_moves States now old new (b ∷ bs) looked
moves_read States now had left got old new (inl (b, bs, lost, inr is)) =
    (Broke ∷ [], (tt, tt), (tt, tt), is)
moves_read States now had left got old new (inr (inl (lost, end, is))) =
    (Ended ∷ [], (tt, tt), (tt, tt), is)
moves_read States now had left got old new (inr (inr (keeps, told, is))) =
    kept_moves States now old new is

pub moves_written : (States : List ℕ → Option ℕ → Type 0) (now : ℕ) (before held : Option (List ℕ))
    (took : Option ℕ) (old new : Conn) → old.phase ≡ Writing
    → HasWritten now before held took old new → Moves States now old new
moves_written States now before held took old new writing (inl (n, gained, few, is)) = (
  Wrote n now ∷ [],
  (refl, tt),
  (tt, tt),
  is ∙ sym (ap (λ (p : Phase). wrote_in p old n now) writing),
)
moves_written States now before held took old new writing (inr (keeps, told, is)) =
    kept_moves States now old new is
