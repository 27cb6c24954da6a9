-- The machine of one connection.
use Rattle.std.specs.Prelude.{◌≡◌, ℕ, ⊤, ◌+◌, ◌-◌, ◌^◌, ◌==◌, ◌||◌, min, nat_lt, nat_le, if◌then◌else◌}
use Rattle.std.specs.Prelude.{Bool, true, false, List, [], ◌∷◌, ◌++◌, length, drop, Option, Some, None}
use Rattle.std.specs.Prelude.{is_none}
use Rattle.connection_core.specs.declared.phase.Part.{Part}
use Rattle.connection_core.specs.declared.phase.Part.TheVariants.{Blank, Line, Start, Return, Body}
use Rattle.connection_core.specs.declared.phase.Phase.{Phase}
use Rattle.connection_core.specs.declared.phase.Phase.TheVariants.{Reading, Ready, Writing}
use Rattle.connection_core.specs.declared.phase.Phase.TheVariants.{Lingering, Closed}

-- ---- where a message ends

abbrev pub is_line_end : ℕ → Bool
is_line_end b = (b == 10) || (b == 13)

-- the part after one more byte of the head; none where the byte ends it: it is the line feed of the
-- first empty line after one that isn't
abbrev pub head_after : Part → ℕ → Option Part
head_after Blank b = if is_line_end b then Some Blank else Some Line
head_after Line b = if b == 10 then Some Start else Some Line
head_after Start b = if b == 10 then None else if b == 13 then Some Return else Some Line
head_after Return b = if b == 10 then None else Some Line
head_after (Body n) b = Some (Body n)

-- so many bytes of the body are missing
abbrev pub awaiting : ℕ → Phase
awaiting n = if n == 0 then Ready else Reading (Body n)

-- what the head states of its body: its length, or that the message is answered by its head alone
abbrev pub awaits : Option ℕ → Phase
awaits None = Ready
awaits (Some n) = awaiting n

-- the head after one more byte, if it states so much where it ends: it is over, or goes on for at most 8,192 bytes
abbrev pub head_goes_on : Option ℕ → List ℕ → Option Part → Phase
head_goes_on said came None = awaits said
head_goes_on said came (Some part) = if nat_lt (length came) 8192 then Reading part else Ready

-- the phase after one more byte of a message, which is the last of those that came, if the head
-- states so much where it ends
abbrev pub phase_after : Option ℕ → Part → ℕ → List ℕ → Phase
phase_after said (Body n) b came = awaiting (n - 1)
phase_after said Blank b came = head_goes_on said came (head_after Blank b)
phase_after said Line b came = head_goes_on said came (head_after Line b)
phase_after said Start b came = head_goes_on said came (head_after Start b)
phase_after said Return b came = head_goes_on said came (head_after Return b)

-- more than the message may follow: it is answered by its head alone, or its head is too long
abbrev pub head_leaves : Option ℕ → List ℕ → Option Part → Bool
head_leaves said came None = is_none said
head_leaves said came (Some part) = nat_le 8192 (length came)

-- the same after one more byte of a message, which is the last of those that came
abbrev pub leaves : Option ℕ → Part → ℕ → List ℕ → Bool
leaves said (Body n) b came = false
leaves said Blank b came = head_leaves said came (head_after Blank b)
leaves said Line b came = head_leaves said came (head_after Line b)
leaves said Start b came = head_leaves said came (head_after Start b)
leaves said Return b came = head_leaves said came (head_after Return b)

-- the byte ends the head
abbrev pub ends_head : Phase → ℕ → Bool
ends_head (Reading part) b = is_none (head_after part b)
ends_head Ready b = false
ends_head Writing b = false
ends_head Lingering b = false
ends_head Closed b = false

-- ---- a connection

pub record Conn : Type 0 where
  pub phase : Phase
  -- the bytes of its message so far
  pub came : List ℕ
  -- those of its reply that are left to write
  pub left : List ℕ
  -- when it is dropped, in milliseconds
  pub deadline : ℕ
  -- more than its message came, or may come: that is no whole message of the stated length
  pub more : Bool

abbrev pub later : ℕ → ℕ → ℕ
later now wait = min (now + wait) (2 ^ 64 - 1)

abbrev pub closed : Conn
closed = record { phase = Closed; came = []; left = []; deadline = 0; more = false }

-- it was accepted: its message has to be whole within thirty seconds
abbrev pub opened : ℕ → Conn
opened now =
    record { phase = Reading Blank; came = []; left = []; deadline = later now 30000; more = false }

-- its message was answered: the reply has to be taken within thirty seconds
abbrev pub answered : Bool → List ℕ → ℕ → Conn
answered more reply now =
    record { phase = Writing; came = []; left = reply; deadline = later now 30000; more = more }

-- its reply has gone out: what still comes is dropped for two seconds
abbrev pub lingering : Bool → ℕ → Conn
lingering more now =
    record { phase = Lingering; came = []; left = []; deadline = later now 2000; more = more }

-- more has come than its message
abbrev pub surplus : Conn → Conn
surplus c =
    record { phase = c.phase; came = c.came; left = c.left; deadline = c.deadline; more = true }

abbrev pub byte_in : Option ℕ → Phase → Conn → ℕ → Conn
byte_in said (Reading part) c b =
    let came = c.came ++ b ∷ [] in
    record {
      phase = phase_after said part b came;
      came = came;
      left = c.left;
      deadline = c.deadline;
      more = leaves said part b came;
    }
byte_in said Ready c b = surplus c
byte_in said Writing c b = surplus c
byte_in said Lingering c b = surplus c
byte_in said Closed c b = c

-- one byte comes: it is taken while the message isn't whole, and passed over then
abbrev pub takes_byte : Option ℕ → Conn → ℕ → Conn
takes_byte said c b = byte_in said c.phase c b

abbrev pub takes : Option ℕ → Conn → List ℕ → Conn
takes said c [] = c
takes said c (b ∷ bs) = takes said (takes_byte said c b) bs

abbrev pub is_empty : List ℕ → Bool
is_empty [] = true
is_empty (b ∷ bs) = false

abbrev pub ended_in : Phase → Conn → Conn
ended_in (Reading part) c =
    if is_empty c.came then closed
    else record {
      phase = Ready;
      came = c.came;
      left = c.left;
      deadline = c.deadline;
      more = c.more;
    }
ended_in Ready c = c
ended_in Writing c = c
ended_in Lingering c = closed
ended_in Closed c = c

-- The peer sends no more. What came of a message is answered; nothing, if nothing came.
abbrev pub ended : Conn → Conn
ended c = ended_in c.phase c

-- so many bytes of its reply were written
abbrev pub wrote : Conn → ℕ → ℕ → Conn
wrote c n now =
    if nat_le (length c.left) n then lingering c.more now
    else record {
      phase = c.phase;
      came = c.came;
      left = drop n c.left;
      deadline = c.deadline;
      more = c.more;
    }

abbrev pub settled_in : Phase → Conn → Conn
settled_in Lingering c = if c.more then c else closed
settled_in (Reading part) c = c
settled_in Ready c = c
settled_in Writing c = c
settled_in Closed c = c

-- Nothing waits to be read. One whose reply has gone out is over, unless more than its message came
-- or may come: a reset could destroy the reply then.
abbrev pub settled : Conn → Conn
settled c = settled_in c.phase c

-- its deadline, if this moment isn't before it
abbrev pub passed : Conn → ℕ → Conn
passed c now = if nat_le c.deadline now then closed else c

-- ---- what happens to one

pub data Event : Type 0 where
  -- the peer has sent these; where the head ends in them, it states so much of its body
  Came : Option ℕ → List ℕ → Event
  -- it sends no more
  Ended : Event
  -- so many bytes of the reply were written, at this moment
  Wrote : ℕ → ℕ → Event
  -- a read or a write failed, or memory was refused
  Broke : Event
  -- it is this moment
  Passed : ℕ → Event
  -- nothing waits to be read
  Settled : Event

abbrev pub wrote_in : Phase → Conn → ℕ → ℕ → Conn
wrote_in Writing c n now = wrote c n now
wrote_in (Reading part) c n now = c
wrote_in Ready c n now = c
wrote_in Lingering c n now = c
wrote_in Closed c n now = c

abbrev pub after : Conn → Event → Conn
after c (Came said bytes) = takes said c bytes
after c Ended = ended c
after c (Wrote n now) = wrote_in c.phase c n now
after c Broke = closed
after c (Passed now) = passed c now
after c Settled = settled c

abbrev pub afters : Conn → List Event → Conn
afters c [] = c
afters c (e ∷ es) = afters (after c e) es

-- ---- what heads state

-- where the head of the message ends in these bytes, it states so much
abbrev pub IsSaid : (List ℕ → Option ℕ → Type 0) → Option ℕ → Conn → List ℕ → Type 0
IsSaid States said c [] = ⊤
IsSaid States said c (b ∷ bs) =
    (ends_head c.phase b ≡ true → States (c.came ++ b ∷ []) said)
    × IsSaid States said (takes_byte said c b) bs

-- the phase after the last byte of a head so far, and whether more than its message may follow, by
-- what the head states if it ended
abbrev pub MovesOn : (List ℕ → Option ℕ → Type 0) → Option Part → List ℕ → Phase → Bool → Type 0
MovesOn States part came phase more =
    (said : Option ℕ) × (is_none part ≡ true → States came said)
    × (phase ≡ head_goes_on said came part) × (more ≡ head_leaves said came part)

-- the same after one more byte of a message
abbrev pub Moves : (List ℕ → Option ℕ → Type 0) → Part → ℕ → List ℕ → Phase → Bool → Type 0
Moves States part b came phase more =
    (said : Option ℕ) × (ends_head (Reading part) b ≡ true → States came said)
    × (phase ≡ phase_after said part b came) × (more ≡ leaves said part b came)

-- these bytes are taken, by what the head states that ends in them
abbrev pub Hears : (List ℕ → Option ℕ → Type 0) → Conn → List ℕ → Conn → Type 0
Hears States old bytes new =
    (said : Option ℕ) × IsSaid States said old bytes × (new ≡ takes said old bytes)

abbrev pub IsTold : (List ℕ → Option ℕ → Type 0) → Conn → Event → Type 0
IsTold States c (Came said bytes) = IsSaid States said c bytes
IsTold States c Ended = ⊤
IsTold States c (Wrote n now) = ⊤
IsTold States c Broke = ⊤
IsTold States c (Passed now) = ⊤
IsTold States c Settled = ⊤

-- in all these events each head states what it is told to state
abbrev pub AreTold : (List ℕ → Option ℕ → Type 0) → Conn → List Event → Type 0
AreTold States c [] = ⊤
AreTold States c (e ∷ es) = IsTold States c e × AreTold States (after c e) es
