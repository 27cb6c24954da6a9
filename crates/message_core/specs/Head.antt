-- The head of a message: a request's head as `httparse` reads it, of at most 8,192 bytes and 32
-- header lines.
use Rattle.std.specs.Prelude.{◌≤◌, ◌==◌, ◌||◌, ℕ, Bool, List, [], ◌++◌, length, Option}
use Rattle.std.specs.List.{list_all}
use Rattle.httparse.specs.Grammar.{ReadsRequest, RequestHead, print_request}
use Rattle.stream_core.specs.Streams.{Takes}

abbrev pub head_limit : ℕ
head_limit = 8192

abbrev pub line_limit : ℕ
line_limit = 32

-- the stream is this head and then the rest
pub record StartsWith (stream : List ℕ) (h : RequestHead) (rest : List ℕ) : Type 0 where
  pub reads : ReadsRequest stream h rest
  pub short : length (print_request h) ≤ head_limit
  pub few : length h.fields ≤ line_limit

-- the stream starts with no head
abbrev pub HasNoHead : List ℕ → Type 0
HasNoHead stream = (h : RequestHead) (rest : List ℕ) → StartsWith stream h rest → ⊥

-- the bytes are a head, and nothing else
abbrev pub IsHead : List ℕ → Type 0
IsHead bytes = (h : RequestHead) × StartsWith bytes h []

-- the bytes start with a head of at most 32 header lines, however long
abbrev pub HasLimitedHead : List ℕ → Type 0
HasLimitedHead bytes =
    (h : RequestHead) × (rest : List ℕ)
    × ReadsRequest bytes h rest × (length h.fields ≤ line_limit)

-- the bytes start with no head of at most 32 header lines
abbrev pub HasNoLimitedHead : List ℕ → Type 0
HasNoLimitedHead bytes =
    (h : RequestHead) (rest : List ℕ)
    → ReadsRequest bytes h rest → length h.fields ≤ line_limit → ⊥

-- a reader's stream has no head; some bytes of it were taken
abbrev pub LacksHead : Option (List ℕ) → Option (List ℕ) → Type 0
LacksHead old new =
    (taken : List ℕ) × (rest : List ℕ) × Takes old new taken rest × HasNoHead (taken ++ rest)

-- ---- empty lines

-- a line feed or a carriage return
abbrev pub is_line_end : ℕ → Bool
is_line_end b = b == 10 || b == 13

abbrev pub are_line_ends : List ℕ → Bool
are_line_ends bytes = list_all is_line_end bytes
