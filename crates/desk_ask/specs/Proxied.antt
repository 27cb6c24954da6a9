-- What is told of a reply that came through a proxy.
use Rattle.std.specs.Prelude.{◌≡◌, ℕ, List, ⊤}
use Rattle.httparse.specs.Grammar.{ResponseHead, ReadsResponse, status_code}
use Rattle.desk_ask.specs.declared.proxied.Seen.{Seen}
use Rattle.desk_ask.specs.declared.proxied.Seen.TheVariants.{Whole, Part, Other}

-- the bytes are a head by HTTP's rules, with this code, and behind it just the text
abbrev pub IsReply : List ℕ → ℕ → List ℕ → Type 0
IsReply bytes code text =
    (head : ResponseHead) × ReadsResponse bytes head text × (status_code head ≡ code)

-- what is told stands so in the bytes
abbrev pub TellsWhatCame : List ℕ → Seen → Type 0
TellsWhatCame bytes (Whole told) = IsReply bytes told.code told.text.now
TellsWhatCame bytes Part = ⊤
TellsWhatCame bytes Other = ⊤

-- what is told is this code and this text
abbrev pub TellsJust : ℕ → List ℕ → Seen → Type 0
TellsJust code text (Whole told) = (told.code ≡ code) × (told.text.now ≡ text)
TellsJust code text Part = ⊤
TellsJust code text Other = ⊤
