-- HMAC-SHA-256 (RFC 2104) as a function on lists of bytes.
use Rattle.std.specs.Prelude.{ℕ, ◌-◌, nat_le, if◌then◌else◌, List, ◌++◌, length, map, replicate}
use Rattle.std.specs.Prelude.{bit_xor}
use Rattle.sha2.specs.Sha256.{sha256}

-- a key of at most a block, which is 64 bytes, as it is, and the digest of a longer one
abbrev pub short_key : List ℕ → List ℕ
short_key key = if nat_le (length key) 64 then key else sha256 key

-- with zeros at the end, up to a block
abbrev pub filled : List ℕ → List ℕ
filled key = key ++ replicate (64 - length key) 0

-- each byte of a block XOR this one
abbrev pub padded : ℕ → List ℕ → List ℕ
padded byte block = map (bit_xor byte) block

-- H (K XOR opad, H (K XOR ipad, message))
unfoldable pub hmac : List ℕ → List ℕ → List ℕ
hmac key message =
    sha256 (padded 0x5C (filled (short_key key))
    ++ sha256 (padded 0x36 (filled (short_key key)) ++ message))
