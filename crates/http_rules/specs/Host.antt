-- The host that a message names.
use Rattle.std.specs.Prelude.{ℕ, Bool, false, ◌==◌, ◌||◌, List, [], ◌∷◌, codes}
use Rattle.std.specs.Char.{is_ascii_alphanumeric}
use Rattle.std.specs.List.{list_all, list_any}
use Rattle.httparse.specs.Grammar.{RequestHead}
use Rattle.message_core.specs.Request.{values_in}

-- what a host and its port may have
abbrev pub is_host_byte : ℕ → Bool
is_host_byte b =
    is_ascii_alphanumeric b || list_any (λ mark. mark == b) (codes "-._~!$&'()*+,;=:[]%")

-- by the values of all lines: one is a host; before HTTP/1.1 none is needed
abbrev pub name_host : ℕ → List (List ℕ) → Bool
name_host minor [] = minor == 0
name_host minor (host ∷ []) = list_all is_host_byte host
name_host minor (host ∷ other ∷ more) = false

abbrev pub has_host : RequestHead → Bool
has_host h = name_host h.minor (values_in h (codes "Host"))
