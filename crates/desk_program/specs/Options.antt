-- The words of a server, and those of one command.
use Rattle.std.specs.Prelude.{ℕ, Bool, false, ◌&&◌, ◌==◌, nat_le, nat_lt, if◌then◌else◌, List, []}
use Rattle.std.specs.Prelude.{◌∷◌, Option, Some, None, option_and_then, codes, length, take, drop}
use Rattle.std.specs.Str.{bytes_eq}
use Rattle.desk_words.specs.Number.{number_of}

-- ---- a server

-- the values of two options, in either order, and nothing else
unfoldable pub both_values : List ℕ → List ℕ → List (List ℕ) → Option (List ℕ × List ℕ)
both_values one other (a ∷ x ∷ b ∷ y ∷ []) =
    if bytes_eq a one && bytes_eq b other then Some (x, y)
    else if bytes_eq a other && bytes_eq b one then Some (y, x)
    else None
both_values one other words = None

-- the number of a word, from 1 to the most
abbrev pub from_one_to : ℕ → ℕ → Option ℕ
from_one_to most n = if nat_le 1 n && nat_le n most then Some n else None

abbrev pub counted : ℕ → Option ℕ → Option ℕ
counted most None = None
counted most (Some n) = from_one_to most n

-- a file of tables and one of settings, a port, and a number of connections
abbrev pub Served : Type 0
Served = List ℕ × List ℕ × ℕ × ℕ

abbrev pub served_by : List ℕ × List ℕ → Option ℕ → Option ℕ → Option Served
served_by files (Some port) (Some count) = Some (files.0, files.1, port, count)
served_by files port count = None

unfoldable pub served_with : Option (List ℕ × List ℕ) → Option (List ℕ × List ℕ) → Option Served
served_with (Some files) (Some numbers) =
    served_by files (counted 65535 (number_of numbers.0)) (counted 1000000 (number_of numbers.1))
served_with files numbers = None

abbrev pub is_next : List ℕ → List (List ℕ) → Bool
is_next wanted [] = false
is_next wanted (word ∷ words) = bytes_eq word wanted

-- `--db FILE --settings FILE serve --port N --count K`, each two options in either order
abbrev pub serving_of : List (List ℕ) → Option Served
serving_of words =
    if (length words == 9) && is_next (codes "serve") (drop 4 words)
    then served_with (both_values (codes "--db") (codes "--settings") (take 4 words))
    (both_values (codes "--port") (codes "--count") (take 4 (drop 5 words)))
    else None

-- ---- one command

-- the value that follows a key, in four pairs of a key and a value
unfoldable pub value_of : List ℕ → List (List ℕ) → Option (List ℕ)
value_of key (a ∷ x ∷ b ∷ y ∷ c ∷ z ∷ d ∷ u ∷ []) =
    if bytes_eq a key then Some x
    else if bytes_eq b key then Some y
    else if bytes_eq c key then Some z
    else if bytes_eq d key then Some u
    else None
value_of key words = None

-- a file of tables and one of settings, a caller and a moment, and the words of a command
abbrev pub OneCommand : Type 0
OneCommand = List ℕ × List ℕ × List ℕ × ℕ × List (List ℕ)

unfoldable pub one_with : Option (List ℕ) → Option (List ℕ) → Option (List ℕ) → Option ℕ
    → List (List ℕ) → Option OneCommand
one_with (Some tables) (Some settings) (Some caller) (Some at) words =
    Some (tables, settings, caller, at, words)
one_with tables settings caller at words = None

-- the four options, and the words of a command: each of four keys stands in four pairs, so each
-- stands there once, and no other
abbrev pub after_options : List (List ℕ) → List (List ℕ) → Option OneCommand
after_options front words =
    one_with (value_of (codes "--db") front) (value_of (codes "--settings") front)
    (value_of (codes "--caller") front)
    (option_and_then number_of (value_of (codes "--at") front)) words

-- `--db FILE --settings FILE --caller PERSON --at MOMENT` in any order, and one word at least
abbrev pub one_command_of : List (List ℕ) → Option OneCommand
one_command_of words =
    if nat_lt 8 (length words) then after_options (take 8 words) (drop 8 words) else None
