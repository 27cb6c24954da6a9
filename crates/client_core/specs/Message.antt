-- The bytes of the message that asks for a command.
use Rattle.std.specs.Prelude.{◌≡◌, ◌≤◌, ℕ, Bool, ◌&&◌, nat_le, nat_lt, List, ◌++◌, length}
use Rattle.std.specs.Prelude.{codes, decimal}
use Rattle.std.specs.List.{list_all}
use Rattle.desk_model.specs.declared.command.Command.{Command}
use Rattle.desk_forms.specs.Paths.{Row}
use Rattle.desk_forms.specs.Arguments.{Arguments}
use Rattle.desk_forms.specs.declared.paths.Method.{Method}
use Rattle.desk_forms.specs.declared.paths.Method.TheVariants.{Get, Post}
use Rattle.message_core.specs.Limits.{limit_at}
use Rattle.message_core.specs.declared.limits.BodyLimit.TheVariants.{Plain}
use Rattle.client_core.specs.Body.{Writes}
use Rattle.client_core.specs.Spelled.{Makes, many_of, row_at}
use Rattle.client_core.specs.Target.{target}

-- a printed byte of ASCII that is no space
abbrev pub is_host_byte : ℕ → Bool
is_host_byte b = nat_lt 32 b && nat_lt b 127

-- 1 to 255 of them
abbrev pub is_host : List ℕ → Bool
is_host text = nat_le 1 (length text) && nat_le (length text) 255 && list_all is_host_byte text

abbrev pub method_text : Method → List ℕ
method_text Get = codes "GET "
method_text Post = codes "POST "

-- the end of the first line, the lines of the header, and an empty line
unfoldable pub host_name : List ℕ
host_name = codes " HTTP/1.1\r\nHost: "

unfoldable pub token_name : List ℕ
token_name = codes "\r\nDesk-Token: "

unfoldable pub length_name : List ℕ
length_name = codes "\r\nContent-Length: "

unfoldable pub last_lines : List ℕ
last_lines = codes "\r\nConnection: close\r\n\r\n"

unfoldable pub names : List ℕ → List ℕ → List ℕ
names host token = host_name ++ (host ++ (token_name ++ token))

unfoldable pub lengths : ℕ → List ℕ
lengths told = length_name ++ (decimal told ++ last_lines)

abbrev pub fields : List ℕ → List ℕ → ℕ → List ℕ
fields host token told = names host token ++ lengths told

abbrev pub bytes_with : Method → List ℕ → List ℕ → List ℕ → List ℕ → List ℕ
bytes_with method path host token content =
    method_text method ++ (path ++ (fields host token (length content) ++ content))

-- the bytes of a row of the table with these values
pub record AsksAt (host token : List ℕ) (row : Row) (v : Arguments) (many : List (List ℕ))
    (bytes : List ℕ) : Type 0 where
  pub content : List ℕ
  pub writes : Writes row v many content
  pub fits : length content ≤ limit_at Plain (target row.parts v)
  pub is : bytes ≡ bytes_with row.method (target row.parts v) host token content

-- the bytes of the row and the values that make the command
pub record Asks (host token : List ℕ) (command : Command) (bytes : List ℕ) : Type 0 where
  pub place : ℕ
  pub values : Arguments
  pub makes : Makes place values command
  pub asks : AsksAt host token (row_at place) values (many_of command) bytes
