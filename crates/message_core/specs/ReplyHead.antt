-- The head of a reply.
use Rattle.std.specs.Prelude.{ℕ, List, [], ◌++◌, codes, decimal, unwrap_or}
use Rattle.http.specs.StatusCode.{reason_phrase}

unfoldable pub status_line : ℕ → List ℕ
status_line status =
    codes "HTTP/1.1 " ++ (decimal status ++ (codes " " ++ unwrap_or (reason_phrase status) []))

-- the end of the line before, and the type of the body
unfoldable pub content_type_line : List ℕ → List ℕ
content_type_line kind = codes "\r\nContent-Type: " ++ kind

unfoldable pub content_length_line : ℕ → List ℕ
content_length_line length_told =
    codes "\r\nContent-Length: " ++ (decimal length_told ++ codes "\r\n")

-- nothing more is sent on the connection; and the empty line
unfoldable pub last_line : List ℕ
last_line = codes "Connection: close\r\n\r\n"

-- what a head begins with, for a body of this type and length
abbrev pub head_start : ℕ → List ℕ → ℕ → List ℕ
head_start status kind length_told =
    status_line status ++ (content_type_line kind ++ content_length_line length_told)

-- a head in which these lines are told too
abbrev pub head_with : ℕ → List ℕ → ℕ → List ℕ → List ℕ
head_with status kind length_told lines =
    head_start status kind length_told ++ (lines ++ last_line)
