-- The head that is written is a head, and says what is written.
use Rattle.std.proofs.Common.{◌≡◌, ◌∙◌, ℕ, ◌<◌, ◌≤◌, ◌+◌, ◌^◌, Bool, true, false, not, nat_le, nat_lt}
use Rattle.std.proofs.Common.{List, [], ◌∷◌, ◌++◌, length, map, min, decimal, Some, Ok}
use Rattle.std.proofs.Common.{refl, ap, sym, arith, codes, append_assoc, append-nil, length-append}
use Rattle.std.proofs.Common.{lit≤, reverse}
use Rattle.std.specs.List.{list_all}
use Rattle.std.proofs.lemmas.Bool.{and_parts, le-leb, ltb-true}
use Rattle.std.proofs.lemmas.Bool.Decides.{nat_tests}
use Rattle.std.proofs.lemmas.Fmt.{decimal_nonempty, length-decimal-le}
use Rattle.std.proofs.lemmas.List.Elements.{All-from_recursion}
use Rattle.std.proofs.lemmas.List.Sums.{AllPass-from_list_all}
use Rattle.httparse.specs.Grammar.{AllPass, Field, IsField, IsRequestHead, IsToken, RequestHead}
use Rattle.httparse.specs.Grammar.{crlf, is_ows, is_token, is_token_byte, is_uri_byte, is_value_byte}
use Rattle.httparse.specs.Grammar.{print_end, print_request, print_section, print_version, skip_ows}
use Rattle.httparse.specs.Grammar.{trim_ows}
use Rattle.httparse.specs.Spans.{name_and_value}
use Rattle.httparse.proofs.GrammarLemmas.{print_request-append}
use Rattle.httparse.proofs.OnLiterals.{httparse_on_literals}
use Rattle.httparse.proofs.TrimLemmas.{AllPass-reverse, trim_ows_space}
use Rattle.desk_forms.specs.declared.paths.Method.{Method}
use Rattle.desk_forms.specs.declared.paths.Method.TheVariants.{Get, Post}
use Rattle.message_core.specs.Heading.{Line, heading_by, heading_within, number_within}
use Rattle.message_core.specs.declared.limits.BodyLimit.TheVariants.{Plain}
use Rattle.client_core.specs.Message.{fields, host_name, is_host_byte, last_lines, length_name}
use Rattle.client_core.specs.Message.{lengths, method_text, names, token_name}
use Rattle.client_core.specs.ReadBack.{method_name}
use Rattle.client_core.proofs.Numbers.{decimal_digits, decimal_value}
use Rattle.client_core.proofs.Visible.{AreVisible, each_so, visible_text, visible_utf8}

abbrev field_for : List ℕ → List ℕ → Field
field_for name value = record { name = name; raw = 32 ∷ value; end = crlf }

abbrev fields_for : List ℕ → List ℕ → List ℕ → List Field
fields_for host token told =
    field_for (codes "Host") host ∷ field_for (codes "Desk-Token") token
    ∷ field_for (codes "Content-Length") told ∷ field_for (codes "Connection") (codes "close") ∷ []

abbrev pub head_for : Method → List ℕ → List ℕ → List ℕ → List ℕ → RequestHead
head_for method path host token told = record {
  blank = [];
  method = method_name method;
  target = path;
  minor = 1;
  line_end = crlf;
  fields = fields_for host token told;
  last = crlf;
}

-- ---- the bytes

flat : (a host b token c told d rest : List ℕ)
    → ((a ++ (host ++ (b ++ token))) ++ (c ++ (told ++ d))) ++ rest
    ≡ a ++ (host ++ (b ++ (token ++ (c ++ (told ++ (d ++ rest))))))
flat a host b token c told d rest = simp append_assoc

section : (a host b token c told d e rest : List ℕ)
    → (((a ++ (host ++ e)) ++ ((b ++ (token ++ e)) ++ ((c ++ (told ++ e)) ++ (d ++ [])))) ++ e) ++ rest
    ≡ a ++ (host ++ (e ++ (b ++ (token ++ (e ++ (c ++ (told ++ (e ++ (d ++ (e ++ rest))))))))))
section a host b token c told d e rest = simp (append_assoc, append-nil)

lines : (host token : List ℕ) (n : ℕ) (rest : List ℕ) → fields host token n ++ rest
    ≡ 32 ∷ (print_version 1 ++ (print_end crlf
    ++ (print_section (fields_for host token (decimal n)) crlf ++ rest)))
unfolding names lengths host_name token_name length_name last_lines
lines host token n rest =
    flat host_name host token_name token length_name (decimal n) last_lines rest
    ∙ sym (ap (λ (l : List ℕ). codes " HTTP/1.1\r\n" ++ l)
    (section (codes "Host: ") host (codes "Desk-Token: ") token (codes "Content-Length: ")
    (decimal n) (codes "Connection: close\r\n") (codes "\r\n") rest))

pub written : (m : Method) (path host token : List ℕ) (n : ℕ) (rest : List ℕ)
    → method_text m ++ (path ++ (fields host token n ++ rest))
    ≡ print_request (head_for m path host token (decimal n)) ++ rest
written Get path host token n rest =
    ap (λ (l : List ℕ). codes "GET " ++ (path ++ l)) (lines host token n rest)
    ∙ sym (print_request-append (head_for Get path host token (decimal n)) rest)
written Post path host token n rest =
    ap (λ (l : List ℕ). codes "POST " ++ (path ++ l)) (lines host token n rest)
    ∙ sym (print_request-append (head_for Post path host token (decimal n)) rest)

-- ---- its length

added : (m path a host b token c told d : List ℕ)
    → length (m ++ (path ++ (((a ++ (host ++ (b ++ token))) ++ (c ++ (told ++ d))) ++ [])))
    ≡ length m + (length path + ((length a + (length host + (length b + length token)))
    + (length c + (length told + length d))))
added m path a host b token c told d = simp (append-nil, length-append)

text_short : (m : Method) → length (method_text m) ≤ 5
text_short Get = lit≤ tt
text_short Post = lit≤ tt

pub head_short : (m : Method) (path host token : List ℕ) (n : ℕ) → length path ≤ 200
    → length host ≤ 255 → length token ≤ 64 → n ≤ 65536
    → length (print_request (head_for m path host token (decimal n))) ≤ 8192
unfolding names lengths host_name token_name length_name last_lines
head_short m path host token n short few less small =
    let digits : length (decimal n) ≤ 5 =
    length-decimal-le 5 n (omega arith) (omega (arith, small)) (omega (arith, small)) in
    let whole = print_request (head_for m path host token (decimal n)) in
    let is : length whole
    ≡ length (method_text m ++ (path ++ (fields host token n ++ []))) =
    ap length (sym (append-nil whole) ∙ sym (written m path host token n [])) in
    omega (
      arith,
      is,
      added (method_text m) path host_name host token_name token length_name
          (decimal n) last_lines,
      text_short m,
      short,
      few,
      less,
      digits,
    )

-- ---- its form

token_if : (bytes : List ℕ) → is_token bytes ≡ true → IsToken bytes
token_if bytes is =
    let k = and_parts (nat_lt 0 (length bytes)) (list_all is_token_byte bytes) is in
    (ltb-true 0 (length bytes) k.0, AllPass-from_list_all is_token_byte bytes k.1)

method_token : (m : Method) → IsToken (method_name m)
unfolding httparse_on_literals
method_token Get = token_if (codes "GET") refl
method_token Post = token_if (codes "POST") refl

value_byte : (b : ℕ) → is_host_byte b ≡ true → is_value_byte b ≡ true
value_byte b is = grind (arith, nat_tests, is)

uri_byte : (b : ℕ) → is_host_byte b ≡ true → is_uri_byte b ≡ true
uri_byte b is = grind (arith, nat_tests, is)

line_is : (name value : List ℕ) → is_token name ≡ true → AreVisible value
    → IsField (field_for name value)
line_is name value is all = record {
  name = token_if name is;
  raw = AllPass-from_list_all is_value_byte (32 ∷ value)
      (each_so is_host_byte is_value_byte value_byte value all);
}

pub head_is : (m : Method) (path host token told : List ℕ) → 0 < length path → AreVisible path
    → AreVisible host → AreVisible token → AreVisible told
    → IsRequestHead (head_for m path host token told)
unfolding httparse_on_literals
head_is m path host token told some seen host_seen token_seen told_seen = record {
  method = method_token m;
  target = (
    some,
    AllPass-from_list_all is_uri_byte path (each_so is_host_byte is_uri_byte uri_byte path seen),
  );
  target_text = visible_text path seen;
  minor = omega arith;
  fields = All-from_recursion IsField (fields_for host token told) (
    line_is (codes "Host") host refl host_seen,
    (
      line_is (codes "Desk-Token") token refl token_seen,
      (
        line_is (codes "Content-Length") told refl told_seen,
        (line_is (codes "Connection") (codes "close") refl refl, tt),
      ),
    ),
  );
}

-- ---- what it says

abbrev no_space : ℕ → Bool
no_space b = not (is_ows b)

spaceless : (b : ℕ) → is_host_byte b ≡ true → no_space b ≡ true
spaceless b is = grind (arith, nat_tests, is)

kept : (bytes : List ℕ) → AllPass no_space bytes → skip_ows bytes ≡ bytes
kept [] all = refl
kept (b ∷ bs) all = rw (blank (is_ows b) (all 0 b (omega arith))) refl
  where
    blank : (test : Bool) → not test ≡ true → test ≡ false
    blank true is = absurd (let no : false ≡ true = is in cc)
    blank false is = refl

trimmed : (value : List ℕ) → AreVisible value → trim_ows (32 ∷ value) ≡ value
trimmed value seen =
    let all = AllPass-from_list_all no_space value
    (each_so is_host_byte no_space spaceless value seen) in
    trim_ows_space value (kept value all)
    (kept (reverse value) (AllPass-reverse no_space value all))

abbrev lines_for : List ℕ → List ℕ → List ℕ → List Line
lines_for host token told =
    (codes "Host", host) ∷ (codes "Desk-Token", token) ∷ (codes "Content-Length", told)
    ∷ (codes "Connection", codes "close") ∷ []

told_lines : (host token told : List ℕ) → AreVisible host → AreVisible token → AreVisible told
    → map name_and_value (fields_for host token told) ≡ lines_for host token told
told_lines host token told host_seen token_seen told_seen =
    rw (
      trimmed host host_seen,
      trimmed token token_seen,
      trimmed told told_seen,
      trimmed (codes "close") refl,
    ) refl

no_more : (n : ℕ) → n ≤ 65536 → min n (65536 + 1) ≡ n
no_more n small = omega (arith, small)

number_back : (n : ℕ) → n ≤ 65536 → number_within 65536 (decimal n) ≡ Some n
number_back n small =
    let wide : n < 2 ^ 64 = omega (arith, small) in
    let some : nat_le 1 (length (decimal n)) ≡ true =
    le-leb 1 (length (decimal n)) (omega (arith, decimal_nonempty n wide)) in
    rw (some, decimal_digits n wide, decimal_value n wide, no_more n small) refl

said : (m : Method) (path host token : List ℕ) (n : ℕ) → AreVisible token → n ≤ 65536
    → heading_by Plain (method_name m) path (lines_for host token (decimal n))
    ≡ Ok (record { method = method_name m; target = path; token = Some token; length = n })
said m path host token n seen small =
    rw (number_back n small, le-leb n 65536 small, visible_utf8 token seen) refl

pub heading_back : (m : Method) (path host token : List ℕ) (n : ℕ) → AreVisible host
    → AreVisible token → AreVisible (decimal n) → n ≤ 65536
    → heading_within Plain (head_for m path host token (decimal n))
    ≡ Ok (record { method = method_name m; target = path; token = Some token; length = n })
heading_back m path host token n host_seen token_seen told_seen small =
    ap (heading_by Plain (method_name m) path)
    (told_lines host token (decimal n) host_seen token_seen told_seen)
    ∙ said m path host token n token_seen small
