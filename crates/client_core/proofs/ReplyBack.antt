-- Of a reply that is whole, its code and its text come back; and nothing else is told.
use Rattle.std.proofs.Common.{◌≡◌, ◌∙◌, inl, inr, ℕ, ◌-◌, ◌^◌, ◌<◌, ◌≤◌, ◌==◌, Bool, true, false}
use Rattle.std.proofs.Common.{List, [], ◌∷◌, ◌++◌, length, drop, decimal, Option, Some, None, is_some}
use Rattle.std.proofs.Common.{nat_le, nat_lt, refl, sym, ap, subst, arith, append_assoc, length-append}
use Rattle.std.proofs.Common.{lit≤, option_and_then, slice_range}
use Rattle.std.specs.Fmt.{digits}
use Rattle.std.specs.List.{list_any}
use Rattle.std.specs.Str.{bytes_eq}
use Rattle.std.proofs.lemmas.Bool.{eqb-true, le-leb, le-ltb, or_cases}
use Rattle.std.proofs.lemmas.Slice.Eq.{bytes_eq-Decides}
use Rattle.std.proofs.Math.Seq.{drop-append_seam}
use Rattle.message_core.specs.Reply.{IsReply, bytes_of, is_reply_code, last_line}
use Rattle.message_core.specs.Reply.{reply_codes, status_line}
use Rattle.message_core.proofs.ReplyLemmas.{allow_line, fields, head_is, type_line}
use Rattle.message_core.specs.declared.reply.Allow.{Allow}
use Rattle.message_core.specs.declared.reply.Allow.TheVariants.{Get, GetPost, Post}
use Rattle.message_core.specs.declared.reply.Reply.{Reply}
use Rattle.client_core.specs.Reply.{answer_in, before, code_in, code_named, from_return, is_one_of, is_reply}
use Rattle.client_core.specs.Reply.{last, number_in, text_in, told}
use Rattle.client_core.proofs.Numbers.{before_digits, decimal_digits, decimal_read}

-- ---- the first line

-- it is long enough, its code stands where it is looked for, and it has no carriage return
record Leads (code : ℕ) : Type 0 where
  long : 12 ≤ length (status_line code)
  named : (rest : List ℕ) → code_named (slice_range (status_line code ++ rest) 9 12) ≡ Some code
  returns : (rest : List ℕ) → from_return (status_line code ++ rest) ≡ from_return rest

abbrev Lead : List ℕ → Type 0
Lead [] = Unit {0}
Lead (code ∷ rest) = Leads code × Lead rest

one_of : (known : List ℕ) → Lead known → (code : ℕ)
    → list_any (λ n. code == n) known ≡ true → Leads code
one_of [] lead code is = let no : false ≡ true = is in cc
one_of (n ∷ rest) lead code is =
    elim (or_cases (code == n) (list_any (λ n. code == n) rest) is) [
      | inl here ↦ subst Leads (sym (eqb-true code n here)) lead.0
      | inr later ↦ one_of rest lead.1 code later
    ]

each_leads : Lead reply_codes
unfolding digits status_line
each_leads = (record { long = lit≤ tt; named = λ rest. refl; returns = λ rest. refl }, (record { long = lit≤ tt; named = λ rest. refl; returns = λ rest. refl }, (record { long = lit≤ tt; named = λ rest. refl; returns = λ rest. refl }, (record { long = lit≤ tt; named = λ rest. refl; returns = λ rest. refl }, (record { long = lit≤ tt; named = λ rest. refl; returns = λ rest. refl }, (record { long = lit≤ tt; named = λ rest. refl; returns = λ rest. refl }, (record { long = lit≤ tt; named = λ rest. refl; returns = λ rest. refl }, (record { long = lit≤ tt; named = λ rest. refl; returns = λ rest. refl }, tt))))))))

code_back : (code : ℕ) (rest : List ℕ) → Leads code → code_in (status_line code ++ rest) ≡ Some code
code_back code rest leads =
    let fits : nat_lt (length (status_line code ++ rest)) 12 ≡ false =
    le-ltb (length (status_line code ++ rest)) 12
    (omega (arith, leads.long, length-append (status_line code) rest)) in
    rw fits (leads.named rest)

-- ---- the lines after it

type_begins : (rest : List ℕ) → drop 59 (from_return (type_line ++ rest)) ≡ rest
unfolding type_line
type_begins rest = refl

allow_begins : (allow : Option Allow) (rest : List ℕ)
    → (more : List ℕ) × (allow_line allow ++ rest ≡ 13 ∷ more)
unfolding allow_line
allow_begins allow rest = (_, refl)

-- what is stated is read
stated : (allow : Option Allow) (n : ℕ) (body : List ℕ) → n < 2 ^ 32
    → number_in (before (drop 59 (from_return (fields allow n ++ body)))) ≡ Some n
unfolding fields
stated allow n body small =
    let tail = allow_line allow ++ (last_line ++ body) in
    let regroup : (type_line ++ (decimal n ++ (allow_line allow ++ last_line))) ++ body
    ≡ type_line ++ (decimal n ++ tail) =
    append_assoc type_line (decimal n ++ (allow_line allow ++ last_line)) body
    ∙ ap (λ (l : List ℕ). type_line ++ l)
    (append_assoc (decimal n) (allow_line allow ++ last_line) body
    ∙ ap (λ (l : List ℕ). decimal n ++ l) (append_assoc (allow_line allow) last_line body)) in
    let begun = allow_begins allow (last_line ++ body) in
    let cut : before (decimal n ++ tail) ≡ decimal n =
    ap (λ (l : List ℕ). before (decimal n ++ l)) begun.1
    ∙ before_digits (decimal n) begun.0 (decimal_digits n (omega arith)) in
    ap (λ (l : List ℕ). number_in (before (drop 59 (from_return l)))) regroup
    ∙ ap (λ (l : List ℕ). number_in (before l)) (type_begins (decimal n ++ tail))
    ∙ ap number_in cut ∙ decimal_read n small

-- ---- the text

at_end : (front text : List ℕ) → last (front ++ text) (length text) ≡ Some text
at_end front text =
    let long = length-append front text in
    let fits : nat_le (length text) (length (front ++ text)) ≡ true =
    le-leb (length text) (length (front ++ text)) (omega (arith, long)) in
    let place : length (front ++ text) - length text ≡ length front = omega (arith, long) in
    rw (fits, place) (ap (λ (l : List ℕ). Some l) (drop-append_seam front text))

text_back : (code : ℕ) (allow : Option Allow) (text : List ℕ) → Leads code
    → length text < 2 ^ 32
    → text_in (status_line code ++ (fields allow (length text) ++ text)) ≡ Some text
text_back code allow text leads small =
    let rest = fields allow (length text) ++ text in
    let read : number_in (before (drop 59 (from_return (status_line code ++ rest))))
    ≡ Some (length text) =
    ap (λ (l : List ℕ). number_in (before (drop 59 l))) (leads.returns rest)
    ∙ stated allow (length text) text small in
    let front = status_line code ++ fields allow (length text) in
    let whole : front ++ text ≡ status_line code ++ rest =
    append_assoc (status_line code) (fields allow (length text)) text in
    ap (option_and_then (last (status_line code ++ rest))) read
    ∙ ap (λ (l : List ℕ). last l (length text)) (sym whole) ∙ at_end front text

-- ---- it is one

same_bytes : (xs : List ℕ) → bytes_eq xs xs ≡ true
same_bytes xs = (bytes_eq-Decides xs xs).1 refl

found : (bytes : List ℕ) (code : ℕ) (allow : Option Allow) (text : List ℕ) (is : Bool)
    → (code == 405) ≡ is → is_some allow ≡ is → bytes ≡ bytes_of (told code allow text)
    → is_one_of bytes code text ≡ true
found bytes code None text true five some e = absurd cc
found bytes code None text false five some e =
    rw five (ap (λ (l : List ℕ). bytes_eq (bytes_of (told code None text)) l) e
    ∙ same_bytes (bytes_of (told code None text)))
found bytes code (Some allow) text false five some e = absurd cc
found bytes code (Some Get) text true five some e =
    let is : is_reply bytes code (Some Get) text ≡ true =
    ap (λ (l : List ℕ). bytes_eq (bytes_of (told code (Some Get) text)) l) e
    ∙ same_bytes (bytes_of (told code (Some Get) text)) in
    rw (five, is) refl
found bytes code (Some Post) text true five some e =
    let is : is_reply bytes code (Some Post) text ≡ true =
    ap (λ (l : List ℕ). bytes_eq (bytes_of (told code (Some Post) text)) l) e
    ∙ same_bytes (bytes_of (told code (Some Post) text)) in
    rw five (grind (arith, is))
found bytes code (Some GetPost) text true five some e =
    let is : is_reply bytes code (Some GetPost) text ≡ true =
    ap (λ (l : List ℕ). bytes_eq (bytes_of (told code (Some GetPost) text)) l) e
    ∙ same_bytes (bytes_of (told code (Some GetPost) text)) in
    rw five (grind (arith, is))

back : (code : ℕ) (allow : Option Allow) (text : List ℕ) → is_reply_code code ≡ true
    → is_some allow ≡ (code == 405) → length text < 2 ^ 32
    → answer_in (bytes_of (told code allow text)) ≡ Some (code, text)
back code allow text known some small =
    let leads = one_of reply_codes each_leads code known in
    let bytes = bytes_of (told code allow text) in
    let rest = fields allow (length text) ++ text in
    let whole : bytes ≡ status_line code ++ rest =
    ap (λ (l : List ℕ). l ++ text) (head_is code allow (length text))
    ∙ append_assoc (status_line code) (fields allow (length text)) text in
    let first : code_in bytes ≡ Some code = ap code_in whole ∙ code_back code rest leads in
    let second : text_in bytes ≡ Some text = ap text_in whole ∙ text_back code allow text leads small in
    let is : is_one_of bytes code text ≡ true =
    found bytes code allow text (code == 405) refl some refl in
    rw (first, second, is) refl

whole_bytes : (reply : Reply) → reply.head_only ≡ false
    → bytes_of reply ≡ bytes_of (told reply.status reply.allow reply.body)
whole_bytes reply whole = rw whole refl

pub comes_back : (reply : Reply) → IsReply reply → reply.head_only ≡ false
    → length reply.body < 2 ^ 32 → answer_in (bytes_of reply) ≡ Some (reply.status, reply.body)
comes_back reply made whole small =
    ap answer_in (whole_bytes reply whole)
    ∙ back reply.status reply.allow reply.body made.code made.allow small
