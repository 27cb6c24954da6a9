-- The head of a reply is read back.
use Rattle.std.proofs.Common.{◌≡◌, ◌∙◌, inl, inr, ℕ, ◌+◌, ◌/◌, ◌%◌, ◌<◌, ◌==◌, Bool, true, false, not}
use Rattle.std.proofs.Common.{◌&&◌, if◌then◌else◌, List, [], ◌∷◌, ◌++◌, length, codes, decimal, refl, sym}
use Rattle.std.proofs.Common.{ap, arith, append_assoc, append-nil, lit<, Option, Some, None, subst, suc, zero}
use Rattle.std.proofs.Math.Nat.{mod-lt}
use Rattle.std.specs.Prelude.{IfSome}
use Rattle.std.specs.Fmt.{digit_glyph, digits, digits_onto}
use Rattle.std.specs.List.{flat_map, list_all, list_any}
use Rattle.std.proofs.lemmas.Bool.{and_from, and_parts, eqb-true, lt-ltb, or_cases}
use Rattle.std.proofs.lemmas.Bool.Decides.{nat_tests}
use Rattle.std.proofs.lemmas.Grind.{flat_map-append}
use Rattle.std.proofs.lemmas.List.Folds.{list_all-append}
use Rattle.text_core.specs.Form.{is_digit}
use Rattle.message_core.specs.ReplyHead.{content_length_line, content_type_line, head_start, last_line}
use Rattle.message_core.specs.ReplyHead.{status_line}
use Rattle.page_reply.specs.Laws.{HeadsReadAsStated, HeadsReadOnce, IsTellable, ReadsAs, allow_lines}
use Rattle.page_reply.specs.Laws.{cookie_lines, cookie_text, first_lines, is_line, is_page_code, is_printed}
use Rattle.page_reply.specs.Laws.{is_value, lines_of, location_lines, page_codes, same_lines, written}
use Rattle.page_reply.specs.PageReply.{allow_line, body_of, bytes_of, cookie_line, cookie_start, forget_line}
use Rattle.page_reply.specs.PageReply.{guard_lines, leads_line, location_line, own_lines, page_kind, secure}
use Rattle.page_reply.specs.PageReply.{session_line, stay_line}
use Rattle.page_reply.specs.declared.reply.CookieChange.{CookieChange}
use Rattle.page_reply.specs.declared.reply.CookieChange.TheVariants.{Keep, Session, Stay, Forget}
use Rattle.page_reply.specs.declared.reply.Methods.{Methods}
use Rattle.page_reply.specs.declared.reply.Methods.TheVariants.{Get, GetAndPost}
use Rattle.page_reply.specs.declared.reply.PageReply.{PageReply as Given}

-- ---- it is read in one way

no_return : (b : ℕ) → is_printed b ≡ true → 13 ≡ b → false ≡ true
no_return b is e = subst (λ n. is_printed n ≡ true) (sym e) is

head_of : {A : Type 0} (x y : A) (xs ys : List A) → (x ∷ xs) ≡ (y ∷ ys) → (x ≡ y) × (xs ≡ ys)
head_of x y xs ys e = (cc, cc)

-- a line up to its end
same_line : (l m x y : List ℕ) → list_all is_printed l ≡ true → list_all is_printed m ≡ true
    → l ++ (13 ∷ x) ≡ m ++ (13 ∷ y) → (l ≡ m) × (x ≡ y)
same_line [] [] x y is so e = (refl, (head_of 13 13 x y e).1)
same_line [] (b ∷ m) x y is so e =
    absurd (let no = no_return b (and_parts (is_printed b) (list_all is_printed m) so).0
    (head_of 13 b x (m ++ (13 ∷ y)) e).0 in cc)
same_line (b ∷ l) [] x y is so e =
    absurd (let no = no_return b (and_parts (is_printed b) (list_all is_printed l) is).0
    (head_of 13 b y (l ++ (13 ∷ x)) (sym e)).0 in cc)
same_line (b ∷ l) (c ∷ m) x y is so e =
    let parts = head_of b c (l ++ (13 ∷ x)) (m ++ (13 ∷ y)) e in
    let rest = same_line l m x y (and_parts (is_printed b) (list_all is_printed l) is).1
    (and_parts (is_printed c) (list_all is_printed m) so).1 parts.1 in
    let one = parts.0 in
    let two = rest.0 in
    (cc, rest.1)

-- no line begins with an end
no_line : (line x y : List ℕ) → is_line line ≡ true → 13 ∷ x ≡ line ++ y → false ≡ true
no_line [] x y is e = is
no_line (b ∷ line) x y is e =
    no_return b (and_parts (is_printed b) (list_all is_printed line) is).0 (head_of 13 b x (line ++ y) e).0

line_printed : (line : List ℕ) → is_line line ≡ true → list_all is_printed line ≡ true
line_printed [] is = refl
line_printed (b ∷ line) is = is

once : (lines others : List (List ℕ)) (rest more : List ℕ) → list_all is_line lines ≡ true
    → list_all is_line others ≡ true → written lines rest ≡ written others more
    → (lines ≡ others) × (rest ≡ more)
once [] [] rest more are so e =
    (refl, (head_of 10 10 rest more (head_of 13 13 (10 ∷ rest) (10 ∷ more) e).1).1)
once [] (line ∷ others) rest more are so e =
    absurd (let no = no_line line (10 ∷ rest) (codes "\r\n" ++ written others more)
    (and_parts (is_line line) (list_all is_line others) so).0 e in cc)
once (line ∷ lines) [] rest more are so e =
    absurd (let no = no_line line (10 ∷ more) (codes "\r\n" ++ written lines rest)
    (and_parts (is_line line) (list_all is_line lines) are).0 (sym e) in cc)
once (line ∷ lines) (other ∷ others) rest more are so e =
    let one = and_parts (is_line line) (list_all is_line lines) are in
    let two = and_parts (is_line other) (list_all is_line others) so in
    let parts = same_line line other (10 ∷ written lines rest) (10 ∷ written others more)
    (line_printed line one.0) (line_printed other two.0) e in
    let left = once lines others rest more one.1 two.1
    (head_of 10 10 (written lines rest) (written others more) parts.1).1 in
    let first = parts.0 in
    let second = left.0 in
    (cc, left.1)

pub heads_read_once : HeadsReadOnce
heads_read_once bytes lines others rest more reads so =
    once lines others rest more reads.are_lines so.are_lines (sym reads.is ∙ so.is)

-- ---- the bytes of lines

abbrev ended : List ℕ → List ℕ
ended line = line ++ codes "\r\n"

abbrev block : List (List ℕ) → List ℕ
block lines = flat_map ended lines

as_block : (lines : List (List ℕ)) (rest : List ℕ)
    → written lines rest ≡ block lines ++ (codes "\r\n" ++ rest)
as_block [] rest = refl
as_block (line ∷ lines) rest =
    ap (λ (l : List ℕ). line ++ (codes "\r\n" ++ l)) (as_block lines rest)
    ∙ sym (append_assoc line (codes "\r\n") (block lines ++ (codes "\r\n" ++ rest)))
    ∙ sym (append_assoc (ended line) (block lines) (codes "\r\n" ++ rest))

first_block : (status bytes : ℕ) → block (first_lines status bytes) ≡ head_start status page_kind bytes
unfolding content_type_line content_length_line page_kind
first_block status bytes =
    append_assoc (status_line status) (codes "\r\n") _
    ∙ ap (λ (l : List ℕ). status_line status ++ (content_type_line page_kind ++ (codes "\r\nContent-Length: " ++ l)))
    (append-nil (decimal bytes ++ codes "\r\n"))

cookie_block : (cookie : CookieChange) → block (cookie_lines cookie) ≡ cookie_line cookie
unfolding session_line stay_line forget_line
cookie_block Keep = refl
cookie_block (Session https text) =
    append-nil _ ∙ append_assoc (cookie_start https text) (codes "; Path=/; HttpOnly; SameSite=Lax") (codes "\r\n")
cookie_block (Stay https text) =
    append-nil _
    ∙ append_assoc (cookie_start https text) (codes "; Path=/; Max-Age=2592000; HttpOnly; SameSite=Lax")
    (codes "\r\n")
cookie_block (Forget https) =
    ap (λ (l : List ℕ). l ++ codes "Clear-Site-Data: \"cache\"\r\n")
    (append_assoc (cookie_start https []) (codes "; Path=/; Max-Age=0; HttpOnly; SameSite=Lax") (codes "\r\n"))
    ∙ append_assoc (cookie_start https []) (codes "; Path=/; Max-Age=0; HttpOnly; SameSite=Lax\r\n")
    (codes "Clear-Site-Data: \"cache\"\r\n")

location_block : (location : Option (List ℕ)) → block (location_lines location) ≡ location_line location
unfolding leads_line
location_block None = refl
location_block (Some path) = append-nil (codes "Location: " ++ (path ++ codes "\r\n"))

allow_block : (allow : Option Methods) → block (allow_lines allow) ≡ allow_line allow
unfolding allow_line
allow_block None = refl
allow_block (Some Get) = refl
allow_block (Some GetAndPost) = refl

same_block : block same_lines ++ codes "\r\n" ≡ guard_lines ++ last_line
unfolding same_lines guard_lines last_line
same_block = refl

regroup : (h c l a s g e end body : List ℕ) → s ++ end ≡ g ++ e
    → (h ++ (c ++ (l ++ (a ++ s)))) ++ (end ++ body) ≡ (h ++ (((c ++ (l ++ a)) ++ g) ++ e)) ++ body
regroup h c l a s g e end body same =
    let left : (c ++ (l ++ (a ++ s))) ++ end ≡ c ++ (l ++ (a ++ (g ++ e))) =
    append_assoc c (l ++ (a ++ s)) end
    ∙ ap (λ (t : List ℕ). c ++ t) (append_assoc l (a ++ s) end
    ∙ ap (λ (t : List ℕ). l ++ t) (append_assoc a s end ∙ ap (λ (t : List ℕ). a ++ t) same)) in
    let back : c ++ (l ++ (a ++ (g ++ e))) ≡ ((c ++ (l ++ a)) ++ g) ++ e =
    ap (λ (t : List ℕ). c ++ t) (sym (append_assoc l a (g ++ e)))
    ∙ sym (append_assoc c (l ++ a) (g ++ e)) ∙ sym (append_assoc (c ++ (l ++ a)) g e) in
    sym (append_assoc (h ++ (c ++ (l ++ (a ++ s)))) end body)
    ∙ ap (λ (t : List ℕ). t ++ body) (append_assoc h (c ++ (l ++ (a ++ s))) end
    ∙ ap (λ (t : List ℕ). h ++ t) (left ∙ back))

block_is : (reply : Given) → block (lines_of reply)
    ≡ head_start reply.status page_kind (length reply.page)
    ++ (cookie_line reply.cookie ++ (location_line reply.location ++ (allow_line reply.allow ++ block same_lines)))
block_is reply =
    let first = first_lines reply.status (length reply.page) in
    let cookie = cookie_lines reply.cookie in
    let place = location_lines reply.location in
    let allow = allow_lines reply.allow in
    flat_map-append ended first (cookie ++ (place ++ (allow ++ same_lines)))
    ∙ ap (λ (t : List ℕ). t ++ block (cookie ++ (place ++ (allow ++ same_lines))))
    (first_block reply.status (length reply.page))
    ∙ ap (λ (t : List ℕ). head_start reply.status page_kind (length reply.page) ++ t)
    (flat_map-append ended cookie (place ++ (allow ++ same_lines))
    ∙ ap (λ (t : List ℕ). t ++ block (place ++ (allow ++ same_lines))) (cookie_block reply.cookie)
    ∙ ap (λ (t : List ℕ). cookie_line reply.cookie ++ t)
    (flat_map-append ended place (allow ++ same_lines)
    ∙ ap (λ (t : List ℕ). t ++ block (allow ++ same_lines)) (location_block reply.location)
    ∙ ap (λ (t : List ℕ). location_line reply.location ++ t)
    (flat_map-append ended allow same_lines
    ∙ ap (λ (t : List ℕ). t ++ block same_lines) (allow_block reply.allow))))

bytes_are : (reply : Given) → bytes_of reply ≡ written (lines_of reply) (body_of reply)
unfolding own_lines
bytes_are reply =
    sym (as_block (lines_of reply) (body_of reply)
    ∙ ap (λ (t : List ℕ). t ++ (codes "\r\n" ++ body_of reply)) (block_is reply)
    ∙ regroup (head_start reply.status page_kind (length reply.page)) (cookie_line reply.cookie)
    (location_line reply.location) (allow_line reply.allow) (block same_lines) guard_lines last_line
    (codes "\r\n") (body_of reply) same_block)

-- ---- each is one line

pub all_both : {A : Type 0} (p : A → Bool) (xs ys : List A) → list_all p xs ≡ true → list_all p ys ≡ true
    → list_all p (xs ++ ys) ≡ true
all_both p xs ys one two = list_all-append p xs ys ∙ and_from (list_all p xs) (list_all p ys) one two

pub each_so : {A : Type 0} (p q : A → Bool) → ((x : A) → p x ≡ true → q x ≡ true) → (xs : List A)
    → list_all p xs ≡ true → list_all q xs ≡ true
each_so p q so [] all = refl
each_so p q so (x ∷ xs) all =
    let parts = and_parts (p x) (list_all p xs) all in
    and_from (q x) (list_all q xs) (so x parts.0) (each_so p q so xs parts.1)

by_glyph : (d : ℕ) → d < 10 → is_digit (digit_glyph false d) ≡ true
by_glyph d small = rw (lt-ltb d 10 small) (grind (arith, nat_tests, small))

with_glyph : (n : ℕ) (acc : List ℕ) → list_all is_digit acc ≡ true
    → list_all is_digit (digit_glyph false (n % 10) ∷ acc) ≡ true
with_glyph n acc are =
    and_from (is_digit (digit_glyph false (n % 10))) (list_all is_digit acc)
    (by_glyph (n % 10) (mod-lt n (lit< tt))) are

either_digits : (b : Bool) (one other : List ℕ) → list_all is_digit one ≡ true
    → list_all is_digit other ≡ true → list_all is_digit (if b then one else other) ≡ true
either_digits true one other left right = left
either_digits false one other left right = right

onto_digits : (k n : ℕ) (acc : List ℕ) → list_all is_digit acc ≡ true
    → list_all is_digit (digits_onto k 10 false n acc) ≡ true
onto_digits zero n acc are = are
onto_digits (suc k) n acc are =
    let more = digit_glyph false (n % 10) ∷ acc in
    either_digits (n / 10 == 0) more (digits_onto k 10 false (n / 10) more) (with_glyph n acc are)
    (onto_digits k (n / 10) more (with_glyph n acc are))

pub decimal_digits : (n : ℕ) → list_all is_digit (decimal n) ≡ true
unfolding digits
decimal_digits n = onto_digits 64 n [] refl

decimal_printed : (n : ℕ) → list_all is_printed (decimal n) ≡ true
decimal_printed n =
    each_so is_digit is_printed (λ b is. grind (arith, nat_tests, is)) (decimal n) (decimal_digits n)

abbrev AreStatuses : List ℕ → Type 0
AreStatuses [] = Unit {0}
AreStatuses (code ∷ rest) = (is_line (status_line code) ≡ true) × AreStatuses rest

one_status : (known : List ℕ) → AreStatuses known → (code : ℕ)
    → list_any (λ n. code == n) known ≡ true → is_line (status_line code) ≡ true
one_status [] are code is = absurd (let no : false ≡ true = is in cc)
one_status (n ∷ rest) are code is =
    elim (or_cases (code == n) (list_any (λ n. code == n) rest) is) [
      | inl here ↦ subst (λ c. is_line (status_line c) ≡ true) (sym (eqb-true code n here)) are.0
      | inr later ↦ one_status rest are.1 code later
    ]

each_status : AreStatuses page_codes
unfolding digits status_line
each_status = (refl, (refl, (refl, (refl, (refl, (refl, (refl, (refl, tt))))))))

first_are : (status bytes : ℕ) → is_page_code status ≡ true
    → list_all is_line (first_lines status bytes) ≡ true
unfolding page_kind
first_are status bytes code =
    and_from (is_line (status_line status)) _ (one_status page_codes each_status status code)
    (and_from (list_all is_printed (decimal bytes)) true (decimal_printed bytes) refl)

value_printed : (text : List ℕ) → is_value text ≡ true → list_all is_printed text ≡ true
value_printed text is = each_so _ is_printed (λ b both. (and_parts (is_printed b) _ both).0) text is

start_is : (https : Bool) (text lit : List ℕ) → list_all is_printed text ≡ true
    → list_all is_printed lit ≡ true → is_line (cookie_start https text ++ lit) ≡ true
unfolding cookie_start secure
start_is true text lit is so =
    all_both is_printed (text ++ codes "; Secure") lit
    (all_both is_printed text (codes "; Secure") is refl) so
start_is false text lit is so = all_both is_printed (text ++ []) lit (all_both is_printed text [] is refl) so

cookie_are : (cookie : CookieChange) → IfSome (cookie_text cookie) (λ text. is_value text ≡ true)
    → list_all is_line (cookie_lines cookie) ≡ true
cookie_are Keep is = refl
cookie_are (Session https text) is =
    let lit = codes "; Path=/; HttpOnly; SameSite=Lax" in
    and_from (is_line (cookie_start https text ++ lit)) true
    (start_is https text lit (value_printed text is) refl) refl
cookie_are (Stay https text) is =
    let lit = codes "; Path=/; Max-Age=2592000; HttpOnly; SameSite=Lax" in
    and_from (is_line (cookie_start https text ++ lit)) true
    (start_is https text lit (value_printed text is) refl) refl
cookie_are (Forget https) is =
    let lit = codes "; Path=/; Max-Age=0; HttpOnly; SameSite=Lax" in
    and_from (is_line (cookie_start https [] ++ lit)) true (start_is https [] lit refl refl) refl

location_are : (location : Option (List ℕ)) → IfSome location (λ path. list_all is_printed path ≡ true)
    → list_all is_line (location_lines location) ≡ true
location_are None is = refl
location_are (Some path) is = and_from (list_all is_printed path) true is refl

allow_are : (allow : Option Methods) → list_all is_line (allow_lines allow) ≡ true
allow_are None = refl
allow_are (Some Get) = refl
allow_are (Some GetAndPost) = refl

same_are : list_all is_line same_lines ≡ true
unfolding same_lines
same_are = refl

pub heads_read_as_stated : HeadsReadAsStated
heads_read_as_stated reply tellable =
    let cookie = cookie_lines reply.cookie in
    let place = location_lines reply.location in
    let allow = allow_lines reply.allow in
    record {
      are_lines =
          all_both is_line (first_lines reply.status (length reply.page)) (cookie ++ (place ++ (allow ++ same_lines)))
          (first_are reply.status (length reply.page) tellable.code)
          (all_both is_line cookie (place ++ (allow ++ same_lines)) (cookie_are reply.cookie tellable.cookie)
          (all_both is_line place (allow ++ same_lines) (location_are reply.location tellable.place)
          (all_both is_line allow same_lines (allow_are reply.allow) same_are)));
      is = bytes_are reply;
    }
