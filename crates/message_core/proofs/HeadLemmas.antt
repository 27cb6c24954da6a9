-- The first head of a stream is the only one, and ends with the byte that completes it.
use Rattle.std.proofs.Common.{◌≡◌, ◌≢◌, ◌∙◌, ◌⊎◌, inl, inr, ℕ, ◌≤◌, ◌<◌, List, [], ◌∷◌, ◌++◌}
use Rattle.std.proofs.Common.{true, false, length, take, drop, refl, ap, sym, subst, arith}
use Rattle.std.proofs.Common.{append_assoc, append-nil}
use Rattle.std.proofs.lemmas.Bool.{and_from, and_parts}
use Rattle.std.proofs.lemmas.List.Folds.{list_all-append}
use Rattle.std.proofs.lemmas.List.{length-map, length-take-le}
use Rattle.httparse.specs.Grammar.{HasNoRequest, ReadsRequest, RequestHead, print_blank, print_end}
use Rattle.httparse.specs.Grammar.{print_request, print_section, print_version}
use Rattle.httparse.specs.Spans.{IsRequestAt, IsRequestOf, IsRequestWithin, RequestOverflows}
use Rattle.httparse.specs.Spans.{header_bytes, name_and_value}
use Rattle.httparse.specs.declared.spans.HeaderSpan.{HeaderSpan}
use Rattle.httparse.specs.declared.spans.RequestSpans.{RequestSpans}
use Rattle.httparse.proofs.GrammarLemmas.{print_request-append, request_prefix_free}
use Rattle.message_core.specs.Head.{HasLimitedHead, HasNoLimitedHead, IsHead, are_line_ends}
use Rattle.message_core.specs.Head.{is_line_end}
use Rattle.message_core.proofs.Fronts.{front_of, same_last}
use Rattle.message_core.proofs.HeadEnds.{head_ends}

-- ---- empty lines

-- a head has a space
pub no_head_in_ends : (bytes : List ℕ) → are_line_ends bytes ≡ true → HasNoRequest bytes
no_head_in_ends bytes ends = λ h rest reads.
    let blank = print_blank h.blank in
    let after = h.target ++ 32 ∷ (print_version h.minor ++ (print_end h.line_end
    ++ (print_section h.fields h.last ++ rest))) in
    let all : are_line_ends (blank ++ (h.method ++ 32 ∷ after)) ≡ true =
    subst (λ (l : List ℕ). are_line_ends l ≡ true) (reads.1 ∙ print_request-append h rest) ends in
    no_space blank h.method after all
  where
    no_space : (xs ys zs : List ℕ) → are_line_ends (xs ++ (ys ++ 32 ∷ zs)) ≡ true → ⊥
    no_space [] [] zs all = let lie : false ≡ true = all in cc
    no_space [] (y ∷ ys) zs all =
        no_space [] ys zs (and_parts (is_line_end y) (are_line_ends (ys ++ 32 ∷ zs)) all).1
    no_space (x ∷ xs) ys zs all =
        no_space xs ys zs (and_parts (is_line_end x) (are_line_ends (xs ++ (ys ++ 32 ∷ zs))) all).1

pub ends_more : (before now : List ℕ) (b : ℕ) → now ≡ before ++ b ∷ []
    → are_line_ends before ≡ true → is_line_end b ≡ true → are_line_ends now ≡ true
ends_more before now b e all this =
    ap are_line_ends e ∙ list_all-append is_line_end before (b ∷ [])
    ∙ and_from (are_line_ends before) (are_line_ends (b ∷ [])) all
    (and_from (is_line_end b) true this refl)

-- ---- a byte more

-- with a byte more, a head is the whole
pub head_is_whole : (bytes : List ℕ) (b : ℕ) (h : RequestHead) (rest : List ℕ)
    → HasNoLimitedHead bytes → ReadsRequest (bytes ++ b ∷ []) h rest → length h.fields ≤ 32
    → rest ≡ []
head_is_whole bytes b h rest none reads few = by (front_of bytes b (print_request h) rest reads.1)
  where
    by : (rest ≡ []) ⊎ ((more : List ℕ) × (bytes ≡ print_request h ++ more)) → rest ≡ []
    by (inl e) = e
    by (inr (more, e)) = absurd (none h more (reads.0, e) few)

-- a byte that is no line feed ends no head
pub no_head_within : (bytes : List ℕ) (b : ℕ) → b ≢ 10 → HasNoLimitedHead bytes
    → HasNoLimitedHead (bytes ++ b ∷ [])
no_head_within bytes b other none = λ h rest reads few.
    let whole = head_is_whole bytes b h rest none reads few in
    let ends = head_ends h in
    let e = reads.1 ∙ ap (λ (l : List ℕ). print_request h ++ l) whole in
    other (same_last bytes b ends.0 10 (e ∙ append-nil (print_request h) ∙ ends.1))

-- where too many lines must follow there is no head now
pub no_head_over : (bytes : List ℕ) → RequestOverflows 32 bytes → HasNoLimitedHead bytes
no_head_over bytes over = λ h rest reads few.
    let same = sym (append-nil bytes) in
    let more = over [] h rest (subst (λ (l : List ℕ). ReadsRequest l h rest) same reads) in
    omega (arith, more, few)

-- and none later
pub over_more : (bytes more : List ℕ) → RequestOverflows 32 bytes
    → RequestOverflows 32 (bytes ++ more)
over_more bytes more over = λ next h rest reads.
    over (more ++ next) h rest
    (subst (λ (l : List ℕ). ReadsRequest l h rest) (append_assoc bytes more next) reads)

-- a head of more lines is the only head, whatever follows
pub over_by : (bytes : List ℕ) (h : RequestHead) (rest : List ℕ) → ReadsRequest bytes h rest
    → 32 < length h.fields → RequestOverflows 32 bytes
over_by bytes h rest reads many = λ more k q other.
    let same = request_prefix_free bytes more h k rest q reads other in
    subst (λ (x : RequestHead). 32 < length x.fields) same.0 many

-- a head that comes with a byte more is all that was taken
pub head_with_byte : (bytes : List ℕ) (b : ℕ) → HasNoLimitedHead bytes
    → HasLimitedHead (bytes ++ b ∷ []) → length (bytes ++ b ∷ []) ≤ 8192 → IsHead (bytes ++ b ∷ [])
head_with_byte bytes b none (h, rest, reads, few) fits =
    let whole = head_is_whole bytes b h rest none reads few in
    let e = reads.1 ∙ ap (λ (l : List ℕ). print_request h ++ l) whole in
    let len = ap length (e ∙ append-nil (print_request h)) in
    (h, record { reads = (reads.0, e); short = omega (arith, len, fits); few = few })

-- ---- what the parser tells

-- a head that was found has as many fields as lines were written
pub lines_of : (bytes : List ℕ) (lines : List HeaderSpan) (r : RequestSpans) (h : RequestHead)
    → IsRequestWithin bytes lines r → IsRequestAt bytes lines r h → length h.fields ≡ r.headers
lines_of bytes lines r h within at =
    sym (length-map h.fields name_and_value) ∙ sym (ap length at.fields)
    ∙ length-map (take r.headers lines) (header_bytes bytes)
    ∙ length-take-le r.headers lines within.section.count_fits

pub over_found : (bytes : List ℕ) (lines : List HeaderSpan) (r : RequestSpans)
    → IsRequestWithin bytes lines r → IsRequestOf bytes lines r → 32 < r.headers
    → RequestOverflows 32 bytes
over_found bytes lines r within (h, at) many =
    let told = lines_of bytes lines r h within at in
    over_by bytes h (drop r.len bytes) at.reads (omega (arith, told, many))
