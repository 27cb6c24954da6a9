-- A head ends in a line feed.
use Rattle.std.proofs.Common.{◌≡◌, ◌∙◌, ℕ, List, [], ◌∷◌, ◌++◌, refl, ap, sym, subst, append_assoc}
use Rattle.std.proofs.Common.{append-nil}
use Rattle.std.specs.List.{flat_map}
use Rattle.httparse.specs.Grammar.{LineEnd, RequestHead, crlf, lf, print_blank, print_end}
use Rattle.httparse.specs.Grammar.{print_field, print_request, print_section, print_version}
use Rattle.httparse.proofs.GrammarLemmas.{print_request-append}

abbrev pub EndsLine : List ℕ → Type 0
EndsLine bytes = (front : List ℕ) × (bytes ≡ front ++ 10 ∷ [])

ends_after : (xs ys : List ℕ) → EndsLine ys → EndsLine (xs ++ ys)
ends_after xs ys (front, e) =
    (xs ++ front, ap (λ (l : List ℕ). xs ++ l) e ∙ sym (append_assoc xs front (10 ∷ [])))

ends_next : (x : ℕ) (ys : List ℕ) → EndsLine ys → EndsLine (x ∷ ys)
ends_next x ys (front, e) = (x ∷ front, ap (λ (l : List ℕ). x ∷ l) e)

line_ends : (last : LineEnd) → EndsLine (print_end last)
line_ends crlf = (13 ∷ [], refl)
line_ends lf = ([], refl)

pub head_ends : (h : RequestHead) → EndsLine (print_request h)
head_ends h =
    let lines = print_section h.fields h.last in
    let section : EndsLine lines =
    ends_after (flat_map print_field h.fields) (print_end h.last) (line_ends h.last) in
    let whole : EndsLine (lines ++ []) = subst EndsLine (sym (append-nil lines)) section in
    let first = ends_after (print_end h.line_end) _ whole in
    let version = ends_after (print_version h.minor) _ first in
    let target = ends_after h.target _ (ends_next 32 _ version) in
    let all = ends_after (print_blank h.blank) _ (ends_after h.method _ (ends_next 32 _ target)) in
    subst EndsLine (sym (print_request-append h []) ∙ append-nil (print_request h)) all
