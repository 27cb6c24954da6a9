-- A line that was put behind the first one is found there again.
use Rattle.std.proofs.Common.{◌≡◌, ◌∙◌, ℕ, ◌+◌, ◌==◌, Bool, true, false, List, [], ◌∷◌, ◌++◌}
use Rattle.std.proofs.Common.{length, take, drop, codes, nat_le, Option, Some, None, refl, sym, ap, subst}
use Rattle.std.proofs.Common.{arith, append_assoc, length-append, slice_range}
use Rattle.std.specs.Str.{bytes_eq}
use Rattle.std.proofs.lemmas.Bool.{and_from, eqb-true, le-leb}
use Rattle.std.proofs.Math.Seq.{drop-append-add, drop-append_seam, take-append_seam}
use Rattle.browser_core.specs.Cuts.{before, rest_after}
use Rattle.http_rules.specs.Date.{begins_with_line, behind_line, dated, dated_by, is_date, line_of}
use Rattle.http_rules.specs.Date.{undated, undated_by}

-- ---- the first line

line_on : (b : ℕ) (is : Bool) (bytes rest : List ℕ) → (b == 10) ≡ is
    → before 10 (before 10 bytes ++ 10 ∷ rest) ≡ before 10 bytes
    → before 10 (before 10 (b ∷ bytes) ++ 10 ∷ rest) ≡ before 10 (b ∷ bytes)
line_on b true bytes rest here so_far = simp here
line_on b false bytes rest here so_far = simp (here, so_far)

line_again : (bytes rest : List ℕ) → before 10 (before 10 bytes ++ 10 ∷ rest) ≡ before 10 bytes
line_again [] rest = refl
line_again (b ∷ bytes) rest = line_on b (b == 10) bytes rest refl (line_again bytes rest)

rest_on : (b : ℕ) (is : Bool) (bytes rest : List ℕ) → (b == 10) ≡ is
    → rest_after 10 (before 10 bytes ++ 10 ∷ rest) ≡ Some rest
    → rest_after 10 (before 10 (b ∷ bytes) ++ 10 ∷ rest) ≡ Some rest
rest_on b true bytes rest here so_far = simp here
rest_on b false bytes rest here so_far = simp (here, so_far)

rest_again : (bytes rest : List ℕ) → rest_after 10 (before 10 bytes ++ 10 ∷ rest) ≡ Some rest
rest_again [] rest = refl
rest_again (b ∷ bytes) rest = rest_on b (b == 10) bytes rest refl (rest_again bytes rest)

alone_on : (b : ℕ) (is : Bool) (bytes : List ℕ) → (b == 10) ≡ is
    → before 10 (before 10 bytes) ≡ before 10 bytes
    → before 10 (before 10 (b ∷ bytes)) ≡ before 10 (b ∷ bytes)
alone_on b true bytes here so_far = simp here
alone_on b false bytes here so_far = simp (here, so_far)

alone_again : (bytes : List ℕ) → before 10 (before 10 bytes) ≡ before 10 bytes
alone_again [] = refl
alone_again (b ∷ bytes) = alone_on b (b == 10) bytes refl (alone_again bytes)

none_on : (b : ℕ) (is : Bool) (bytes : List ℕ) → (b == 10) ≡ is
    → rest_after 10 (before 10 bytes) ≡ None → rest_after 10 (before 10 (b ∷ bytes)) ≡ None
none_on b true bytes here so_far = simp here
none_on b false bytes here so_far = simp (here, so_far)

none_again : (bytes : List ℕ) → rest_after 10 (before 10 bytes) ≡ None
none_again [] = refl
none_again (b ∷ bytes) = none_on b (b == 10) bytes refl (none_again bytes)

-- both parts are the whole
abbrev joined : List ℕ → Option (List ℕ) → List ℕ
joined first None = first
joined first (Some rest) = first ++ 10 ∷ rest

more_joined : (b : ℕ) (bytes : List ℕ) (after : Option (List ℕ)) → joined (before 10 bytes) after ≡ bytes
    → joined (b ∷ before 10 bytes) after ≡ b ∷ bytes
more_joined b bytes None so_far = ap (λ (l : List ℕ). b ∷ l) so_far
more_joined b bytes (Some rest) so_far = ap (λ (l : List ℕ). b ∷ l) so_far

ends_with : (b : ℕ) (is : Bool) (bytes : List ℕ) → (b == 10) ≡ is
    → joined (before 10 bytes) (rest_after 10 bytes) ≡ bytes
    → joined (before 10 (b ∷ bytes)) (rest_after 10 (b ∷ bytes)) ≡ b ∷ bytes
ends_with b true bytes here so_far =
    let is : b ≡ 10 = eqb-true b 10 here in
    rw here (ap (λ (n : ℕ). n ∷ bytes) (sym is))
ends_with b false bytes here so_far = rw here (more_joined b bytes (rest_after 10 bytes) so_far)

whole : (bytes : List ℕ) → joined (before 10 bytes) (rest_after 10 bytes) ≡ bytes
whole [] = refl
whole (b ∷ bytes) = ends_with b (b == 10) bytes refl (whole bytes)

-- ---- the line of a date

begins_so : (text rest : List ℕ) → length text ≡ 29 → is_date text ≡ true
    → begins_with_line (codes "Date: " ++ (text ++ 13 ∷ 10 ∷ rest)) ≡ true
begins_so text rest long date =
    let more = text ++ 13 ∷ 10 ∷ rest in
    let line = codes "Date: " ++ more in
    let room : nat_le 37 (length line) ≡ true =
    le-leb 37 (length line) (omega (arith, length-append text (13 ∷ 10 ∷ rest), long)) in
    let middle : take 29 more ≡ text =
    subst (λ (n : ℕ). take n more ≡ text) long (take-append_seam text (13 ∷ 10 ∷ rest)) in
    let end : drop 29 more ≡ 13 ∷ 10 ∷ rest =
    subst (λ (n : ℕ). drop n more ≡ 13 ∷ 10 ∷ rest) long (drop-append_seam text (13 ∷ 10 ∷ rest)) in
    let name : bytes_eq (slice_range line 0 6) (codes "Date: ") ≡ true = refl in
    let value : is_date (slice_range line 6 35) ≡ true = ap is_date middle ∙ date in
    let ends : bytes_eq (slice_range line 35 37) (codes "\r\n") ≡ true =
    ap (λ (l : List ℕ). bytes_eq (take 2 l) (codes "\r\n")) end in
    and_from _ _ (and_from _ _ (and_from _ _ room name) value) ends

behind_so : (text rest : List ℕ) → length text ≡ 29 → is_date text ≡ true
    → behind_line (line_of text ++ rest) ≡ rest
behind_so text rest long date =
    let regroup : line_of text ++ rest ≡ codes "Date: " ++ (text ++ 13 ∷ 10 ∷ rest) =
    ap (λ (l : List ℕ). codes "Date: " ++ l) (append_assoc text (codes "\r\n") rest) in
    let left : drop 31 (text ++ 13 ∷ 10 ∷ rest) ≡ rest =
    subst (λ (n : ℕ). drop (n + 2) (text ++ 13 ∷ 10 ∷ rest) ≡ rest) long
    (drop-append-add text (13 ∷ 10 ∷ rest) 2) in
    ap behind_line regroup ∙ rw (begins_so text rest long date) left

back_by : (text bytes : List ℕ) (after : Option (List ℕ)) → length text ≡ 29 → is_date text ≡ true
    → undated (dated_by text (before 10 bytes) after) ≡ joined (before 10 bytes) after
back_by text bytes None long date =
    ap (λ (l : List ℕ). undated_by l (rest_after 10 (before 10 bytes))) (alone_again bytes)
    ∙ ap (undated_by (before 10 bytes)) (none_again bytes)
back_by text bytes (Some rest) long date =
    let line = line_of text ++ rest in
    ap (λ (l : List ℕ). undated_by l (rest_after 10 (before 10 bytes ++ 10 ∷ line)))
    (line_again bytes line)
    ∙ ap (undated_by (before 10 bytes)) (rest_again bytes line)
    ∙ ap (λ (l : List ℕ). before 10 bytes ++ 10 ∷ l) (behind_so text rest long date)

pub back : (text bytes : List ℕ) → length text ≡ 29 → is_date text ≡ true
    → undated (dated text bytes) ≡ bytes
back text bytes long date = back_by text bytes (rest_after 10 bytes) long date ∙ whole bytes
