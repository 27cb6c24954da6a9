-- What the line of a cookie begins with, put in its three steps.
use Rattle.std.proofs.Common.{◌≡◌, ◌∙◌, ℕ, Bool, List, ◌++◌, ap, codes, Result, Ok, Err, OnOk}
use Rattle.std.proofs.lemmas.List.{append_assoc}
use Rattle.browser_core.specs.Cookie.{cookie_name}
use Rattle.page_reply.specs.PageReply.{cookie_start, secure}

pub put_start : {X E : Type 0} (https : Bool) (text : List ℕ) (r : Result X E)
    (old first second new name last : List ℕ) → first ≡ old ++ codes "Set-Cookie: "
    → name ≡ cookie_name https → second ≡ first ++ (name ++ (codes "=" ++ text))
    → last ≡ secure https → OnOk r (new ≡ second ++ last)
    → OnOk r (new ≡ old ++ cookie_start https text)
unfolding cookie_start
put_start https text (Ok x) old first second new name last one named two secured three =
    let front = codes "Set-Cookie: " in
    let middle = name ++ (codes "=" ++ text) in
    three ∙ ap (λ (s : List ℕ). s ++ last) two
    ∙ ap (λ (f : List ℕ). (f ++ middle) ++ last) one
    ∙ ap (λ (s : List ℕ). s ++ last) (append_assoc old front middle)
    ∙ append_assoc old (front ++ middle) last
    ∙ ap (λ (s : List ℕ). old ++ s) (append_assoc front middle last)
    ∙ ap (λ (n : List ℕ). old ++ (front ++ ((n ++ (codes "=" ++ text)) ++ last))) named
    ∙ ap (λ (l : List ℕ). old ++ (front ++ ((cookie_name https ++ (codes "=" ++ text)) ++ l))) secured
put_start https text (Err e) old first second new name last one named two secured three = tt
