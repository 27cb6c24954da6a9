-- No length that is stated is over its limit, and the code of a reply is that of its bytes.
use Rattle.std.proofs.Common.{◌≡◌, ◌≤◌, ℕ, Bool, true, false, List, Option, Some, None, Result, Ok, Err}
use Rattle.std.proofs.Common.{refl, sym, cond, nat_le, nat_lt, arith, codes, map}
use Rattle.httparse.specs.Grammar.{ReadsRequest, RequestHead}
use Rattle.httparse.specs.Spans.{name_and_value}
use Rattle.message_core.specs.Heading.{Line, count_named, first_value, length_in, length_of, number_within}
use Rattle.message_core.specs.Heading.{within_limit}
use Rattle.message_core.specs.Limits.{limit_at, most_of, takes_long_bodies}
use Rattle.message_core.specs.Stated.{States, StatesLength}
use Rattle.message_core.specs.declared.fault.WireFault.{WireFault}
use Rattle.message_core.specs.declared.fault.WireFault.TheVariants.{BadLength, TooLong}
use Rattle.message_core.specs.declared.limits.BodyLimit.{BodyLimit}
use Rattle.message_core.specs.declared.limits.BodyLimit.TheVariants.{ByPlace, Plain}

abbrev IsWithin : ℕ → Result ℕ WireFault → Type 0
IsWithin limit said = (n : ℕ) → said ≡ Ok n → n ≤ limit

err_within : (limit : ℕ) (fault : WireFault) → IsWithin limit (Err fault)
err_within limit fault n is = let no : Err fault ≡ Ok n = is in cc

cond_within : (limit : ℕ) (b : Bool) (x y : Result ℕ WireFault) → IsWithin limit x
    → IsWithin limit y → IsWithin limit (cond b x y)
cond_within limit true x y one other = one
cond_within limit false x y one other = other

some_within : (limit m : ℕ) (b : Bool) → nat_le m limit ≡ b
    → IsWithin limit (cond b (Ok m) (Err TooLong))
some_within limit m true test n is = let same : m ≡ n = cc in grind arith
some_within limit m false test n is = let no : Err TooLong ≡ Ok n = is in cc

limit_within : (limit : ℕ) (o : Option ℕ) → IsWithin limit (within_limit limit o)
limit_within limit None = err_within limit BadLength
limit_within limit (Some m) = some_within limit m (nat_le m limit) refl

length_in_within : (limit : ℕ) (o : Option (List ℕ)) → IsWithin limit (length_in limit o)
length_in_within limit None = λ n is. let same : 0 ≡ n = cc in grind arith
length_in_within limit (Some value) = limit_within limit (number_within limit value)

length_within : (limit : ℕ) (lines : List Line) → IsWithin limit (length_of limit lines)
length_within limit lines =
    cond_within limit (nat_lt 0 (count_named (codes "Transfer-Encoding") lines)) _ _
    (err_within limit BadLength)
    (cond_within limit (nat_lt 1 (count_named (codes "Content-Length") lines)) _ _
    (err_within limit BadLength)
    (length_in_within limit (first_value (codes "Content-Length") lines)))

by_place : (b : Bool) → cond b 262144 65536 ≤ 262144
by_place true = omega arith
by_place false = omega arith

at_most : (limit : BodyLimit) (target : List ℕ) → limit_at limit target ≤ most_of limit
at_most Plain target = omega arith
at_most ByPlace target = by_place (takes_long_bodies target)

pub stated_small : (limit : BodyLimit) (bytes : List ℕ) (n : ℕ) → StatesLength limit bytes n
    → n ≤ most_of limit
stated_small limit bytes n (h, rest, reads, is) =
    let low = length_within (limit_at limit h.target) (map name_and_value h.fields) n is in
    let most = at_most limit h.target in omega (arith, low, most)
