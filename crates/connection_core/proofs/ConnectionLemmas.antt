-- What holds of a connection after any events.
use Rattle.std.proofs.Common.{◌≡◌, ◌∙◌, ◌≤◌, ◌<◌, ◌+◌, ◌-◌, ◌==◌, ℕ, Bool, true, false, List, [], ◌∷◌}
use Rattle.std.proofs.Common.{◌++◌, Option, Some, None, refl, ap, sym, subst, length, length-append}
use Rattle.std.proofs.Common.{append_assoc, append-nil, cond, arith, length-drop, take, drop, nat_lt, nat_le}
use Rattle.std.proofs.lemmas.List.{take-append-drop, take_all}
use Rattle.std.specs.Prelude.{IfSome, is_none, ⊤}
use Rattle.connection_core.specs.Machine.{Conn, Event, Came, Ended, Wrote, Broke, Passed, Settled, after, afters}
use Rattle.connection_core.specs.Machine.{takes, takes_byte, answered, lingering, closed, awaiting, awaits, byte_in, leaves, settled, settled_in, wrote}
use Rattle.connection_core.specs.Machine.{head_goes_on, phase_after, passed, later}
use Rattle.connection_core.specs.Machine.{AreTold, IsSaid, IsTold, ends_head, is_empty, is_line_end}
use Rattle.connection_core.specs.Laws.{HoldsAtMost, IsBounded, IsUnwritten, StatesAtMost, TakesFront}
use Rattle.connection_core.specs.Laws.{WritesFront, is_over, written}
use Rattle.connection_core.specs.declared.phase.Part.{Part}
use Rattle.connection_core.specs.declared.phase.Part.TheVariants.{Blank, Line, Start, Return, Body}
use Rattle.connection_core.specs.declared.phase.Phase.{Phase}
use Rattle.connection_core.specs.declared.phase.Phase.TheVariants.{Reading, Ready, Writing}
use Rattle.connection_core.specs.declared.phase.Phase.TheVariants.{Lingering, Closed}

-- ---- pieces

pub takes_both : (said : Option ℕ) (c : Conn) (xs ys : List ℕ)
    → takes said (takes said c xs) ys ≡ takes said c (xs ++ ys)
takes_both said c [] ys = refl
takes_both said c (x ∷ xs) ys = takes_both said (takes_byte said c x) xs ys

-- ---- one that is over

-- what bytes do that are passed over
abbrev pub passed_over : Phase → Bool → Bool
passed_over (Reading part) m = m
passed_over Ready m = true
passed_over Writing m = true
passed_over Lingering m = true
passed_over Closed m = m

abbrev pub passes : Phase → Bool → List ℕ → Bool
passes p m [] = m
passes p m (b ∷ bs) = passes p (passed_over p m) bs

pub over_takes : (said : Option ℕ) (p : Phase) (came left : List ℕ) (d : ℕ) (m : Bool)
    (bytes : List ℕ) → is_over p ≡ true
    → takes said (record { phase = p; came = came; left = left; deadline = d; more = m }) bytes
    ≡ record { phase = p; came = came; left = left; deadline = d; more = passes p m bytes }
over_takes said p came left d m [] over = refl
over_takes said Writing came left d m (b ∷ bs) over =
    over_takes said Writing came left d true bs over
over_takes said Lingering came left d m (b ∷ bs) over =
    over_takes said Lingering came left d true bs over
over_takes said Closed came left d m (b ∷ bs) over = over_takes said Closed came left d m bs over
over_takes said (Reading part) came left d m (b ∷ bs) over = let no : false ≡ true = over in cc
over_takes said Ready came left d m (b ∷ bs) over = let no : false ≡ true = over in cc

over_cond : (b : Bool) (x y : Conn) → is_over x.phase ≡ true → is_over y.phase ≡ true
    → is_over (cond b x y).phase ≡ true
over_cond true x y one other = one
over_cond false x y one other = other

pub over_after : (p : Phase) (came left : List ℕ) (d : ℕ) (m : Bool) (e : Event)
    → is_over p ≡ true
    → is_over (after (record { phase = p; came = came; left = left; deadline = d; more = m }) e).phase
    ≡ true
over_after p came left d m (Came said bytes) over =
    ap (λ (c : Conn). is_over c.phase) (over_takes said p came left d m bytes over) ∙ over
over_after p came left d m Broke over = refl
over_after p came left d m (Passed now) over = over_cond (nat_le d now) _ _ refl over
over_after Writing came left d m Ended over = refl
over_after Lingering came left d m Ended over = refl
over_after Closed came left d m Ended over = refl
over_after (Reading part) came left d m Ended over = let no : false ≡ true = over in cc
over_after Ready came left d m Ended over = let no : false ≡ true = over in cc
over_after Writing came left d m (Wrote n now) over =
    over_cond (nat_le (length left) n) _ _ refl refl
over_after Lingering came left d m (Wrote n now) over = refl
over_after Closed came left d m (Wrote n now) over = refl
over_after (Reading part) came left d m (Wrote n now) over = let no : false ≡ true = over in cc
over_after Ready came left d m (Wrote n now) over = let no : false ≡ true = over in cc
over_after Writing came left d m Settled over = refl
over_after Lingering came left d m Settled over = over_cond m _ _ refl refl
over_after Closed came left d m Settled over = refl
over_after (Reading part) came left d m Settled over = let no : false ≡ true = over in cc
over_after Ready came left d m Settled over = let no : false ≡ true = over in cc

pub over_stays : (c : Conn) (es : List Event) → is_over c.phase ≡ true
    → is_over (afters c es).phase ≡ true
over_stays c [] over = over
over_stays c (e ∷ es) over =
    over_stays (after c e) es
    (over_after c.phase c.came c.left c.deadline c.more e over)

-- ---- memory

abbrev HeadOnly : Option Part → Type 0
HeadOnly None = ⊤
HeadOnly (Some (Body n)) = ⊥
HeadOnly (Some Blank) = ⊤
HeadOnly (Some Line) = ⊤
HeadOnly (Some Start) = ⊤
HeadOnly (Some Return) = ⊤

only_cond : (b : Bool) (x y : Option Part) → HeadOnly x → HeadOnly y → HeadOnly (cond b x y)
only_cond true x y one other = one
only_cond false x y one other = other

bounded_by_test : (limit : ℕ) (b : Bool) (n k : ℕ) → (n == 0) ≡ b → k + n ≤ 8192 + limit
    → HoldsAtMost limit (cond b Ready (Reading (Body n))) k
bounded_by_test limit true n k test few = omega (arith, few)
bounded_by_test limit false n k test few = (grind arith, few)

awaiting_bounded : (limit : ℕ) (n k : ℕ) → k + n ≤ 8192 + limit → HoldsAtMost limit (awaiting n) k
awaiting_bounded limit n k few = bounded_by_test limit (n == 0) n k refl few

reading_bounded : (limit : ℕ) (part : Part) (k : ℕ) → HeadOnly (Some part) → k < 8192
    → HoldsAtMost limit (Reading part) k
reading_bounded limit Blank k only few = few
reading_bounded limit Line k only few = few
reading_bounded limit Start k only few = few
reading_bounded limit Return k only few = few
reading_bounded limit (Body n) k only few = absurd only

going_by_test : (limit : ℕ) (b : Bool) (part : Part) (k : ℕ) → nat_lt k 8192 ≡ b → HeadOnly (Some part)
    → k ≤ 8192 → HoldsAtMost limit (cond b (Reading part) Ready) k
going_by_test limit true part k test only few = reading_bounded limit part k only (grind arith)
going_by_test limit false part k test only few = omega (arith, few)

awaits_bounded : (limit : ℕ) (o : Option ℕ) (k : ℕ) → IfSome o (λ n. n ≤ limit) → k ≤ 8192
    → HoldsAtMost limit (awaits o) k
awaits_bounded limit None k small few = omega (arith, few)
awaits_bounded limit (Some n) k small few =
    awaiting_bounded limit n k (let low = small in omega (arith, few, low))

going_bounded : (limit : ℕ) (said : Option ℕ) (came : List ℕ) (o : Option Part)
    → (is_none o ≡ true → IfSome said (λ n. n ≤ limit)) → HeadOnly o → length came ≤ 8192
    → HoldsAtMost limit (head_goes_on said came o) (length came)
going_bounded limit said came None little only few =
    awaits_bounded limit said (length came) (little refl) few
going_bounded limit said came (Some part) little only few =
    going_by_test limit (nat_lt (length came) 8192) part (length came) refl only few

one_more : (came : List ℕ) (b : ℕ) → length (came ++ b ∷ []) ≡ length came + 1
one_more came b = length-append came (b ∷ [])

bounded_byte : (limit : ℕ) (said : Option ℕ) (p : Phase) (came left : List ℕ) (d b : ℕ) (m : Bool)
    → (ends_head p b ≡ true → IfSome said (λ n. n ≤ limit)) → HoldsAtMost limit p (length came)
    → IsBounded limit (takes_byte said (record { phase = p; came = came; left = left; deadline = d; more = m }) b)
bounded_byte limit said (Reading (Body n)) came left d b m little few =
    let more = one_more came b in
    awaiting_bounded limit (n - 1) (length (came ++ b ∷ [])) (omega (arith, few.0, few.1))
bounded_byte limit said (Reading Blank) came left d b m little few =
    let more = one_more came b in
    going_bounded limit said _ _ little
    (only_cond (is_line_end b) (Some Blank) (Some Line) tt tt) (omega arith)
bounded_byte limit said (Reading Line) came left d b m little few =
    let more = one_more came b in
    going_bounded limit said _ _ little (only_cond (b == 10) (Some Start) (Some Line) tt tt) (omega arith)
bounded_byte limit said (Reading Start) came left d b m little few =
    let more = one_more came b in
    going_bounded limit said _ _ little
    (only_cond (b == 10) None (cond (b == 13) (Some Return) (Some Line)) tt
    (only_cond (b == 13) (Some Return) (Some Line) tt tt)) (omega arith)
bounded_byte limit said (Reading Return) came left d b m little few =
    let more = one_more came b in
    going_bounded limit said _ _ little (only_cond (b == 10) None (Some Line) tt tt) (omega arith)
bounded_byte limit said Ready came left d b m little few = few
bounded_byte limit said Writing came left d b m little few = few
bounded_byte limit said Lingering came left d b m little few = few
bounded_byte limit said Closed came left d b m little few = few

bounded_takes : (limit : ℕ) (States : List ℕ → Option ℕ → Type 0) (said : Option ℕ)
    → StatesAtMost limit States → (c : Conn) (bytes : List ℕ) → IsSaid States said c bytes
    → IsBounded limit c → IsBounded limit (takes said c bytes)
bounded_takes limit States said little c [] told few = few
bounded_takes limit States said little c (b ∷ bs) told few =
    bounded_takes limit States said little (takes_byte said c b) bs told.1
    (bounded_byte limit said c.phase c.came c.left c.deadline b c.more
    (λ ends. little (c.came ++ b ∷ []) said (told.0 ends)) few)

bounded_cond : (limit : ℕ) (b : Bool) (x y : Conn) → IsBounded limit x → IsBounded limit y → IsBounded limit (cond b x y)
bounded_cond limit true x y one other = one
bounded_cond limit false x y one other = other

-- a phase in which a message is read holds no more than one whose message is whole
reading_few : (limit : ℕ) (part : Part) (k : ℕ) → HoldsAtMost limit (Reading part) k → k ≤ 8192 + limit
reading_few limit Blank k few = omega (arith, few)
reading_few limit Line k few = omega (arith, few)
reading_few limit Start k few = omega (arith, few)
reading_few limit Return k few = omega (arith, few)
reading_few limit (Body n) k few = omega (arith, few.1)

bounded_after : (limit : ℕ) (States : List ℕ → Option ℕ → Type 0) → StatesAtMost limit States
    → (p : Phase) (came left : List ℕ) (d : ℕ) (m : Bool) (e : Event)
    → IsTold States (record { phase = p; came = came; left = left; deadline = d; more = m }) e
    → HoldsAtMost limit p (length came)
    → IsBounded limit (after (record { phase = p; came = came; left = left; deadline = d; more = m }) e)
bounded_after limit States little p came left d m (Came said bytes) told few =
    bounded_takes limit States said little
    (record { phase = p; came = came; left = left; deadline = d; more = m }) bytes told few
bounded_after limit States little p came left d m Broke told few = refl
bounded_after limit States little p came left d m (Passed now) told few =
    bounded_cond limit (nat_le d now) closed
    (record { phase = p; came = came; left = left; deadline = d; more = m }) refl few
bounded_after limit States little (Reading part) came left d m Ended told few =
    bounded_cond limit (is_empty came) closed
    (record { phase = Ready; came = came; left = left; deadline = d; more = m }) refl
    (reading_few limit part (length came) few)
bounded_after limit States little Ready came left d m Ended told few = few
bounded_after limit States little Writing came left d m Ended told few = few
bounded_after limit States little Lingering came left d m Ended told few = refl
bounded_after limit States little Closed came left d m Ended told few = few
bounded_after limit States little Writing came left d m (Wrote n now) told few =
    bounded_cond limit (nat_le (length left) n) (lingering m now)
    (record { phase = Writing; came = came; left = drop n left; deadline = d; more = m }) refl few
bounded_after limit States little Lingering came left d m (Wrote n now) told few = few
bounded_after limit States little Closed came left d m (Wrote n now) told few = few
bounded_after limit States little (Reading part) came left d m (Wrote n now) told few = few
bounded_after limit States little Ready came left d m (Wrote n now) told few = few
bounded_after limit States little Lingering came left d m Settled told few =
    bounded_cond limit m (record { phase = Lingering; came = came; left = left; deadline = d; more = m })
    closed few refl
bounded_after limit States little Closed came left d m Settled told few = few
bounded_after limit States little (Reading part) came left d m Settled told few = few
bounded_after limit States little Ready came left d m Settled told few = few
bounded_after limit States little Writing came left d m Settled told few = few

pub bounded_always : (limit : ℕ) (States : List ℕ → Option ℕ → Type 0) (c : Conn)
    (es : List Event) → StatesAtMost limit States → AreTold States c es → IsBounded limit c
    → IsBounded limit (afters c es)
bounded_always limit States c [] little told few = few
bounded_always limit States c (e ∷ es) little told few =
    bounded_always limit States (after c e) es little told.1
    (bounded_after limit States little c.phase c.came c.left c.deadline c.more e told.0 few)

few_in : (limit : ℕ) (p : Phase) (k : ℕ) → HoldsAtMost limit p k → k ≤ 8192 + limit
few_in limit (Reading part) k few = reading_few limit part k few
few_in limit Ready k few = few
few_in limit Writing k few = omega (arith, few)
few_in limit Lingering k few = omega (arith, few)
few_in limit Closed k few = omega (arith, few)

pub bounded_few : (limit : ℕ) (c : Conn) → IsBounded limit c → length c.came ≤ 8192 + limit
bounded_few limit c few = few_in limit c.phase (length c.came) few

-- no event makes more of what is left of a reply
byte_left : (said : Option ℕ) (p : Phase) (came left : List ℕ) (d b : ℕ) (m : Bool)
    → (takes_byte said (record { phase = p; came = came; left = left; deadline = d; more = m }) b).left ≡ left
byte_left said (Reading part) came left d b m = refl
byte_left said Ready came left d b m = refl
byte_left said Writing came left d b m = refl
byte_left said Lingering came left d b m = refl
byte_left said Closed came left d b m = refl

takes_left : (said : Option ℕ) (c : Conn) (bytes : List ℕ) → (takes said c bytes).left ≡ c.left
takes_left said c [] = refl
takes_left said c (b ∷ bs) =
    takes_left said (takes_byte said c b) bs
    ∙ byte_left said c.phase c.came c.left c.deadline b c.more

left_cond : (b : Bool) (x y : Conn) (n : ℕ) → length x.left ≤ n → length y.left ≤ n
    → length (cond b x y).left ≤ n
left_cond true x y n one other = one
left_cond false x y n one other = other

left_wrote : (p : Phase) (came left : List ℕ) (d n now : ℕ) (m : Bool)
    → length (wrote (record { phase = p; came = came; left = left; deadline = d; more = m }) n now).left
    ≤ length left
left_wrote p came left d n now m =
    let rest = length-drop n left in
    left_cond (nat_le (length left) n) (lingering m now)
    (record { phase = p; came = came; left = drop n left; deadline = d; more = m }) (length left)
    (omega arith) (omega (arith, rest))

left_after : (p : Phase) (came left : List ℕ) (d : ℕ) (m : Bool) (e : Event)
    → length (after (record { phase = p; came = came; left = left; deadline = d; more = m }) e).left
    ≤ length left
left_after p came left d m (Came said bytes) =
    let same = takes_left said (record { phase = p; came = came; left = left; deadline = d; more = m }) bytes in
    subst (λ (l : List ℕ). length l ≤ length left) (sym same) (omega arith)
left_after p came left d m Broke = omega arith
left_after p came left d m (Passed now) =
    left_cond (nat_le d now) closed
    (record { phase = p; came = came; left = left; deadline = d; more = m }) (length left) (omega arith)
    (omega arith)
left_after (Reading part) came left d m Ended =
    left_cond (is_empty came) closed
    (record { phase = Ready; came = came; left = left; deadline = d; more = m }) (length left) (omega arith)
    (omega arith)
left_after Ready came left d m Ended = omega arith
left_after Writing came left d m Ended = omega arith
left_after Lingering came left d m Ended = omega arith
left_after Closed came left d m Ended = omega arith
left_after Writing came left d m (Wrote n now) = left_wrote Writing came left d n now m
left_after Lingering came left d m (Wrote n now) = omega arith
left_after Closed came left d m (Wrote n now) = omega arith
left_after (Reading part) came left d m (Wrote n now) = omega arith
left_after Ready came left d m (Wrote n now) = omega arith
left_after Lingering came left d m Settled =
    left_cond m (record { phase = Lingering; came = came; left = left; deadline = d; more = m }) closed
    (length left) (omega arith) (omega arith)
left_after Closed came left d m Settled = omega arith
left_after (Reading part) came left d m Settled = omega arith
left_after Ready came left d m Settled = omega arith
left_after Writing came left d m Settled = omega arith

pub left_always : (c : Conn) (es : List Event)
    → length (afters c es).left ≤ length c.left
left_always c [] = omega arith
left_always c (e ∷ es) =
    let rest = left_always (after c e) es in
    let first = left_after c.phase c.came c.left c.deadline c.more e in
    omega (arith, rest, first)

-- ---- what is taken is a front of what comes

-- one that isn't reading takes nothing
idle_takes : (said : Option ℕ) (c : Conn) (bytes : List ℕ)
    → (takes said c bytes).came ≡ c.came → TakesFront said c bytes
idle_takes said c bytes same = ([], bytes, refl, same ∙ sym (append-nil c.came))

pub ready_takes : (said : Option ℕ) (came left : List ℕ) (d : ℕ) (m : Bool)
    (bytes : List ℕ)
    → takes said (record { phase = Ready; came = came; left = left; deadline = d; more = m }) bytes
    ≡ record { phase = Ready; came = came; left = left; deadline = d; more = passes Ready m bytes }
ready_takes said came left d m [] = refl
ready_takes said came left d m (b ∷ bs) = ready_takes said came left d true bs

front_more : (said : Option ℕ) (p : Phase) (came left : List ℕ) (d b : ℕ) (m : Bool) (bs : List ℕ)
    → TakesFront said (record { phase = p; came = came ++ b ∷ []; left = left; deadline = d; more = m }) bs
    → (result : Conn)
    → result ≡ takes said (record { phase = p; came = came ++ b ∷ []; left = left; deadline = d; more = m }) bs
    → (front : List ℕ) × (rest : List ℕ) × (b ∷ bs ≡ front ++ rest) × (result.came ≡ came ++ front)
front_more said p came left d b m bs (front, rest, cut, took) result is = (
  b ∷ front,
  rest,
  ap (λ (l : List ℕ). b ∷ l) cut,
  ap (λ (x : Conn). x.came) is ∙ took ∙ append_assoc came (b ∷ []) front,
)

front_by : (said : Option ℕ) (p : Phase) (came left : List ℕ) (d : ℕ) (m : Bool)
    (bytes : List ℕ)
    → TakesFront said (record { phase = p; came = came; left = left; deadline = d; more = m }) bytes
front_by said p came left d m [] = ([], [], refl, sym (append-nil came))
front_by said (Reading part) came left d m (b ∷ bs) =
    let n = leaves said part b (came ++ b ∷ []) in
    front_more said (phase_after said part b (came ++ b ∷ [])) came left d b n bs
    (front_by said (phase_after said part b (came ++ b ∷ [])) (came ++ b ∷ []) left d n bs) _ refl
front_by said Ready came left d m (b ∷ bs) =
    idle_takes said (record { phase = Ready; came = came; left = left; deadline = d; more = m })
    (b ∷ bs) (ap (λ (x : Conn). x.came) (ready_takes said came left d true bs))
front_by said Writing came left d m (b ∷ bs) =
    idle_takes said (record { phase = Writing; came = came; left = left; deadline = d; more = m })
    (b ∷ bs) (ap (λ (x : Conn). x.came) (over_takes said Writing came left d true bs refl))
front_by said Lingering came left d m (b ∷ bs) =
    idle_takes said (record { phase = Lingering; came = came; left = left; deadline = d; more = m })
    (b ∷ bs) (ap (λ (x : Conn). x.came) (over_takes said Lingering came left d true bs refl))
front_by said Closed came left d m (b ∷ bs) =
    idle_takes said (record { phase = Closed; came = came; left = left; deadline = d; more = m })
    (b ∷ bs) (ap (λ (x : Conn). x.came) (over_takes said Closed came left d m bs refl))

pub takes_front : (said : Option ℕ) (c : Conn) (bytes : List ℕ) → TakesFront said c bytes
takes_front said c bytes = front_by said c.phase c.came c.left c.deadline c.more bytes

-- ---- what is written is a front of the reply

same_cond : (b : Bool) (c : Conn) → cond b c c ≡ c
same_cond true c = refl
same_cond false c = refl

closed_takes : (said : Option ℕ) (bytes : List ℕ) → takes said closed bytes ≡ closed
closed_takes said [] = refl
closed_takes said (b ∷ bs) = closed_takes said bs

closed_after : (e : Event) → after closed e ≡ closed
closed_after (Came said bytes) = closed_takes said bytes
closed_after Ended = refl
closed_after (Wrote n now) = refl
closed_after Broke = refl
closed_after (Passed now) = same_cond (nat_le 0 now) closed
closed_after Settled = refl

-- nothing more is written, whatever was left
abbrev IsQuiet : List ℕ → Conn → List Event → Type 0
IsQuiet rest c es =
    (written c es ≡ [])
    × IsUnwritten (afters c es).phase (afters c es).left rest

closed_quiet : (rest : List ℕ) (es : List Event)
    → IsQuiet rest closed es
closed_quiet rest [] = (refl, tt)
closed_quiet rest (e ∷ es) =
    subst (λ (c : Conn). IsQuiet rest c es) (sym (closed_after e))
    (closed_quiet rest es)

quiet_cond : (b : Bool) (c : Conn) (es : List Event)
    → IsQuiet [] c es → IsQuiet [] (cond b closed c) es
quiet_cond true c es quiet = closed_quiet [] es
quiet_cond false c es quiet = quiet

quiet_either : (b : Bool) (c : Conn) (es : List Event)
    → IsQuiet [] c es → IsQuiet [] (cond b c closed) es
quiet_either true c es quiet = quiet
quiet_either false c es quiet = closed_quiet [] es

lingering_quiet : (d : ℕ) (m : Bool) (es : List Event)
    → IsQuiet []
    (record { phase = Lingering; came = []; left = []; deadline = d; more = m }) es
lingering_quiet d m [] = (refl, refl)
lingering_quiet d m (Came said bytes ∷ es) =
    subst (λ (c : Conn). IsQuiet [] c es)
    (sym (over_takes said Lingering [] [] d m bytes refl))
    (lingering_quiet d (passes Lingering m bytes) es)
lingering_quiet d m (Ended ∷ es) = closed_quiet [] es
lingering_quiet d m (Wrote n now ∷ es) = lingering_quiet d m es
lingering_quiet d m (Broke ∷ es) = closed_quiet [] es
lingering_quiet d m (Passed now ∷ es) =
    quiet_cond (nat_le d now) _ es (lingering_quiet d m es)
lingering_quiet d m (Settled ∷ es) =
    quiet_either m _ es (lingering_quiet d m es)

-- one that is dropped leaves all that wasn't written
dropped_front : (left : List ℕ) (es : List Event)
    → WritesFront left closed es
dropped_front left es =
    let quiet = closed_quiet left es in
    (left, sym (ap (λ (l : List ℕ). l ++ left) quiet.0), quiet.1)

front_cond : (b : Bool) (left : List ℕ) (c : Conn) (es : List Event)
    → WritesFront left c es → WritesFront left (cond b closed c) es
front_cond true left c es front = dropped_front left es
front_cond false left c es front = front

-- what follows some bytes that were written
abbrev FrontAfter : List ℕ → List ℕ → Conn → List Event → Type 0
FrontAfter reply front c es =
    (rest : List ℕ) × (reply ≡ front ++ written c es ++ rest)
    × IsUnwritten (afters c es).phase (afters c es).left rest

front_then : (n : ℕ) (left : List ℕ) (c : Conn) (es : List Event)
    → WritesFront (drop n left) c es → FrontAfter left (take n left) c es
front_then n left c es (rest, cut, unwritten) = (
  rest,
  sym (take-append-drop n left) ∙ ap (λ (l : List ℕ). take n left ++ l) cut
      ∙ sym (append_assoc (take n left) (written c es) rest),
  unwritten,
)

front_whole : (n : ℕ) (left : List ℕ) (m : Bool) (now : ℕ)
    (es : List Event) → length left ≤ n
    → FrontAfter left (take n left) (lingering m now) es
front_whole n left m now es whole =
    let quiet = lingering_quiet (later now 2000) m es in (
      [],
      sym (append-nil _ ∙ ap (λ (l : List ℕ). take n left ++ l) quiet.0
          ∙ append-nil (take n left) ∙ take_all n left whole),
      quiet.1,
    )

front_wrote : (b : Bool) (n : ℕ) (left : List ℕ) (m : Bool) (now : ℕ)
    (c : Conn) (es : List Event) → nat_le (length left) n ≡ b
    → WritesFront (drop n left) c es
    → FrontAfter left (take n left) (cond b (lingering m now) c) es
front_wrote true n left m now c es test front =
    front_whole n left m now es (grind arith)
front_wrote false n left m now c es test front = front_then n left c es front

front_of : (came left : List ℕ) (d : ℕ) (m : Bool) (es : List Event)
    → WritesFront left
    (record { phase = Writing; came = came; left = left; deadline = d; more = m }) es
front_of came left d m [] = (left, refl, refl)
front_of came left d m (Came said bytes ∷ es) =
    subst (λ (c : Conn). WritesFront left c es)
    (sym (over_takes said Writing came left d m bytes refl))
    (front_of came left d (passes Writing m bytes) es)
front_of came left d m (Ended ∷ es) = front_of came left d m es
front_of came left d m (Broke ∷ es) = dropped_front left es
front_of came left d m (Passed now ∷ es) =
    front_cond (nat_le d now) left _ es (front_of came left d m es)
front_of came left d m (Settled ∷ es) = front_of came left d m es
front_of came left d m (Wrote n now ∷ es) =
    front_wrote (nat_le (length left) n) n left m now
    (record { phase = Writing; came = came; left = drop n left; deadline = d; more = m }) es refl
    (front_of came (drop n left) d m es)

pub reply_front : (more : Bool) (reply : List ℕ) (now : ℕ)
    (es : List Event) → WritesFront reply (answered more reply now) es
reply_front more reply now es = front_of [] reply (later now 30000) more es

-- ---- the deadline

late_by_test : (b : Bool) (c : Conn) (now : ℕ) → nat_le c.deadline now ≡ b → c.deadline ≤ now
    → cond b closed c ≡ closed
late_by_test true c now test late = refl
late_by_test false c now test late = let no : c.deadline < c.deadline = grind arith in grind arith

pub late_closes : (c : Conn) (now : ℕ) → c.deadline ≤ now → passed c now ≡ closed
late_closes c now late = late_by_test (nat_le c.deadline now) c now refl late

-- no byte puts it off
byte_deadline : (said : Option ℕ) (p : Phase) (came left : List ℕ) (d b : ℕ) (m : Bool)
    → (takes_byte said (record { phase = p; came = came; left = left; deadline = d; more = m }) b).deadline
    ≡ d
byte_deadline said (Reading part) came left d b m = refl
byte_deadline said Ready came left d b m = refl
byte_deadline said Writing came left d b m = refl
byte_deadline said Lingering came left d b m = refl
byte_deadline said Closed came left d b m = refl

pub takes_deadline : (said : Option ℕ) (c : Conn) (bytes : List ℕ)
    → (takes said c bytes).deadline ≡ c.deadline
takes_deadline said c [] = refl
takes_deadline said c (b ∷ bs) =
    takes_deadline said (takes_byte said c b) bs
    ∙ byte_deadline said c.phase c.came c.left c.deadline b c.more

part_by_test : (b : Bool) (c x y : Conn) (n : ℕ) → nat_le (length c.left) n ≡ b
    → n < length c.left → y.deadline ≡ c.deadline → (cond b x y).deadline ≡ c.deadline
part_by_test true c x y n test part same = let no : n < n = grind arith in grind arith
part_by_test false c x y n test part same = same

pub part_deadline : (c : Conn) (n now : ℕ) → n < length c.left
    → (wrote c n now).deadline ≡ c.deadline
part_deadline c n now part =
    part_by_test (nat_le (length c.left) n) c (lingering c.more now)
    (record { phase = c.phase; came = c.came; left = drop n c.left; deadline = c.deadline; more = c.more }) n refl
    part refl

-- ---- settled

pub settles : (c : Conn) → c.phase ≡ Lingering → c.more ≡ false → settled c ≡ closed
settles c phase more =
    ap (λ (p : Phase). settled_in p c) phase ∙ ap (λ (b : Bool). cond b c closed) more

pub body_leaves_none : (said : Option ℕ) (c : Conn) (missing b : ℕ)
    → c.phase ≡ Reading (Body missing) → (takes_byte said c b).more ≡ false
body_leaves_none said c missing b phase =
    ap (λ (p : Phase). (byte_in said p c b).more) phase
