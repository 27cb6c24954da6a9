-- What is taken, where a head states something once it has ended.
use Rattle.std.proofs.Common.{◌≡◌, ◌∙◌, ◌==◌, ◌-◌, ℕ, Bool, true, false, List, [], ◌∷◌, ◌++◌, Option, Some, None}
use Rattle.std.proofs.Common.{refl, ap, sym, subst, cond, is_none}
use Rattle.connection_core.specs.Machine.{Conn, Hears, IsSaid, awaiting, awaits, ends_head, head_after}
use Rattle.connection_core.specs.Machine.{head_goes_on, head_leaves, leaves, phase_after, takes}
use Rattle.connection_core.specs.Machine.{takes_byte}
use Rattle.connection_core.specs.declared.phase.Part.{Part}
use Rattle.connection_core.specs.declared.phase.Part.TheVariants.{Blank, Line, Start, Return, Body}
use Rattle.connection_core.specs.declared.phase.Phase.{Phase}
use Rattle.connection_core.specs.declared.phase.Phase.TheVariants.{Reading, Ready, Writing}
use Rattle.connection_core.specs.declared.phase.Phase.TheVariants.{Lingering, Closed}
use Rattle.connection_core.proofs.HeardLemmas.{made}

-- its head has ended, or is answered
abbrev is_past : Phase → Bool
is_past (Reading Blank) = false
is_past (Reading Line) = false
is_past (Reading Start) = false
is_past (Reading Return) = false
is_past (Reading (Body n)) = true
is_past Ready = true
is_past Writing = true
is_past Lingering = true
is_past Closed = true

past_test : (b : Bool) (n : ℕ) → is_past (cond b Ready (Reading (Body n))) ≡ true
past_test true n = refl
past_test false n = refl

awaits_past : (o : Option ℕ) → is_past (awaits o) ≡ true
awaits_past None = refl
awaits_past (Some n) = past_test (n == 0) n

-- ---- one byte

same_goes : (f g : Option ℕ) (came : List ℕ) (o : Option Part) → is_none o ≡ false
    → head_goes_on f came o ≡ head_goes_on g came o
same_goes f g came None some = let no : true ≡ false = some in cc
same_goes f g came (Some part) some = refl

same_leaves : (f g : Option ℕ) (came : List ℕ) (o : Option Part) → is_none o ≡ false
    → head_leaves f came o ≡ head_leaves g came o
same_leaves f g came None some = let no : true ≡ false = some in cc
same_leaves f g came (Some part) some = refl

same_made : (p q : Phase) (came left : List ℕ) (d : ℕ) (m n : Bool) → p ≡ q → m ≡ n
    → made p came left d m ≡ made q came left d n
same_made p q came left d m n phase more =
    ap (λ (x : Phase). made x came left d m) phase ∙ ap (λ (x : Bool). made q came left d x) more

-- where it doesn't end the head, it doesn't matter what that states
same_by : (f g : Option ℕ) (p : Phase) (came left : List ℕ) (d b : ℕ) (m : Bool)
    → ends_head p b ≡ false
    → takes_byte f (made p came left d m) b ≡ takes_byte g (made p came left d m) b
same_by f g (Reading Blank) came left d b m on =
    same_made _ _ (came ++ b ∷ []) left d _ _ (same_goes f g (came ++ b ∷ []) (head_after Blank b) on)
    (same_leaves f g (came ++ b ∷ []) (head_after Blank b) on)
same_by f g (Reading Line) came left d b m on =
    same_made _ _ (came ++ b ∷ []) left d _ _ (same_goes f g (came ++ b ∷ []) (head_after Line b) on)
    (same_leaves f g (came ++ b ∷ []) (head_after Line b) on)
same_by f g (Reading Start) came left d b m on =
    same_made _ _ (came ++ b ∷ []) left d _ _ (same_goes f g (came ++ b ∷ []) (head_after Start b) on)
    (same_leaves f g (came ++ b ∷ []) (head_after Start b) on)
same_by f g (Reading Return) came left d b m on =
    same_made _ _ (came ++ b ∷ []) left d _ _ (same_goes f g (came ++ b ∷ []) (head_after Return b) on)
    (same_leaves f g (came ++ b ∷ []) (head_after Return b) on)
same_by f g (Reading (Body n)) came left d b m on = refl
same_by f g Ready came left d b m on = refl
same_by f g Writing came left d b m on = refl
same_by f g Lingering came left d b m on = refl
same_by f g Closed came left d b m on = refl

same_byte : (f g : Option ℕ) (c : Conn) (b : ℕ) → ends_head c.phase b ≡ false
    → takes_byte f c b ≡ takes_byte g c b
same_byte f g c b on = same_by f g c.phase c.came c.left c.deadline b c.more on

goes_past : (f : Option ℕ) (came : List ℕ) (o : Option Part) → is_none o ≡ true
    → is_past (head_goes_on f came o) ≡ true
goes_past f came None ends = awaits_past f
goes_past f came (Some part) ends = let no : false ≡ true = ends in cc

ended_by : (f : Option ℕ) (p : Phase) (came left : List ℕ) (d b : ℕ) (m : Bool)
    → ends_head p b ≡ true → is_past (takes_byte f (made p came left d m) b).phase ≡ true
ended_by f (Reading Blank) came left d b m ends = goes_past f _ (head_after Blank b) ends
ended_by f (Reading Line) came left d b m ends = goes_past f _ (head_after Line b) ends
ended_by f (Reading Start) came left d b m ends = goes_past f _ (head_after Start b) ends
ended_by f (Reading Return) came left d b m ends = goes_past f _ (head_after Return b) ends
ended_by f (Reading (Body n)) came left d b m ends = let no : false ≡ true = ends in cc
ended_by f Ready came left d b m ends = let no : false ≡ true = ends in cc
ended_by f Writing came left d b m ends = let no : false ≡ true = ends in cc
ended_by f Lingering came left d b m ends = let no : false ≡ true = ends in cc
ended_by f Closed came left d b m ends = let no : false ≡ true = ends in cc

past_by : (f : Option ℕ) (p : Phase) (came left : List ℕ) (d b : ℕ) (m : Bool) → is_past p ≡ true
    → is_past (takes_byte f (made p came left d m) b).phase ≡ true
past_by f (Reading Blank) came left d b m past = let no : false ≡ true = past in cc
past_by f (Reading Line) came left d b m past = let no : false ≡ true = past in cc
past_by f (Reading Start) came left d b m past = let no : false ≡ true = past in cc
past_by f (Reading Return) came left d b m past = let no : false ≡ true = past in cc
past_by f (Reading (Body n)) came left d b m past = past_test ((n - 1) == 0) (n - 1)
past_by f Ready came left d b m past = refl
past_by f Writing came left d b m past = refl
past_by f Lingering came left d b m past = refl
past_by f Closed came left d b m past = refl

past_ends : (p : Phase) (b : ℕ) → is_past p ≡ true → ends_head p b ≡ false
past_ends (Reading Blank) b past = let no : false ≡ true = past in cc
past_ends (Reading Line) b past = let no : false ≡ true = past in cc
past_ends (Reading Start) b past = let no : false ≡ true = past in cc
past_ends (Reading Return) b past = let no : false ≡ true = past in cc
past_ends (Reading (Body n)) b past = refl
past_ends Ready b past = refl
past_ends Writing b past = refl
past_ends Lingering b past = refl
past_ends Closed b past = refl

-- ---- many

past_same : (f g : Option ℕ) (c : Conn) (bytes : List ℕ) → is_past c.phase ≡ true
    → takes f c bytes ≡ takes g c bytes
past_same f g c [] past = refl
past_same f g c (b ∷ bs) past =
    past_same f g (takes_byte f c b) bs (past_by f c.phase c.came c.left c.deadline b c.more past)
    ∙ ap (λ (x : Conn). takes g x bs) (same_byte f g c b (past_ends c.phase b past))

past_said : (states : List ℕ → Option ℕ → Type 0) (f : Option ℕ) (c : Conn) (bytes : List ℕ)
    → is_past c.phase ≡ true → IsSaid states f c bytes
past_said states f c [] past = tt
past_said states f c (b ∷ bs) past = (
  λ ends. (let no : false ≡ true = sym (past_ends c.phase b past) ∙ ends in cc),
  past_said states f (takes_byte f c b) bs
      (past_by f c.phase c.came c.left c.deadline b c.more past),
)

more_by : (states : List ℕ → Option ℕ → Type 0) (e : Bool) (c new : Conn) (b : ℕ) (bs : List ℕ)
    (told said : Option ℕ) → ends_head c.phase b ≡ e
    → (ends_head c.phase b ≡ true → states (c.came ++ b ∷ []) told)
    → IsSaid states said (takes_byte told c b) bs → new ≡ takes said (takes_byte told c b) bs
    → Hears states c (b ∷ bs) new
more_by states true c new b bs told said ends states_it is_said is =
    let past = ended_by told c.phase c.came c.left c.deadline b c.more ends in (
      told,
      (states_it, past_said states told (takes_byte told c b) bs past),
      is ∙ past_same said told (takes_byte told c b) bs past,
    )
more_by states false c new b bs told said on states_it is_said is =
    let same = same_byte told said c b on in (
      said,
      (
        λ ends. (let no : false ≡ true = sym on ∙ ends in cc),
        subst (λ (x : Conn). IsSaid states said x bs) same is_said,
      ),
      is ∙ ap (λ (x : Conn). takes said x bs) same,
    )

-- one byte, and then those that are left
pub hears_more : (states : List ℕ → Option ℕ → Type 0) (c mid new : Conn) (b : ℕ) (bs : List ℕ)
    → Hears states c (b ∷ []) mid → Hears states mid bs new → Hears states c (b ∷ bs) new
hears_more states c mid new b bs (told, first, is_mid) (said, rest, is) =
    more_by states (ends_head c.phase b) c new b bs told said refl first.0
    (subst (λ (x : Conn). IsSaid states said x bs) is_mid rest)
    (is ∙ ap (λ (x : Conn). takes said x bs) is_mid)

pub hears_none : (states : List ℕ → Option ℕ → Type 0) (c : Conn) → Hears states c [] c
hears_none states c = (None, tt, refl)

-- ---- in pieces

pub said_both : (states : List ℕ → Option ℕ → Type 0) (said : Option ℕ) (c : Conn)
    (xs ys : List ℕ) → IsSaid states said c xs → IsSaid states said (takes said c xs) ys
    → IsSaid states said c (xs ++ ys)
said_both states said c [] ys first rest = rest
said_both states said c (x ∷ xs) ys first rest =
    (first.0, said_both states said (takes_byte said c x) xs ys first.1 rest)
