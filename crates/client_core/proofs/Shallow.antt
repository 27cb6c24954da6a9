-- An object of texts, numbers and lists of texts nests little.
use Rattle.std.proofs.Common.{◌≡◌, ℕ, ◌≤◌, List, [], ◌∷◌, Option, Some, None, map, arith}
use Rattle.std.proofs.Common.{subst, sym, option_map}
use Rattle.std.specs.Ordering.{nat_cmp, match_ordering}
use Rattle.std.specs.Cmp.Lexicographic.{slice_cmp}
use Rattle.std.specs.declared.cmp.Ordering.TheVariants.{Less, Equal, Greater}
use Rattle.serde_json.specs.Data.{Data, Members, depth, items_depth, member, members_depth}
use Rattle.serde_json.specs.Data.{no_members, object, put, string}
use Rattle.serde_json.specs.Read.{max_depth}
use Rattle.serde_json.specs.View.{items_of}
use Rattle.desk_forms.specs.Kinds.{Argument}
use Rattle.desk_forms.specs.Paths.{PathParameter, InQueue, Nothing, OnRequest}
use Rattle.desk_forms.specs.Arguments.{Arguments}
use Rattle.desk_forms.specs.declared.kinds.Kind.{Kind}
use Rattle.desk_forms.specs.declared.kinds.Kind.TheVariants as kind
use Rattle.client_core.specs.Body.{put_if, queue_of, value_of, with_all}

abbrev Shallow : Members → Type 0
Shallow no_members = Unit {0}
Shallow (member k d ms) = (depth d ≤ 1) × Shallow ms

put_shallow : (k : List ℕ) (d : Data) (ms : Members) → depth d ≤ 1 → Shallow ms → Shallow (put k d ms)
put_shallow k d no_members low all = (low, tt)
put_shallow k d (member l e ms) low all =
    elim (slice_cmp nat_cmp k l) as (λ o. Shallow (match_ordering o (member k d (member l e ms))
    (member l d ms) (member l e (put k d ms)))) [
      | Less ↦ (low, all)
      | Equal ↦ (low, all.1)
      | Greater ↦ (all.0, put_shallow k d ms low all.1)
    ]

abbrev Low : Option Data → Type 0
Low None = Unit {0}
Low (Some d) = depth d ≤ 1

texts_flat : (many : List (List ℕ)) → items_depth (items_of (map string many)) ≤ 0
texts_flat [] = omega arith
texts_flat (t ∷ ts) = omega (arith, texts_flat ts)

maybe_low : (o : Option (List ℕ)) → Low (option_map string o)
maybe_low None = tt
maybe_low (Some t) = omega arith

queue_low : (b : PathParameter) (t : List ℕ) → Low (queue_of b t)
queue_low Nothing t = omega arith
queue_low (InQueue name) t = tt
queue_low (OnRequest n) t = omega arith

value_low : (b : PathParameter) (k : Kind) (v : Arguments) (many : List (List ℕ)) → Low (value_of b k v many)
value_low b kind.Id v many = tt
value_low b (kind.Flag letter) v many = tt
value_low b kind.Other v many = omega arith
value_low b kind.Queue v many = queue_low b v.queue
value_low b kind.Text v many = omega arith
value_low b kind.Role v many = omega arith
value_low b kind.Link v many = omega arith
value_low b kind.Maybe v many = maybe_low v.maybe
value_low b kind.Named v many = maybe_low v.maybe
value_low b kind.Many v many = omega (arith, texts_flat many)

put_if_shallow : (k : List ℕ) (o : Option Data) (ms : Members) → Low o → Shallow ms
    → Shallow (put_if k o ms)
put_if_shallow k None ms low all = all
put_if_shallow k (Some d) ms low all = put_shallow k d ms low all

all_shallow : (b : PathParameter) (args : List Argument) (v : Arguments) (many : List (List ℕ)) (ms : Members)
    → Shallow ms → Shallow (with_all b args v many ms)
all_shallow b [] v many ms all = all
all_shallow b (a ∷ rest) v many ms all =
    all_shallow b rest v many (put_if a.key (value_of b a.kind v many) ms)
    (put_if_shallow a.key (value_of b a.kind v many) ms (value_low b a.kind v many) all)

shallow_depth : (ms : Members) → Shallow ms → members_depth ms ≤ 1
shallow_depth no_members all = omega arith
shallow_depth (member k d ms) all = omega (arith, all.0, shallow_depth ms all.1)

pub low : (b : PathParameter) (args : List Argument) (v : Arguments) (many : List (List ℕ)) (ms : Members)
    → ms ≡ with_all b args v many no_members → depth (object ms) ≤ max_depth
low b args v many ms is =
    let flat = shallow_depth (with_all b args v many no_members)
    (all_shallow b args v many no_members tt) in
    let lower : members_depth ms ≤ 1 = subst (λ (m : Members). members_depth m ≤ 1) (sym is) flat in
    omega (arith, lower)
