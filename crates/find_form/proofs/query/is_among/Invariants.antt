-- none of the names so far is the name
use Rattle.std.proofs.Common.{◌≡◌, drop, map}
use Rattle.std.specs.List.{list_any}
use Rattle.std.specs.Str.{bytes_eq}
use Rattle.find_form.proofs.query.is_among.Given as goal

abbrev pub invariant-loop-known : goal.invariant-loop-known
invariant-loop-known l =
    list_any (bytes_eq l.name) (map (λ n. n.now) (drop l.known-index l.names))
    ≡ list_any (bytes_eq l.name) (map (λ n. n.now) l.names)
