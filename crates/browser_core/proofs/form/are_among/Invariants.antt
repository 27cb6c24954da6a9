use Rattle.std.proofs.Common.{◌≡◌, ◌++◌, drop, map}
use Rattle.std.specs.List.{list_all}
use Rattle.browser_core.specs.Form.{is_among}
use Rattle.browser_core.proofs.form.are_among.Given as goal

abbrev pub invariant-loop-field : goal.invariant-loop-field
invariant-loop-field l =
    list_all (is_among (map (λ n. n.now) l.needed ++ map (λ n. n.now) l.others))
    (drop l.field-index l.fields)
    ≡ list_all (is_among (map (λ n. n.now) l.needed ++ map (λ n. n.now) l.others)) l.fields
