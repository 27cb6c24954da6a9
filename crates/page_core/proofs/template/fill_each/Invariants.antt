-- what is there, the run of markup that is not there yet, and what is still to come are the whole
use Rattle.std.proofs.Common.{◌≡◌, ◌≤◌, ◌++◌, if◌then◌else◌, [], drop}
use Rattle.std.specs.List.{between}
use Rattle.page_core.specs.Page.{page_bytes}
use Rattle.page_core.specs.Extends.{Extends}
use Rattle.page_core.specs.Template.{filled, filled_from}
use Rattle.page_core.specs.Values.{texts_of}
use Rattle.page_core.proofs.template.fill_each.Given as goal

abbrev pub invariant-loop-at : goal.invariant-loop-at
invariant-loop-at l = record {
  within : l.start ≤ l.at;
  whole : l.out.items ++ ((if l.place.shown then between l.start l.at l.template else [])
      ++ page_bytes (filled_from l.place.shown (drop l.at l.template)
      (drop l.place.texts (texts_of l.values)) (drop l.place.flags l.flags)))
      ≡ l.initial.out.items ++ page_bytes (filled l.template (texts_of l.values) l.flags);
  kept : Extends l.initial.out.items l.out.items;
}
