-- the parts that are sought are those of the form
use Rattle.std.proofs.Common.{◌≡◌, ◌++◌, List, OnOk, subst}
use Rattle.std.specs.List.{flat_map}
use Rattle.page_core.specs.Page.{page_bytes}
use Rattle.desk_pages.specs.Chips.{chip, chips_in}
use Rattle.desk_pages.specs.Sought.{Told}
use Rattle.desk_pages.proofs.chips.put_parts.Goals as goal

pub returns : goal.returns
unfolding chips_in
returns c =
    subst (λ (parts : List Told). OnOk c.put_each.result (c.put_each.new.out.items
    ≡ c.args.out.now.items ++ page_bytes (flat_map (chip c.args.query.now) parts)))
    c.sought_in.ensures c.put_each.ensures
