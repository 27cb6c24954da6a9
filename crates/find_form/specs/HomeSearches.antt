-- The searches of the first page.
use Rattle.std.specs.Prelude.{ℕ, false, List, [], Option, Some, None}
use Rattle.find_core.specs.declared.search.Order.TheVariants.{ByDue}
use Rattle.find_core.specs.declared.search.OwnerAsked.{OwnerAsked}
use Rattle.find_core.specs.declared.search.OwnerAsked.TheVariants.{Anyone, Nobody, Person}
use Rattle.find_core.specs.declared.search.Search.{Search}
use Rattle.find_core.specs.declared.search.StatusAsked.TheVariants.{Open}

-- what is open and has this owner and this requestor, what is due first first
abbrev pub open_by_due : OwnerAsked → Option (List ℕ) → Search
open_by_due owner requestor =
    record {
      words = [];
      in_replies = false;
      queue = None;
      status = Open;
      owner = owner;
      requestor = requestor;
      turn = None;
      late = false;
      filed_from = None;
      filed_to = None;
      order = ByDue;
      descending = false;
    }

abbrev pub owned_by : List ℕ → Search
owned_by person = open_by_due (Person person) None

abbrev pub asked_by : List ℕ → Search
asked_by person = open_by_due Anyone (Some person)

abbrev pub unowned : Search
unowned = open_by_due Nobody None
