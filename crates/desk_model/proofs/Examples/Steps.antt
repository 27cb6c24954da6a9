-- Examples of what changes do to a desk, and of which refusal comes first.
use Rattle.std.specs.Prelude.{◌≡◌, refl, [], ◌∷◌, codes, Some, None, Ok, Err}
use Rattle.std.specs.Str.{chars}
use Rattle.desk_model.specs.Change.{filing, applied, linking, no_change, opening, putting, revising}
use Rattle.desk_model.specs.Change.{taking, unlinking}
use Rattle.desk_model.specs.Links.{link}
use Rattle.desk_model.specs.Step.{desk_after, guard, outcome_of}
use Rattle.desk_model.specs.Watchers.{watcher}
use Rattle.desk_model.specs.declared.answer.Answer.TheVariants as answer
use Rattle.desk_model.specs.declared.command.Command.TheVariants as command
use Rattle.desk_model.specs.declared.refusal.Refusal.TheVariants.{BadText, NotFound, Full}
use Rattle.desk_model.specs.declared.refusal.Refusal.TheVariants.{UnknownCaller, Denied, BadMoment}
use Rattle.desk_model.specs.declared.rows.EntryKind.TheVariants as kind
use Rattle.desk_model.specs.declared.rows.LinkKind.TheVariants.{DependsOn, MemberOf, RefersTo}
use Rattle.desk_model.specs.declared.rows.WatchRole.TheVariants.{Requestor, Cc}
use Rattle.desk_model.proofs.Examples.Office.{by_hand, office, general, sales, toner}
use Rattle.desk_model.proofs.Examples.Office.{told_entry, first_of_printer, comment_on_printer}
use Rattle.desk_model.proofs.Examples.Office.{move_of_printer, printer_request, order_request}
use Rattle.desk_model.proofs.Examples.Office.{toner_request, desk}

-- Change.antt: what a change does to the desk

filed_request_comes_last :
    applied
    (filing (record toner { id = 4 })
    (watcher 4 Requestor (codes "bob") ∷ watcher 4 Requestor (codes "ann") ∷ [])
    (told_entry 4 1 68374005 (codes "ann") kind.Create [] (codes "new") ∷ []))
    desk
    ≡ record desk {
      requests =
          printer_request ∷ order_request ∷ toner_request
          ∷ record {
            row = record toner { id = 4 };
            requestors = codes "ann" ∷ codes "bob" ∷ [];
            cc = [];
            admin_cc = [];
            entries = told_entry 4 1 68374005 (codes "ann") kind.Create [] (codes "new") ∷ [];
          }
          ∷ [];
    }
filed_request_comes_last = refl

opened_queue_comes_to_its_place :
    applied (opening (record sales { name = codes "a" })) desk
    ≡ record desk { queues = record sales { name = codes "a" } ∷ general ∷ sales ∷ [] }
opened_queue_comes_to_its_place = refl

another_row_and_an_entry :
    applied
    (revising (record toner { owner = Some (codes "bob") })
    (told_entry 3 2 68374006 (codes "bob") kind.Owner (codes "Nobody") (codes "bob") ∷ []))
    desk
    ≡ record desk {
      requests =
          printer_request ∷ order_request
          ∷ record toner_request {
            row = record toner { owner = Some (codes "bob") };
            entries =
                told_entry 3 1 68374005 (codes "ann") kind.Create [] (codes "new")
                ∷ told_entry 3 2 68374006 (codes "bob") kind.Owner (codes "Nobody") (codes "bob")
                ∷ [];
          }
          ∷ [];
    }
another_row_and_an_entry = refl

person_is_put_in :
    applied (putting (watcher 3 Cc (codes "cid") ∷ []) []) desk
    ≡ record desk {
      requests =
          printer_request ∷ order_request
          ∷ record toner_request { cc = codes "cid" ∷ [] } ∷ [];
    }
person_is_put_in = refl

person_is_taken_out :
    applied (taking (watcher 3 Requestor (codes "ann") ∷ []) []) desk
    ≡ record desk {
      requests =
          printer_request ∷ order_request ∷ record toner_request { requestors = [] } ∷ [];
    }
person_is_taken_out = refl

-- the role is another
person_is_in_no_such_role : applied (taking (watcher 3 Cc (codes "ann") ∷ []) []) desk ≡ desk
person_is_in_no_such_role = refl

link_comes_to_its_place :
    (applied (linking (link 1 MemberOf 2) []) desk).links
    ≡ link 1 DependsOn 2 ∷ link 1 DependsOn 3 ∷ link 1 MemberOf 2 ∷ link 3 MemberOf 1 ∷ []
link_comes_to_its_place = refl

link_goes :
    applied (unlinking (link 1 DependsOn 2) []) desk
    ≡ record desk { links = link 1 DependsOn 3 ∷ link 3 MemberOf 1 ∷ [] }
link_goes = refl

nothing_changes : applied no_change desk ≡ desk
nothing_changes = refl

-- Step.antt: refusals and steps

unknown_caller_before_a_bad_moment :
    guard office 0 (codes "eve") command.Queues desk ≡ Some UnknownCaller
unknown_caller_before_a_bad_moment = refl

minute_before_the_first_moment :
    guard office 15778079 (codes "ann") command.Queues desk ≡ Some BadMoment
minute_before_the_first_moment = refl

first_moment : guard office 15778080 (codes "ann") command.Queues desk ≡ None
first_moment = refl

last_moment : guard office 68374079 (codes "ann") command.Queues desk ≡ None
last_moment = refl

end_of_all_moments : guard office 68374080 (codes "ann") command.Queues desk ≡ Some BadMoment
end_of_all_moments = refl

hidden_request_is_not_found :
    guard office 68374011 (codes "ann") (command.Show 2) desk ≡ Some NotFound
unfolding by_hand
hidden_request_is_not_found = refl

request_that_is_not_there_is_not_found :
    guard office 68374011 (codes "dora") (command.Show 4) desk ≡ Some NotFound
unfolding by_hand
request_that_is_not_there_is_not_found = refl

own_request_is_found : guard office 68374011 (codes "cid") (command.Show 2) desk ≡ None
unfolding by_hand
own_request_is_found = refl

unseen_queue_is_not_found :
    guard office 68374011 (codes "ann") (command.List (codes "general")) desk ≡ Some NotFound
unfolding by_hand
unseen_queue_is_not_found = refl

seen_queue_is_found :
    guard office 68374011 (codes "bob") (command.List (codes "general")) desk ≡ None
unfolding by_hand
seen_queue_is_found = refl

bad_text_before_not_found :
    guard office 68374011 (codes "bob") (command.Comment 4 []) desk ≡ Some BadText
unfolding by_hand chars
bad_text_before_not_found = refl

-- of a link either end is looked for before the right
hidden_end_is_not_found :
    guard office 68374011 (codes "bob") (command.Link 1 RefersTo 2) desk ≡ Some NotFound
unfolding by_hand
hidden_end_is_not_found = refl

both_ends_are_found :
    guard office 68374011 (codes "bob") (command.Link 1 RefersTo 3) desk
    ≡ Some (Denied (codes "ModifyTicket"))
unfolding by_hand
both_ends_are_found = refl

comment_steps :
    outcome_of office 68374011 (codes "bob") (command.Comment 1 (codes "Ok")) desk
    ≡ Ok answer.Done
unfolding by_hand chars
comment_steps = refl

desk_after_a_comment :
    desk_after office 68374011 (codes "bob") (command.Comment 1 (codes "Ok")) desk
    ≡ record desk {
      requests =
          record printer_request {
            entries =
                first_of_printer ∷ comment_on_printer ∷ move_of_printer
                ∷ told_entry 1 4 68374011 (codes "bob") kind.Comment [] (codes "Ok") ∷ [];
          }
          ∷ order_request ∷ toner_request ∷ [];
    }
unfolding by_hand chars
desk_after_a_comment = refl

-- a fourth entry is the last
comment_on_a_full_history :
    outcome_of (record office { max_entries = 3 }) 68374011 (codes "bob")
    (command.Comment 1 (codes "Ok")) desk
    ≡ Err Full
unfolding by_hand chars
comment_on_a_full_history = refl

desk_after_a_refusal :
    desk_after (record office { max_entries = 3 }) 68374011 (codes "bob")
    (command.Comment 1 (codes "Ok")) desk
    ≡ desk
unfolding by_hand chars
desk_after_a_refusal = refl
