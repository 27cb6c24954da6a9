-- Examples of the definitions: which words ask for a server and which for one command, each option
-- once and in any order, numbers at their limits, and the status of each outcome.
use Rattle.std.specs.Prelude.{◌≡◌, refl, [], ◌∷◌, codes, Some, None, Ok, Err}
use Rattle.desk_model.specs.declared.answer.Answer.TheVariants as answer
use Rattle.desk_model.specs.declared.refusal.Refusal.TheVariants as refusal
use Rattle.desk_program.specs.One.{status_of}
use Rattle.desk_program.specs.Options.{both_values, counted, one_command_of, one_with, served_with}
use Rattle.desk_program.specs.Options.{serving_of, value_of}

-- Options.antt: a server

two_options :
    both_values (codes "--db") (codes "--settings")
    (codes "--db" ∷ codes "desk" ∷ codes "--settings" ∷ codes "s.toml" ∷ [])
    ≡ Some (codes "desk", codes "s.toml")
unfolding both_values
two_options = refl

two_options_the_other_way_round :
    both_values (codes "--db") (codes "--settings")
    (codes "--settings" ∷ codes "s.toml" ∷ codes "--db" ∷ codes "desk" ∷ [])
    ≡ Some (codes "desk", codes "s.toml")
unfolding both_values
two_options_the_other_way_round = refl

one_option_twice :
    both_values (codes "--db") (codes "--settings")
    (codes "--db" ∷ codes "desk" ∷ codes "--db" ∷ codes "s.toml" ∷ [])
    ≡ None
unfolding both_values
one_option_twice = refl

one_option_alone :
    both_values (codes "--db") (codes "--settings") (codes "--db" ∷ codes "desk" ∷ []) ≡ None
unfolding both_values
one_option_alone = refl

least_and_greatest_port :
    (counted 65535 (Some 1) ≡ Some 1) × (counted 65535 (Some 65535) ≡ Some 65535)
least_and_greatest_port = (refl, refl)

ports_past_them : (counted 65535 (Some 0) ≡ None) × (counted 65535 (Some 65536) ≡ None)
ports_past_them = (refl, refl)

server :
    serving_of (codes "--settings" ∷ codes "s.toml" ∷ codes "--db" ∷ codes "desk" ∷ codes "serve"
    ∷ codes "--port" ∷ codes "80" ∷ codes "--count" ∷ codes "1000000" ∷ [])
    ≡ Some (codes "desk", codes "s.toml", 80, 1000000)
unfolding both_values served_with
server = refl

server_of_a_connection_too_many :
    serving_of (codes "--db" ∷ codes "desk" ∷ codes "--settings" ∷ codes "s.toml" ∷ codes "serve"
    ∷ codes "--port" ∷ codes "80" ∷ codes "--count" ∷ codes "1000001" ∷ [])
    ≡ None
unfolding both_values served_with
server_of_a_connection_too_many = refl

-- Options.antt: one command

any_order :
    one_command_of (codes "--at" ∷ codes "7" ∷ codes "--caller" ∷ codes "ann" ∷ codes "--settings"
    ∷ codes "s.toml" ∷ codes "--db" ∷ codes "desk" ∷ codes "take" ∷ codes "3" ∷ [])
    ≡ Some (codes "desk", codes "s.toml", codes "ann", 7, codes "take" ∷ codes "3" ∷ [])
unfolding value_of one_with
any_order = refl

no_word_of_a_command :
    one_command_of (codes "--db" ∷ codes "desk" ∷ codes "--settings" ∷ codes "s.toml"
    ∷ codes "--caller" ∷ codes "ann" ∷ codes "--at" ∷ codes "7" ∷ [])
    ≡ None
unfolding value_of one_with
no_word_of_a_command = refl

caller_left_out_and_the_tables_given_twice :
    one_command_of (codes "--db" ∷ codes "desk" ∷ codes "--settings" ∷ codes "s.toml"
    ∷ codes "--db" ∷ codes "ann" ∷ codes "--at" ∷ codes "7" ∷ codes "queues" ∷ [])
    ≡ None
unfolding value_of one_with
caller_left_out_and_the_tables_given_twice = refl

-- a key may be a value
caller_named_as_an_option :
    one_command_of (codes "--db" ∷ codes "desk" ∷ codes "--settings" ∷ codes "s.toml"
    ∷ codes "--caller" ∷ codes "--at" ∷ codes "--at" ∷ codes "7" ∷ codes "queues" ∷ [])
    ≡ Some (codes "desk", codes "s.toml", codes "--at", 7, codes "queues" ∷ [])
unfolding value_of one_with
caller_named_as_an_option = refl

moment_that_is_no_number :
    one_command_of (codes "--db" ∷ codes "desk" ∷ codes "--settings" ∷ codes "s.toml"
    ∷ codes "--caller" ∷ codes "ann" ∷ codes "--at" ∷ codes "4294967296" ∷ codes "queues" ∷ [])
    ≡ None
unfolding value_of one_with
moment_that_is_no_number = refl

-- One.antt

status_of_an_answer : status_of (Ok answer.Done) ≡ 0
status_of_an_answer = refl

status_of_a_refusal : status_of (Err refusal.NotFound) ≡ 1
status_of_a_refusal = refl
