-- The settings of no bytes.
use Rattle.std.proofs.Common.{◌≡◌, ◌≢◌, [], Some, None, Result, Ok, Err, refl, subst, rules}
use Rattle.std.specs.Result.{IfOk, IfErr}
use Rattle.toml.specs.Data.{Members, no_members}
use Rattle.toml.specs.Parse.{parse_document}
use Rattle.toml.proofs.OnLiterals.{toml_on_literals}
use Rattle.rights_core.specs.Right.{see_queue, create_ticket, show_ticket}
use Rattle.rights_core.specs.Right.{show_ticket_comments, modify_ticket, reply_to_ticket}
use Rattle.rights_core.specs.Right.{comment_on_ticket, own_ticket, take_ticket, steal_ticket}
use Rattle.rights_core.specs.Right.{reassign_ticket, delete_ticket, watch, watch_as_admin_cc}
use Rattle.rights_core.specs.Right.{admin_queue, super_user, standard_rights}
use Rattle.rights_core.specs.RightsFaults.{fault_of as rights_fault_of}
use Rattle.settings_form.specs.Text.{IsTree}
use Rattle.settings_core.specs.Reading.{table_fault, IsStated, IsSettingsOf}
use Rattle.settings_core.specs.declared.settings.Settings.{Settings}
use Rattle.settings_core.specs.declared.fault.SettingsFault.{SettingsFault}
use Rattle.settings_core.specs.declared.fault.SettingsFault.TheVariants.{NotToml, UnknownKey}
use Rattle.settings_core.specs.declared.fault.SettingsFault.TheVariants.{Missing, WrongKind}
use Rattle.settings_core.specs.declared.fault.SettingsFault.TheVariants.{Hours, Lifecycle, Rights}
use Rattle.settings_core.specs.declared.fault.SettingsFault.TheVariants.{UnknownName, BadToken}
use Rattle.settings_core.specs.declared.fault.SettingsFault.TheVariants.{BadLimit, NoMemory}

parsed : parse_document [] ≡ Some no_members
unfolding toml_on_literals
parsed = refl

empty_tree : IsTree [] no_members
empty_tree = (search rules, parsed)

no_fault : table_fault no_members ≡ None
unfolding rights_fault_of standard_rights see_queue create_ticket show_ticket show_ticket_comments
    modify_ticket reply_to_ticket comment_on_ticket own_ticket take_ticket steal_ticket
    reassign_ticket delete_ticket watch watch_as_admin_cc admin_queue super_user
no_fault = refl

-- where there is no fault, out of memory is the only answer but settings
no_other : (e : SettingsFault) → (e ≢ NoMemory → table_fault no_members ≡ Some e) → e ≡ NoMemory
no_other NotToml h = let a = h (λ x. cc) in let b = no_fault in cc
no_other UnknownKey h = let a = h (λ x. cc) in let b = no_fault in cc
no_other Missing h = let a = h (λ x. cc) in let b = no_fault in cc
no_other WrongKind h = let a = h (λ x. cc) in let b = no_fault in cc
no_other (Hours f) h = let a = h (λ x. cc) in let b = no_fault in cc
no_other (Lifecycle f) h = let a = h (λ x. cc) in let b = no_fault in cc
no_other (Rights f) h = let a = h (λ x. cc) in let b = no_fault in cc
no_other UnknownName h = let a = h (λ x. cc) in let b = no_fault in cc
no_other BadToken h = let a = h (λ x. cc) in let b = no_fault in cc
no_other BadLimit h = let a = h (λ x. cc) in let b = no_fault in cc
no_other NoMemory h = refl

pub settings_of_empty : (r : Result Settings SettingsFault) (ms : Members) → ms ≡ no_members
    → IfOk r (λ s. (table_fault ms ≡ None) × IsStated ms s) → IfOk r (IsSettingsOf [])
settings_of_empty (Err e) ms empty ok = tt
settings_of_empty (Ok s) ms empty ok =
    let P : Members → Type 0 = λ m. IsStated m s in
    (no_members, empty_tree, no_fault, subst P empty ok.1)

pub only_memory : (r : Result Settings SettingsFault) (ms : Members) → ms ≡ no_members
    → IfErr r (λ e. e ≢ NoMemory → table_fault ms ≡ Some e) → IfErr r (λ e. e ≡ NoMemory)
only_memory (Ok s) ms empty err = tt
only_memory (Err e) ms empty err =
    let P : Members → Type 0 = λ m. e ≢ NoMemory → table_fault m ≡ Some e in
    no_other e (subst P empty err)
