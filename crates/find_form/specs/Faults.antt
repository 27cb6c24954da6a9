-- What a page says of a fault.
use Rattle.std.specs.Prelude.{ℕ, List, codes}
use Rattle.find_form.specs.declared.fault.FindFault.{FindFault}
use Rattle.find_form.specs.declared.fault.FindFault.TheVariants.{Fields, Name, Day, Choice, Both}
use Rattle.find_form.specs.declared.fault.FindFault.TheVariants.{NoMemory}

abbrev pub sentence_of : FindFault → List ℕ
sentence_of Fields = codes "This address has a field that no search has, or has one twice."
sentence_of Name =
    codes "A queue, a status or a person is named by 1 to 20 of a to z, 0 to 9, - and _, the first a letter."
sentence_of Day = codes "A day is written as 2026-01-31, and is one of the years 2000 to 2099."
sentence_of Choice = codes "What was chosen isn't offered."
sentence_of Both = codes "Choose all that are open, all that are closed, or one status."
sentence_of NoMemory = codes "There was no memory for it."
