-- What a subcommand of the command line can be given.
use Rattle.std.specs.Prelude.{ℕ, true, Some}
use Rattle.clap.specs.Words.{App, Rule, Text, new_app, new_rule}
use Rattle.clap.specs.declared.builder.action.ArgAction.TheVariants.{Set, SetTrue, Append}

-- a word that has to be there
abbrev pub wanted : Text → Rule
wanted id = record (new_rule id) { required = true; action = Some Set }

-- a word that may be there
abbrev pub allowed : Text → Rule
allowed id = record (new_rule id) { action = Some Set }

-- any number of words
abbrev pub several : Text → Rule
several id = record (new_rule id) { action = Some Append }

-- a hyphen and a letter that may be there
abbrev pub flag : Text → ℕ → Rule
flag id letter = record (new_rule id) { short = Some letter; action = Some SetTrue }

-- a word after two hyphens and the name
abbrev pub option : Text → Rule
option id = record (new_rule id) { long = Some id; action = Some Set }

-- a command that is given nothing, without help
abbrev pub bare : Text → App
bare name = let a = new_app name in record a { top = record a.top { disable_help_flag = true } }
