-- Examples of the definitions: which tokens are weak, and the line that warns of one.
use Rattle.std.specs.Prelude.{◌≡◌, refl, [], codes, replicate, Some, None}
use Rattle.settings_parts.specs.declared.people.Token.{Token}
use Rattle.check_core.specs.Weak.{warning, warning_of, weakness_of}
use Rattle.check_core.specs.declared.weak.Weakness.TheVariants.{ChangeMe, Example, Short}

-- Weak.antt

token_to_change : weakness_of (codes "change-me-ann-000") ≡ Some ChangeMe
token_to_change = refl

long_token_to_change : weakness_of (codes "change-me-abcdefghijklmnopqrstuvwxyz") ≡ Some ChangeMe
long_token_to_change = refl

token_of_the_page_on_messages : weakness_of (codes "bob-token-0000000") ≡ Some Example
token_of_the_page_on_messages = refl

token_of_21_characters : weakness_of (replicate 21 97) ≡ Some Short
token_of_21_characters = refl

token_of_22_characters : weakness_of (replicate 22 97) ≡ None
token_of_22_characters = refl

token_that_tells_of_change : weakness_of (codes "I-change-me-abcdefghij") ≡ None
token_that_tells_of_change = refl

token_that_is_drawn : weakness_of (codes "7f3a0c1d9be24856aa10c4d3e2f1b098") ≡ None
token_that_is_drawn = refl

line_of_a_warning :
    warning (codes "ann") Short
    ≡ codes "warning: the token of `ann` has fewer than 22 characters\n"
line_of_a_warning = refl

-- the token itself isn't told
warning_of_a_short_one :
    warning_of (record { token = codes "ann-token-0000000"; person = codes "ann" })
    ≡ codes "warning: the token of `ann` has fewer than 22 characters\n"
warning_of_a_short_one = refl

no_warning_of_a_good_one :
    warning_of (record { token = codes "7f3a0c1d9be24856aa10c4d3e2f1b098"; person = codes "ann" }) ≡ []
no_warning_of_a_good_one = refl
