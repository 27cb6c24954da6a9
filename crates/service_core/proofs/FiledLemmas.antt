-- A request that was filed already is looked for from the last number down.
use Rattle.std.proofs.Common.{arith, ◌≡◌, ℕ, ◌<◌, ◌-◌, suc, zero, Bool, true, false, ◌&&◌, List, []}
use Rattle.std.proofs.Common.{◌∙◌, Option, Some, None, find, refl, ap}
use Rattle.std.specs.Option.{option_map, option_map_or}
use Rattle.settings_core.specs.declared.settings.Settings.{Settings}
use Rattle.desk_model.specs.Desk.{Desk, Request, request_at}
use Rattle.desk_model.specs.Facts.{seen_request}
use Rattle.desk_model.specs.Step.{facts_of}
use Rattle.desk_model.specs.declared.command.Command.{Command}
use Rattle.desk_model.specs.declared.command.Command.TheVariants.{Create}
use Rattle.store_tables.specs.Contents.{history_at}
use Rattle.service_core.specs.Filed.{filed_lately, filed_to, is_filed, is_filed_at, is_filed_with}
use Rattle.service_core.specs.Filed.{is_row, is_row_at, numbers_down}

-- ---- the numbers from one down

module _ (P : ℕ → Bool) where
  pub found_here : (last most : ℕ) → 0 < last → 0 < most → P last ≡ true
      → find P (numbers_down last most) ≡ Some last
  found_here zero most some more is = absurd (omega (arith, some))
  found_here (suc n) zero some more is = absurd (omega (arith, more))
  found_here (suc n) (suc m) some more is = rw is refl

  pub found_later : (last most : ℕ) → 0 < last → 0 < most → P last ≡ false
      → find P (numbers_down last most) ≡ find P (numbers_down (last - 1) (most - 1))
  found_later zero most some more is = absurd (omega (arith, some))
  found_later (suc n) zero some more is = absurd (omega (arith, more))
  found_later (suc n) (suc m) some more is =
      let last : suc n - 1 ≡ n = omega arith in
      let most : suc m - 1 ≡ m = omega arith in
      rw (is, last, most) refl

-- ---- the row and the history of a request

module _ (s : Settings) (at : ℕ) (caller : List ℕ) (create : Command) (text : Option (List ℕ)) where
  both_of : (there : Option Request)
      → option_map_or (is_filed s at caller create text) there false
      ≡ (option_map_or (is_row s at caller create) (option_map seen_request there) false
      && is_filed_with caller text (option_map_or (λ r. r.entries) there []))
  both_of None = refl
  both_of (Some r) = refl

  pub both_at : (desk : Desk) (id : ℕ)
      → is_filed_at s at caller create text desk id
      ≡ (is_row_at s at caller create desk id && is_filed_with caller text (history_at desk id))
  both_at desk id = both_of (request_at desk id)

  pub row_told : (desk : Desk) (id : ℕ) → is_row_at s at caller create desk id ≡ true
      → is_filed_at s at caller create text desk id
      ≡ is_filed_with caller text (history_at desk id)
  row_told desk id row =
      both_at desk id ∙ ap (λ (b : Bool). b && is_filed_with caller text (history_at desk id)) row

  -- a command to file a request sees how many there are
  pub of_create : (desk : Desk) (queue subject : List ℕ) (status : Option (List ℕ))
      (requestors : List (List ℕ)) → create ≡ Create queue subject status requestors
      → filed_lately s at caller create text desk
      ≡ filed_to s at caller create text desk (facts_of create desk).request_count 100
  of_create desk queue subject status requestors is = rw is refl
