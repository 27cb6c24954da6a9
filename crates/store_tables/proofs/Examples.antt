-- Examples of which requests tables show, worked out by hand.
use Rattle.std.proofs.Common.{◌∷◌, [], List, None, Option, Some, ap, arith, codes, length, ℕ, pos}
use Rattle.std.proofs.Common.{refl}
use Rattle.std.proofs.lemmas.List.{length-map}
use Rattle.std.specs.Prelude.{if◌then◌else◌, ◌==◌}
use Rattle.std.proofs.lemmas.List.Sorted.{IsPermutation-middle, IsPermutation-refl}
use Rattle.std.proofs.lemmas.List.Sorted.{length_permutation}
use Rattle.sqlite.specs.Effect.{Database}
use Rattle.sqlite.specs.Order.{Row}
use Rattle.sqlite.specs.Schema.{Schema}
use Rattle.sqlite.specs.declared.types.Value.TheVariants.{Int, Null, Text as Words}
use Rattle.desk_model.specs.declared.rows.Turn.TheVariants as turn
use Rattle.store_tables.specs.Contents.{desk_schema}
use Rattle.store_tables.specs.Contents.Request.{Dated, dated_shown, request}
use Rattle.store_tables.specs.Dated.{ShowsDated}
use Rattle.store_tables.specs.Strict.{no_schema}

-- a database of that schema, with these rows in the table of the requests and one row elsewhere
abbrev requests_in : Schema → List Row → Database
requests_in schema rows = record {
  schema = schema;
  trees = λ t. if t == request.tree then rows else (Int (pos 7) ∷ []) ∷ [];
}

abbrev dated : ℕ → Option ℕ → Dated
dated id due = (
  record {
    id = id;
    queue = codes "general";
    subject = codes "Printer";
    status = codes "new";
    owner = None;
    level = Some (codes "high");
    created = 10;
    opened = 20;
    turn = turn.Desk;
    since = 30;
  },
  due,
)

-- a row as the program spells it, due at 60
abbrev own : Row
own = Int (pos 1) ∷ Null ∷ Words (codes "general") ∷ Words (codes "Printer") ∷ Words (codes "new")
    ∷ Null ∷ Words (codes "high") ∷ Int (pos 10) ∷ Int (pos 20) ∷ Int (pos 0) ∷ Int (pos 30)
    ∷ Int (pos 60) ∷ []

-- and one with a text in place of the number, which a query doesn't show, and without a last column
abbrev foreign : Row
foreign = Int (pos 2) ∷ Words (codes "two") ∷ Words (codes "general") ∷ Words (codes "Printer")
    ∷ Words (codes "new") ∷ Null ∷ Words (codes "high") ∷ Int (pos 10) ∷ Int (pos 20) ∷ Int (pos 0)
    ∷ Int (pos 30) ∷ []

none_are_shown : ShowsDated [] (requests_in desk_schema [])
none_are_shown =
    record { rows = λ there. record { values = []; are = refl; same = IsPermutation-refl _ } }

however_they_are_spelt :
    ShowsDated (dated 1 (Some 60) ∷ dated 2 None ∷ [])
    (requests_in desk_schema (own ∷ foreign ∷ []))
however_they_are_spelt = record {
  rows = λ there. record {
    values = dated 1 (Some 60) ∷ dated 2 None ∷ [];
    are = refl;
    same = IsPermutation-refl _;
  };
}

in_any_order :
    ShowsDated (dated 2 None ∷ dated 1 (Some 60) ∷ [])
    (requests_in desk_schema (own ∷ foreign ∷ []))
in_any_order = record {
  rows = λ there. record {
    values = dated 1 (Some 60) ∷ dated 2 None ∷ [];
    are = refl;
    same = IsPermutation-middle (dated 2 None ∷ []) (dated 1 (Some 60)) [];
  };
}

none_is_left_out : ¬ ShowsDated [] (requests_in desk_schema (own ∷ []))
none_is_left_out shown =
    let it = shown.rows refl in
    let count = length_permutation [] it.values it.same in
    absurd (omega (arith, count, length-map it.values dated_shown, ap length it.are))

-- of other tables nothing is said
other_tables : ShowsDated [] (requests_in no_schema (own ∷ []))
other_tables =
    record { rows = λ there. absurd (omega (arith, ap (λ (s : Schema). length s.tables) there)) }
