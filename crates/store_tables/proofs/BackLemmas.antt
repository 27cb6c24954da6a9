-- A row that shows one number shows no other.
use Rattle.std.proofs.Common.{◌∷◌, [], ◌≡◌, ℕ, sym}
use Rattle.store_tables.specs.Values.{ReadsCount, count_value}

same_count : {m n : ℕ} → count_value m ≡ count_value n → m ≡ n
same_count e = cc

pub count_back : (a b : ℕ) → ReadsCount (count_value a ∷ []) b → b ≡ a
count_back a b h = same_count (sym h.number)
