-- Where a reply is put.
use Rattle.std.specs.Prelude.{◌≡◌, ◌≤◌, ◌++◌, ℕ, true, List, []}
use Rattle.std.specs.Vec.{vec_capacity}
use Rattle.wire_core.specs.declared.room.Room.{Room}

-- what was put: the head, and behind it the text
abbrev pub held_in : Room → List ℕ
held_in room = room.head.items ++ room.text

-- Nothing was put so far, and there is room for any short reply.
pub record IsEmpty (room : Room) : Type 0 where
  pub head : room.head.items ≡ []
  pub text : room.text ≡ []
  pub enough : 512 ≤ vec_capacity room.head

-- where a text has to stand with its head, none stands by itself
abbrev pub IsWhole : Room → Room → Type 0
IsWhole old new = old.joins_body ≡ true → new.text ≡ []
