-- The first items of a list that holds at most a given number of items.
use Rattle.std.specs.Prelude.{ℕ, List, [], ◌∷◌, ◌++◌, length, take, slice_get, Option, Some, if◌then◌else◌, nat_lt, unwrap_or}

pub record Held (T : Type 0) : Type 0 where
  pub items : List T
  pub room : ℕ
  pub left_out : Option T

-- the first of these, and the first of them for which there is no room
abbrev pub held : {T : Type 0} → ℕ → List T → Held T
held room all = record { items = take room all; room = room; left_out = slice_get all room }

-- with one more
abbrev pub with_item : {T : Type 0} → T → Held T → Held T
with_item item f =
    if nat_lt (length f.items) f.room then record f { items = f.items ++ item ∷ [] }
    else record f { left_out = Some (unwrap_or f.left_out item) }
