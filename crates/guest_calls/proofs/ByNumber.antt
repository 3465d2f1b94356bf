-- What holds of each call of the table, and of an unsupported one, holds of the call that a hart makes.
use Rattle.std.proofs.Common.{ℕ, ◌==◌, Bool, true, false, [], ◌∷◌, Option, Some, None}
use Rattle.coz_types.specs.Maps.{Map, value_at}
use Rattle.machines.specs.Guest.{Retirement}
use Rattle.guest_calls.specs.Guest.{Guest}
use Rattle.guest_calls.specs.Calls.{unsupported, number, calls, call_of}

abbrev Row : Type 0
Row = Guest → ℕ → ℕ → Retirement Guest

module _ (Has : Guest → ℕ → ℕ → Retirement Guest → Type 0) where
  -- a call has it at each guest, hart and net time
  abbrev pub IsRow : Row → Type 0
  IsRow call = (g : Guest) (h v : ℕ) → Has g h v (call g h v)

  abbrev pub AreRows : Map Row → Type 0
  AreRows [] = Unit {0}
  AreRows (e ∷ es) = IsRow e.1 × AreRows es

  abbrev IsRowIfSome : Option Row → Type 0
  IsRowIfSome None = Unit {0}
  IsRowIfSome (Some call) = IsRow call

  first_or : (b : Bool) (call : Row) (o : Option Row) → IsRow call → IsRowIfSome o → IsRowIfSome (elim b [ true ↦ Some call | false ↦ o ])
  first_or true call o row rows = row
  first_or false call o row rows = rows

  row_at : (m : Map Row) (n : ℕ) → AreRows m → IsRowIfSome (value_at m n)
  row_at [] n rows = tt
  row_at (e ∷ es) n rows = first_or (e.0 == n) e.1 (value_at es n) rows.0 (row_at es n rows.1)

  known : (o : Option Row) (g : Guest) (h v : ℕ) → IsRowIfSome o → Has g h v (unsupported g h) → Has g h v (elim o [ None ↦ unsupported g h | Some call ↦ call g h v ])
  known None g h v row beside = beside
  known (Some call) g h v row beside = row g h v

  pub call_has : AreRows calls → (g : Guest) (h v : ℕ) → Has g h v (unsupported g h) → Has g h v (call_of g h v)
  unfolding call_of
  call_has rows g h v beside = known (value_at calls (number g h)) g h v (row_at calls (number g h) rows) beside
