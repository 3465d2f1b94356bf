-- The harts that wait for an address (Linux, futex(2), FUTEX_WAIT
-- and FUTEX_WAKE), the oldest first.
use Rattle.std.specs.Prelude.{ℕ, ◌==◌, not, List, [], ◌∷◌, ◌++◌, take, map, filter}
use Rattle.std.specs.List.{list_any}

pub record Waiter : Type 0 where
  pub address : ℕ
  pub hart : ℕ

abbrev pub with_waiter : ℕ → ℕ → List Waiter → List Waiter
with_waiter address hart ws = ws ++ record { address = address; hart = hart } ∷ []

-- the oldest harts that wait for an address, at most `count`
abbrev pub woken_harts : ℕ → List Waiter → ℕ → List ℕ
woken_harts address ws count =
    take count (map (λ w. w.hart) (filter (λ w. w.address == address) ws))

-- the waiters without these harts
abbrev pub without_harts : List ℕ → List Waiter → List Waiter
without_harts harts ws = filter (λ w. not (list_any (λ hart. hart == w.hart) harts)) ws

-- the waiters that are left: all that aren't woken
abbrev pub waiters_left : ℕ → List Waiter → ℕ → List Waiter
waiters_left address ws count = without_harts (woken_harts address ws count) ws
