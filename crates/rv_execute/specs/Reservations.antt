-- The reservations of harts (RISC-V unprivileged manual, chapter A,
-- "Load-Reserved/Store-Conditional Instructions").
use Rattle.std.specs.Prelude.{ℕ, ◌+◌, ◌*◌, ◌/◌, Bool, not, ◌&&◌, nat_lt, ◌==◌, min, max, filter, List, [], ◌∷◌, ◌++◌}
use Rattle.std.specs.List.{list_any}

-- of each hart that has a reservation, its number and the start of its 8 bytes, the oldest first
abbrev pub Reservations : Type 0
Reservations = List (ℕ × ℕ)

-- the aligned 8 bytes that hold an address
abbrev pub eight_at : ℕ → ℕ
eight_at address = address / 8 * 8

-- a hart's own reservation ends
abbrev pub without_own : ℕ → Reservations → Reservations
without_own hart r = filter (λ e. not (e.0 == hart)) r

-- a hart has one reservation: that of the 8 bytes that hold an address
abbrev pub with_reservation : ℕ → ℕ → Reservations → Reservations
with_reservation hart address r = without_own hart r ++ (hart, eight_at address) ∷ []

-- the 8 bytes at `start` have one of the `count` bytes from an address on
abbrev pub is_touched : ℕ → ℕ → ℕ → Bool
is_touched address count start = nat_lt (max address start) (min (address + count) (start + 8))

-- each reservation whose bytes are touched ends
abbrev pub without_touched : ℕ → ℕ → Reservations → Reservations
without_touched address count r = filter (λ e. not (is_touched address count e.1)) r

-- the hart has a reservation of the bytes at an address
abbrev pub is_reserved : ℕ → ℕ → Reservations → Bool
is_reserved hart address r = list_any (λ e. (e.0 == hart) && (e.1 == eight_at address)) r
