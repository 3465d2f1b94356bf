-- What a cursor has before it, and what each field at its front is.
use Rattle.std.specs.Prelude.{◌≡◌, ℕ, suc, ◌+◌, ◌^◌, Bool, List, length, take, drop, ℤ, pos, negsuc, Option, Some, None, option_map, position, Result, Ok, Err, nat_lt, nat_le, ◌==◌, if◌then◌else◌}
use Rattle.std.specs.Int.{Width, byte_len, from_le_bytes}
use Rattle.leb_cursor.specs.declared.Short.{Short}
use Rattle.leb_cursor.specs.declared.LebFault.{LebFault}
use Rattle.leb_cursor.specs.declared.LebFault.TheVariants as leb
use Rattle.leb_cursor.specs.Numbers.{low_bits, signed_low_bits}

-- the bytes that are still to be read, and the place of the first of them
pub record Ahead : Type 0 where
  pub place : ℕ
  pub bytes : List ℕ

-- a value from the front and what is ahead after it, or why there is none
abbrev pub Reading : Type 0 → Type 0 → Type 0
Reading A E = Result (A × Ahead) E

infixl 10 ◌>>=◌
abbrev pub ◌>>=◌ : {A B E : Type 0} → Result A E → (A → Result B E) → Result B E
(Ok x) >>= f = f x
(Err e) >>= f = Err e

-- past n bytes
abbrev pub ahead_past : ℕ → Ahead → Ahead
ahead_past n a = record { place = a.place + n; bytes = drop n a.bytes }

-- the front field runs past the end
abbrev pub short_at : Ahead → Short
short_at a = record { place = a.place }

-- the next n bytes
abbrev pub bytes_at : ℕ → Ahead → Reading (List ℕ) Short
bytes_at n a =
    if nat_le n (length a.bytes) then Ok (take n a.bytes, ahead_past n a) else Err (short_at a)

-- past the next n bytes
abbrev pub pass_at : ℕ → Ahead → Reading (Unit {0}) Short
pass_at n a = if nat_le n (length a.bytes) then Ok (tt, ahead_past n a) else Err (short_at a)

-- the next n bytes, as a cursor of their own
abbrev pub part_at : ℕ → Ahead → Reading Ahead Short
part_at n a =
    if nat_le n (length a.bytes)
    then Ok (record { place = a.place; bytes = take n a.bytes }, ahead_past n a)
    else Err (short_at a)

-- a number of fixed width, lowest byte first
abbrev pub number_at : Width → Ahead → Reading ℕ Short
number_at w a = do
  b ← bytes_at (byte_len w) a
  Ok (from_le_bytes w b.0, b.1)

abbrev pub up_to : {X : Type 0} → Option ℕ → Ahead → (ℕ → X) → X → X
up_to None a found none = none
up_to (Some k) a found none = found k

-- the bytes before the next zero byte
abbrev pub text_at : Ahead → Reading (List ℕ) Short
text_at a =
    up_to (position (λ b. b == 0) a.bytes) a
    (λ k. Ok (take k a.bytes, ahead_past (suc k) a)) (Err (short_at a))

-- the number of bytes up to the first one below 128
abbrev pub number_length : List ℕ → Option ℕ
number_length bytes = option_map suc (position (λ b. nat_lt b 128) bytes)

-- of the n bytes at the front, this number if it is in its range
abbrev pub in_range : {X : Type 0} → Bool → X → ℕ → Ahead → Reading X LebFault
in_range fits x n a = if fits then Ok (x, ahead_past n a) else Err (leb.Wide a.place)

abbrev pub uleb_at : Ahead → Reading ℕ LebFault
uleb_at a =
    up_to (number_length a.bytes) a
    (λ n. let value = low_bits (take n a.bytes) in in_range (nat_lt value (2 ^ 64)) value n a)
    (Err (leb.Short (short_at a)))

-- it lies from -2^63 to 2^63 - 1
abbrev pub fits_64_signed : ℤ → Bool
fits_64_signed (pos n) = nat_lt n (2 ^ 63)
fits_64_signed (negsuc n) = nat_lt n (2 ^ 63)

abbrev pub sleb_at : Ahead → Reading ℤ LebFault
sleb_at a =
    up_to (number_length a.bytes) a
    (λ n. let value = signed_low_bits (take n a.bytes) in in_range (fits_64_signed value) value n a)
    (Err (leb.Short (short_at a)))

-- What a call of a cursor answered is what this reading gives, and after a refusal
-- the cursor is as before.
abbrev pub Reads : {X A E : Type 0} → (X → A) → Result X E → Ahead → Ahead → Reading A E → Type 0
Reads view (Ok x) old new reading = reading ≡ Ok (view x, new)
Reads view (Err e) old new reading = (reading ≡ Err e) × (new ≡ old)
