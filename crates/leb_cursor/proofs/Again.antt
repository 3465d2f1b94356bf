-- What is spelled so is read again, whatever follows.
use Rattle.std.proofs.Common.{◌≡◌, ℕ, suc, ◌+◌, ◌^◌, ◌<◌, true, false, ◌==◌, ne_eqb, List, [], ◌∷◌, ◌++◌, length, take, drop, ℤ, Some, position, Ok, refl, ap, ◌∙◌, arith, nat_le, append_assoc}
use Rattle.std.specs.List.{AllByRecursion}
use Rattle.std.specs.Int.{Width, w8, w16, w32, byte_len, from_le_bytes, to_le_bytes}
use Rattle.std.proofs.lemmas.Bool.{le-leb}
use Rattle.std.proofs.lemmas.List.{take_at, drop_at, length-append}
use Rattle.std.proofs.lemmas.Nat.{from_le_bytes-to_le_bytes_2, from_le_bytes-to_le_bytes_4}
use Rattle.leb_cursor.specs.Ahead.{bytes_at, number_at, text_at, part_at, sleb_at}
use Rattle.leb_cursor.proofs.Exact.{ahead, position_step, number_length_again, IsSleb}

pub bytes_again : (n place : ℕ) (x rest : List ℕ) → length x ≡ n → bytes_at n (ahead place (x ++ rest)) ≡ Ok (x, ahead (place + n) rest)
bytes_again n place x rest len =
    let room : nat_le n (length (x ++ rest)) ≡ true = le-leb _ _ (omega (arith, length-append x rest)) in
    rw (room, take_at x rest n len, drop_at x rest n len) refl

pub part_again : (n place : ℕ) (x rest : List ℕ) → length x ≡ n → part_at n (ahead place (x ++ rest)) ≡ Ok (ahead place x, ahead (place + n) rest)
part_again n place x rest len =
    let room : nat_le n (length (x ++ rest)) ≡ true = le-leb _ _ (omega (arith, length-append x rest)) in
    rw (room, take_at x rest n len, drop_at x rest n len) refl

number_back : (w : Width) (n place : ℕ) (x rest : List ℕ) → length x ≡ byte_len w → from_le_bytes w x ≡ n → number_at w (ahead place (x ++ rest)) ≡ Ok (n, ahead (place + byte_len w) rest)
number_back w n place x rest len is = rw (bytes_again (byte_len w) place x rest len, is) refl

pub byte_again : (n place : ℕ) (rest : List ℕ) → number_at w8 (ahead place (n ∷ rest)) ≡ Ok (n, ahead (place + 1) rest)
byte_again n place rest = number_back w8 n place (n ∷ []) rest refl refl

pub half_again : (n place : ℕ) (rest : List ℕ) → n < 2 ^ 16 → number_at w16 (ahead place (to_le_bytes w16 n ++ rest)) ≡ Ok (n, ahead (place + 2) rest)
half_again n place rest lt = number_back w16 n place (to_le_bytes w16 n) rest refl (from_le_bytes-to_le_bytes_2 n lt)

pub word_again : (n place : ℕ) (rest : List ℕ) → n < 2 ^ 32 → number_at w32 (ahead place (to_le_bytes w32 n ++ rest)) ≡ Ok (n, ahead (place + 4) rest)
word_again n place rest lt = number_back w32 n place (to_le_bytes w32 n) rest refl (from_le_bytes-to_le_bytes_4 n lt)

pub zero_place : (x rest : List ℕ) → AllByRecursion (λ b. 0 < b) x → position (λ b. b == 0) ((x ++ 0 ∷ []) ++ rest) ≡ Some (length x)
zero_place [] rest all = position_step (λ b. b == 0) 0 rest
zero_place (b ∷ bs) rest all =
    let large : (b == 0) ≡ false = ne_eqb b 0 (λ e. omega (arith, all.0)) in
    position_step (λ b. b == 0) b ((bs ++ 0 ∷ []) ++ rest) ∙ rw (large, zero_place bs rest all.1) refl

pub text_again : (place : ℕ) (x rest : List ℕ) → AllByRecursion (λ b. 0 < b) x → text_at (ahead place ((x ++ 0 ∷ []) ++ rest)) ≡ Ok (x, ahead (place + suc (length x)) rest)
text_again place x rest all =
    let front : take (length x) ((x ++ 0 ∷ []) ++ rest) ≡ x = ap (λ (z : List ℕ). take (length x) z) (append_assoc x (0 ∷ []) rest) ∙ take_at x ((0 ∷ []) ++ rest) (length x) refl in
    let back : drop (suc (length x)) ((x ++ 0 ∷ []) ++ rest) ≡ rest = drop_at (x ++ 0 ∷ []) rest (suc (length x)) (omega (arith, length-append x (0 ∷ []))) in
    rw (zero_place x rest all, front, back) refl

pub sleb_again : (z : ℤ) (place : ℕ) (code rest : List ℕ) → IsSleb z code → sleb_at (ahead place (code ++ rest)) ≡ Ok (z, ahead (place + length code) rest)
sleb_again z place code rest is =
    rw (number_length_again code rest is.0.0, take_at code rest (length code) refl, drop_at code rest (length code) refl, is.0.1, is.1) refl
