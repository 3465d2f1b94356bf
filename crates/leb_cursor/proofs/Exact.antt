-- What is read is spelled so, and what is spelled so is read again.
use Rattle.std.proofs.Common.{◌≡◌, ℕ, zero, suc, ◌+◌, ◌^◌, ◌<◌, ◌≤◌, Bool, true, false, not, cond, List, [], ◌∷◌, ◌++◌, length, get_or, take, drop, Option, Some, None, option_map, position, Result, Ok, Err, refl, sym, ap, subst, ◌∙◌, arith, nat_lt, nat_le, ◌⊎◌, inl, inr, ◌==◌, ℤ}
use Rattle.std.specs.List.{prefix_len, AllByRecursion}
use Rattle.std.specs.Int.{w8, from_le_bytes, Width, w16, w32, w64, byte_len, to_le_bytes}
use Rattle.std.proofs.lemmas.Bool.{cases_lt, lt-ltb, ltb-true, le-ltb, ltb-false, leb-true, eqb-true}
use Rattle.std.proofs.lemmas.List.{take_at, drop_at, take-append-drop, length-append, length-take-le, get_or-drop}
use Rattle.std.proofs.lemmas.Nat.{le_bytes_2, le_bytes_4, le_bytes_8}
use Rattle.leb_cursor.specs.Numbers.{IsOneNumber, low_bits, SpellsUnsigned, signed_low_bits, SpellsSigned}
use Rattle.leb_cursor.specs.declared.Short.{Short}
use Rattle.leb_cursor.specs.declared.LebFault.TheVariants as leb
use Rattle.leb_cursor.specs.Ahead.{Ahead, Reading, ahead_past, up_to, in_range, number_length, uleb_at, short_at, ◌>>=◌, bytes_at, text_at, number_at, sleb_at, part_at, fits_64_signed}

abbrev pub IsBytes : List ℕ → Type 0
IsBytes bytes = (i : ℕ) → get_or bytes i 0 < 256

pub IsBytes-drop : (n : ℕ) (bytes : List ℕ) → IsBytes bytes → IsBytes (drop n bytes)
IsBytes-drop n bytes h i = rw get_or-drop (h (n + i))

abbrev pub ahead : ℕ → List ℕ → Ahead
ahead place bytes = record { place = place; bytes = bytes }

-- after some bytes of this sort
pub record Consumes (Is : List ℕ → Type 0) (a b : Ahead) : Type 0 where
  pub code : List ℕ
  pub parts : a.bytes ≡ code ++ b.bytes
  pub is : Is code
  pub place : b.place ≡ a.place + length code
  pub rest : IsBytes b.bytes

step_by : (b : Bool) (k n : ℕ) → cond (nat_lt (cond (not b) (1 + k) 0) (suc n)) (Some (cond (not b) (1 + k) 0)) None ≡ cond b (Some 0) (option_map suc (cond (nat_lt k n) (Some k) None))
step_by true k n = rw (lt-ltb 0 (suc n) (omega arith)) refl
step_by false k n =
    elim (cases_lt k n) [
      | inl lt ↦ let more : 1 + k < suc n = omega arith in let same : 1 + k ≡ suc k = omega arith in rw (lt-ltb k n lt, lt-ltb (1 + k) (suc n) more, same) refl
      | inr le ↦ let more : suc n ≤ 1 + k = omega arith in rw (le-ltb k n le, le-ltb (1 + k) (suc n) more) refl
    ]

pub position_step : (p : ℕ → Bool) (x : ℕ) (xs : List ℕ) → position p (x ∷ xs) ≡ cond (p x) (Some 0) (option_map suc (position p xs))
position_step p x xs = step_by (p x) (prefix_len (λ y. not (p y)) xs) (length xs)

map_cond : (b : Bool) (x y : Option ℕ) → option_map suc (cond b x y) ≡ cond b (option_map suc x) (option_map suc y)
map_cond true x y = refl
map_cond false x y = refl

number_length_step : (b : ℕ) (bs : List ℕ) → number_length (b ∷ bs) ≡ cond (nat_lt b 128) (Some 1) (option_map suc (number_length bs))
number_length_step b bs = ap (λ (o : Option ℕ). option_map suc o) (position_step (λ x. nat_lt x 128) b bs) ∙ map_cond (nat_lt b 128) (Some 0) (option_map suc (position (λ x. nat_lt x 128) bs))

some_is : (x y : ℕ) → Some x ≡ Some y → x ≡ y
some_is x y e = cc

mapped : (o : Option ℕ) (k : ℕ) → option_map suc o ≡ Some k → (j : ℕ) × (o ≡ Some j) × (suc j ≡ k)
mapped None k e = absurd cc
mapped (Some j) k e = (j, refl, cc)

chosen : (b : Bool) (x y z : Option ℕ) → cond b x y ≡ z → ((b ≡ true) × (x ≡ z)) ⊎ ((b ≡ false) × (y ≡ z))
chosen true x y z e = inl (refl, e)
chosen false x y z e = inr (refl, e)

prepend : (b j : ℕ) (bs : List ℕ) → 128 ≤ b → IsOneNumber (take j bs) → IsOneNumber (b ∷ take j bs)
prepend b zero bs large one = absurd one
prepend b (suc j) [] large one = absurd one
prepend b (suc j) (c ∷ cs) large one = (large, one)

-- the bytes up to the first one below 128 are those of one number
pub one_number : (bytes : List ℕ) (k : ℕ) → number_length bytes ≡ Some k → IsOneNumber (take k bytes) × (k ≤ length bytes)
one_number [] k e = absurd cc
one_number (b ∷ bs) k e =
    elim (chosen (nat_lt b 128) (Some 1) (option_map suc (number_length bs)) (Some k) (sym (number_length_step b bs) ∙ e)) [
      | inl low ↦ subst (λ (n : ℕ). IsOneNumber (take n (b ∷ bs)) × (n ≤ length (b ∷ bs))) (some_is 1 k low.1) (ltb-true b 128 low.0, omega arith)
      | inr high ↦
          let m = mapped (number_length bs) k high.1 in
          let rest = one_number bs m.0 m.1 in
          subst (λ (n : ℕ). IsOneNumber (take n (b ∷ bs)) × (n ≤ length (b ∷ bs))) m.2 (prepend b m.0 bs (ltb-false b 128 high.0) rest.0, omega (arith, rest.1))
    ]

-- one number's bytes are found, whatever follows
pub number_length_again : (code rest : List ℕ) → IsOneNumber code → number_length (code ++ rest) ≡ Some (length code)
number_length_again [] rest one = absurd one
number_length_again (b ∷ []) rest one = number_length_step b rest ∙ rw (lt-ltb b 128 one) refl
number_length_again (b ∷ c ∷ cs) rest one = number_length_step b ((c ∷ cs) ++ rest) ∙ rw (le-ltb b 128 one.0, number_length_again (c ∷ cs) rest one.1) refl

-- an unsigned number of 64 bits
abbrev pub IsUleb : ℕ → List ℕ → Type 0
IsUleb n bytes = SpellsUnsigned n bytes × (n < 2 ^ 64)

ok_is : {A E : Type 0} (x y : A) → (let done : A → Result A E = λ z. Ok z in done x ≡ done y) → x ≡ y
ok_is x y e = cc

uleb_ranged : (fits : Bool) (value k n : ℕ) (a b : Ahead) → in_range fits value k a ≡ Ok (n, b) → (fits ≡ true) × (value ≡ n) × (ahead_past k a ≡ b)
uleb_ranged true value k n a b e =
    let both = ok_is (value, ahead_past k a) (n, b) e in
    (refl, ap (λ (p : ℕ × Ahead). p.0) both, ap (λ (p : ℕ × Ahead). p.1) both)
uleb_ranged false value k n a b e = absurd cc

uleb_by : (a b : Ahead) (n : ℕ) (o : Option ℕ) → IsBytes a.bytes → number_length a.bytes ≡ o
    → up_to o a (λ k. in_range (nat_lt (low_bits (take k a.bytes)) (2 ^ 64)) (low_bits (take k a.bytes)) k a) (Err (leb.Short (short_at a))) ≡ Ok (n, b)
    → Consumes (IsUleb n) a b
uleb_by a b n None fits found e = absurd cc
uleb_by a b n (Some k) fits found e =
    let r = uleb_ranged (nat_lt (low_bits (take k a.bytes)) (2 ^ 64)) (low_bits (take k a.bytes)) k n a b e in
    let one = one_number a.bytes k found in
    let small : n < 2 ^ 64 = subst (λ (v : ℕ). v < 2 ^ 64) r.1 (ltb-true _ _ r.0) in
    subst (Consumes (IsUleb n) a) r.2 (record {
      code = take k a.bytes;
      parts = sym (take-append-drop k a.bytes);
      is = ((one.0, r.1), small);
      place = ap (λ (x : ℕ). a.place + x) (sym (length-take-le k a.bytes one.1));
      rest = IsBytes-drop k a.bytes fits;
    })

-- what is read is spelled so
pub uleb_takes : (a b : Ahead) (n : ℕ) → IsBytes a.bytes → uleb_at a ≡ Ok (n, b) → Consumes (IsUleb n) a b
uleb_takes a b n fits e = uleb_by a b n (number_length a.bytes) fits refl e

-- what is spelled so is read, whatever follows
pub uleb_again : (n place : ℕ) (code rest : List ℕ) → IsUleb n code → uleb_at (ahead place (code ++ rest)) ≡ Ok (n, ahead (place + length code) rest)
uleb_again n place code rest is =
    rw (number_length_again code rest is.0.0, take_at code rest (length code) refl, drop_at code rest (length code) refl, is.0.1, lt-ltb n (2 ^ 64) is.1) refl

-- ---- bytes and texts

-- the value of a step that did not fail
pub bind_is : {A B E : Type 0} (r : Result A E) (f : A → Result B E) (y : B) → (r >>= f) ≡ Ok y → (x : A) × (r ≡ Ok x) × (f x ≡ Ok y)
bind_is (Ok x) f y e = (x, refl, e)
bind_is (Err d) f y e = absurd cc

bytes_by : (fits : Bool) (n : ℕ) (a b : Ahead) (x : List ℕ) → nat_le n (length a.bytes) ≡ fits → IsBytes a.bytes → cond {A = Reading (List ℕ) Short} fits (Ok (take n a.bytes, ahead_past n a)) (Err (short_at a)) ≡ Ok (x, b) → Consumes (λ code. (code ≡ x) × (length x ≡ n)) a b
bytes_by false n a b x is bytes e = absurd cc
bytes_by true n a b x is bytes e =
    let both = ok_is (take n a.bytes, ahead_past n a) (x, b) e in
    let len = length-take-le n a.bytes (leb-true _ _ is) in
    subst (λ (y : List ℕ × Ahead). Consumes (λ code. (code ≡ y.0) × (length y.0 ≡ n)) a y.1) both (record {
      code = take n a.bytes;
      parts = sym (take-append-drop n a.bytes);
      is = (refl, len);
      place = ap (λ (z : ℕ). a.place + z) (sym len);
      rest = IsBytes-drop n a.bytes bytes;
    })

pub bytes_takes : (n : ℕ) (a b : Ahead) (x : List ℕ) → IsBytes a.bytes → bytes_at n a ≡ Ok (x, b) → Consumes (λ code. (code ≡ x) × (length x ≡ n)) a b
bytes_takes n a b x fits e = bytes_by (nat_le n (length a.bytes)) n a b x refl fits e

one_byte : (code x : List ℕ) → code ≡ x → length x ≡ 1 → code ≡ from_le_bytes w8 x ∷ []
one_byte code [] e len = absurd (omega arith)
one_byte code (y ∷ []) e len = e
one_byte code (y ∷ z ∷ zs) e len = absurd (omega arith)

pub mapped_to : (P Q : List ℕ → Type 0) (a b : Ahead) → ((x : List ℕ) → P x → Q x) → Consumes P a b → Consumes Q a b
mapped_to P Q a b f c = record { code = c.code; parts = c.parts; is = f c.code c.is; place = c.place; rest = c.rest }

pub byte_takes : (a b : Ahead) (n : ℕ) → IsBytes a.bytes → number_at w8 a ≡ Ok (n, b) → Consumes (λ code. code ≡ n ∷ []) a b
byte_takes a b n fits e =
    let x = bind_is (bytes_at 1 a) _ (n, b) e in
    let both = ok_is (from_le_bytes w8 x.0.0, x.0.1) (n, b) x.2 in
    subst (λ (y : ℕ × Ahead). Consumes (λ code. code ≡ y.0 ∷ []) a y.1) both
    (mapped_to (λ code. (code ≡ x.0.0) × (length x.0.0 ≡ 1)) (λ code. code ≡ from_le_bytes w8 x.0.0 ∷ []) a x.0.1 (λ code is. one_byte code x.0.0 is.0 is.1) (bytes_takes 1 a x.0.1 x.0.0 fits x.1))

-- a text up to the first zero byte
abbrev pub IsTextOf : List ℕ → ℕ → Type 0
IsTextOf bytes k = AllByRecursion (λ b. 0 < b) (take k bytes) × (bytes ≡ (take k bytes ++ 0 ∷ []) ++ drop (suc k) bytes) × (k < length bytes)

positive : (b : ℕ) → (b == 0) ≡ false → 0 < b
positive zero e = absurd cc
positive (suc b) e = omega arith

zero_is : (b : ℕ) → (b == 0) ≡ true → b ≡ 0
zero_is b e = eqb-true b 0 e

pub text_of : (bytes : List ℕ) (k : ℕ) → position (λ b. b == 0) bytes ≡ Some k → IsTextOf bytes k
text_of [] k e = absurd cc
text_of (b ∷ bs) k e =
    elim (chosen (b == 0) (Some 0) (option_map suc (position (λ b. b == 0) bs)) (Some k) (sym (position_step (λ b. b == 0) b bs) ∙ e)) [
      | inl here ↦ subst (IsTextOf (b ∷ bs)) (some_is 0 k here.1) (tt, ap (λ (x : ℕ). x ∷ bs) (zero_is b here.0), omega arith)
      | inr later ↦
          let m = mapped (position (λ b. b == 0) bs) k later.1 in
          let t = text_of bs m.0 m.1 in
          subst (IsTextOf (b ∷ bs)) m.2 ((positive b later.0, t.0), ap (λ (x : List ℕ). b ∷ x) t.1, omega (arith, t.2))
    ]

-- a text without zero bytes, and the zero byte that ends it
abbrev pub IsEnded : List ℕ → List ℕ → Type 0
IsEnded text bytes = AllByRecursion (λ b. 0 < b) text × (bytes ≡ text ++ 0 ∷ [])

text_by : (a b : Ahead) (x : List ℕ) (o : Option ℕ) → IsBytes a.bytes → position (λ b. b == 0) a.bytes ≡ o → up_to {X = Reading (List ℕ) Short} o a (λ k. Ok (take k a.bytes, ahead_past (suc k) a)) (Err (short_at a)) ≡ Ok (x, b) → Consumes (IsEnded x) a b
text_by a b x None fits found e = absurd cc
text_by a b x (Some k) fits found e =
    let t = text_of a.bytes k found in
    let both = ok_is (take k a.bytes, ahead_past (suc k) a) (x, b) e in
    subst (λ (y : List ℕ × Ahead). Consumes (IsEnded y.0) a y.1) both (record {
      code = take k a.bytes ++ 0 ∷ [];
      parts = t.1;
      is = (t.0, refl);
      place = omega (arith, length-append (take k a.bytes) (0 ∷ []), length-take-le k a.bytes (omega (arith, t.2)));
      rest = IsBytes-drop (suc k) a.bytes fits;
    })

pub text_takes : (a b : Ahead) (x : List ℕ) → IsBytes a.bytes → text_at a ≡ Ok (x, b) → Consumes (IsEnded x) a b
text_takes a b x fits e = text_by a b x (position (λ b. b == 0) a.bytes) fits refl e

-- ---- signed numbers, wider numbers, parts

abbrev pub IsSleb : ℤ → List ℕ → Type 0
IsSleb z bytes = SpellsSigned z bytes × (fits_64_signed z ≡ true)

signed_ranged : (fits : Bool) (value : ℤ) (k : ℕ) (z : ℤ) (a b : Ahead) → in_range fits value k a ≡ Ok (z, b) → (fits ≡ true) × (value ≡ z) × (ahead_past k a ≡ b)
signed_ranged true value k z a b e =
    let both = ok_is (value, ahead_past k a) (z, b) e in
    (refl, ap (λ (p : ℤ × Ahead). p.0) both, ap (λ (p : ℤ × Ahead). p.1) both)
signed_ranged false value k z a b e = absurd cc

sleb_by : (a b : Ahead) (z : ℤ) (o : Option ℕ) → IsBytes a.bytes → number_length a.bytes ≡ o
    → up_to o a (λ k. in_range (fits_64_signed (signed_low_bits (take k a.bytes))) (signed_low_bits (take k a.bytes)) k a) (Err (leb.Short (short_at a))) ≡ Ok (z, b)
    → Consumes (IsSleb z) a b
sleb_by a b z None fits found e = absurd cc
sleb_by a b z (Some k) fits found e =
    let r = signed_ranged (fits_64_signed (signed_low_bits (take k a.bytes))) (signed_low_bits (take k a.bytes)) k z a b e in
    let one = one_number a.bytes k found in
    subst (Consumes (IsSleb z) a) r.2 (record {
      code = take k a.bytes;
      parts = sym (take-append-drop k a.bytes);
      is = ((one.0, r.1), subst (λ (v : ℤ). fits_64_signed v ≡ true) r.1 r.0);
      place = ap (λ (x : ℕ). a.place + x) (sym (length-take-le k a.bytes one.1));
      rest = IsBytes-drop k a.bytes fits;
    })

pub sleb_takes : (a b : Ahead) (z : ℤ) → IsBytes a.bytes → sleb_at a ≡ Ok (z, b) → Consumes (IsSleb z) a b
sleb_takes a b z fits e = sleb_by a b z (number_length a.bytes) fits refl e

IsBytes-front : (x y : List ℕ) → IsBytes (x ++ y) → IsBytes x
IsBytes-front [] y h i = omega arith
IsBytes-front (b ∷ bs) y h zero = h 0
IsBytes-front (b ∷ bs) y h (suc i) = IsBytes-front bs y (λ j. h (suc j)) i

-- a number of k bytes
abbrev pub IsNumber : Width → ℕ → ℕ → List ℕ → Type 0
IsNumber w limit n code = (code ≡ to_le_bytes w n) × (n < limit)

number_by : (w : Width) (limit : ℕ) → ((bytes : List ℕ) (n : ℕ) → length bytes ≡ byte_len w → IsBytes bytes → n ≡ from_le_bytes w bytes → to_le_bytes w n ≡ bytes)
    → ((bytes : List ℕ) → IsBytes bytes → from_le_bytes w bytes < limit)
    → (a b : Ahead) (n : ℕ) → IsBytes a.bytes → number_at w a ≡ Ok (n, b) → Consumes (IsNumber w limit n) a b
number_by w limit back below a b n fits e =
    let x = bind_is (bytes_at (byte_len w) a) _ (n, b) e in
    let both = ok_is (from_le_bytes w x.0.0, x.0.1) (n, b) x.2 in
    let c = bytes_takes (byte_len w) a x.0.1 x.0.0 fits x.1 in
    let front : IsBytes x.0.0 = subst IsBytes c.is.0 (IsBytes-front c.code x.0.1.bytes (subst IsBytes c.parts fits)) in
    subst (λ (y : ℕ × Ahead). Consumes (IsNumber w limit y.0) a y.1) both
    (mapped_to (λ code. (code ≡ x.0.0) × (length x.0.0 ≡ byte_len w)) (IsNumber w limit (from_le_bytes w x.0.0)) a x.0.1 (λ code is. (is.0 ∙ sym (back x.0.0 (from_le_bytes w x.0.0) is.1 front refl), below x.0.0 front)) c)

pub half_takes : (a b : Ahead) (n : ℕ) → IsBytes a.bytes → number_at w16 a ≡ Ok (n, b) → Consumes (IsNumber w16 (2 ^ 16) n) a b
half_takes = number_by w16 (2 ^ 16) le_bytes_2 (λ bytes fits. omega (arith, fits 0, fits 1))

pub word_takes : (a b : Ahead) (n : ℕ) → IsBytes a.bytes → number_at w32 a ≡ Ok (n, b) → Consumes (IsNumber w32 (2 ^ 32) n) a b
word_takes = number_by w32 (2 ^ 32) le_bytes_4 (λ bytes fits. omega (arith, fits 0, fits 1, fits 2, fits 3))

pub double_takes : (a b : Ahead) (n : ℕ) → IsBytes a.bytes → number_at w64 a ≡ Ok (n, b) → Consumes (IsNumber w64 (2 ^ 64) n) a b
double_takes = number_by w64 (2 ^ 64) le_bytes_8 (λ bytes fits. omega (arith, fits 0, fits 1, fits 2, fits 3, fits 4, fits 5, fits 6, fits 7))

-- what is ahead in a part
pub record IsPart (n : ℕ) (a p : Ahead) (code : List ℕ) : Type 0 where
  pub bytes : code ≡ p.bytes
  pub len : length p.bytes ≡ n
  pub place : p.place ≡ a.place
  pub fits : IsBytes p.bytes

part_by : (fine : Bool) (n : ℕ) (a p b : Ahead) → nat_le n (length a.bytes) ≡ fine → IsBytes a.bytes
    → cond {A = Reading Ahead Short} fine (Ok (record { place = a.place; bytes = take n a.bytes }, ahead_past n a)) (Err (short_at a)) ≡ Ok (p, b) → Consumes (IsPart n a p) a b
part_by false n a p b is fits e = absurd cc
part_by true n a p b is fits e =
    let inside : Ahead = record { place = a.place; bytes = take n a.bytes } in
    let both = ok_is (inside, ahead_past n a) (p, b) e in
    let len = length-take-le n a.bytes (leb-true _ _ is) in
    subst (λ (y : Ahead × Ahead). Consumes (IsPart n a y.0) a y.1) both (record {
      code = take n a.bytes;
      parts = sym (take-append-drop n a.bytes);
      is = record { bytes = refl; len = len; place = refl; fits = IsBytes-front (take n a.bytes) (drop n a.bytes) (subst IsBytes (sym (take-append-drop n a.bytes)) fits) };
      place = ap (λ (z : ℕ). a.place + z) (sym len);
      rest = IsBytes-drop n a.bytes fits;
    })

pub part_takes : (n : ℕ) (a p b : Ahead) → IsBytes a.bytes → part_at n a ≡ Ok (p, b) → Consumes (IsPart n a p) a b
part_takes n a p b fits e = part_by (nat_le n (length a.bytes)) n a p b refl fits e
