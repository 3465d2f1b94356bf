-- Groups of seven bits are a spelling of their number, and the five bytes of a number one with a sign and without.
use Rattle.std.proofs.Common.{◌≡◌, ◌≤◌, ◌<◌, ℕ, zero, suc, ◌+◌, ◌*◌, ◌/◌, ◌%◌, ◌^◌, List, [], ◌∷◌, refl, ap, subst, ◌∙◌, sym, arith}
use Rattle.std.specs.Prelude.{pos, ◌-ℤ◌, if◌then◌else◌, Bool}
use Rattle.std.proofs.lemmas.Bool.{lt-ltb}
use Rattle.std.proofs.lemmas.Nat.{pow-add}
use Rattle.leb_cursor.specs.Numbers.{IsOneNumber, low_bits, SpellsUnsigned, signed_number, SpellsSigned}
use Rattle.byte_write.specs.Numbers.{groups, leb}

group_front : (k n : ℕ) → (c : ℕ) × (cs : List ℕ) × (groups (suc k) n ≡ c ∷ cs)
group_front zero n = (n % 128, [], refl)
group_front (suc k) n = (n % 128 + 128, groups (suc k) (n / 128), refl)

before_more : (b c : ℕ) (bs cs : List ℕ) → bs ≡ c ∷ cs → 128 ≤ b → IsOneNumber bs → IsOneNumber (b ∷ bs)
before_more b c bs cs e large one = subst (λ xs. IsOneNumber (b ∷ xs)) (sym e) (large, subst IsOneNumber e one)

pub groups_one : (k n : ℕ) → IsOneNumber (groups (suc k) n)
groups_one zero n = omega arith
groups_one (suc k) n =
    let f = group_front k (n / 128) in
    before_more (n % 128 + 128) f.0 (groups (suc k) (n / 128)) f.1 f.2 (omega arith) (groups_one k (n / 128))

one_group_more : (k : ℕ) → 2 ^ (7 * suc (suc k)) ≡ 128 * 2 ^ (7 * suc k)
one_group_more k =
    let seven : 7 * suc (suc k) ≡ 7 + 7 * suc k = omega arith in
    ap (λ (i : ℕ). 2 ^ i) seven ∙ pow-add 2 7 (7 * suc k)

pub groups_value : (k n : ℕ) → n < 2 ^ (7 * suc k) → low_bits (groups (suc k) n) ≡ n
groups_value zero n below = omega arith
groups_value (suc k) n below =
    let more = one_group_more k in
    let less : n / 128 < 2 ^ (7 * suc k) = omega (arith, more) in
    omega (arith, groups_value k (n / 128) less)

pub leb_spells : (n : ℕ) → n < 2 ^ 34 → SpellsUnsigned n (leb n)
unfolding leb
leb_spells n below = (groups_one 4 n, groups_value 4 n (omega arith))

pub leb_spells_signed : (n : ℕ) → n < 2 ^ 34 → SpellsSigned (pos n) (leb n)
unfolding leb
leb_spells_signed n below =
    let value = groups_value 4 n (omega arith) in
    (groups_one 4 n, ap (λ (m : ℕ). signed_number 35 m) value ∙ ap (λ (b : Bool). if b then pos n else pos n -ℤ pos (2 ^ 35)) (lt-ltb (2 * n) (2 ^ 35) (omega arith)))
