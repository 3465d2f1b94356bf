-- A number that is written at once, and what a write leaves.
use Rattle.std.proofs.Common.{ℕ, zero, suc, ◌≡◌, ◌+◌, ◌-◌, ◌/◌, ◌%◌, ◌^◌, ◌≤◌, ◌<◌, List, [], ◌∷◌, ◌++◌, length, set, take, drop, get_or, arith, refl, sym, ap, ◌∙◌}
use borrow.Rule.Slice.PartMut.{put_mid}
use Rattle.std.specs.Int.{byte_at, bytes_low_first}
use Rattle.std.proofs.Math.Nat.{pow-suc, div-div-eq-div-mul}
use Rattle.std.proofs.lemmas.List.{length-set, get_or-set_other, append_assoc, append-nil, take_all, drop_all, drop-drop, length-drop}
use Rattle.std.proofs.lemmas.List.Edits.{sets-eq}
use Rattle.byteorder.specs.Numbers.{length-bytes_low_first}
use Rattle.std.proofs.Math.Seq.{sets, length-sets}
use Rattle.zero_bytes.specs.Bytes.{bytes_with_number, bytes_with_put}

byte_is : (i x v : ℕ) → v ≡ x / 256 ^ i → v % 256 ≡ byte_at i x
byte_is zero x v e = omega arith
byte_is (suc i) x v e = ap (λ (y : ℕ). y % 256) e

pub bytes_with_number_low : (p n v i x : ℕ) (bytes : List ℕ) → v ≡ x / 256 ^ i → bytes_with_number p n v bytes ≡ sets bytes p (bytes_low_first i n x)
bytes_with_number_low p zero v i x bytes e = refl
bytes_with_number_low p (suc n) v i x bytes e =
    let next : v / 256 ≡ x / 256 ^ suc i =
    ap (λ (y : ℕ). y / 256) e ∙ div-div-eq-div-mul x (256 ^ i) 256 ∙ ap (λ (y : ℕ). x / y) (sym (pow-suc 256 i)) in
    ap (λ (q : ℕ). bytes_with_number q n (v / 256) (set bytes p (v % 256))) (let f : p + 1 ≡ suc p = omega arith in f)
    ∙ bytes_with_number_low (suc p) n (v / 256) (suc i) x (set bytes p (v % 256)) next
    ∙ ap (λ (b : ℕ). sets (set bytes p b) (suc p) (bytes_low_first (suc i) n x)) (byte_is i x v e)

-- what a write to the rest of a list from a place on leaves
pub at_once : (p n v x : ℕ) (bytes now : List ℕ) → p + n ≤ length bytes → bytes_low_first 0 n x ≡ bytes_low_first 0 n v → now ≡ bytes_low_first 0 n x ++ drop n (take (length bytes - p) (drop p bytes))
    → put_mid p (length bytes - p) bytes now ≡ bytes_with_number p n v bytes
at_once p n v x bytes now inside low e =
    let many : length (bytes_low_first 0 n v) ≡ n = length-bytes_low_first 0 n v in
    let rest : take (length bytes - p) (drop p bytes) ≡ drop p bytes = take_all (length bytes - p) (drop p bytes) (omega (arith, length-drop p bytes)) in
    let none : drop (length bytes - p) (drop p bytes) ≡ [] = drop_all (length bytes - p) (drop p bytes) (omega (arith, length-drop p bytes)) in
    let all : now ≡ bytes_low_first 0 n v ++ drop (p + length (bytes_low_first 0 n v)) bytes =
    e ∙ ap (λ (ws : List ℕ). ws ++ drop n (take (length bytes - p) (drop p bytes))) low
    ∙ ap (λ (bs : List ℕ). bytes_low_first 0 n v ++ drop n bs) rest
    ∙ ap (λ (bs : List ℕ). bytes_low_first 0 n v ++ bs) (drop-drop n p bytes)
    ∙ ap (λ (q : ℕ). bytes_low_first 0 n v ++ drop q bytes) (let f : p + n ≡ p + length (bytes_low_first 0 n v) = omega arith in f) in
    ap (λ (bs : List ℕ). take p bytes ++ (now ++ bs)) none
    ∙ ap (λ (bs : List ℕ). take p bytes ++ bs) (append-nil now ∙ all)
    ∙ sym (append_assoc (take p bytes) (bytes_low_first 0 n v) (drop (p + length (bytes_low_first 0 n v)) bytes))
    ∙ sym (sets-eq (bytes_low_first 0 n v) bytes p (omega arith))
    ∙ sym (bytes_with_number_low p n v 0 v bytes (omega arith))

pub low_two : (v : ℕ) → bytes_low_first 0 2 (v % 65536) ≡ bytes_low_first 0 2 v
low_two v =
    ap (λ (b : ℕ). b ∷ v % 65536 / 256 % 256 ∷ []) (let e : v % 65536 % 256 ≡ v % 256 = omega arith in e)
    ∙ ap (λ (b : ℕ). v % 256 ∷ b ∷ []) (let e : v % 65536 / 256 % 256 ≡ v / 256 % 256 = omega arith in e)

pub low_four : (v : ℕ) → bytes_low_first 0 4 (v % 4294967296) ≡ bytes_low_first 0 4 v
low_four v =
    ap (λ (b : ℕ). b ∷ v % 4294967296 / 256 % 256 ∷ v % 4294967296 / 65536 % 256 ∷ v % 4294967296 / 16777216 % 256 ∷ []) (let e : v % 4294967296 % 256 ≡ v % 256 = omega arith in e)
    ∙ ap (λ (b : ℕ). v % 256 ∷ b ∷ v % 4294967296 / 65536 % 256 ∷ v % 4294967296 / 16777216 % 256 ∷ []) (let e : v % 4294967296 / 256 % 256 ≡ v / 256 % 256 = omega arith in e)
    ∙ ap (λ (b : ℕ). v % 256 ∷ v / 256 % 256 ∷ b ∷ v % 4294967296 / 16777216 % 256 ∷ []) (let e : v % 4294967296 / 65536 % 256 ≡ v / 65536 % 256 = omega arith in e)
    ∙ ap (λ (b : ℕ). v % 256 ∷ v / 256 % 256 ∷ v / 65536 % 256 ∷ b ∷ []) (let e : v % 4294967296 / 16777216 % 256 ≡ v / 16777216 % 256 = omega arith in e)

-- bytes outside of those that are written
pub bytes_with_number_others : (p n v : ℕ) (bytes : List ℕ) (j : ℕ) → (p ≤ j → j < p + n → ⊥) → get_or (bytes_with_number p n v bytes) j 0 ≡ get_or bytes j 0
bytes_with_number_others p zero v bytes j out = refl
bytes_with_number_others p (suc n) v bytes j out =
    bytes_with_number_others (p + 1) n (v / 256) (set bytes p (v % 256)) j (λ from to. out (omega arith) (omega arith))
    ∙ get_or-set_other bytes p j (v % 256) 0 (λ e. out (omega arith) (omega arith))

pub sets_others : (p : ℕ) (bytes ws : List ℕ) (j : ℕ) → (p ≤ j → j < p + length ws → ⊥) → get_or (sets bytes p ws) j 0 ≡ get_or bytes j 0
sets_others p bytes [] j out = refl
sets_others p bytes (w ∷ ws) j out =
    sets_others (suc p) (set bytes p w) ws j (λ from to. out (omega arith) (omega arith))
    ∙ get_or-set_other bytes p j w 0 (λ e. out (omega arith) (omega arith))

pub length-bytes_with_number : (p n v : ℕ) (bytes : List ℕ) → length (bytes_with_number p n v bytes) ≡ length bytes
length-bytes_with_number p zero v bytes = refl
length-bytes_with_number p (suc n) v bytes = length-bytes_with_number (p + 1) n (v / 256) (set bytes p (v % 256)) ∙ length-set bytes p (v % 256)

pub length-bytes_with_put : (p : ℕ) (ws bytes : List ℕ) → p + length ws ≤ length bytes → length (bytes_with_put p ws bytes) ≡ length bytes
length-bytes_with_put p ws bytes inside =
    ap (λ (bs : List ℕ). length bs) (sym (sets-eq ws bytes p inside)) ∙ length-sets bytes p ws
