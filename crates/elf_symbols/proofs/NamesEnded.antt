-- Names that end.
use Rattle.std.proofs.Common.{◌≡◌, ◌≢◌, ◌<◌, ◌≤◌, ℕ, zero, suc, ◌-◌, Bool, List, [], ◌∷◌, ◌++◌, length, take, get_or, refl, sym, ap, ◌∙◌, arith, eq-eqb, ne_eqb, if◌then◌else◌}
use Rattle.std.proofs.Math.Seq.{take-suc}
use Rattle.elf_symbols.specs.Symbols.{before_ended, ended}

before_some : (b y : ℕ) (xs : List ℕ) → before_ended b (xs ++ y ∷ []) ≡ b ∷ (xs ++ y ∷ [])
before_some b y [] = refl
before_some b y (x ∷ xs) = refl

ended_at_zero : (xs : List ℕ) (y : ℕ) → y ≡ 0 → ended (xs ++ y ∷ []) ≡ xs ++ y ∷ []
ended_at_zero [] y e = ap (λ (t : Bool). if t then y ∷ [] else []) (eq-eqb y 0 e)
ended_at_zero (x ∷ xs) y e = ap (λ (bs : List ℕ). before_ended x bs) (ended_at_zero xs y e) ∙ before_some x y xs

ended_before : (xs : List ℕ) (y : ℕ) → y ≢ 0 → ended (xs ++ y ∷ []) ≡ ended xs
ended_before [] y e = ap (λ (t : Bool). if t then y ∷ [] else []) (ne_eqb y 0 e)
ended_before (x ∷ xs) y e = ap (λ (bs : List ℕ). before_ended x bs) (ended_before xs y e)

last_taken : (names : List ℕ) (end : ℕ) → 0 < end → end ≤ length names → take end names ≡ take (end - 1) names ++ get_or names (end - 1) 0 ∷ []
last_taken names zero some within = absurd (omega arith)
last_taken names (suc n) some within =
    let one : suc n - 1 ≡ n = omega arith in
    take-suc names n 0 (omega arith) ∙ ap (λ (k : ℕ). take k names ++ get_or names k 0 ∷ []) (sym one)

pub end_passed : (names : List ℕ) (end : ℕ) → 0 < end → end ≤ length names → get_or names (end - 1) 0 ≢ 0 → ended (take (end - 1) names) ≡ ended (take end names)
end_passed names end some within e = sym (ap ended (last_taken names end some within) ∙ ended_before (take (end - 1) names) (get_or names (end - 1) 0) e)

pub end_found : (names : List ℕ) (end : ℕ) → 0 < end → end ≤ length names → get_or names (end - 1) 0 ≡ 0 → ended (take end names) ≡ take end names
end_found names end some within e =
    let split = last_taken names end some within in
    ap ended split ∙ ended_at_zero (take (end - 1) names) (get_or names (end - 1) 0) e ∙ sym split

pub none_ended : (names : List ℕ) (end : ℕ) → end ≡ 0 → ended (take end names) ≡ take end names
none_ended names end e = ap (λ (n : ℕ). ended (take n names)) e ∙ sym (ap (λ (n : ℕ). take n names) e)
