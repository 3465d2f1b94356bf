-- The loop over the digits of a digest.
use Rattle.std.proofs.Common.{rules, ◌≡◌, ℕ, zero, suc, ◌+◌, ◌*◌, ◌<◌, ◌≤◌, Bool, true, false, ◌==◌, List, [], ◌∷◌, ◌++◌, length, take, drop, get_or, Option, Some, None, refl, sym, ap, ◌∙◌, arith, add-one, if◌then◌else◌}
use Rattle.std.specs.List.{list_all}
use Rattle.std.proofs.lemmas.List.{take_more_set}
use Rattle.std.proofs.Math.ListN.{set}
use Rattle.coz_types.specs.Labels.{Text}
use Rattle.profile_reader.specs.Grammar.{is_lower_hex, is_digest}
use Rattle.profile_reader.specs.Reading.{bytes_in, lower_value}
use Rattle.profile_reader.proofs.FieldSteps.{both}

pub all_at : (p : ℕ → Bool) (xs : List ℕ) (i : ℕ) → list_all p xs ≡ true → i < length xs → p (get_or xs i 0) ≡ true
all_at p [] i all lt = absurd (omega arith)
all_at p (x ∷ xs) zero all lt = (both (p x) (list_all p xs) all).0
all_at p (x ∷ xs) (suc i) all lt = all_at p xs i (both (p x) (list_all p xs) all).1 (omega arith)

pub digest_long : (text : Text) → is_digest text ≡ true → length text ≡ 64
digest_long text e = let h = (both (length text == 64) (list_all is_lower_hex text) e).0 in search (rules, h)

abbrev pub byte_at : Text → ℕ → ℕ
byte_at text k = 16 * lower_value (get_or text (2 * k) 0) + lower_value (get_or text (suc (2 * k)) 0)

pub bytes_more : (k : ℕ) (text : Text) → 2 * k + 1 < length text → bytes_in (take (2 * (k + 1)) text) ≡ bytes_in (take (2 * k) text) ++ byte_at text k ∷ []
bytes_more k [] lt = absurd (omega arith)
bytes_more k (h ∷ []) lt = absurd (omega arith)
bytes_more zero (h ∷ l ∷ rest) lt = refl
bytes_more (suc k) (h ∷ l ∷ rest) lt =
    let a : 2 * (suc k + 1) ≡ suc (suc (2 * (k + 1))) = omega arith in
    let b : 2 * suc k ≡ suc (suc (2 * k)) = omega arith in
    ap (λ (n : ℕ). bytes_in (take n (h ∷ l ∷ rest))) a
    ∙ ap (λ (t : List ℕ). (16 * lower_value h + lower_value l) ∷ t) (bytes_more k rest (omega arith))
    ∙ ap (λ (n : ℕ). bytes_in (take n (h ∷ l ∷ rest)) ++ (16 * lower_value (get_or (h ∷ l ∷ rest) n 0) + lower_value (get_or (h ∷ l ∷ rest) (suc n) 0)) ∷ []) (sym b)

pub digest_more : (bytes text : List ℕ) (i high low : ℕ) → i < 32 → length bytes ≡ 32 → length text ≡ 64 → take i bytes ≡ bytes_in (take (2 * i) text) → high ≡ lower_value (get_or text (2 * i) 0) → low ≡ lower_value (get_or text (2 * i + 1) 0)
    → take (i + 1) (set bytes i (16 * high + low)) ≡ bytes_in (take (2 * (i + 1)) text)
digest_more bytes text i high low lt long whole so h l =
    take_more_set bytes i (16 * high + low) (omega arith)
    ∙ ap (λ (t : List ℕ). t ++ (16 * high + low) ∷ []) so
    ∙ ap (λ (n : ℕ). bytes_in (take (2 * i) text) ++ (16 * n + low) ∷ []) h
    ∙ ap (λ (n : ℕ). bytes_in (take (2 * i) text) ++ (16 * lower_value (get_or text (2 * i) 0) + n) ∷ []) (l ∙ ap (λ (n : ℕ). lower_value (get_or text n 0)) (add-one (2 * i)))
    ∙ sym (bytes_more i text (omega arith))
