-- The first colon of a text.
use Rattle.std.proofs.Common.{rules, ◌≡◌, ℕ, zero, suc, ◌+◌, ◌-◌, ◌<◌, Bool, true, false, ◌==◌, List, [], ◌∷◌, length, take, drop, get_or, refl, sym, ap, ◌∙◌, arith, add-one, length-drop}
use Rattle.std.specs.List.{onto_first}
use Rattle.std.proofs.lemmas.List.Splits.{slice_split-cons_yes, slice_split-cons_no}
use Rattle.std.proofs.lemmas.List.{take_all}
use Rattle.coz_types.specs.Labels.{Text}
use Rattle.profile_reader.specs.EndingSpellings.{ending_parts}
use Rattle.profile_reader.specs.Parts.{parts}

-- no colon below here
abbrev pub IsPlain : ℕ → Text → Type 0
IsPlain i text = (k : ℕ) → k < i → get_or text k 0 ≡ 58 → ⊥

is_other : (b : ℕ) → (b ≡ 58 → ⊥) → (b == 58) ≡ false
is_other b never = by (b == 58) refl
  where
    by : (c : Bool) → (b == 58) ≡ c → c ≡ false
    by true e = absurd (never (search (rules, e)))
    by false e = refl

cut_here : (i : ℕ) (text : Text) → i < length text → get_or text i 0 ≡ 58 → IsPlain i text → parts text ≡ take i text ∷ parts (drop (suc i) text)
cut_here i [] lt is plain = absurd (omega arith)
cut_here zero (b ∷ rest) lt is plain = slice_split-cons_yes (λ b. b == 58) b rest (search (rules, is))
cut_here (suc i) (b ∷ rest) lt is plain =
    let other : (b == 58) ≡ false = is_other b (plain 0 (omega arith)) in
    slice_split-cons_no (λ b. b == 58) b rest other
    ∙ ap (λ (ts : List Text). onto_first b ts) (cut_here i rest (omega arith) is (λ k lt. plain (suc k) (omega arith)))

pub cut_at : (i : ℕ) (text : Text) → i < length text → get_or text i 0 ≡ 58 → IsPlain i text → parts text ≡ take i text ∷ parts (drop (i + 1) text)
cut_at i text lt is plain = cut_here i text lt is plain ∙ ap (λ (n : ℕ). take i text ∷ parts (drop n text)) (sym (add-one i))

pub one_part : (text : Text) → IsPlain (length text) text → parts text ≡ text ∷ []
one_part [] plain = refl
one_part (b ∷ rest) plain =
    let other : (b == 58) ≡ false = is_other b (plain 0 (omega arith)) in
    slice_split-cons_no (λ b. b == 58) b rest other
    ∙ ap (λ (ts : List Text). onto_first b ts) (one_part rest (λ k lt. plain (suc k) (omega arith)))

whole : (n : ℕ) (xs : Text) → take (length xs - n) (drop n xs) ≡ drop n xs
whole n xs = take_all (length xs - n) (drop n xs) (omega (arith, length-drop n xs))

pub cut_range : (i : ℕ) (text : Text) → i < length text → get_or text i 0 ≡ 58 → IsPlain i text → parts text ≡ take i text ∷ parts (take (length text - (i + 1)) (drop (i + 1) text))
cut_range i text lt is plain = cut_at i text lt is plain ∙ ap (λ (t : Text). take i text ∷ parts t) (sym (whole (i + 1) text))

some_part : (text : Text) → (first : Text) × (more : List Text) × (parts text ≡ first ∷ more)
some_part [] = ([], [], refl)
some_part (b ∷ rest) = let h = some_part rest in by h.0 h.1 h.2 (b == 58) refl
  where
    by : (first : Text) (more : List Text) → parts rest ≡ first ∷ more → (c : Bool) → (b == 58) ≡ c → (one : Text) × (two : List Text) × (parts (b ∷ rest) ≡ one ∷ two)
    by first more e true d = ([], parts rest, slice_split-cons_yes (λ b. b == 58) b rest d)
    by first more e false d = (b ∷ first, more, slice_split-cons_no (λ b. b == 58) b rest d ∙ ap (λ (ts : List Text). onto_first b ts) e)

-- five parts or more are no ending's
pub five : (a b c d text : Text) → ending_parts (a ∷ b ∷ c ∷ d ∷ parts text) ≡ false
five a b c d text = let h = some_part text in ap (λ (ts : List Text). ending_parts (a ∷ b ∷ c ∷ d ∷ ts)) h.2
