-- The escape of a byte of a label has no markup, nor has that of a label.
use Rattle.std.proofs.Common.{◌≡◌, ℕ, Bool, true, false, ◌&&◌, ◌==◌, List, [], ◌∷◌, ◌++◌, codes, refl, ap₂, ◌∙◌, if◌then◌else◌}
use Rattle.std.specs.List.{list_all}
use Rattle.std.proofs.lemmas.List.Folds.{list_all-append}
use Rattle.page_values.specs.Labels.{html, html_byte, is_plain}

all_append : (p : ℕ → Bool) (xs ys : List ℕ) → list_all p xs ≡ true → list_all p ys ≡ true → list_all p (xs ++ ys) ≡ true
all_append p xs ys one two = list_all-append p xs ys ∙ ap₂ (λ (a b : Bool). a && b) one two

plain_by : (and less greater quote : Bool) (b : ℕ) → (b == 60) ≡ less → (b == 62) ≡ greater → (b == 34) ≡ quote
    → list_all is_plain (if and then codes "&amp;" else (if less then codes "&lt;" else (if greater then codes "&gt;" else (if quote then codes "&quot;" else b ∷ [])))) ≡ true
plain_by true less greater quote b p q r = refl
plain_by false true greater quote b p q r = refl
plain_by false false true quote b p q r = refl
plain_by false false false true b p q r = refl
plain_by false false false false b p q r = rw (p, q, r) refl

byte_plain : (b : ℕ) → list_all is_plain (html_byte b) ≡ true
byte_plain b = plain_by (b == 38) (b == 60) (b == 62) (b == 34) b refl refl refl

pub label_plain : (label : List ℕ) → list_all is_plain (html label) ≡ true
label_plain [] = refl
label_plain (b ∷ label) = all_append is_plain (html_byte b) (html label) (byte_plain b) (label_plain label)
