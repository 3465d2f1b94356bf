-- If nothing is ahead.
use Rattle.std.proofs.Common.{◌≡◌, ℕ, suc, true, false, ◌==◌, [], ◌∷◌, length, refl, sym, ap, ◌∙◌, arith, add-zero}
use Rattle.coz_types.specs.Labels.{Text}
use Rattle.profile_reader.specs.Items.{items_of}
use Rattle.profile_reader.specs.Reading.{Ahead, is_done, next, items_past}
use Rattle.profile_reader.proofs.Cuts.{first_byte}

pub done_is : (text : Text) → (length text == 0) ≡ is_done (items_of text)
unfolding items_of
done_is [] = refl
done_is (b ∷ rest) = let f = first_byte b rest in let never : (suc (length rest) == 0) ≡ false = grind arith in never ∙ sym (ap is_done f.2)

pub next_at_end : (text : Text) → (length text == 0) ≡ true → text ≡ next (items_of text)
unfolding items_of
next_at_end [] e = refl
next_at_end (b ∷ rest) e = let never : (suc (length rest) == 0) ≡ false = grind arith in absurd cc

pub past_at_end : (text : Text) (place : ℕ) → (length text == 0) ≡ true → let a : Ahead = record { items = items_of text; place = place } in a ≡ items_past a
unfolding items_of
past_at_end [] place e = ap (λ (n : ℕ). let a : Ahead = record { items = []; place = n } in a) (sym (add-zero place))
past_at_end (b ∷ rest) place e = let never : (suc (length rest) == 0) ≡ false = grind arith in absurd cc
