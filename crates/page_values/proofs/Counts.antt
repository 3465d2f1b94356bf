-- How many of the first elements pass a test.
use Rattle.std.proofs.Common.{◌≡◌, ℕ, ◌+◌, ◌<◌, ◌≤◌, Bool, true, false, cond, List, length, take, get_or, sym, ap, ◌∙◌, arith}
use Rattle.std.specs.List.{filter}
use Rattle.std.proofs.lemmas.List.Filters.{length-filter_more}
use Rattle.coz_types.specs.declared.record.Summary.{Summary}

pub counted : (p : Summary → Bool) (xs : List Summary) (i n new : ℕ) (x : Summary) → i < length xs → get_or xs i x ≡ x → new ≡ n + cond (p x) 1 0 → n ≡ length (filter p (take i xs)) → new ≡ length (filter p (take (i + 1) xs))
counted p xs i n new x lt at more so_far =
    more ∙ ap (λ (k : ℕ). k + cond (p x) 1 0) so_far
    ∙ ap (λ (y : Summary). length (filter p (take i xs)) + cond (p y) 1 0) (sym at)
    ∙ sym (length-filter_more p xs i x lt)

pub at_most_one : (b : Bool) → cond b 1 0 ≤ 1
at_most_one true = omega arith
at_most_one false = omega arith
