-- Numbers of lines.
use Rattle.std.proofs.Common.{◌≡◌, ◌≢◌, ℕ, ◌+◌, ◌^◌, ◌<◌, ◌≤◌, inl, inr, ⊎_elim, true, List, length, get_or, Option, Some, None, is_some, refl, sym, ap, ◌∙◌, arith}
use Rattle.std.proofs.lemmas.Bool.{cases_eq, cases_lt}
use Rattle.std.proofs.lemmas.List.{get_or-set_same, get_or-set_other, length-set}
use Rattle.line_index.specs.Changes.{or_else}
use Rattle.line_regions.specs.Lines.{AreClaims, claimed, number_at}

pub first_claims : (numbers : List (Option ℕ)) (next : List ℕ) (count : ℕ) → length numbers ≡ count → count < 2 ^ 32 → length next ≡ count → ((k : ℕ) → k < count → get_or next k 0 ≡ k + 1) → AreClaims numbers next
first_claims numbers next count many few as_many each = record {
  as_many = as_many ∙ sym many;
  few = omega (arith, many, few);
  forward = λ k lt. (let is = each k (omega (arith, lt, many)) in omega (arith, is));
  passed = λ k j lt behind before. (let is = each k (omega (arith, lt, many)) in absurd (omega (arith, is, behind, before)));
}

-- ---- one more line that has a number

or_else_some : (o : Option ℕ) (n : ℕ) → is_some o ≡ true → o ≡ or_else o (Some n)
or_else_some None n e = absurd cc
or_else_some (Some x) n e = refl

-- the lines from one on up to another have the number, unless they had one
pub record HaveNumber (old new : List (Option ℕ)) (start line end number : ℕ) : Type 0 where
  pub as_many : length new ≡ length old
  pub from : start ≤ line
  pub within : (k : ℕ) → start ≤ k → k < line → k < end → number_at new k ≡ or_else (number_at old k) (Some number)
  pub others : (k : ℕ) → (start ≤ k → k < line → k < end → ⊥) → number_at new k ≡ number_at old k

pub none_yet : (old : List (Option ℕ)) (start end number : ℕ) → HaveNumber old old start start end number
none_yet old start end number = record {
  as_many = refl;
  from = omega arith;
  within = λ k from before in_end. absurd (omega (arith, from, before));
  others = λ k out. refl;
}

pub one_claimed : (old cur new : List (Option ℕ)) (start line next end number : ℕ) → end ≤ length old → line < end → HaveNumber old cur start line end number → new ≡ claimed cur line number → line < next → ((j : ℕ) → line < j → j < next → is_some (number_at cur j) ≡ true) → HaveNumber old new start next end number
one_claimed old cur new start line next end number fits before have made forward passed = record {
  as_many = ap length made ∙ length-set cur line (or_else (number_at cur line) (Some number)) ∙ have.as_many;
  from = omega (arith, have.from, forward);
  within = within;
  others = others;
}
  where
    value : Option ℕ
    value = or_else (number_at cur line) (Some number)

    kept : (k : ℕ) → k ≢ line → number_at new k ≡ number_at cur k
    kept k differs = ap (λ (ns : List (Option ℕ)). number_at ns k) made ∙ get_or-set_other cur line k value None differs

    here : (k : ℕ) → k ≡ line → number_at new k ≡ or_else (number_at old k) (Some number)
    here k same =
        ap (λ (j : ℕ). number_at new j) same
        ∙ ap (λ (ns : List (Option ℕ)). number_at ns line) made
        ∙ get_or-set_same cur line value None (omega (arith, before, fits, have.as_many))
        ∙ ap (λ o. or_else o (Some number)) (have.others line (λ from less in_end. absurd (omega (arith, less))))
        ∙ ap (λ (j : ℕ). or_else (number_at old j) (Some number)) (sym same)

    behind : (k : ℕ) → line < k → k < next → number_at new k ≡ or_else (number_at old k) (Some number)
    behind k later less =
        let some : is_some (number_at cur k) ≡ true = passed k later less in
        let same : number_at cur k ≡ number_at old k = have.others k (λ from less in_end. absurd (omega (arith, less, later))) in
        kept k (λ e. absurd (omega (arith, e, later))) ∙ same ∙ or_else_some (number_at old k) number (ap is_some (sym same) ∙ some)

    within : (k : ℕ) → start ≤ k → k < next → k < end → number_at new k ≡ or_else (number_at old k) (Some number)
    within k from less in_end =
        ⊎_elim (λ earlier. kept k (λ e. absurd (omega (arith, e, earlier))) ∙ have.within k from earlier in_end)
        (λ le. elim (cases_eq k line) [ inl same ↦ here k same | inr differs ↦ behind k (omega (arith, le, differs)) less ])
        (cases_lt k line)

    others : (k : ℕ) → (start ≤ k → k < next → k < end → ⊥) → number_at new k ≡ number_at old k
    others k out =
        kept k (λ e. out (omega (arith, e, have.from)) (omega (arith, e, forward)) (omega (arith, e, before)))
        ∙ have.others k (λ from less in_end. out from (omega (arith, less, forward)) in_end)
