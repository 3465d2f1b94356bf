-- A hart that goes on, step by step.
use Rattle.std.proofs.Common.{ℕ, suc, ◌≡◌, ◌+◌, ◌<◌, true, arith, refl, sym, ap, subst, ◌∙◌, ⊎_elim}
use Rattle.std.proofs.lemmas.Bool.{cases_eq}
use Rattle.code_words.specs.Marks.{MarkMap, is_quiet_at}
use Rattle.rv_execute.specs.declared.hart.Step.TheVariants.{Next}
use Rattle.rv_execute.specs.Execution.{Setting, Executed}
use Rattle.hart_steps.specs.Steps.{step, after, moment, ticks_of, IsQuiet, GoesOn}

-- after q quiet steps from a start on, the setting and when its instruction is due
pub record HasGone (marks : MarkMap) (limit h : ℕ) (start : Setting) (net q : ℕ) (s : Setting) (due : ℕ) : Type 0 where
  pub reached : s ≡ after q h start
  pub quiet : (i : ℕ) → i < q → IsQuiet marks limit h (after i h start) (moment i h start net)
  pub moment : due ≡ moment q h start net

pub none_gone : (marks : MarkMap) (limit h : ℕ) (start : Setting) (net : ℕ) → HasGone marks limit h start net 0 start net
none_gone marks limit h start net = record { reached = refl; quiet = λ i below. absurd (omega arith); moment = refl }

pub one_more : (marks : MarkMap) (limit h : ℕ) (start : Setting) (net q : ℕ) (s : Setting) (due : ℕ) (e : Executed) (n later : ℕ) → HasGone marks limit h start net q s due
    → e ≡ step h s → e.step ≡ Next → is_quiet_at marks e.setting.hart.pc ≡ true → due + ticks_of e.setting < limit → n ≡ q + 1 → later ≡ due + ticks_of e.setting
    → HasGone marks limit h start net n e.setting later
one_more marks limit h start net q s due e n later g is goes unmarked below count sum =
    let same : e ≡ step h (after q h start) = is ∙ ap (step h) g.reached in
    let more : suc q ≡ n = omega (arith, count) in
    let this : IsQuiet marks limit h (after q h start) (moment q h start net) = record {
      goes = ap (λ (x : Executed). x.step) (sym same) ∙ goes;
      unmarked = ap (λ (x : Executed). is_quiet_at marks x.setting.hart.pc) (sym same) ∙ unmarked;
      due = subst (λ (x : Executed). moment q h start net + ticks_of x.setting < limit) same (subst (λ (d : ℕ). d + ticks_of e.setting < limit) g.moment below);
    } in
    record {
      reached = ap (λ (x : Executed). x.setting) same ∙ ap (λ (k : ℕ). after k h start) more;
      quiet = λ i within. ⊎_elim
          (λ (here : i ≡ q). subst (λ (j : ℕ). IsQuiet marks limit h (after j h start) (moment j h start net)) (sym here) this)
          (λ (no : i ≡ q → ⊥). g.quiet i (omega (arith, within, count, no)))
          (cases_eq i q);
      moment = sum ∙ ap (λ (d : ℕ). d + ticks_of e.setting) g.moment ∙ ap (λ (x : Executed). moment q h start net + ticks_of x.setting) same ∙ ap (λ (k : ℕ). moment k h start net) more;
    }

-- it goes on from there
pub goes_on : (marks : MarkMap) (limit h : ℕ) (start : Setting) (net q : ℕ) (s : Setting) (due : ℕ) (e : Executed) (later : ℕ) → HasGone marks limit h start net q s due
    → e ≡ step h s → e.step ≡ Next → is_quiet_at marks e.setting.hart.pc ≡ true → later ≡ due + ticks_of e.setting → GoesOn marks h (after q h start) due later
goes_on marks limit h start net q s due e later g is goes unmarked sum =
    let same : e ≡ step h (after q h start) = is ∙ ap (step h) g.reached in
    record {
      goes = ap (λ (x : Executed). x.step) (sym same) ∙ goes;
      unmarked = ap (λ (x : Executed). is_quiet_at marks x.setting.hart.pc) (sym same) ∙ unmarked;
      next = sum ∙ ap (λ (x : Executed). due + ticks_of x.setting) same;
    }
