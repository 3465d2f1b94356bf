use Rattle.std.proofs.Common.{◌≡◌, ℕ, ◌+◌, ◌++◌, None, length, refl, ap, ◌∙◌}
use Rattle.std.specs.List.{position_from}
use Rattle.std.proofs.lemmas.List.{take-append-drop}
use Rattle.std.proofs.lemmas.Result.{IfOk-weaker}
use Rattle.line_index.specs.Changes.{value_at, is_in_span}
use Rattle.line_index.proofs.Covering.{halves}
use Rattle.line_index.proofs.spans.+first_spans.Goals as goal

pub returns-clause-values : goal.returns-clause-values
returns-clause-values t c =
    let whole : c.split_at.result.0.now ++ c.split_at.result.1.now ≡ c.args.spans.now = rw (c.split_at.ensures.front, c.split_at.ensures.back) (take-append-drop _ _) in
    let front : (a : ℕ) → value_at a None c.deref.result.now ≡ position_from (is_in_span a) c.args.first c.split_at.result.0.now = λ a. ap (value_at a None) c.deref.ensures.value ∙ c.in_ok-front_changes.ensures.values a in
    let back : (a : ℕ) → value_at a None c.deref-2.result.now ≡ position_from (is_in_span a) (c.args.first + length c.split_at.result.0.now) c.split_at.result.1.now = λ a. ap (value_at a None) c.deref-2.ensures.value ∙ c.in_ok-back_changes.ensures.values a in
    IfOk-weaker c.merged.result _ _
    (λ changes values a. values a ∙ halves (is_in_span a) c.args.first (length c.split_at.result.0.now) c.args.spans.now c.split_at.result.0.now c.split_at.result.1.now (value_at a None c.deref.result.now) (value_at a None c.deref-2.result.now) whole refl (front a) (back a))
    c.merged.ensures.values
