use Rattle.std.proofs.Common.{◌≡◌, ℕ, ◌∙◌, ap, None}
use Rattle.std.specs.List.{position_from}
use Rattle.std.proofs.lemmas.Result.{IfOk-weaker}
use Rattle.line_index.specs.Changes.{value_at, is_in_span}
use Rattle.line_index.proofs.Covering.{within_code}
use Rattle.line_index.proofs.spans.covering_rows.Goals as goal

pub returns-clause-values : goal.returns-clause-values
returns-clause-values c =
    let code : (a : ℕ) → value_at a None c.deref-3.result.now ≡ position_from (is_in_span a) 0 c.deref.result.now = λ a. ap (value_at a None) c.deref-3.ensures.value ∙ c.in_ok-executable.ensures.values a in
    let rows : (a : ℕ) → value_at a None c.deref-4.result.now ≡ position_from (is_in_span a) 0 c.deref-2.result.now = λ a. ap (value_at a None) c.deref-4.ensures.value ∙ c.in_ok-covering.ensures.values a in
    IfOk-weaker c.merged.result _ _
    (λ changes values a. values a ∙ within_code c.args.areas.now c.args.rows.now a c.deref.result.now c.deref-2.result.now (value_at a None c.deref-3.result.now) (value_at a None c.deref-4.result.now) (c.deref.ensures.value ∙ c.in_ok-code.ensures.spans) (c.deref-2.ensures.value ∙ c.in_ok-spans.ensures.spans) (code a) (rows a))
    c.merged.ensures.values
