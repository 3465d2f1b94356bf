use Rattle.std.proofs.Common.{◌∙◌, sym, arith}
use Rattle.profile_labels.proofs.Spellings.{not_utf8, not_numeral, not_written, is_written, differ, agree}
use Rattle.profile_labels.proofs.numbers.decimal.Goals as goal

pub returns-in_default-clause-value : goal.returns-in_default-clause-value
returns-in_default-clause-value c = not_utf8 _ _ (omega arith) c.in_default.ensures.cases.0

pub returns-in_default-parse-clause-value : goal.returns-in_default-parse-clause-value
returns-in_default-parse-clause-value c = not_numeral _ _ _ (omega arith) c.in-Ok.ensures.cases.0 c.in_default-parse.ensures.value.0

pub returns-then-number-most-clause-value : goal.returns-then-number-most-clause-value
returns-then-number-most-clause-value c = not_written _ _ _ c.in-Ok-parse.number (omega arith) c.in-Ok.ensures.cases.0 c.in-Ok-parse.ensures.value.0.1 (λ e le. omega arith)

pub returns-then-ne-clause-value : goal.returns-then-ne-clause-value
returns-then-ne-clause-value c = not_written _ _ _ c.in-Ok-parse.number (omega arith) c.in-Ok.ensures.cases.0 c.in-Ok-parse.ensures.value.0.1 (λ e le. differ _ _ _ (c.as_bytes.ensures.value ∙ c.format-written.ensures.text) (sym c.if-ne.true ∙ c.ne.ensures) e)

pub returns-clause-value : goal.returns-clause-value
returns-clause-value c = is_written _ _ _ (omega arith) (agree _ _ _ (c.as_bytes.ensures.value ∙ c.format-written.ensures.text) (sym c.if-ne.false ∙ c.ne.ensures)) (omega arith)
