use Rattle.std.proofs.Common.{rules, ◌∙◌, sym}
use Rattle.profile_labels.proofs.Spellings.{differ, agree}
use Rattle.profile_reader.proofs.Addresses.{not_text, not_number, not_spelled, right_address}
use Rattle.profile_reader.proofs.numbers.parse_address.Goals as goal

pub returns-in_default : goal.returns-in_default
returns-in_default c = not_text c.args.text.now _ c.in_ok-digits.ensures.1 c.in_default.ensures.cases.0

pub returns-in_default-from_str_radix : goal.returns-in_default-from_str_radix
returns-in_default-from_str_radix c = not_number c.args.text.now _ (c.in-Ok.ensures.cases.0 ∙ c.in_ok-digits.ensures.1) c.in_default-from_str_radix.ensures.value

pub returns-then-ne : goal.returns-then-ne
returns-then-ne c = not_spelled c.args.text.now _ c.in-Ok-from_str_radix.number (c.in-Ok.ensures.cases.0 ∙ c.in_ok-digits.ensures.1) c.in-Ok-from_str_radix.ensures.value.1 (λ e. differ c.in_ok-digits.digits.now c.bytes.result.now _ (c.bytes.ensures ∙ c.new-written.ensures) (sym c.if-ne.true ∙ c.ne.ensures) (c.in_ok-digits.ensures.1 ∙ e))

pub returns : goal.returns
returns c = right_address c.args.text.now c.in-Ok-from_str_radix.number c.in_ok-digits.ensures.0 (sym c.in_ok-digits.ensures.1 ∙ agree c.in_ok-digits.digits.now c.bytes.result.now _ (c.bytes.ensures ∙ c.new-written.ensures) (sym c.if-ne.false ∙ c.ne.ensures)) (search rules)
