use Rattle.std.proofs.Common.{◌∙◌, sym}
use Rattle.profile_reader.proofs.Ends.{next_at_end, past_at_end}
use Rattle.profile_reader.proofs.scan.next_item.Goals as goal

pub returns-then-is_empty-clause-item : goal.returns-then-is_empty-clause-item
returns-then-is_empty-clause-item c = next_at_end _ (sym c.is_empty.ensures ∙ c.if-is_empty.true)

pub returns-then-is_empty-clause-behind : goal.returns-then-is_empty-clause-behind
returns-then-is_empty-clause-behind c = past_at_end _ _ (sym c.is_empty.ensures ∙ c.if-is_empty.true)
