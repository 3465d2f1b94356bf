use Rattle.std.proofs.Common.{rules, arith}
use Rattle.profile_reader.proofs.Cuts.{newline_item, first_item}
use Rattle.profile_reader.proofs.item.item_length.Goals as goal

pub returns-then-text-eq10-clause-item : goal.returns-then-text-eq10-clause-item
returns-then-text-eq10-clause-item c = newline_item c.args.text.now c.requires (search rules)

pub returns-then-is_cut-clause-item : goal.returns-then-is_cut-clause-item
returns-then-is_cut-clause-item c = first_item c.loop-i.i c.args.text.now (search rules) (search rules) (search rules) c.loop-i.invariant (λ _. search rules)

pub returns-clause-item : goal.returns-clause-item
returns-clause-item c = first_item _ c.args.text.now c.requires (search rules) (search rules) (λ i lo hi. c.loop-i.invariant i lo (search rules)) (λ lt. absurd (omega arith))
