use Rattle.delay_credits.proofs.Credits.copy_from.Goals as goal

pub returns : goal.returns
returns c = cc
