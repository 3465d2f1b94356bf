use Rattle.std.proofs.Common.{rules}
use Rattle.profile_book.proofs.Gathering.{gathers_as, placed_more, placed_whole}
use Rattle.command_texts.proofs.Flat.{hart_line, harts_flat}
use Rattle.command_texts.proofs.text.put_harts.Goals as goal

pub loop-number-preserved : goal.loop-number-preserved
loop-number-preserved g c = placed_more hart_line c.args.accounts.now c.loop-number.number _ (search rules) (search rules) c.loop-number.invariant c.put_hart.ensures

pub returns : goal.returns
returns g c = gathers_as (harts_flat 0 c.args.accounts.now) (placed_whole hart_line c.args.accounts.now c.loop-number.number (search rules) c.loop-number.invariant)
