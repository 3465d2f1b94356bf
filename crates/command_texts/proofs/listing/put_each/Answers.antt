use Rattle.std.proofs.Common.{rules}
use Rattle.profile_book.proofs.Gathering.{line_more}
use Rattle.command_texts.specs.Text.{more_address}
use Rattle.command_texts.proofs.listing.put_each.Goals as goal

pub loop-address-preserved : goal.loop-address-preserved
loop-address-preserved g c = line_more more_address c.args.addresses.now c.loop-address.address-index _ (search rules) (search rules) c.loop-address.invariant c.put_more.ensures
