use Rattle.guest_calls.proofs.Rows.{exit-is}
use Rattle.guest_calls.proofs.Rousing.{still-cleared}
use Rattle.guest_calls.proofs.Guest.exit.Goals as goal

pub leave-requires : goal.leave-requires
leave-requires c = still-cleared c.args.self.now c.clear.new.self c.args.hart.0 c.clear.ensures.cleared c.requires.running

pub returns : goal.returns
returns c =
    exit-is c.args.self.now c.clear.new.self c.args.hart.0 c.clear.new.started c.leave.new.self c.leave.result c.clear.ensures.woken c.clear.ensures.cleared c.leave.ensures
