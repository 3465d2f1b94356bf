use Rattle.std.proofs.Common.{rules, ◌≡◌, Ok}
use Rattle.rv_asm.specs.Assembled.{assembled, view}
use Rattle.rv_asm.proofs.Made.{given}
use Rattle.rv_asm.proofs.assemble.Goals as goal

pub returns-clause-program : goal.returns-clause-program
unfolding assembled
returns-clause-program c =
    let value : assembled c.args.source.now ≡ Ok (view record { text = c.new.result; content = c.new-2.result; lines = c.new-3.result; entry = c.entry.result }) = search rules in
    given c.args.source.now _ value
