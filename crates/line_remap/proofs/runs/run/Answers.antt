use Rattle.std.proofs.Common.{arith}
use Rattle.line_remap.proofs.Texts.{raw_named, raw_text, some_length}
use Rattle.line_remap.proofs.runs.run.Goals as goal

pub returns-clause-writable : goal.returns-clause-writable
returns-clause-writable c =
    let text = c.requires.right.text in
    let path = c.args.mark.now.location.path.now in
    record {
      named = raw_named c.in_ok-path.path.items path c.in_ok-path.ensures (some_length path text.named);
      text = raw_text c.in_ok-path.path.items path c.in_ok-path.ensures text.text;
      numbered = text.numbered;
      small = text.small;
      within = omega arith;
    }
