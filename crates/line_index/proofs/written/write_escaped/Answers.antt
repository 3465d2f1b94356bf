use Rattle.line_index.proofs.WrittenFiles.{bytes_fit}
use Rattle.line_index.proofs.written.write_escaped.Goals as goal

pub returns-clause-bytes : goal.returns-clause-bytes
returns-clause-bytes c = bytes_fit c.args.bytes.now c.type_inv.bytes

pub returns-in_err-push_escaped-clause-bytes : goal.returns-in_err-push_escaped-clause-bytes
returns-in_err-push_escaped-clause-bytes c = bytes_fit c.args.bytes.now c.type_inv.bytes
