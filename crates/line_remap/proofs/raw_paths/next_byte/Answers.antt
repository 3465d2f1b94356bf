use Rattle.line_remap.proofs.Escapes.{form_back}
use Rattle.line_remap.proofs.raw_paths.next_byte.Goals as goal

pub returns-then-path-eq-ESCAPE-clause-form : goal.returns-then-path-eq-ESCAPE-clause-form
returns-then-path-eq-ESCAPE-clause-form c = form_back c.args.path.now c.digit.result c.digit-then-path-eq-ESCAPE.result c.requires.some c.if-path-eq-ESCAPE.true c.requires.written c.digit.ensures.value c.digit-then-path-eq-ESCAPE.ensures.value
