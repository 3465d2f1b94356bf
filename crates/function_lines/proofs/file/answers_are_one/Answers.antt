use Rattle.function_lines.proofs.One.{answers_one}
use Rattle.function_lines.proofs.file.answers_are_one.Goals as goal

pub returns : goal.returns
returns c = answers_one
