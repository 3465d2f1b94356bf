use Rattle.std.proofs.Common.{ap, ◌∙◌}
use Rattle.coz_types.specs.Image.{ImageParts}
use Rattle.dwarf_lines.specs.Registers.{Table, view}
use Rattle.command_texts.specs.Text.{lines_text}
use Rattle.coz_commands.specs.Verdict.{text_verdict}
use Rattle.command_texts.proofs.IndexText.{listed}
use Rattle.coz_commands.proofs.lines.lines_answer.Goals as goal

pub returns-clause-verdict : goal.returns-clause-verdict
returns-clause-verdict c = λ other.
    let program = c.in_ok-program.program in
    ap text_verdict (c.in_ok-text.ensures ∙ listed (view program.table) program.image.areas program.index c.in_ok-program.ensures.indexed)
    ∙ c.in_ok-program.ensures.verdict (λ never. never) (λ (image : ImageParts) (table : Table). text_verdict (lines_text table image.areas))
