use Rattle.coz_files.proofs.GatheredLemmas.{gathers_then}
use Rattle.command_texts.specs.Text.{output_text}
use Rattle.command_texts.proofs.text.put_output.Goals as goal

pub returns : goal.returns
unfolding output_text
returns g c =
    gathers_then (gathers_then c.put_line.ensures c.push.ensures.gathers) c.push-2.ensures.gathers
