use Rattle.coz_files.proofs.PutsLemmas.{puts_stop, puts_then}
use Rattle.command_texts.specs.Printed.{text_bytes}
use Rattle.gain_cli.proofs.gain.put_gain.Goals as goal

pub returns-in-Done : goal.returns-in-Done
returns-in-Done g c = puts_then (rw c.in-Done.is at c.put_line.ensures) c.put_text.ensures

pub returns-in-Failed : goal.returns-in-Failed
returns-in-Failed g c = puts_stop (text_bytes c.args.gain.now.profile.text) (rw c.in-Failed.is at c.put_line.ensures)
