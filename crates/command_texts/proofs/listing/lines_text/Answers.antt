use Rattle.command_texts.proofs.listing.lines_text.Goals as goal

pub returns : goal.returns
returns c = c.finish.ensures c.new-text.result _ c.new-text.ensures.buffer c.new-text.ensures.text c.put_lines.ensures
