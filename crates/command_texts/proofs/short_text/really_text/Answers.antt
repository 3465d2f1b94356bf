use Rattle.command_texts.proofs.short_text.really_text.Goals as goal

pub returns : goal.returns
returns c = c.finish.ensures c.new-text.result _ c.new-text.ensures.buffer c.new-text.ensures.text c.put_short.ensures
