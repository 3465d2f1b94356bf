use Rattle.std.proofs.Common.{ap, ◌∙◌}
use Rattle.page_words.specs.Words.{request_in, request_of}
use Rattle.page_words.proofs.asked.read_page.Goals as goal

pub returns : goal.returns
unfolding request_in
returns c = c.request_of.ensures ∙ ap request_of c.scan_of.ensures
