use Rattle.std.proofs.Common.{◌∙◌, ap, sym, Some}
use Rattle.command_texts.proofs.IndexText.{has_line}
use Rattle.command_texts.proofs.listing.put_index_line.Goals as goal

pub returns : goal.returns
returns g c =
    has_line c.args.index.now c.args.line.0 c.bytes.result.now c.entries.result.now (c.label-label.ensures.label ∙ ap Some (sym c.bytes.ensures)) c.entries.ensures c.put_labelled.ensures
