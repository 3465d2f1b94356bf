use Rattle.std.proofs.Common.{ap, ◌∙◌}
use Rattle.line_index.specs.Changes.{changes_of}
use Rattle.line_index.specs.Lists.{addresses_of}
use Rattle.line_index.proofs.Marked.{starts_below, entries_made}
use Rattle.line_index.proofs.entries.entries.Goals as goal

pub lists_of-requires-clause-below : goal.lists_of-requires-clause-below
lists_of-requires-clause-below c = starts_below c.args.count (changes_of c.args.changes.now) c.deref.result.now c.requires.below (λ k. ap (addresses_of k) c.deref.ensures.value ∙ c.in_ok-marks.ensures.each k)

pub returns : goal.returns
returns c = entries_made c.lists_of.result c.args.count (changes_of c.args.changes.now) c.deref.result.now (λ k. ap (addresses_of k) c.deref.ensures.value ∙ c.in_ok-marks.ensures.each k) c.lists_of.ensures.as_many c.lists_of.ensures.each
