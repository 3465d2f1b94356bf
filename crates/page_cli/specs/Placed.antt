-- Where the blocks and the curves of each line stand.
use Rattle.std.specs.Prelude.{List}
use Rattle.coz_types.specs.declared.record.Summary.{Summary}
use Rattle.page_values.specs.Lines.{ArePlaces, block_labels, curve_labels}
use Rattle.page_cli.specs.declared.view.AllCurves.{AllCurves}
use Rattle.page_cli.specs.declared.view.View.{View}

-- the places are those of these curves
abbrev pub AreInPlace : AllCurves → Type 0
AreInPlace all = ArePlaces (curve_labels all.curves.now) all.places.now

-- the places are those of these blocks
abbrev pub HasBlocks : View → List Summary → Type 0
HasBlocks view summaries = ArePlaces (block_labels summaries) view.blocks.now
