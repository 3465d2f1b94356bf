use Rattle.coz_files.specs.InMemory.{entries}
use Rattle.page_values.proofs.Rights.{added_there, kept_there, right_added}
use Rattle.page_values.proofs.sources.read_new.Goals as goal

pub returns-clause-there : goal.returns-clause-there
returns-clause-there g c = added_there c.add.result (entries c.args.sources.now.items) (entries c.add.new.sources.items) c.args.path.now c.in_ok-bytes.bytes.items c.add.ensures

pub returns-clause-kept : goal.returns-clause-kept
returns-clause-kept g c = kept_there c.add.result (entries c.args.sources.now.items) (entries c.add.new.sources.items) c.args.path.now c.in_ok-bytes.bytes.items c.add.ensures

pub returns-clause-right : goal.returns-clause-right
returns-clause-right g c =
    right_added (g.F.Files.held c.args.files.now) c.args.folder.now (g.F.Files.faults c.args.files.now) (g.F.Files.faults c.read_below.new.files) c.add.result (entries c.args.sources.now.items) (entries c.add.new.sources.items) c.args.path.now c.in_ok-bytes.bytes.items
    c.read_below.ensures.later
    c.add.ensures
    c.in_ok-bytes.ensures.answer
