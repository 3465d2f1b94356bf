use Rattle.std.proofs.Common.{ap, subst, ◌∙◌}
use Rattle.line_write.specs.Unit.{views}
use Rattle.line_remap.specs.Marks.{marks_of}
use Rattle.line_remap.specs.Runs.{Adds, AreKept}
use Rattle.elf_symbols.specs.Symbols.{ended}
use Rattle.function_sequences.specs.Sequences.{AreFunctions, falling, functions_in}
use Rattle.function_sequences.proofs.Joined.{joined, joined_writable}
use Rattle.function_sequences.proofs.program.sequences.Goals as goal

pub returns-clause-are : goal.returns-clause-are
returns-clause-are c =
    joined c.args.image.now c.args.index.now (marks_of c.args.marks.now) (views c.new-out.result.list.items) (views c.push_kept.new.out.list.items) (views c.push_functions.new.out.list.items)
    (ap views c.new-out.ensures) c.in_ok-push_kept.ensures
    (subst (λ names. Adds (AreFunctions c.args.index.now names (falling (functions_in c.args.image.now))) (views c.push_kept.new.out.list.items) (views c.push_functions.new.out.list.items)) (c.ended-names.ensures ∙ ap ended c.bytes_in.ensures)
    (subst (λ symbols. Adds (AreFunctions c.args.index.now c.ended-names.result.now symbols) (views c.push_kept.new.out.list.items) (views c.push_functions.new.out.list.items)) c.requires.found c.in_ok-push_functions.ensures))

pub returns-clause-writable : goal.returns-clause-writable
returns-clause-writable c =
    joined_writable (AreKept c.args.index.now (marks_of c.args.marks.now)) (AreFunctions c.args.index.now c.ended-names.result.now c.args.symbols.now) (views c.new-out.result.list.items) (views c.push_kept.new.out.list.items) (views c.push_functions.new.out.list.items)
    (ap views c.new-out.ensures) c.in_ok-push_kept.ensures c.in_ok-push_functions.ensures
