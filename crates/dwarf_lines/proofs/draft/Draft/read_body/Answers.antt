use Rattle.std.proofs.Common.{arith}
use Rattle.std.specs.Int.{w32}
use Rattle.std.proofs.lemmas.List.{length-map}
use Rattle.dwarf_lines.specs.Registers.{file_view}
use Rattle.dwarf_lines.specs.Views.{header_view, sections_view}
use Rattle.dwarf_lines.proofs.Steps.{on_ok}
use Rattle.dwarf_lines.proofs.Shorter.{number_left, announced_left}
use Rattle.dwarf_lines.proofs.Fewer.{sizes_most, header_few}
use Rattle.dwarf_lines.proofs.draft.Draft.read_body.Goals as goal

pub run-requires : goal.run-requires
run-requires c =
    let sizes = sizes_most c.args.version c.args.body c.address_sizes.new.cursor c.in_ok-address_sizes.ensures in
    let size = number_left w32 c.address_sizes.new.cursor c.word.new.cursor c.in_ok-size.size c.in_ok-size.ensures in
    let inside = announced_left c.place-place.result c.in_ok-size.size c.word.new.cursor c.in_ok-fields.fields c.announced.new.cursor c.in_ok-fields.ensures in
    let few = header_few c.args.version (sections_view c.args.sections.now) c.in_ok-fields.fields (header_view c.in_ok-header.header) c.in_ok-header.ensures.exact in
    let len = c.in_ok-extend_from_slice.ensures.len in
    omega (arith, sizes, size, inside.0, inside.1, few, len, c.as_slice.ensures.len, length-map c.extend_from_slice.new.self.items file_view, length-map c.args.self.now.files.items file_view, length-map c.in_ok-header.header.files.items file_view)

pub returns-clause-room : goal.returns-clause-room
returns-clause-room c =
    let sizes = sizes_most c.args.version c.args.body c.address_sizes.new.cursor c.in_ok-address_sizes.ensures in
    let size = number_left w32 c.address_sizes.new.cursor c.word.new.cursor c.in_ok-size.size c.in_ok-size.ensures in
    let inside = announced_left c.place-place.result c.in_ok-size.size c.word.new.cursor c.in_ok-fields.fields c.announced.new.cursor c.in_ok-fields.ensures in
    let few = header_few c.args.version (sections_view c.args.sections.now) c.in_ok-fields.fields (header_view c.in_ok-header.header) c.in_ok-header.ensures.exact in
    let len = c.in_ok-extend_from_slice.ensures.len in
    on_ok c.run.result _ _ (λ room. omega (arith, room, sizes, size, inside.0, inside.1, few, len, c.as_slice.ensures.len, length-map c.extend_from_slice.new.self.items file_view, length-map c.args.self.now.files.items file_view, length-map c.in_ok-header.header.files.items file_view)) c.run.ensures.room
