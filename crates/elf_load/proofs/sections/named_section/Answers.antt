use Rattle.std.proofs.Common.{◌≡◌, ◌∙◌, ◌+◌, ◌<◌, ◌≤◌, ◌*◌, ap, sym, arith, Bool, true, false, cond, Some, None, find}
use Rattle.elf_load.specs.declared.tables.Section.{Section}
use Rattle.elf_load.specs.Tables.{sections, shnum, shoff}
use Rattle.elf_load.proofs.Rows.{section_fits}
use Rattle.elf_load.proofs.SectionLemmas.{wanted, left, next, both_hold, not_named, no_bytes, none_left}
use Rattle.elf_load.proofs.sections.named_section.Goals as goal
use Rattle.elf_load.proofs.sections.named_section.Goals.{else-has_bytes-via-then-has_bytes+else-has_name, else-has_bytes-via-else-has_bytes}

pub returns-then-has_name-clause-found : goal.returns-then-has_name-clause-found
returns-then-has_name-clause-found c =
    let file = c.args.file.now in
    let name = c.args.name.now in
    let s = c.nth_section-section.result in
    let below : c.loop-index.index < shnum file = omega (arith, c.half_at-index-end.ensures) in
    let holds : wanted file name s ≡ true = both_hold file name c.names-names.result.now s c.has_bytes.result c.has_name.result c.names-names.ensures c.has_bytes.ensures c.has_name.ensures c.if-has_bytes.true c.if-has_name.true in
    let here : Some s ≡ find (wanted file name) (sections file) = sym (next file name c.loop-index.index s below c.nth_section-section.ensures ∙ ap (λ (b : Bool). cond b (Some s) (find (wanted file name) (left file (c.loop-index.index + 1)))) holds) ∙ c.loop-index.invariant in
    here

pub returns-then-has_name-clause-within : goal.returns-then-has_name-clause-within
returns-then-has_name-clause-within c =
    let file = c.args.file.now in
    let k = c.loop-index.index in
    let below : k < shnum file = omega (arith, c.half_at-index-end.ensures) in
    let place : c.nth_section-section.result.place ≡ shoff file + 64 * k = ap (λ (s : Section). s.place) c.nth_section-section.ensures in
    omega (arith, place, section_fits file k c.requires below)

pub loop-index-preserved : goal.loop-index-preserved
loop-index-preserved c =
    let file = c.args.file.now in
    let name = c.args.name.now in
    let s = c.nth_section-section.result in
    let below : c.loop-index.index < shnum file = omega (arith, c.half_at-index-end.ensures) in
    let fails : wanted file name s ≡ false = elim c.else-has_bytes.branch [
      | else-has_bytes-via-then-has_bytes+else-has_name w ↦ not_named file name c.names-names.result.now s w.has_name.result c.names-names.ensures w.has_name.ensures w.if-has_name.false
      | else-has_bytes-via-else-has_bytes w ↦ no_bytes file name s c.has_bytes.result c.has_bytes.ensures w.if-has_bytes.false
    ] in
    sym (next file name c.loop-index.index s below c.nth_section-section.ensures ∙ ap (λ (b : Bool). cond b (Some s) (find (wanted file name) (left file (c.loop-index.index + 1)))) fails) ∙ c.loop-index.invariant

pub returns-clause-found : goal.returns-clause-found
returns-clause-found c =
    let file = c.args.file.now in
    let name = c.args.name.now in
    let all : shnum file ≤ c.loop-index.index = omega (arith, c.half_at-index-end.ensures) in
    sym (none_left file name c.loop-index.index all) ∙ c.loop-index.invariant
