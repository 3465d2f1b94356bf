use Rattle.std.proofs.Common.{◌≡◌, ◌∙◌, ap, sym, ℕ, Some, Option, get_or, true, false, subst, List}
use Rattle.std.specs.BTreeMap.{get}
use Rattle.std.specs.Ordering.{nat_cmp}
use Rattle.elf_load.specs.declared.ElfKind.TheVariants.{SharedPage}
use Rattle.elf_load.specs.declared.tables.Segment.{Segment}
use Rattle.elf_load.specs.Faults.{entry_row}
use Rattle.elf_load.proofs.SpanLemmas.{SpansOf, Adds, asked, spans_more, other_key}
use Rattle.elf_load.proofs.AreaLemmas.{earlier, earlier_more, shares, found_here, passed_here, is_wide}
use Rattle.elf_load.proofs.pages.no_shared_page.Goals as goal

abbrev zero_segment : Segment
zero_segment = record { place = 0; kind = 0; flags = 0; offset = 0; vaddr = 0; filesz = 0; memsz = 0 }

pub returns-then-has_page_of : goal.returns-then-has_page_of
returns-then-has_page_of c =
    let areas = c.args.areas.now in
    let n = c.loop-area.area-index in
    let before = earlier n areas in
    let holds : shares before (get_or areas n zero_segment) ≡ true = sym (asked (get nat_cmp c.loop-area.spans) (get_or areas n zero_segment) before c.has_page_of.result c.loop-area.invariant.0 c.has_page_of.ensures) ∙ c.if-has_page_of.true in
    ap (λ (o : Option ℕ). entry_row SharedPage o) (sym c.loop-area.invariant.1 ∙ found_here shares n areas zero_segment c.loop-area-test.true holds)

pub loop-area-preserved : goal.loop-area-preserved
loop-area-preserved c =
    let areas = c.args.areas.now in
    let n = c.loop-area.area-index in
    let before = earlier n areas in
    let s = get_or areas n zero_segment in
    let alone : shares before s ≡ false = sym (asked (get nat_cmp c.loop-area.spans) s before c.has_page_of.result c.loop-area.invariant.0 c.has_page_of.ensures) ∙ c.if-has_page_of.false in
    let updates = c.in_ok-insert.ensures.updates in
    let adds : Adds (get nat_cmp c.loop-area.spans) (get nat_cmp c.insert.new.self) s = record {
      here = ap (λ (k : ℕ). get nat_cmp c.insert.new.self k) (sym c.first_page.ensures) ∙ (updates.1 ∙ ap (λ (k : ℕ). Some k) c.end_page.ensures.page);
      there = λ q other. updates.2 q (other_key c.first_page.result q (λ e. other (e ∙ c.first_page.ensures)));
    } in
    let more = spans_more (get nat_cmp c.loop-area.spans) (get nat_cmp c.insert.new.self) s before c.loop-area.invariant.0 alone (is_wide s (c.requires n zero_segment c.loop-area-test.true)) adds in (
      subst (λ (ss : List Segment). SpansOf (get nat_cmp c.insert.new.self) ss) (sym (earlier_more n areas zero_segment c.loop-area-test.true)) more,
      passed_here shares n areas zero_segment c.loop-area-test.true alone ∙ c.loop-area.invariant.1,
    )
