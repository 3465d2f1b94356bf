use Rattle.std.proofs.Common.{◌≡◌, ℕ, List, [], get_or, take, sym, subst, ◌∙◌, arith}
use Rattle.std.specs.List.{AllZip}
use Rattle.std.proofs.lemmas.List.{get_or_default, take_all}
use Rattle.std.proofs.lemmas.Option.{get_or_from_slice_get}
use Rattle.line_write.specs.Unit.{views}
use Rattle.line_remap.specs.Marks.{mark_of}
use Rattle.line_remap.specs.Runs.{Adds, IsRun}
use Rattle.line_remap.proofs.Adding.{adds_next}
use Rattle.line_remap.proofs.runs.push_runs.Goals as goal

pub loop-entry-preserved : goal.loop-entry-preserved
loop-entry-preserved c =
    let entries = c.entries-entry-items.result.now in
    let i = c.loop-entry.entry-index in
    let e = get_or entries i 0 in
    adds_next (IsRun c.args.index.now (mark_of c.args.mark.now)) entries i e (views c.args.out.now.list.items) c.loop-entry.out.list.items c.push.new.self.list.items c.in_ok-sequence.sequence c.loop-entry.invariant c.loop-entry-test.true
    (get_or_default entries i 0 e c.loop-entry-test.true) c.in_ok-sequence.ensures.run c.in_ok-sequence.ensures.writable c.in_ok-push.ensures

pub returns : goal.returns
returns c =
    let index = c.args.index.now in
    let m = mark_of c.args.mark.now in
    let entries = c.entries-entry-items.result.now in
    let i = c.loop-entry.entry-index in
    let whole : take i entries ≡ get_or index.entries m.position [] =
    take_all i entries (omega arith) ∙ sym (get_or_from_slice_get index.entries m.position entries [] c.entries-entry-items.ensures) in
    subst (λ (es : List ℕ). Adds (AllZip (IsRun index m) es) (views c.args.out.now.list.items) (views c.loop-entry.out.list.items)) whole c.loop-entry.invariant
