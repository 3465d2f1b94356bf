use Rattle.std.proofs.Common.{ℕ, ◌≡◌, ◌+◌, ◌-◌, ◌/◌, ◌≤◌, ◌<◌, Bool, false, List, length, get_or, arith, sym, ap, ◌∙◌, Some, ⊎_elim}
use Rattle.std.proofs.lemmas.Bool.{cases_lt}
use Rattle.guest_areas.specs.Marks.{marked_pages}
use Rattle.guest_areas.specs.Space.{RegionMap, free_run}
use Rattle.guest_areas.proofs.FreeRuns.{free_run_from, none_short, search_is, search_taken, search_found}
use Rattle.guest_areas.proofs.Areas.free_run.Goals as goal
use Rattle.guest_areas.proofs.Areas.free_run.Goals.{then-is_mapped, else-is_mapped}

pub overflow_add-free : goal.overflow_add-free
overflow_add-free c = omega (arith, c.loop-index.invariant.short)

pub loop-index-init : goal.loop-index-init
loop-index-init c = record {
  short = c.requires;
  back = omega arith;
  open_ = λ k from below. absurd (omega arith);
  search_ = ap (λ (n : ℕ). free_run_from c.args.self.now c.args.count n 34603008)
      (let e : length c.deref-is_mapped-items.result.now - 0 ≡ length c.deref-is_mapped-items.result.now = omega arith in e);
}

-- the same search at the same index of a candidate
same_candidate : (r : RegionMap) (count n a b : ℕ) → a ≡ b → free_run_from r count (n - a) (34603008 + a) ≡ free_run_from r count (n - b) (34603008 + b)
same_candidate r count n a b e = ap (λ (x : ℕ). free_run_from r count (n - x) (34603008 + x)) e

pub loop-index-preserved : goal.loop-index-preserved
loop-index-preserved c =
    let mapped : c.args.self.now.mapped ≡ marked_pages 34603008 c.deref-is_mapped-items.result.now =
    ap (λ (x : RegionMap). x.mapped) (sym c.self.view_is) ∙ ap (λ (xs : List Bool). marked_pages 34603008 xs) (sym c.deref-is_mapped-items.ensures.value) in
    let short : c.loop-index.free < c.args.count = c.loop-index.invariant.short in
    let back : c.loop-index.free ≤ c.loop-index.index = c.loop-index.invariant.back in
    let differ : c.if-is_mapped.free ≡ c.args.count → ⊥ = c.if-free-count.false in
    elim c.if-is_mapped.branch [
      | then-is_mapped w ↦ record {
        short = omega arith;
        back = omega arith;
        open_ = λ k from below. absurd (omega arith);
        search_ = same_candidate c.args.self.now c.args.count (length c.deref-is_mapped-items.result.now) (c.loop-index.index + 1 - c.if-is_mapped.free) (c.loop-index.index + 1) (omega arith)
            ∙ sym (search_taken c.args.self.now 34603008 c.args.count c.loop-index.index c.loop-index.free c.deref-is_mapped-items.result.now mapped short back c.loop-index-test.true w.if-is_mapped.true)
            ∙ c.loop-index.invariant.search_;
      }
      | else-is_mapped w ↦ record {
        short = omega arith;
        back = omega arith;
        open_ = λ k from below. ⊎_elim (λ (l : k < c.loop-index.index). c.loop-index.invariant.open_ k (omega arith) l)
            (λ (l : c.loop-index.index ≤ k). ap (λ (i : ℕ). get_or c.deref-is_mapped-items.result.now i false) (let e : k ≡ c.loop-index.index = omega arith in e) ∙ w.if-is_mapped.false)
            (cases_lt k c.loop-index.index);
        search_ = same_candidate c.args.self.now c.args.count (length c.deref-is_mapped-items.result.now) (c.loop-index.index + 1 - c.if-is_mapped.free) (c.loop-index.index - c.loop-index.free) (omega arith)
            ∙ c.loop-index.invariant.search_;
      }
    ]

-- the search over all of the region
whole : (r : RegionMap) (count n : ℕ) → 0 < count → n ≡ r.layout.map / 4096 → free_run_from r count n 34603008 ≡ free_run r count
whole r count n some e = ap (λ (x : ℕ). free_run_from r count x 34603008) e ∙ search_is r count (r.layout.map / 4096) 34603008 some

pub returns-then-free-count-clause-page : goal.returns-then-free-count-clause-page
returns-then-free-count-clause-page c =
    let mapped : c.args.self.now.mapped ≡ marked_pages 34603008 c.deref-is_mapped-items.result.now =
    ap (λ (x : RegionMap). x.mapped) (sym c.self.view_is) ∙ ap (λ (xs : List Bool). marked_pages 34603008 xs) (sym c.deref-is_mapped-items.ensures.value) in
    let size : length c.deref-is_mapped-items.result.now ≡ c.args.self.now.layout.map / 4096 =
    ap (λ (xs : List Bool). length xs) c.deref-is_mapped-items.ensures.value ∙ c.self.invariant.kept.each_page ∙ ap (λ (x : RegionMap). x.layout.map / 4096) c.self.view_is in
    let some : 0 < c.args.count = c.requires in
    let back : c.loop-index.free ≤ c.loop-index.index = c.loop-index.invariant.back in
    let all : c.if-is_mapped.free ≡ c.args.count = c.if-free-count.true in
    elim c.if-is_mapped.branch [
      | then-is_mapped w ↦ absurd (omega arith)
      | else-is_mapped w ↦
          ap (λ (x : ℕ). Some (34603008 + x)) (let e : c.loop-index.index + 1 - c.args.count ≡ c.loop-index.index - c.loop-index.free = omega arith in e)
          ∙ sym (search_found c.args.self.now 34603008 c.args.count c.loop-index.index c.loop-index.free c.deref-is_mapped-items.result.now mapped (omega arith) back c.loop-index-test.true c.loop-index.invariant.open_ w.if-is_mapped.false)
          ∙ c.loop-index.invariant.search_ ∙ whole c.args.self.now c.args.count (length c.deref-is_mapped-items.result.now) c.requires size
    ]

pub returns-clause-page : goal.returns-clause-page
returns-clause-page c =
    let size : length c.deref-is_mapped-items.result.now ≡ c.args.self.now.layout.map / 4096 =
    ap (λ (xs : List Bool). length xs) c.deref-is_mapped-items.ensures.value ∙ c.self.invariant.kept.each_page ∙ ap (λ (x : RegionMap). x.layout.map / 4096) c.self.view_is in
    let short : c.loop-index.free < c.args.count = c.loop-index.invariant.short in
    let back : c.loop-index.free ≤ c.loop-index.index = c.loop-index.invariant.back in
    let end : length c.deref-is_mapped-items.result.now ≤ c.loop-index.index = c.loop-index-test.false in
    let top = c.loop-index.auto.index-end in
    sym (none_short c.args.self.now c.args.count (length c.deref-is_mapped-items.result.now - (c.loop-index.index - c.loop-index.free)) (34603008 + (c.loop-index.index - c.loop-index.free)) (omega arith))
    ∙ c.loop-index.invariant.search_ ∙ whole c.args.self.now c.args.count (length c.deref-is_mapped-items.result.now) c.requires size

pub returns-then-free-count-clause-within : goal.returns-then-free-count-clause-within
returns-then-free-count-clause-within c =
    let size : length c.deref-is_mapped-items.result.now ≡ c.args.self.now.layout.map / 4096 =
    ap (λ (xs : List Bool). length xs) c.deref-is_mapped-items.ensures.value ∙ c.self.invariant.kept.each_page ∙ ap (λ (x : RegionMap). x.layout.map / 4096) c.self.view_is in
    let all : c.if-is_mapped.free ≡ c.args.count = c.if-free-count.true in
    let back : c.loop-index.free ≤ c.loop-index.index = c.loop-index.invariant.back in
    elim c.if-is_mapped.branch [
      | then-is_mapped w ↦ let some : 0 < c.args.count = c.requires in absurd (omega arith)
      | else-is_mapped w ↦ omega arith
    ]
