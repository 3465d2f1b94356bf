use Rattle.std.proofs.Common.{rules, ◌≡◌, List, [], ◌∷◌, ◌++◌, map, arith, sym, ap, ◌∙◌, subst}
use Rattle.std.specs.List.Sorted.{IsPermutation}
use Rattle.std.proofs.lemmas.List.{take_all}
use Rattle.std.proofs.lemmas.List.Sorted.{IsNonDecreasingBy-from_sort_by_key, IsPermutation-append_left}
use Rattle.std.proofs.lemmas.Result.{IfOk-weaker}
use Rattle.guest_memory.specs.declared.Span.{Span}
use Rattle.guest_memory.specs.Spans.{AreInOrder}
use Rattle.guest_memory.specs.Shown.{AreLaid}
use Rattle.guest_memory.specs.Whole.{area_span, region_spans, known_spans, AreWhole}
use Rattle.guest_memory.proofs.Known.{whole}
use Rattle.guest_memory.proofs.Order.{wanted_order}
use Rattle.guest_memory.proofs.lay.spans.Goals as goal

-- the spans that are laid: those of the areas, sorted, and the regions
wanted : (c : goal.After-deref) → c.deref.result.now ≡ c.sort_by_key.new.self.items ++ region_spans c.args.layout
wanted c =
    c.deref.ensures.value ∙ c.in_ok-extend_from_slice.ensures.items
    ∙ (λ i. c.sort_by_key.new.self.items ++ (c.span-2.ensures i ∷ c.span-3.ensures i ∷ c.span-4.ensures i ∷ []))

moved : (c : goal.After-deref) → IsPermutation (map area_span c.args.image.now.areas) c.sort_by_key.new.self.items
moved c =
    let made : c.loop-area.wanted.items ≡ map area_span c.args.image.now.areas =
    c.loop-area.invariant
    ∙ ap (map area_span) (take_all c.loop-area.area-index c.areas-area-items.result.now (omega arith) ∙ c.areas-area-items.ensures.areas) in
    subst (λ (xs : List Span). IsPermutation xs c.sort_by_key.new.self.items) made c.in_ok-sort_by_key.ensures.permutation

known : (c : goal.After-deref) → IsPermutation (known_spans c.args.image.now.areas c.args.layout) c.deref.result.now
known c =
    subst (λ (xs : List Span). IsPermutation (known_spans c.args.image.now.areas c.args.layout) xs) (sym (wanted c))
    (IsPermutation-append_left (region_spans c.args.layout) (map area_span c.args.image.now.areas) c.sort_by_key.new.self.items (moved c))

pub lay-requires : goal.lay-requires
lay-requires c =
    let up = IsNonDecreasingBy-from_sort_by_key (λ (t : Span). t.first) c.sort_by_key.new.self.items c.in_ok-sort_by_key.ensures.sorted (λ a r q k. search rules) in
    subst (AreInOrder 0) (sym (wanted c)) (wanted_order c.args.image.now c.args.layout c.sort_by_key.new.self.items c.areas-area-items.ensures.valid c.requires (moved c) up)

pub returns : goal.returns
returns c =
    IfOk-weaker c.lay.result (λ laid. AreLaid c.deref.result.now laid.1 laid.0.items) (λ laid. AreWhole c.args.image.now.areas c.args.layout laid.1 laid.0.items)
    (λ laid is. whole c.args.image.now.areas c.args.layout c.deref.result.now laid.0.items laid.1 (known c.before.before) is) c.lay.ensures
