use Rattle.std.proofs.Common.{rules, arith, length, lit≤, ℕ, ◌≡◌, ◌/◌, ◌∙◌, false, Bool, List, [], replicate, ap, sym, subst}
use Rattle.std.specs.List.Sorted.{IsPermutation}
use Rattle.std.proofs.lemmas.List.{length-replicate}
use Rattle.std.proofs.lemmas.List.Sorted.{IsNonDecreasingBy-from_sort_by_key}
use Rattle.guest_memory.proofs.Order.{areas_rise}
use Rattle.coz_types.specs.declared.image.Area.{Area}
use Rattle.coz_types.specs.declared.image.Rights.{Rights}
use Rattle.guest_memory.specs.declared.Layout.{Layout}
use Rattle.guest_memory.specs.Memory.{MemoryMap, rights_at}
use Rattle.guest_memory.specs.Regions.{IsLayout, brk_base}
use Rattle.guest_areas.specs.Marks.{marked_pages}
use Rattle.guest_areas.specs.Space.{RegionMap, Space, space, SharesRegions}
use Rattle.guest_areas.specs.Kept.{regions_of}
use Rattle.guest_areas.specs.Entry.{stack_pointer, with_entry}
use Rattle.guest_areas.proofs.MarkLemmas.{marked-false}
use Rattle.guest_areas.proofs.Shares.{first_space-shares}
use Rattle.guest_areas.proofs.Lookups.{stack_rights}
use Rattle.guest_areas.proofs.Areas.new.Goals as goal

pub write_entry-requires : goal.write_entry-requires
write_entry-requires c =
    let valid : IsLayout c.args.memory.now.layout = subst (λ (l : Layout). IsLayout l) c.layout-layout.ensures.layout c.layout-layout.ensures.valid in
    ap (λ (m : MemoryMap). (rights_at m stack_pointer).write) c.requires
    ∙ ap (λ (r : Rights). r.write) (stack_rights c.args.image.now c.args.memory.now.layout valid)

pub returns-clause-ok : goal.returns-clause-ok
returns-clause-ok c =
    let flags : c.in_ok-mapped.mapped.items ≡ replicate (c.layout-layout.result.map / 4096) false = search rules in
    ap (λ (xs : List Area). space (regions_of xs c.layout-layout.result brk_base c.in_ok-mapped.mapped.items) c.write_entry.new.memory) (c.in_ok-areas.ensures.items ∙ c.areas.ensures.areas)
    ∙ ap (λ (l : Layout). space (regions_of c.args.image.now.areas l brk_base c.in_ok-mapped.mapped.items) c.write_entry.new.memory) c.layout-layout.ensures.layout
    ∙ ap (λ (ps : List ℕ). let r : RegionMap = record { areas = c.args.image.now.areas; layout = c.args.memory.now.layout; break = brk_base; mapped = ps } in space r c.write_entry.new.memory)
    (ap (λ (fs : List Bool). marked_pages 34603008 fs) flags ∙ marked-false 34603008 (c.layout-layout.result.map / 4096))
    ∙ ap (λ (m : MemoryMap). let r : RegionMap = record { areas = c.args.image.now.areas; layout = c.args.memory.now.layout; break = brk_base; mapped = [] } in space r m)
    (c.write_entry.ensures ∙ ap (λ (m : MemoryMap). with_entry c.args.image.now m) c.requires)

pub returns-clause-shared : goal.returns-clause-shared
returns-clause-shared c =
    subst (λ (s : Space). SharesRegions s.regions s.memory) (sym (returns-clause-ok c)) (first_space-shares c.args.image.now c.args.memory.now.layout)

pub invariant_of-result : goal.invariant_of-result
invariant_of-result c =
    let same : c.in_ok-areas.areas.items ≡ c.args.image.now.areas = c.in_ok-areas.ensures.items ∙ c.areas.ensures.areas in
    let before : c.in_ok-sorted.sorted.items ≡ c.args.image.now.areas = c.in_ok-sorted.ensures.items ∙ c.areas-2.ensures.areas in
    let moved : IsPermutation c.args.image.now.areas c.sort_by_key.new.self.items =
    subst (λ (xs : List Area). IsPermutation xs c.sort_by_key.new.self.items) before c.in_ok-sort_by_key.ensures.permutation in
    let up = IsNonDecreasingBy-from_sort_by_key (λ (a : Area). a.start) c.sort_by_key.new.self.items c.in_ok-sort_by_key.ensures.sorted (λ a r q k. search rules) in
    let flags : c.in_ok-mapped.mapped.items ≡ replicate (c.layout-layout.result.map / 4096) false = search rules in
    record {
      order = record {
        moved = subst (λ (xs : List Area). IsPermutation xs c.sort_by_key.new.self.items) (sym same) moved;
        rising = λ i j d l h. let x = up i j d l h in omega (arith, x);
        apart = areas_rise c.args.image.now c.sort_by_key.new.self.items c.areas.ensures.valid moved up;
      };
      kept = record {
        valid = c.layout-layout.ensures.valid;
        low = lit≤ tt;
        high = omega arith;
        each_page = ap (λ (fs : List Bool). length fs) flags ∙ length-replicate (c.layout-layout.result.map / 4096) false;
      };
    }
