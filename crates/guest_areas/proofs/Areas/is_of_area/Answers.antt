use Rattle.std.proofs.Common.{rules, ℕ, ◌≡◌, ◌-◌, ◌≤◌, ◌<◌, true, false, leb, List, length, get_or, arith, sym, ap, ◌∙◌, subst, ⊎_elim}
use Rattle.std.specs.List.{list_any}
use Rattle.std.specs.List.Sorted.{IsNonDecreasingBy}
use Rattle.std.proofs.lemmas.Bool.{cases_lt, both_ways, leb-true, le-leb}
use Rattle.std.proofs.lemmas.List.Sorted.{IsPartitionPoint-from_clause, IsPartitionedBy-leb}
use Rattle.coz_types.specs.declared.image.Area.{Area}
use Rattle.guest_memory.specs.Regions.{page_of}
use Rattle.guest_areas.specs.Space.{RegionMap, is_in_area}
use Rattle.guest_areas.proofs.KnownPages.{below_areas, last_area}
use Rattle.guest_areas.proofs.Areas.is_of_area.Goals as goal

above_page : (x page : ℕ) → leb x page ≡ false → page < x
above_page x page f =
    ⊎_elim (λ (l : page < x). l) (λ (l : x ≤ page). absurd (both_ways (leb x page) f (le-leb x page l))) (cases_lt page x)

pub returns-then-after-eq0 : goal.returns-then-after-eq0
returns-then-after-eq0 c =
    let up : IsNonDecreasingBy (λ (a : Area). page_of a.start) c.deref.result.now =
    subst (λ (xs : List Area). IsNonDecreasingBy (λ (a : Area). page_of a.start) xs) (sym c.deref.ensures.value) c.self.invariant.order.rising in
    let parted = IsPartitionedBy-leb (λ (a : Area). page_of a.start) c.deref.result.now c.args.page up in
    let point = IsPartitionPoint-from_clause (λ (a : Area). leb (page_of a.start) c.args.page) c.deref.result.now c.partition_point-after.result c.partition_point-after.ensures.partitioned parted (λ a r q k. search rules) in
    sym (below_areas c.args.page c.self.inside.areas.items c.self.inside.sorted.items c.self.invariant.order
    (λ k d h. above_page (page_of (get_or c.self.inside.sorted.items k d).start) c.args.page
    (ap (λ (xs : List Area). leb (page_of (get_or xs k d).start) c.args.page) (sym c.deref.ensures.value)
    ∙ point.1 k d (omega arith) (omega (arith, ap (λ (xs : List Area). length xs) c.deref.ensures.value)))))
    ∙ ap (λ (r : RegionMap). list_any (is_in_area c.args.page) r.areas) c.self.view_is

pub returns : goal.returns
returns c =
    let up : IsNonDecreasingBy (λ (a : Area). page_of a.start) c.deref.result.now =
    subst (λ (xs : List Area). IsNonDecreasingBy (λ (a : Area). page_of a.start) xs) (sym c.deref.ensures.value) c.self.invariant.order.rising in
    let parted = IsPartitionedBy-leb (λ (a : Area). page_of a.start) c.deref.result.now c.args.page up in
    let point = IsPartitionPoint-from_clause (λ (a : Area). leb (page_of a.start) c.args.page) c.deref.result.now c.partition_point-after.result c.partition_point-after.ensures.partitioned parted (λ a r q k. search rules) in
    let size = ap (λ (xs : List Area). length xs) c.deref.ensures.value in
    let some : c.partition_point-after.result ≡ 0 → ⊥ = c.if-after-eq0.false in
    let bound : c.partition_point-after.result ≤ length c.deref.result.now = c.partition_point-after.ensures.bound in
    let inside : c.partition_point-after.result - 1 < length c.self.inside.sorted.items = omega arith in
    let starts : leb (page_of c.index-area.result.now.start) c.args.page ≡ true =
    ap (λ (a : Area). leb (page_of a.start) c.args.page) (c.index-area.ensures ∙ ap (λ (xs : List Area). get_or xs (c.partition_point-after.result - 1) c.index-area.result.now) (sym c.deref.ensures.value))
    ∙ point.0 (c.partition_point-after.result - 1) c.index-area.result.now (omega arith) (omega arith) in
    c.is_in_run.ensures
    ∙ last_area c.args.page c.self.inside.areas.items c.self.inside.sorted.items (c.partition_point-after.result - 1) c.index-area.result.now c.self.invariant.order inside c.index-area.ensures
    (leb-true (page_of c.index-area.result.now.start) c.args.page starts)
    (λ k d from below. above_page (page_of (get_or c.self.inside.sorted.items k d).start) c.args.page
    (ap (λ (xs : List Area). leb (page_of (get_or xs k d).start) c.args.page) (sym c.deref.ensures.value)
    ∙ point.1 k d (omega arith) (omega arith)))
    ∙ ap (λ (r : RegionMap). list_any (is_in_area c.args.page) r.areas) c.self.view_is
