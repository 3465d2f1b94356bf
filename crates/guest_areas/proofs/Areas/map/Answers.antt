use Rattle.std.proofs.Common.{rules, ℕ, ◌≡◌, ◌+◌, ◌-◌, ◌*◌, ◌/◌, ◌≤◌, Bool, true, List, length, drop, replicate, arith, sym, ap, ◌∙◌, subst, Option, Some, None}
use borrow.Rule.Slice.PartMut.{put_mid}
use Rattle.std.specs.Prelude.{pos}
use Rattle.std.proofs.Common.{w64}
use Rattle.std.proofs.lemmas.Int.{to_z_pos}
use Rattle.std.proofs.lemmas.List.{length-replicate, length-take, length-drop}
use Rattle.coz_types.specs.declared.image.Rights.{Rights}
use Rattle.guest_memory.specs.Memory.{with_rights_from, with_zeros}
use Rattle.guest_memory.specs.Regions.{page_of, pages_for}
use Rattle.guest_areas.specs.Space.{RegionMap, Space, space, Answered, free_run, map}
use Rattle.guest_areas.specs.Kept.{regions_of}
use Rattle.guest_areas.specs.Space.{SharesRegions}
use Rattle.guest_areas.proofs.Shares.{map-shares}
use Rattle.guest_areas.proofs.Calls.{map-empty, map-execute, map-at}
use Rattle.guest_areas.proofs.Changes.{map_done, filled_flags}
use Rattle.guest_areas.proofs.Areas.map.Goals as goal

pub returns-then-length-eq0-clause-answer : goal.returns-then-length-eq0-clause-answer
returns-then-length-eq0-clause-answer c =
    ap (λ (a : Answered). a.answer) (sym (map-empty c.args.length c.args.protection (space c.args.self.now c.args.memory.now) c.if-length-eq0.true))

pub returns-then-length-eq0-clause-space : goal.returns-then-length-eq0-clause-space
returns-then-length-eq0-clause-space c =
    ap (λ (a : Answered). a.space) (sym (map-empty c.args.length c.args.protection (space c.args.self.now c.args.memory.now) c.if-length-eq0.true))

pub returns-then-asks_execute-clause-answer : goal.returns-then-asks_execute-clause-answer
returns-then-asks_execute-clause-answer c =
    ap (λ (a : Answered). a.answer) (sym (map-execute c.args.length c.args.protection (space c.args.self.now c.args.memory.now) c.if-length-eq0.false (sym c.asks_execute.ensures ∙ c.if-asks_execute.true)))

pub returns-then-asks_execute-clause-space : goal.returns-then-asks_execute-clause-space
returns-then-asks_execute-clause-space c =
    ap (λ (a : Answered). a.space) (sym (map-execute c.args.length c.args.protection (space c.args.self.now c.args.memory.now) c.if-length-eq0.false (sym c.asks_execute.ensures ∙ c.if-asks_execute.true)))

-- what the search found, by the definition
sought : (r : RegionMap) (count len : ℕ) (o : Option ℕ) → count ≡ pages_for len → o ≡ free_run r count → free_run r (pages_for len) ≡ o
sought r count len o is e = ap (λ (n : ℕ). free_run r n) (sym is) ∙ sym e

pub returns-in-None-clause-answer : goal.returns-in-None-clause-answer
returns-in-None-clause-answer c =
    ap (λ (a : Answered). a.answer) (sym (map-at c.args.length c.args.protection (space c.args.self.now c.args.memory.now) None c.if-length-eq0.false (sym c.asks_execute.ensures ∙ c.if-asks_execute.false)
    (sought c.args.self.now c.pages_for-count.result c.args.length None c.pages_for-count.ensures.value c.in-None.ensures.page)))

pub returns-in-None-clause-space : goal.returns-in-None-clause-space
returns-in-None-clause-space c =
    ap (λ (a : Answered). a.space) (sym (map-at c.args.length c.args.protection (space c.args.self.now c.args.memory.now) None c.if-length-eq0.false (sym c.asks_execute.ensures ∙ c.if-asks_execute.false)
    (sought c.args.self.now c.pages_for-count.result c.args.length None c.pages_for-count.ensures.value c.in-None.ensures.page)))

within : (c : goal.After-give) → c.in-Some.index + (c.in-Some.index + c.pages_for-count.result - c.in-Some.index) ≤ length c.self.inside.mapped.items
within c =
    let fits : c.in-Some.index + c.pages_for-count.result ≤ c.self.inside.layout.map / 4096 =
    subst (λ (r : RegionMap). c.in-Some.index + c.pages_for-count.result ≤ r.layout.map / 4096) (sym c.self.view_is) c.in-Some.ensures.within in
    omega (arith, c.self.invariant.kept.each_page)

-- the flags of the pages that are mapped
full : (c : goal.After-give) → c.fill.new.self ≡ replicate (c.in-Some.index + c.pages_for-count.result - c.in-Some.index) true
full c =
    let after = c.fill.ensures.after (λ y h. search rules) in
    after ∙ ap (λ (n : ℕ). replicate n true)
    (omega (arith, within c, length-take (c.in-Some.index + c.pages_for-count.result - c.in-Some.index) (drop c.in-Some.index c.deref_mut.result.now), length-drop c.in-Some.index c.deref_mut.result.now, ap (λ (fs : List Bool). length fs) c.deref_mut.ensures.value))

-- the space after the pages were mapped
mapped : (c : goal.After-give) → (let a : Answered = record {
  answer = pos (141733920768 + c.in-Some.index * 4096);
  space = space (regions_of c.self.inside.areas.items c.self.inside.layout c.self.inside.end (put_mid c.in-Some.index (c.in-Some.index + c.pages_for-count.result - c.in-Some.index) c.self.inside.mapped.items c.fill.new.self)) c.give.new.self;
} in a) ≡ map c.args.length c.args.protection (space c.args.self.now c.args.memory.now)
mapped c =
    let found : free_run (regions_of c.self.inside.areas.items c.self.inside.layout c.self.inside.end c.self.inside.mapped.items) c.pages_for-count.result ≡ Some (34603008 + c.in-Some.index) =
    ap (λ (r : RegionMap). free_run r c.pages_for-count.result) c.self.view_is ∙ sym c.in-Some.ensures.page in
    let given_ = c.give.ensures
    ∙ ap (λ (r : Rights). with_zeros (page_of (141733920768 + c.in-Some.index * 4096)) c.pages_for-count.result (with_rights_from (page_of (141733920768 + c.in-Some.index * 4096)) c.pages_for-count.result r c.args.memory.now)) c.rights_of.ensures in
    subst (λ (r : RegionMap). (let a : Answered = record {
      answer = pos (141733920768 + c.in-Some.index * 4096);
      space = space (regions_of c.self.inside.areas.items c.self.inside.layout c.self.inside.end (put_mid c.in-Some.index (c.in-Some.index + c.pages_for-count.result - c.in-Some.index) c.self.inside.mapped.items c.fill.new.self)) c.give.new.self;
    } in a) ≡ map c.args.length c.args.protection (space r c.args.memory.now)) c.self.view_is
    (map_done c.self.inside.areas.items c.self.inside.layout c.self.inside.end c.self.inside.mapped.items c.fill.new.self c.args.memory.now c.give.new.self c.args.length c.args.protection c.pages_for-count.result c.in-Some.index
    (c.in-Some.index + c.pages_for-count.result - c.in-Some.index) c.self.invariant.kept c.if-length-eq0.false (sym c.asks_execute.ensures ∙ c.if-asks_execute.false) c.pages_for-count.ensures.value found (omega arith) (full c) given_)

pub returns-in-Some-clause-answer : goal.returns-in-Some-clause-answer
returns-in-Some-clause-answer c =
    let inside = within c in
    let limit = c.self.invariant.kept.valid.map in
    to_z_pos w64 (141733920768 + c.in-Some.index * 4096) (omega (arith, c.self.invariant.kept.each_page))
    ∙ ap (λ (a : Answered). a.answer) (mapped c)

pub returns-in-Some-clause-space : goal.returns-in-Some-clause-space
returns-in-Some-clause-space c =
    let flags = filled_flags c.self.inside.mapped c.in-Some.index (c.in-Some.index + c.pages_for-count.result - c.in-Some.index) c.deref_mut.result.now c.fill.new.self c.deref_mut.ensures.value (within c)
    (ap (λ (fs : List Bool). length fs) (full c) ∙ length-replicate (c.in-Some.index + c.pages_for-count.result - c.in-Some.index) true) in
    ap (λ (fs : List Bool). space (regions_of c.self.inside.areas.items c.self.inside.layout c.self.inside.end fs) c.give.new.self) flags
    ∙ ap (λ (a : Answered). a.space) (mapped c)

pub returns-in-Some-clause-shared : goal.returns-in-Some-clause-shared
returns-in-Some-clause-shared c =
    subst (λ (s : Space). SharesRegions s.regions s.memory) (sym (returns-in-Some-clause-space c))
    (map-shares c.args.length c.args.protection (space c.args.self.now c.args.memory.now) c.requires)
