use Rattle.std.proofs.Common.{rules, ℕ, ◌≡◌, ◌+◌, ◌-◌, ◌/◌, ◌≤◌, Bool, false, List, length, drop, replicate, refl, arith, sym, ap, ◌∙◌, subst}
use borrow.Rule.Slice.PartMut.{put_mid}
use Rattle.std.specs.Prelude.{pos}
use Rattle.std.proofs.lemmas.List.{length-replicate, length-take, length-drop}
use Rattle.guest_memory.specs.Regions.{map_base}
use Rattle.guest_areas.specs.Answers.{invalid_argument}
use Rattle.guest_areas.specs.Space.{RegionMap, Space, space, Answered, refused_answer, unmap, is_in_map}
use Rattle.guest_areas.specs.Kept.{regions_of}
use Rattle.guest_areas.specs.Space.{SharesRegions}
use Rattle.guest_areas.proofs.Shares.{unmap-shares}
use Rattle.guest_areas.proofs.Changes.{unmap_unaligned, unmap_empty, unmap_outside, outside_below, outside_above, unmap_done, filled_flags}
use Rattle.guest_areas.proofs.Areas.unmap.Goals as goal
use Rattle.guest_areas.proofs.Areas.unmap.Goals.{then-address-ne0-via-then-address-ne0, then-address-ne0-via-else-address-ne0+then-length-eq0, then-address-ne0-via-else-address-ne0+else-length-eq0+then-address-lt-MAP_BASE, then-address-ne0-via-else-address-ne0+else-length-eq0+else-address-lt-MAP_BASE+then-first-count}

-- what the refused cases answer
refusal : (c : goal.Joined-then-address-ne0) → refused_answer invalid_argument (space c.args.self.now c.args.memory.now) ≡ unmap c.args.address c.args.length (space c.args.self.now c.args.memory.now)
refusal c =
    let s : Space = space c.args.self.now c.args.memory.now in
    elim c.then-address-ne0.branch [
      | then-address-ne0-via-then-address-ne0 w ↦ sym (unmap_unaligned c.args.address c.args.length s w.if-address-ne0.true)
      | then-address-ne0-via-else-address-ne0+then-length-eq0 w ↦ sym (unmap_empty c.args.address c.args.length s w.if-length-eq0.true)
      | then-address-ne0-via-else-address-ne0+else-length-eq0+then-address-lt-MAP_BASE w ↦
          sym (unmap_outside c.args.address c.args.length s (outside_below c.args.self.now.layout c.args.address c.args.length w.if-address-lt-MAP_BASE.true))
      | then-address-ne0-via-else-address-ne0+else-length-eq0+else-address-lt-MAP_BASE+then-first-count w ↦
          sym (unmap_outside c.args.address c.args.length s
          (subst (λ (r : RegionMap). is_in_map r.layout c.args.address c.args.length ≡ false) c.self.view_is
          (outside_above c.self.inside.layout c.args.address c.args.length c.pages_for-count.result c.self.invariant.kept.valid w.if-address-ne0.false c.pages_for-count.ensures.value w.if-first-count.true)))
    ]

pub returns-then-address-ne0-clause-answer : goal.returns-then-address-ne0-clause-answer
returns-then-address-ne0-clause-answer c = ap (λ (a : Answered). a.answer) (refusal c)

pub returns-then-address-ne0-clause-space : goal.returns-then-address-ne0-clause-space
returns-then-address-ne0-clause-space c = ap (λ (a : Answered). a.space) (refusal c)

within : (c : goal.After-give) → c.args.address / 4096 - 34603008 + (c.args.address / 4096 - 34603008 + c.pages_for-count.result - (c.args.address / 4096 - 34603008)) ≤ length c.self.inside.mapped.items
within c =
    let low : map_base ≤ c.args.address = c.if-address-lt-MAP_BASE.false in
    let high : c.args.address / 4096 + c.pages_for-count.result ≤ (map_base + c.self.inside.layout.map) / 4096 = c.if-first-count.false in
    let whole = c.self.invariant.kept.valid.whole_map in
    omega (arith, c.self.invariant.kept.each_page)

-- the flags of the pages that are left
emptied : (c : goal.After-give) → c.fill.new.self ≡ replicate (c.args.address / 4096 - 34603008 + c.pages_for-count.result - (c.args.address / 4096 - 34603008)) false
emptied c =
    let after = c.fill.ensures.after (λ y h. search rules) in
    after ∙ ap (λ (n : ℕ). replicate n false)
    (omega (arith, within c, length-take (c.args.address / 4096 - 34603008 + c.pages_for-count.result - (c.args.address / 4096 - 34603008)) (drop (c.args.address / 4096 - 34603008) c.deref_mut.result.now), length-drop (c.args.address / 4096 - 34603008) c.deref_mut.result.now, ap (λ (fs : List Bool). length fs) c.deref_mut.ensures.value))

-- the space after the pages were left
left : (c : goal.After-give) → (let a : Answered = record {
  answer = pos 0;
  space = space (regions_of c.self.inside.areas.items c.self.inside.layout c.self.inside.end
      (put_mid (c.args.address / 4096 - 34603008) (c.args.address / 4096 - 34603008 + c.pages_for-count.result - (c.args.address / 4096 - 34603008)) c.self.inside.mapped.items c.fill.new.self)) c.give.new.self;
} in a) ≡ unmap c.args.address c.args.length (space c.args.self.now c.args.memory.now)
left c =
    let low : map_base ≤ c.args.address = c.if-address-lt-MAP_BASE.false in
    let empty = emptied c in
    subst (λ (r : RegionMap). (let a : Answered = record {
      answer = pos 0;
      space = space (regions_of c.self.inside.areas.items c.self.inside.layout c.self.inside.end
          (put_mid (c.args.address / 4096 - 34603008) (c.args.address / 4096 - 34603008 + c.pages_for-count.result - (c.args.address / 4096 - 34603008)) c.self.inside.mapped.items c.fill.new.self)) c.give.new.self;
    } in a) ≡ unmap c.args.address c.args.length (space r c.args.memory.now)) c.self.view_is
    (unmap_done c.self.inside.areas.items c.self.inside.layout c.self.inside.end c.self.inside.mapped.items c.fill.new.self c.args.memory.now c.give.new.self c.args.address c.args.length c.pages_for-count.result
    (c.args.address / 4096 - 34603008) (c.args.address / 4096 - 34603008 + c.pages_for-count.result - (c.args.address / 4096 - 34603008)) c.self.invariant.kept
    c.if-address-ne0.false c.if-length-eq0.false low c.pages_for-count.ensures.value c.if-first-count.false refl (omega arith) empty c.give.ensures)

pub returns-clause-space : goal.returns-clause-space
returns-clause-space c =
    let flags = filled_flags c.self.inside.mapped (c.args.address / 4096 - 34603008) (c.args.address / 4096 - 34603008 + c.pages_for-count.result - (c.args.address / 4096 - 34603008)) c.deref_mut.result.now c.fill.new.self c.deref_mut.ensures.value (within c)
    (ap (λ (fs : List Bool). length fs) (emptied c) ∙ length-replicate (c.args.address / 4096 - 34603008 + c.pages_for-count.result - (c.args.address / 4096 - 34603008)) false) in
    ap (λ (fs : List Bool). space (regions_of c.self.inside.areas.items c.self.inside.layout c.self.inside.end fs) c.give.new.self) flags
    ∙ ap (λ (a : Answered). a.space) (left c)

pub returns-clause-answer : goal.returns-clause-answer
returns-clause-answer c = ap (λ (a : Answered). a.answer) (left c)

pub returns-clause-shared : goal.returns-clause-shared
returns-clause-shared c =
    subst (λ (s : Space). SharesRegions s.regions s.memory) (sym (returns-clause-space c))
    (unmap-shares c.args.address c.args.length (space c.args.self.now c.args.memory.now) c.requires)
