use Rattle.std.proofs.Common.{◌≡◌, ◌≤◌, ◌<◌, sym, ap, ◌∙◌, subst}
use Rattle.guest_memory.specs.Regions.{brk_base, brk_end}
use Rattle.guest_areas.specs.Space.{RegionMap, Space, space, with_break}
use Rattle.guest_areas.specs.Kept.{regions_of}
use Rattle.guest_areas.specs.Space.{SharesRegions}
use Rattle.guest_areas.proofs.Shares.{with_break-shares}
use Rattle.guest_areas.proofs.Calls.{with_break-low, with_break-high}
use Rattle.guest_areas.proofs.Changes.{moved_up, moved_down}
use Rattle.guest_areas.proofs.Areas.brk.Goals as goal
use Rattle.guest_areas.proofs.Areas.brk.Goals.{then-to-lt-BRK_BASE-via-then-to-lt-BRK_BASE, then-to-lt-BRK_BASE-via-else-to-lt-BRK_BASE+then-to-self, then-old-new, else-old-new}

pub returns-then-to-lt-BRK_BASE-clause-space : goal.returns-then-to-lt-BRK_BASE-clause-space
returns-then-to-lt-BRK_BASE-clause-space c =
    elim c.then-to-lt-BRK_BASE.branch [
      | then-to-lt-BRK_BASE-via-then-to-lt-BRK_BASE w ↦ sym (with_break-low c.args.to (space c.args.self.now c.args.memory.now) w.if-to-lt-BRK_BASE.true)
      | then-to-lt-BRK_BASE-via-else-to-lt-BRK_BASE+then-to-self w ↦
          let high : brk_end c.self.inside.layout < c.args.to = w.if-to-self.true in
          sym (with_break-high c.args.to (space c.args.self.now c.args.memory.now)
          (subst (λ (r : RegionMap). brk_end r.layout < c.args.to) c.self.view_is high))
    ]

pub returns-then-to-lt-BRK_BASE-clause-answer : goal.returns-then-to-lt-BRK_BASE-clause-answer
returns-then-to-lt-BRK_BASE-clause-answer c =
    ap (λ (r : RegionMap). r.break) c.self.view_is
    ∙ ap (λ (s : Space). s.regions.break) (returns-then-to-lt-BRK_BASE-clause-space c)

pub returns-clause-space : goal.returns-clause-space
returns-clause-space c =
    let low : brk_base ≤ c.args.to = c.if-to-lt-BRK_BASE.false in
    let high : c.args.to ≤ brk_end c.self.inside.layout = c.if-to-self.false in
    subst (λ (r : RegionMap). space (regions_of c.self.inside.areas.items c.self.inside.layout c.args.to c.self.inside.mapped.items) c.if-old-new.memory ≡ with_break c.args.to (space r c.args.memory.now)) c.self.view_is
    (elim c.if-old-new.branch [
      | then-old-new w ↦
          moved_up c.self.inside.areas.items c.self.inside.layout c.self.inside.end c.self.inside.mapped.items c.args.memory.now c.if-old-new.memory c.args.to c.pages_for-old.result c.pages_for-new.result low high
          c.pages_for-old.ensures.value c.pages_for-new.ensures.value w.if-old-new.true (w.memory-is ∙ w.give.ensures)
      | else-old-new w ↦
          moved_down c.self.inside.areas.items c.self.inside.layout c.self.inside.end c.self.inside.mapped.items c.args.memory.now c.if-old-new.memory c.args.to c.pages_for-old.result c.pages_for-new.result low high
          c.pages_for-old.ensures.value c.pages_for-new.ensures.value w.if-old-new.false (w.memory-is ∙ w.give-else-old-new.ensures)
    ])

pub returns-clause-answer : goal.returns-clause-answer
returns-clause-answer c = ap (λ (s : Space). s.regions.break) (returns-clause-space c)

pub returns-clause-shared : goal.returns-clause-shared
returns-clause-shared c =
    subst (λ (s : Space). SharesRegions s.regions s.memory) (sym (returns-clause-space c))
    (with_break-shares c.args.to (space c.args.self.now c.args.memory.now) c.requires)
