-- The hand-overs of the run of hart_states/proofs/Examples.antt, and the path back from hart 0 at its
-- end, at 1200.
use Rattle.std.proofs.Common.{◌≡◌, [], ◌∷◌, map, refl}
use Rattle.hart_states.proofs.Examples.{run}
use Rattle.hart_handovers.specs.declared.handover.Handover.{Handover}
use Rattle.hart_handovers.specs.declared.handover.Way.TheVariants.{Start, Clone, Core}
use Rattle.hart_handovers.specs.declared.path.Segment.{Segment}
use Rattle.hart_handovers.specs.Handovers.{handovers}
use Rattle.hart_handovers.specs.Path.{back}

-- hart 1 had a core at once, and hart 0 stood in line for one
ways : map (λ (o : Handover). o.way) (handovers run) ≡ Start ∷ Clone ∷ Core ∷ []
ways = refl

moments : map (λ (o : Handover). o.moment) (handovers run) ≡ 0 ∷ 300 ∷ 950 ∷ []
moments = refl

harts : map (λ (s : Segment). s.hart.0) (back (handovers run) 0 1200 3) ≡ 0 ∷ 1 ∷ 0 ∷ []
harts = refl

starts : map (λ (s : Segment). s.from) (back (handovers run) 0 1200 3) ≡ 0 ∷ 300 ∷ 950 ∷ []
starts = refl

ends : map (λ (s : Segment). s.to) (back (handovers run) 0 1200 3) ≡ 300 ∷ 950 ∷ 1200 ∷ []
ends = refl
