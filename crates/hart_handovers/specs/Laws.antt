-- The laws of hand-overs.
use Rattle.std.specs.Prelude.{◌≡◌, ◌⊎◌, ℕ, true, List, [], ◌∷◌, length}
use Rattle.hart_states.specs.declared.change.Change.{Change}
use Rattle.hart_states.specs.Changes.{InOrder}
use Rattle.hart_handovers.specs.declared.handover.Handover.{Handover}
use Rattle.hart_handovers.specs.Handovers.{handovers, runs}
use Rattle.hart_handovers.specs.Path.{ArePast, IsBegun, Rooted}

-- a hart has run
abbrev pub HasRun : ℕ → List Change → Type 0
HasRun h [] = ⊥
HasRun h (c ∷ past) = ((c.hart.0 ≡ h) × (runs c.to ≡ true)) ⊎ HasRun h past

-- the first change has a hart run at 0, and each later one was brought about by a hart that had run
abbrev pub AreBegun : List Change → Type 0
AreBegun [] = Unit {0}
AreBegun (c ∷ []) = (c.moment ≡ 0) × (runs c.to ≡ true)
AreBegun (c ∷ b ∷ past) = HasRun c.by.0 (b ∷ past) × AreBegun (b ∷ past)

-- hand-overs of a run as it stands at a moment
pub record AreWhole (now : ℕ) (past : List Change) (list : List Handover) : Type 0 where
  pub rooted : Rooted list
  pub past_all : ArePast list now (length list)
  -- whoever has run has one
  pub each : (h : ℕ) → HasRun h past → IsBegun list h (length list)

abbrev pub HandoversAreWhole : Type 0
HandoversAreWhole =
    (now : ℕ) (past : List Change) → InOrder now past → AreBegun past
    → AreWhole now past (handovers past)
