-- The machines of parts.
use Rattle.std.specs.Prelude.{ℕ, ◌+◌, Bool, true, false, ◌&&◌, ◌==◌, List, [], ◌∷◌, Option, Some, None, if◌then◌else◌}
use Rattle.timing_model.specs.declared.costs.Costs.{Costs}
use Rattle.timing_model.specs.declared.timing.Charge.{Charge}
use Rattle.timing_model.specs.declared.timing.Charge.TheVariants.{Nobody, Last}
use Rattle.timing_model.specs.declared.timing.Timing.{Timing}
use Rattle.timing_model.specs.Timing.{usual}
use Rattle.join_parts.specs.declared.part.Part.{Part}

-- ---- likeness

abbrev pub are_like : Costs → Costs → Bool
are_like a b =
    (a.integer == b.integer && a.jump == b.jump && a.load == b.load)
    && a.multiply == b.multiply && a.atomic == b.atomic && a.divide == b.divide
    && a.ecall == b.ecall

abbrev pub charge_like : Charge → Charge → Bool
charge_like Nobody Nobody = true
charge_like Last Last = true
charge_like _ _ = false

-- the machines are the same
abbrev pub is_like : Timing → Timing → Bool
is_like a b =
    a.cores == b.cores && a.slice == b.slice && are_like a.costs b.costs
    && charge_like a.charge b.charge && a.seed == b.seed

-- the place of the first part that is of another machine, with this place of the first of them
abbrev pub unlike_from : Timing → ℕ → List Part → Option ℕ
unlike_from t place [] = None
unlike_from t place (part ∷ parts) =
    if is_like t part.timing then unlike_from t (place + 1) parts else Some place

-- the machine of the first part
abbrev pub machine_of : List Part → Timing
machine_of [] = usual
machine_of (part ∷ parts) = part.timing

-- the place of the first part that is of another machine than the first one
abbrev pub unlike_part : List Part → Option ℕ
unlike_part parts = unlike_from (machine_of parts) 0 parts
