-- The line that names a machine of the timing model.
use Rattle.std.specs.Prelude.{ℕ, ◌==◌, ◌&&◌, Bool, not, if◌then◌else◌, [], ◌++◌, codes, decimal}
use Rattle.coz_types.specs.Labels.{Text}
use Rattle.profile_book.specs.Profile.{field, number_field}
use Rattle.timing_model.specs.declared.costs.Costs.{Costs}
use Rattle.timing_model.specs.declared.timing.Charge.{Charge}
use Rattle.timing_model.specs.declared.timing.Charge.TheVariants.{Nobody, Last}
use Rattle.timing_model.specs.declared.timing.Timing.{Timing}
use Rattle.timing_model.specs.Timing.{charges}

abbrev pub charge_name : Charge → Text
charge_name Nobody = codes "none"
charge_name Last = codes "last"

-- a comma and a number
abbrev pub next_cost : ℕ → Text
next_cost n = codes "," ++ decimal n

abbrev pub costs_text : Costs → Text
costs_text c =
    number_field (codes "costs") c.integer ++ next_cost c.jump ++ next_cost c.load
    ++ next_cost c.multiply ++ next_cost c.atomic ++ next_cost c.divide ++ next_cost c.ecall

abbrev pub timing_line : Timing → Text
timing_line t =
    codes "coz-timing" ++ field (codes "version") (codes "1")
    ++ number_field (codes "cores") t.cores ++ number_field (codes "slice") t.slice
    ++ costs_text t.costs ++ field (codes "charge") (charge_name t.charge)
    ++ number_field (codes "seed") t.seed ++ codes "\n"

abbrev pub are_usual : Costs → Bool
are_usual c =
    (c.integer == 1 && c.jump == 2 && c.load == 3)
    && c.multiply == 3 && c.atomic == 8 && c.divide == 20 && c.ecall == 40

-- the machine of `coz profile`
abbrev pub is_usual : Timing → Bool
is_usual t =
    t.cores == 256 && t.slice == 100000 && are_usual t.costs && not (charges t.charge)
    && t.seed == 0

-- the line of a machine, none of the usual one
abbrev pub timing_text : Timing → Text
timing_text t = if is_usual t then [] else timing_line t
