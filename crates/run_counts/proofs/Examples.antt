-- What a small program begins.
use Rattle.std.proofs.Common.{◌≡◌, true, List, [], ◌∷◌, refl}
use Rattle.coz_types.specs.declared.ending.Ending.TheVariants.{Exited}
use Rattle.machines.specs.declared.Fate.TheVariants.{Ends}
use Rattle.machines.specs.Guest.{Experiment, cost, cut, ending_after}
use Rattle.machines.specs.Delayed.{begin, raise, retire, leave, give_credit, retirement, ending, tick, wake, come, move, move_by, unbegun, after, delayed}
use Rattle.machines.specs.Standing.{next, standing}
use Rattle.machines.specs.Lead.{before, before_move, before_by, turned, woken, left}
use Rattle.machines.proofs.Small.{Instruction, Seat, plain, selected, run_of}
use Rattle.run_counts.specs.Beginnings.{begun, starts_among, cost_among}

-- an instruction of 1 cycle, one of the selected line of 2 cycles, and a call of 1 cycle that ends the run
abbrev program : List Instruction
program = plain 1 1 ∷ selected 2 2 ∷ record (plain 1 0) { fate = Ends (Exited 0) } ∷ []

abbrev run : Experiment (List Seat)
run = run_of program 0 3

-- each is begun once, and its ticks are 100 for each of its cycles; after the call nothing begins
three_begin : (starts_among run (λ g h. true) (begun run 3) ≡ 3)
    × (starts_among run run.guest.is_selected (begun run 3) ≡ 1)
    × (cost_among run run.guest.is_selected (begun run 3) ≡ 200)
    × (cost_among run (λ g h. true) (begun run 3) ≡ 400)
unfolding cost cut ending_after begin raise retire leave give_credit retirement ending tick wake come move move_by unbegun after delayed next standing before before_move before_by turned woken left begun
three_begin = (refl, refl, refl, refl)
