-- Texts, and the machines that their first lines name.
use Rattle.std.proofs.Common.{◌≡◌, List, [], ◌∷◌, codes, map, Some, None, refl}
use Rattle.std.specs.Fmt.{digits}
use Rattle.coz_types.specs.Labels.{Text}
use Rattle.timing_model.specs.declared.timing.Charge.TheVariants.{Last}
use Rattle.timing_model.specs.declared.timing.Timing.{Timing}
use Rattle.timing_model.specs.Timing.{usual, usual_costs}
use Rattle.timing_reader.specs.Reading.{read_timing}

abbrev texts : List (Text × Timing × Text)
texts =
    (codes "coz-ticks\tversion=1", usual, codes "coz-ticks\tversion=1")
    ∷ ([], usual, [])
    ∷ (
      codes "coz-timing\tversion=1\tcores=4\tslice=100000\tcosts=1,2,3,3,8,20,1000\tcharge=last\tseed=7\ncoz-ticks",
      record { cores = 4; slice = 100000; costs = record usual_costs { ecall = 1000 }; charge = Last; seed = 7 },
      codes "coz-ticks",
    )
    ∷ (
      codes "coz-timing\tversion=1\tcores=1\tslice=1\tcosts=1,2,3,3,8,20,40\tcharge=none\tseed=18446744073709551615\n",
      record usual { cores = 1; slice = 1; seed = 18446744073709551615 },
      [],
    )
    ∷ []

read : map (λ row. read_timing row.0) texts ≡ map (λ row. Some (row.1, row.2)) texts
unfolding digits
read = refl

-- no writer writes these first lines: that of the usual machine, and lines with another version, a
-- number of cores that is 0 or has a leading 0, six costs, a charge that isn't one, or no end
abbrev no_lines : List Text
no_lines =
    codes "coz-timing\tversion=1\tcores=256\tslice=100000\tcosts=1,2,3,3,8,20,40\tcharge=none\tseed=0\n"
    ∷ codes "coz-timing\tversion=2\tcores=4\tslice=100000\tcosts=1,2,3,3,8,20,1000\tcharge=last\tseed=7\n"
    ∷ codes "coz-timing\tversion=1\tcores=0\tslice=100000\tcosts=1,2,3,3,8,20,1000\tcharge=last\tseed=7\n"
    ∷ codes "coz-timing\tversion=1\tcores=04\tslice=100000\tcosts=1,2,3,3,8,20,1000\tcharge=last\tseed=7\n"
    ∷ codes "coz-timing\tversion=1\tcores=4\tslice=100000\tcosts=1,2,3,3,8,20\tcharge=last\tseed=7\n"
    ∷ codes "coz-timing\tversion=1\tcores=4\tslice=100000\tcosts=1,2,3,3,8,20,1000\tcharge=first\tseed=7\n"
    ∷ codes "coz-timing\tversion=1\tcores=4\tslice=100000\tcosts=1,2,3,3,8,20,1000\tcharge=last\tseed=7"
    ∷ codes "coz-timing"
    ∷ []

refused : map read_timing no_lines ≡ map (λ text. None) no_lines
unfolding digits
refused = refl
