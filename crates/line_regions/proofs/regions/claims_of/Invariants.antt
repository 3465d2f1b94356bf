use Rattle.std.proofs.Common.{◌≡◌, ℕ, ◌<◌, length, take}
use Rattle.line_regions.specs.Lines.{first_number, line_in, lines_at, number_at}
use Rattle.line_regions.specs.Regions.{regions_of}
use Rattle.line_regions.proofs.regions.claims_of.Given as goal

-- of the first regions
abbrev pub invariant-loop-region : goal.invariant-loop-region
invariant-loop-region l =
    (length l.claims ≡ length l.locations)
    × ((k : ℕ) → k < length l.locations → number_at l.claims k ≡ first_number (regions_of (take l.region-index l.regions)) (line_in (lines_at l.locations) k))
