-- What an image says of its areas.
use Rattle.std.proofs.Common.{ℕ, ◌≤◌, List, [], ◌∷◌, length, sum_by, All, arith}
use Rattle.std.proofs.lemmas.List.Elements.{All-head, All-tail}
use Rattle.std.proofs.lemmas.List.Sums.{sum_by-cons}
use Rattle.coz_types.specs.declared.image.Area.{Area}
use Rattle.coz_types.specs.Image.{ImageParts, IsImage, IsAreaOf}

some_size : (file : List ℕ) (area : Area) → IsAreaOf file area → 1 ≤ area.size
some_size file area is = omega (arith, is.fill_starts, is.fill_starts_within)

count_sizes : (file : List ℕ) (areas : List Area) → All (IsAreaOf file) areas → length areas ≤ sum_by (λ (area : Area). area.size) areas
count_sizes file [] all = omega arith
count_sizes file (area ∷ areas) all =
    omega (arith, sum_by-cons (λ (area : Area). area.size) area areas, some_size file area (All-head (IsAreaOf file) area areas all), count_sizes file areas (All-tail (IsAreaOf file) area areas all))

-- each area has a byte, and together they have few
pub few_areas : (image : ImageParts) → IsImage image → length image.areas ≤ 67108864
few_areas image valid = omega (arith, count_sizes image.file image.areas valid.each, valid.together)
