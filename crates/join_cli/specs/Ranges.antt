-- Every profile of a program's lines is within the ranges and orders of profiles.
use Rattle.std.specs.Prelude.{ℕ, List, length}
use Rattle.coz_types.specs.Image.{ImageParts}
use Rattle.line_index.specs.Index.{Index}
use Rattle.progress_points.specs.Points.{Points}
use Rattle.profile_book.specs.Profile.{IsProfile}
use Rattle.profile_shards.specs.Shards.{AreLines}
use Rattle.profile_pool.specs.Profiles.{profile_of_lines}
use Rattle.join_cli.specs.Shards.{AreIndexed, IsAsked}

-- for every program, every input, budget, points and speedups that a profile of it is asked for,
-- and every list of the program's lines, which rises
abbrev pub ProfilesAreRight : Type 0
ProfilesAreRight =
    (image : ImageParts) (index : Index) (points : Points) (input : List ℕ) (budget : ℕ)
    (speedups : List ℕ) (lines : List ℕ)
    → AreIndexed image index
    → IsAsked index points input budget speedups
    → AreLines (length index.lines) lines
    → IsProfile (profile_of_lines image index points input budget speedups lines)
