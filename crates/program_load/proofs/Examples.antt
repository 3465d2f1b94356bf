-- The lines that words name, computed on the definitions.
use Rattle.std.proofs.Common.{◌≡◌, ℕ, List, [], ◌∷◌, codes, Some, Ok, Err, refl}
use Rattle.line_index.specs.Lines.{Line}
use Rattle.coz_words.specs.Said.{Text}
use Rattle.experiment_plan.specs.Lists.{line_parts, pieces}
use Rattle.program_load.specs.Selection.{line_named, lines_named}

abbrev line : Text → ℕ → Line
line path number = record { path = path; number = number }

abbrev three : List Line
three = line (codes "d/a.s") 1 ∷ line (codes "d/a.s") 2 ∷ line (codes "d/b.s") 1 ∷ []

-- by the whole path, and by the end of a path
whole_path : line_named three (Some (codes "d/a.s:2")) ≡ Ok (Some 1)
unfolding line_parts
whole_path = refl

path_end : line_named three (Some (codes "b.s:1")) ≡ Ok (Some 2)
unfolding line_parts
path_end = refl

unfound : line_named three (Some (codes "a.s:3")) ≡ Err (codes "a.s:3")
unfolding line_parts
unfound = refl

-- the lines of a list rise, and a line that is named twice stands once
named_twice : lines_named three [] (Some (codes "b.s:1,a.s:1,d/b.s:1")) ≡ Ok (0 ∷ 2 ∷ [])
unfolding line_parts pieces
named_twice = refl

-- the first piece that is not found is reported
first_unfound : lines_named three [] (Some (codes "a.s:1,c.s:1,e.s:1")) ≡ Err (codes "c.s:1")
unfolding line_parts pieces
first_unfound = refl
