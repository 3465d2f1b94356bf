-- Where a line begins and ends.
use Rattle.std.specs.Prelude.{ℕ, suc, ◌≤◌, Bool, true, false, not, ◌&&◌, List, [], ◌∷◌, ◌++◌, Option, nat_le, if◌then◌else◌}
use Rattle.line_index.specs.declared.changes.Change.{Change}
use Rattle.line_index.specs.Keys.{is_at}

-- each number is greater than the one before it, and the first is no less than this one
abbrev pub Rises : ℕ → List ℕ → Type 0
Rises low [] = Unit {0}
Rises low (x ∷ xs) = (low ≤ x) × Rises (suc x) xs

abbrev pub is_different : Bool → Bool → Bool
is_different true other = not other
is_different false other = other

-- where the line at this position begins and, in turn with that, ends
abbrev pub turns : ℕ → Option ℕ → List Change → List ℕ
turns k before [] = []
turns k before (c ∷ cs) =
    (if is_different (is_at k before) (is_at k c.position) then c.address ∷ [] else [])
    ++ turns k c.position cs

-- after a beginning and before the end that follows: the first turn is passed,
-- and it is not so of the others
abbrev pub is_within : ℕ → List ℕ → Bool
is_within a [] = false
is_within a (t ∷ ts) = nat_le t a && not (is_within a ts)
