use Rattle.std.proofs.Common.{◌≡◌, ◌<◌, ℕ, length, get_or}
use Rattle.profile_pool.specs.Plain.{SaysOf}
use Rattle.profile_pool.proofs.plain.starts_of.Given as goal

abbrev pub invariant-loop-line : goal.invariant-loop-line
invariant-loop-line l =
    (length l.starts.items ≡ l.line)
    × ((line : ℕ) → line < l.line → SaysOf l.counted line (get_or l.starts.items line 0))
