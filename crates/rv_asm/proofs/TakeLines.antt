-- The lines of a source, one by one.
use Rattle.std.proofs.Common.{◌≡◌, ◌≤◌, length, ℕ, ◌+◌, List, ◌∷◌, drop, Ok, ap}
use Rattle.std.proofs.Math.ListN.{drop_of_length-le}
use Rattle.asm_tokens.specs.declared.line.TokenError.{TokenError}
use Rattle.asm_tokens.specs.declared.line.TokenError.TheVariants as errors
use Rattle.asm_tokens.specs.Tokens.{◌>>=◌, lines}
use Rattle.rv_asm.specs.Assembled.{State, take_line, take_lines, at_line}
use Rattle.failures.specs.Answers.{Fails}
use Rattle.asm_tokens.specs.Views.{FailsLine}
use Rattle.rv_asm.specs.Views.{error_at}

-- a line that is taken
pub over_line : (n : ℕ) (line : List ℕ) (more : List (List ℕ)) (s t : State) → take_line n line s ≡ Ok t → take_lines n (line ∷ more) s ≡ take_lines (n + 1) more t
unfolding take_lines
over_line n line more s t e = ap (λ r. at_line n r >>= λ u. take_lines (n + 1) more u) e

-- a line with a fault
pub at_fault : (n : ℕ) (line : List ℕ) (more : List (List ℕ)) (s : State) (e : TokenError) → FailsLine e (take_line n line s) → Fails (error_at n e) (take_lines n (line ∷ more) s)
unfolding take_lines
at_fault n line more s errors.Memory h = tt
at_fault n line more s (errors.Fault kind column) h = ap (λ r. at_line n r >>= λ u. take_lines (n + 1) more u) h

-- after the last line
pub at_last : (n index : ℕ) (source : List ℕ) (s : State) → length source ≤ index → take_lines n (lines (drop index source)) s ≡ Ok s
unfolding take_lines
at_last n index source s past = ap (λ bs. take_lines n (lines bs) s) (drop_of_length-le source past)
