-- A run gains nothing over itself.
use Rattle.std.proofs.Common.{◌≡◌, ℕ, ◌+◌, ◌*◌, Bool, true, false, if◌then◌else◌, ◌||◌, ◌==◌, Some, None, IfSome, ℤ, pos, sym, ap, subst, ◌∙◌, arith}
use Rattle.std.specs.Prelude.{◌-ℤ◌, ◌*ℤ◌}
use Rattle.std.specs.Int.{int_div_euclid}
use Rattle.std.proofs.Math.Nat.{zero-div}
use Rattle.std.proofs.Math.IntN.{+ℤ-neg_ℤ_cancel}
use Rattle.machines.specs.Records.{NetRecord}
use Rattle.profile_laws.specs.Headline.{gain_at, visits_of}

nothing_over : (whole : ℕ) → int_div_euclid ((pos whole -ℤ pos whole) *ℤ pos 10000) (pos whole) ≡ pos 0
nothing_over whole =
    let same : whole ≡ 0 + whole = omega arith in
    let none : pos whole -ℤ pos whole ≡ pos 0 = ap (λ (n : ℕ). pos n -ℤ pos whole) same ∙ +ℤ-neg_ℤ_cancel (pos 0) (pos whole) in
    ap (λ (z : ℤ). int_div_euclid (z *ℤ pos 10000) (pos whole)) none ∙ ap pos (zero-div whole)

if_some : (b : Bool) (v : ℤ) → v ≡ pos 0 → IfSome (if b then None else Some v) (λ (w : ℤ). w ≡ pos 0)
if_some true v e = tt
if_some false v e = e

pub gains_nothing : (point : ℕ) (run : NetRecord) → IfSome (gain_at point run run) (λ v. v ≡ pos 0)
gains_nothing point run =
    let n : ℕ = visits_of point run in
    if_some (n == 0 || (n == 0 || run.time == 0)) _ (nothing_over (run.time * n))

-- nor over one that left the same
pub same_gains_nothing : (point : ℕ) (base run : NetRecord) → run ≡ base → IfSome (gain_at point base run) (λ v. v ≡ pos 0)
same_gains_nothing point base run same = subst (λ (r : NetRecord). IfSome (gain_at point base r) (λ v. v ≡ pos 0)) (sym same) (gains_nothing point base)
