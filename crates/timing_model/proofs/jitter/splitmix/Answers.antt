use Rattle.std.proofs.Common.{◌≡◌, ℕ, ◌+◌, ◌*◌, ◌/◌, ◌%◌, bit_xor, ap, ◌∙◌}
use Rattle.std.proofs.lemmas.Nat.{mul-mod_first}
use Rattle.std.proofs.Math.Nat.{add-mod-mod}
use Rattle.timing_laws.specs.Noted.{splitmix}
use Rattle.timing_model.proofs.jitter.splitmix.Goals as goal

-- the sum wraps once or each time
wraps_once : (seed n : ℕ) → (seed + (n + 1) % 18446744073709551616 * 11400714819323198485 % 18446744073709551616) % 18446744073709551616 ≡ (seed + (n + 1) * 11400714819323198485) % 18446744073709551616
wraps_once seed n = ap (λ (step : ℕ). (seed + step) % 18446744073709551616) (mul-mod_first (n + 1) 11400714819323198485 18446744073709551616) ∙ add-mod-mod seed ((n + 1) * 11400714819323198485) 18446744073709551616

pub returns : goal.returns
unfolding splitmix
returns c =
    ap
    (λ (z : ℕ).
    let y = (bit_xor z (z / 1073741824) * 13787848793156543929) % 18446744073709551616 in
    let x = (bit_xor y (y / 134217728) * 10723151780598845931) % 18446744073709551616 in
    bit_xor x (x / 2147483648))
    (wraps_once c.args.seed c.args.n)
