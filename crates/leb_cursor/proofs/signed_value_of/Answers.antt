use Rattle.std.proofs.Common.{◌≡◌, ◌∙◌, ◌-◌, arith, rules, ap, sym, inl, inr, ◌⊎◌, ℕ, ℤ, pos, negsuc, ◌^◌, ◌≤ℤ◌, ◌<ℤ◌, ◌+ℤ◌, ◌*ℤ◌, ◌%◌, drop, None, Some, slice_index, to_z}
use Rattle.std.specs.Int.{w64}
use mir.Val.{SFits}
use Rattle.std.proofs.lemmas.Int.{ints}
use Rattle.leb_cursor.specs.Numbers.{signed_low_bits}
use Rattle.leb_cursor.proofs.SignLemmas.{above, sign, above_step, too_wide_signed, whole_signed}
use Rattle.leb_cursor.proofs.signed_value_of.Goals as goal
use Rattle.leb_cursor.proofs.signed_value_of.Goals.{then-value-via-then-value, then-value-via-else-value+then-value-2}

-- one more byte is below what there is
pub loop-i-preserved : goal.loop-i-preserved
loop-i-preserved c =
    let bytes = c.args.bytes.now in
    let i = c.loop-i.i - 1 in
    let step : above (sign bytes) (drop i bytes) ≡ pos (slice_index bytes i % 128) +ℤ pos 128 *ℤ to_z w64 c.loop-i.value-bits =
    above_step i c.loop-i.i (sign bytes) bytes (omega arith) (omega arith) ∙ ap (λ (z : ℤ). pos (slice_index bytes i % 128) +ℤ pos 128 *ℤ z) (sym c.loop-i.invariant.0) in
    (omega (arith, ints), omega arith)

pub returns-then-value : goal.returns-then-value
returns-then-value c =
    let far : (above (sign c.args.bytes.now) (drop c.loop-i.i c.args.bytes.now) <ℤ negsuc (2 ^ 56 - 1)) ⊎ (pos (2 ^ 56) ≤ℤ above (sign c.args.bytes.now) (drop c.loop-i.i c.args.bytes.now)) =
    rw (← c.loop-i.invariant.0) (elim c.then-value.branch [
      | then-value-via-then-value w ↦ inl (omega (arith, ints))
      | then-value-via-else-value+then-value-2 w ↦ inr (omega (arith, ints))
    ]) in
    too_wide_signed c.loop-i.i c.args.bytes.now None (Some (signed_low_bits c.args.bytes.now)) (omega arith) (omega arith) far

pub returns : goal.returns
returns c =
    let fits : SFits w64 (to_z w64 c.loop-i.value-bits) = search rules in
    let first : c.loop-i.i ≡ 0 = omega arith in
    whole_signed c.args.bytes.now (to_z w64 c.loop-i.value-bits) fits (c.loop-i.invariant.0 ∙ ap (λ (n : ℕ). above (sign c.args.bytes.now) (drop n c.args.bytes.now)) first)
