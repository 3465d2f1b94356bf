-- Numbers in parts of 128 bits.
use Rattle.std.specs.Prelude.{ℕ, ◌+◌, ◌*◌, ◌^◌}
use Rattle.wide_numbers.specs.declared.wide.Wide.{Wide}

-- the number of these parts
abbrev pub number : Wide → ℕ
number w = w.low + (w.middle + w.high * 2 ^ 128) * 2 ^ 128
