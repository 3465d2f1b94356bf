-- Worked values of the definitions.
use Rattle.std.proofs.Common.{◌≡◌, Some, None, refl}
use Rattle.std.specs.Prelude.{pos, neg_ℤ}
use Rattle.asm_values.specs.Addresses.{data_address, entry_address}
use Rattle.asm_values.specs.Parts.{lower, upper}

-- data after a whole page of text, and after one byte more
data_1 : data_address 4096 0 ≡ 0x11000
data_1 = refl

data_2 : data_address 4097 8 ≡ 0x12008
data_2 = refl

-- `_start` at the last word, at the text's end, and nowhere in the text
entry_1 : entry_address (Some 4) 8 ≡ 0x10004
entry_1 = refl

entry_2 : entry_address (Some 8) 8 ≡ 0x10000
entry_2 = refl

entry_3 : entry_address None 8 ≡ 0x10000
entry_3 = refl

-- 2048 is 4096 less 2048
upper_1 : upper (pos 2048) ≡ 1
upper_1 = refl

lower_1 : lower (pos 2048) ≡ neg_ℤ (pos 2048)
lower_1 = refl

-- the greatest number of 32 bits is 2^31 less 1
upper_2 : upper (pos 0x7FFFFFFF) ≡ 0x80000
upper_2 = refl

lower_2 : lower (pos 0x7FFFFFFF) ≡ neg_ℤ (pos 1)
lower_2 = refl
