-- Where the text and the data of a program lie in memory, and where it begins.
use Rattle.std.specs.Prelude.{ℕ, ◌+◌, ◌-◌, ◌*◌, ◌/◌, Option, Some, None, nat_lt, if◌then◌else◌}
use Rattle.coz_types.specs.declared.TheConstants.{PAGE}
use Rattle.asm_values.specs.declared.TheConstants.{TEXT_START}

-- the least multiple of m that isn't below n
abbrev pub up_to_multiple : ℕ → ℕ → ℕ
up_to_multiple m n = (n + (m - 1)) / m * m

-- the address of the byte at this offset of the text
abbrev pub text_address : ℕ → ℕ
text_address offset = TEXT_START + offset

-- the address of the byte at this offset of the data, after a text of `text` bytes:
-- data begins at the first page that isn't below the text's end
abbrev pub data_address : ℕ → ℕ → ℕ
data_address text offset = TEXT_START + up_to_multiple PAGE text + offset

-- the address at which a text of `text` bytes begins to run: at the offset of `_start`,
-- if there is one and it is before the text's end; otherwise at the text's first byte
abbrev pub entry_address : Option ℕ → ℕ → ℕ
entry_address None text = TEXT_START
entry_address (Some offset) text = if nat_lt offset text then text_address offset else TEXT_START
