use Rattle.std.proofs.Common.{ℕ, ◌≡◌, ◌%◌, arith, refl, ap, ◌∙◌}
use Rattle.zero_bytes.specs.Bytes.{bytes_with_number}
use Rattle.zero_bytes.proofs.Written.{at_once, low_two, low_four}
use Rattle.zero_bytes.proofs.numbers.write_number.Goals as goal

pub returns-in-2 : goal.returns-in-2
returns-in-2 c =
    let size : 2 ≡ c.args.size = omega arith in
    at_once c.args.offset 2 c.args.value (c.args.value % 65536) c.args.bytes.now c.write_u16.new.buf (omega arith) (low_two c.args.value) c.write_u16.ensures
    ∙ ap (λ (n : ℕ). bytes_with_number c.args.offset n c.args.value c.args.bytes.now) size

pub returns-in-4 : goal.returns-in-4
returns-in-4 c =
    let size : 4 ≡ c.args.size = omega arith in
    at_once c.args.offset 4 c.args.value (c.args.value % 4294967296) c.args.bytes.now c.write_u32.new.buf (omega arith) (low_four c.args.value) c.write_u32.ensures
    ∙ ap (λ (n : ℕ). bytes_with_number c.args.offset n c.args.value c.args.bytes.now) size

pub returns-in_default : goal.returns-in_default
returns-in_default c =
    let size : 8 ≡ c.args.size = omega arith in
    at_once c.args.offset 8 c.args.value c.args.value c.args.bytes.now c.write_u64.new.buf (omega arith) refl c.write_u64.ensures
    ∙ ap (λ (n : ℕ). bytes_with_number c.args.offset n c.args.value c.args.bytes.now) size
