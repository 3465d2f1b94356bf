use Rattle.std.proofs.Common.{ℕ, ◌≡◌, List, length, ap, ◌∙◌}
use Rattle.zero_bytes.specs.Bytes.{bytes_with_number}
use Rattle.zero_bytes.proofs.Written.{length-bytes_with_number}
use Rattle.zero_bytes.proofs.Changed.{changed}
use Rattle.zero_bytes.proofs.piece.Piece.write.Goals as goal

pub returns : goal.returns
returns c =
    let held = c.fill.new.bytes in
    let many : length c.write_number.new.bytes ≡ length held.items =
    ap (λ (bs : List ℕ). length bs) c.write_number.ensures ∙ length-bytes_with_number c.args.at c.args.size c.args.value c.deref_mut.result.now
    ∙ ap (λ (bs : List ℕ). length bs) c.deref_mut.ensures.value in
    changed held c.write_number.new.bytes many c.fill.ensures.whole
    ∙ c.write_number.ensures
    ∙ ap (λ (bs : List ℕ). bytes_with_number c.args.at c.args.size c.args.value bs) (c.deref_mut.ensures.value ∙ c.fill.ensures.bytes ∙ c.self.view_is)
