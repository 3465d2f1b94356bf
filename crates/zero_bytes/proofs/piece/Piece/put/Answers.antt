use Rattle.std.proofs.Common.{ℕ, ◌≡◌, ◌+◌, ◌≤◌, List, length, arith, ap, ◌∙◌}
use Rattle.zero_bytes.specs.Bytes.{bytes_with_put}
use Rattle.zero_bytes.proofs.Changed.{changed}
use Rattle.zero_bytes.proofs.Written.{length-bytes_with_put}
use Rattle.zero_bytes.proofs.piece.Piece.put.Goals as goal

pub returns : goal.returns
returns c =
    let held = c.fill.new.bytes in
    let given = ap (λ (bs : List ℕ). length bs) c.deref_mut.ensures.value in
    let inside : c.args.at + length c.args.from.now ≤ length c.deref_mut.result.now = omega (arith, given, c.fill.ensures.whole, c.requires) in
    let many : length c.put_at.new.bytes ≡ length held.items =
    ap (λ (bs : List ℕ). length bs) c.put_at.ensures ∙ length-bytes_with_put c.args.at c.args.from.now c.deref_mut.result.now inside ∙ given in
    changed held c.put_at.new.bytes many c.fill.ensures.whole
    ∙ c.put_at.ensures
    ∙ ap (λ (bs : List ℕ). bytes_with_put c.args.at c.args.from.now bs) (c.deref_mut.ensures.value ∙ c.fill.ensures.bytes ∙ c.self.view_is)
