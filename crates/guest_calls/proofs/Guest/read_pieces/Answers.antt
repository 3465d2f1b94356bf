use Rattle.std.proofs.Common.{◌≡◌, ◌∙◌, length, ap, arith}
use Rattle.guest_calls.specs.Guest.{Guest}
use Rattle.guest_calls.specs.Calls.{filled_parts}
use Rattle.guest_calls.proofs.Vectors.{read-harts}
use Rattle.guest_calls.proofs.Guest.read_pieces.Goals as goal

pub answer_count-requires : goal.answer_count-requires
answer_count-requires c =
    let same : length c.fill_each-count.new.self.harts ≡ length c.args.self.now.harts =
    ap (λ (g : Guest). length g.harts) c.fill_each-count.ensures.filled ∙ read-harts (filled_parts c.args.pieces.now (length c.args.self.now.input)) c.args.self.now in
    omega arith
