use Rattle.std.proofs.Common.{ℕ, ◌≡◌, min, length, drop, get_or, List, sym, ap, ◌∙◌, arith}
use Rattle.std.proofs.lemmas.List.{drop_all}
use Rattle.std.proofs.lemmas.Bool.{false≢true}
use Rattle.guest_calls.specs.declared.pieces.Piece.{Piece}
use Rattle.guest_calls.specs.Calls.{filled_parts, total, with_read}
use Rattle.guest_calls.proofs.Vectors.{no_piece, fill-writable, fill-rest, fill-next, fill-count, fill-left}
use Rattle.guest_calls.proofs.Guest.fill_each.Goals as goal

pub loop-piece-preserved : goal.loop-piece-preserved
loop-piece-preserved c =
    let taken : c.min-count.result ≡ min (get_or c.args.pieces.now c.loop-piece.piece-index no_piece).length (length c.loop-piece.self.input) =
    c.min-count.ensures ∙ ap (λ (n : ℕ). min (get_or c.args.pieces.now c.loop-piece.piece-index no_piece).length n) c.input_left.ensures in
    let filling = c.in-Ok.ensures.1 in
    let count = fill-count c.loop-piece.self c.fill.new.self c.args.pieces.now c.loop-piece.piece-index c.min-count.result c.loop-piece-test.true taken filling in
    let rest = fill-left c.loop-piece.self c.fill.new.self (get_or c.args.pieces.now c.loop-piece.piece-index no_piece).address c.min-count.result filling in
    let counted = c.loop-piece.invariant.count in
    let before = c.loop-piece.invariant.taken in
    record {
      done = fill-next c.loop-piece.self c.fill.new.self c.args.pieces.now c.loop-piece.piece-index c.min-count.result c.loop-piece-test.true taken filling ∙ c.loop-piece.invariant.done;
      writable = fill-rest c.loop-piece.self c.fill.new.self c.args.pieces.now c.loop-piece.piece-index c.min-count.result c.loop-piece-test.true taken c.loop-piece.invariant.writable filling;
      count = omega arith;
      taken = omega arith;
    }

pub unreachable-requires : goal.unreachable-requires
unreachable-requires c =
    let taken : c.min-count.result ≡ min (get_or c.args.pieces.now c.loop-piece.piece-index no_piece).length (length c.loop-piece.self.input) =
    c.min-count.ensures ∙ ap (λ (n : ℕ). min (get_or c.args.pieces.now c.loop-piece.piece-index no_piece).length n) c.input_left.ensures in
    false≢true (sym c.in_default.ensures.0 ∙ fill-writable c.loop-piece.self c.args.pieces.now c.loop-piece.piece-index c.min-count.result c.loop-piece-test.true taken c.loop-piece.invariant.writable)

pub returns : goal.returns
returns c =
    let none = drop_all c.loop-piece.piece-index c.args.pieces.now c.loop-piece-test.false in
    let nothing : total (filled_parts (drop c.loop-piece.piece-index c.args.pieces.now) (length c.loop-piece.self.input)) ≡ 0 = ap (λ (qs : List Piece). total (filled_parts qs (length c.loop-piece.self.input))) none in
    let counted = c.loop-piece.invariant.count in
    record {
      filled = ap (λ (qs : List Piece). with_read (filled_parts qs (length c.loop-piece.self.input)) c.loop-piece.self) (sym none) ∙ c.loop-piece.invariant.done;
      count = omega arith;
    }
