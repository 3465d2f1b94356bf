use Rattle.std.proofs.Common.{ℕ, ◌≡◌, ◌+◌, ◌%◌, ◌^◌, drop, get_or, List, refl, sym, ap, ◌∙◌, arith, zero-add}
use Rattle.std.proofs.lemmas.List.{drop_all}
use Rattle.guest_calls.specs.declared.pieces.Piece.{Piece}
use Rattle.guest_calls.specs.Output.{with_bytes_written}
use Rattle.guest_calls.specs.Calls.{total, bytes_of}
use Rattle.guest_calls.proofs.Vectors.{no_piece, readable-first, readable-rest, readable-next, written-next, written-none, total-next}
use Rattle.guest_calls.proofs.output.Output.append_each.Goals as goal

pub loop-piece-init : goal.loop-piece-init
loop-piece-init c = record {
  output = refl;
  readable = c.requires;
  sum = ap (λ (n : ℕ). n % 2 ^ 64) (zero-add (total c.args.pieces.now));
  fits = refl;
}

pub append-requires : goal.append-requires
append-requires c =
    readable-first c.args.memory.now (get_or c.args.pieces.now c.loop-piece.piece-index no_piece) (drop (c.loop-piece.piece-index + 1) c.args.pieces.now)
    (readable-next c.args.memory.now c.args.pieces.now c.loop-piece.piece-index c.loop-piece-test.true c.loop-piece.invariant.readable)

pub loop-piece-preserved : goal.loop-piece-preserved
loop-piece-preserved c =
    let more = total-next c.args.pieces.now c.loop-piece.piece-index c.loop-piece-test.true in
    let before = c.loop-piece.invariant.sum in
    record {
      output = written-next c.args.memory.now c.args.pieces.now c.loop-piece.piece-index c.loop-piece.self c.append.new.self c.loop-piece-test.true c.append.ensures ∙ c.loop-piece.invariant.output;
      readable = readable-rest c.args.memory.now (get_or c.args.pieces.now c.loop-piece.piece-index no_piece) (drop (c.loop-piece.piece-index + 1) c.args.pieces.now)
          (readable-next c.args.memory.now c.args.pieces.now c.loop-piece.piece-index c.loop-piece-test.true c.loop-piece.invariant.readable);
      sum = omega arith;
      fits = omega arith;
    }

pub returns : goal.returns
returns c =
    let none = drop_all c.loop-piece.piece-index c.args.pieces.now c.loop-piece-test.false in
    let nothing : total (drop c.loop-piece.piece-index c.args.pieces.now) ≡ 0 = ap total none in
    let sum = c.loop-piece.invariant.sum in
    let fits = c.loop-piece.invariant.fits in
    record {
      output = written-none c.self.inside.places.items c.self.inside.limit c.loop-piece.self c.self.invariant.0 c.self.view_is
          ∙ ap (λ (qs : List Piece). with_bytes_written (bytes_of c.args.memory.now qs) c.loop-piece.self) (sym none)
          ∙ c.loop-piece.invariant.output;
      total = omega arith;
    }
