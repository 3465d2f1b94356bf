use Rattle.std.proofs.Common.{ℕ, ◌≡◌, ◌+◌, ◌-◌, List, length, take, drop, rules, arith, sym, ap, ◌∙◌}
use Rattle.zero_bytes.proofs.Filled.{no_bytes, all_bytes, read-empty, filled-whole}
use Rattle.zero_bytes.proofs.piece.Piece.read.Goals as goal

pub returns-then-is_empty : goal.returns-then-is_empty
returns-then-is_empty c =
    let s = c.self.inside in
    let n = length c.args.into.now in
    let none = no_bytes c.is_empty.result _ s.bytes.items c.is_empty.ensures s.bytes.ok.0 c.if-is_empty.true in
    read-empty 262144 c.args.at n s.bytes.items c.fill.new.self none c.requires c.fill.ensures.len (λ k h. search rules)
    ∙ ap (λ (bs : List ℕ). take n (drop c.args.at bs)) c.self.view_is

pub returns-else-is_empty : goal.returns-else-is_empty
returns-else-is_empty c =
    let s = c.self.inside in
    let n = length c.args.into.now in
    let whole = all_bytes c.is_empty.result _ s.bytes.items c.is_empty.ensures s.bytes.ok.0 c.if-is_empty.false c.self.invariant.0 in
    c.copy_from_slice.ensures.after
    ∙ ap (λ (bs : List ℕ). take (c.args.at + n - c.args.at) (drop c.args.at bs)) (c.deref.ensures.value ∙ sym (filled-whole 262144 s.bytes.items whole) ∙ c.self.view_is)
    ∙ ap (λ (k : ℕ). take k (drop c.args.at c.args.self.now)) (let e : c.args.at + n - c.args.at ≡ n = omega arith in e)
