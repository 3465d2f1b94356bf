use Rattle.std.proofs.Common.{ℕ, ◌≡◌, ◌≤◌, ◌+◌, ◌++◌, List, ◌∙◌, length, ap, arith, append_assoc, length-append}
use Rattle.guest_pipes.specs.declared.ends.PipeEnd.TheVariants.{Reading, Writing}
use Rattle.guest_pipes.specs.declared.waiters.PipeWaiter.{PipeWaiter}
use Rattle.guest_pipes.specs.Pipes.{end_of, woken_at}
use Rattle.guest_pipes.proofs.WaitersLemmas.{other_end}
use Rattle.guest_pipes.proofs.waiters.take_both.Goals as goal

pub take_waiters-requires-2 : goal.take_waiters-requires-2
take_waiters-requires-2 c =
    let ws : List PipeWaiter = c.args.waiters.now.items in
    let first : c.take_waiters.new.into ≡ c.args.into.now ++ woken_at (end_of c.args.pipe Reading) ws = c.take_waiters.ensures.woken in
    let second : woken_at (end_of c.args.pipe Writing) c.take_waiters.new.waiters.items ≡ woken_at (end_of c.args.pipe Writing) ws =
    ap (woken_at (end_of c.args.pipe Writing)) c.take_waiters.ensures.left ∙ other_end c.args.pipe ws in
    let fits : length c.args.into.now + length (woken_at (end_of c.args.pipe Reading) ws ++ woken_at (end_of c.args.pipe Writing) ws) ≤ 256 = c.requires in
    let a = ap (λ (xs : List ℕ). length xs) first in
    let b = ap (λ (xs : List ℕ). length xs) second in
    let d = length-append (woken_at (end_of c.args.pipe Reading) ws) (woken_at (end_of c.args.pipe Writing) ws) in
    let e = length-append c.args.into.now (woken_at (end_of c.args.pipe Reading) ws) in
    omega arith

pub returns-clause-woken : goal.returns-clause-woken
returns-clause-woken c =
    let ws : List PipeWaiter = c.args.waiters.now.items in
    c.take_waiters-2.ensures.woken
    ∙ ap (λ (xs : List ℕ). xs ++ woken_at (end_of c.args.pipe Writing) c.take_waiters.new.waiters.items) c.take_waiters.ensures.woken
    ∙ ap (λ (xs : List ℕ). (c.args.into.now ++ woken_at (end_of c.args.pipe Reading) ws) ++ xs) (ap (woken_at (end_of c.args.pipe Writing)) c.take_waiters.ensures.left ∙ other_end c.args.pipe ws)
    ∙ append_assoc c.args.into.now (woken_at (end_of c.args.pipe Reading) ws) (woken_at (end_of c.args.pipe Writing) ws)
