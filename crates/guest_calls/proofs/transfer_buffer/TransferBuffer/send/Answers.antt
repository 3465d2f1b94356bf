use Rattle.std.proofs.Common.{ℕ, ◌≡◌, List, ◌∙◌, take, length, length-take, ap, arith}
use Rattle.guest_memory.specs.Memory.{bytes_at}
use Rattle.guest_pipes.specs.Pipes.{put}
use Rattle.guest_calls.proofs.transfer_buffer.TransferBuffer.send.Goals as goal

pub returns-clause-state : goal.returns-clause-state
returns-clause-state c =
    let n : length (take c.args.count c.deref_mut.result.now) ≡ c.args.count =
    let there = c.deref_mut.ensures.len in
    let all = c.self.inside.bytes.ok.0 in
    let most = c.self.invariant in
    let few = c.requires.few in
    simp length-take (omega arith) in
    c.put.ensures.state ∙ ap (λ (bs : List ℕ). put c.args.number bs c.args.pipes.now) (c.in-Ok.ensures.1 ∙ ap (bytes_at c.args.memory.now c.args.address) n)
