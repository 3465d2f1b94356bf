use Rattle.std.proofs.Common.{ℕ, ◌≡◌, ◌≤◌, ◌∙◌, true, ap, sym}
use Rattle.guest_calls.specs.Guest.{Guest, memory_of}
use Rattle.guest_memory.specs.Memory.{is_readable}
use Rattle.guest_calls.specs.Calls.{a1}
use Rattle.guest_calls.proofs.Rows.{readable-part}
use Rattle.guest_calls.proofs.PipeCalls.{write_here}
use Rattle.guest_calls.proofs.Guest.write_pipe.Goals as goal

pub write_now-requires-clause-few : goal.write_now-requires-clause-few
write_now-requires-clause-few c =
    (write_here c.args.self.now c.args.hart.0 c.end_number-number.result c.argument-count.result c.in-Now.room c.self.inside.pipes (ap (λ (g : Guest). g.pipes) c.self.view_is) c.end_number-number.ensures c.requires.writes c.in-Now.ensures.answer).fits

pub write_now-requires-clause-readable : goal.write_now-requires-clause-readable
write_now-requires-clause-readable c =
    let less : c.in-Now.room ≤ c.argument-count.result = (write_here c.args.self.now c.args.hart.0 c.end_number-number.result c.argument-count.result c.in-Now.room c.self.inside.pipes (ap (λ (g : Guest). g.pipes) c.self.view_is) c.end_number-number.ensures c.requires.writes c.in-Now.ensures.answer).less in
    let may : is_readable (memory_of c.args.self.now) (a1 c.args.self.now c.args.hart.0) c.argument-count.result ≡ true =
    sym (c.readable.ensures.answer ∙ ap (λ (x : ℕ). is_readable c.self.inside.memory x c.argument-count.result) c.argument-address.ensures ∙ ap (λ (g : Guest). is_readable (memory_of g) (a1 c.args.self.now c.args.hart.0) c.argument-count.result) c.self.view_is)
    ∙ c.if-not-readable.false in
    readable-part (memory_of c.args.self.now) (a1 c.args.self.now c.args.hart.0) c.argument-count.result c.in-Now.room may less
