use Rattle.std.proofs.Common.{ℕ, ◌≡◌, true, pos, sym, ap, ◌∙◌}
use Rattle.guest_memory.specs.Memory.{is_writable}
use Rattle.guest_pipes.specs.Pipes.{can_make, made, made_numbers}
use Rattle.guest_calls.specs.Guest.{Guest, memory_of, with_stored}
use Rattle.guest_calls.specs.Calls.{a0, a1, with_answer, is_pipe_flags, number_bytes}
use Rattle.guest_calls.proofs.PipeCalls.{pipe2_is}
use Rattle.guest_calls.proofs.Guest.pipe2.Goals as goal

pub returns : goal.returns
returns c =
    let g : Guest = c.args.self.now in
    let h : ℕ = c.args.hart.0 in
    let flags : is_pipe_flags (a1 g h) ≡ true = ap is_pipe_flags (sym c.argument-flags.ensures) ∙ sym c.is_pipe_flags.ensures ∙ c.if-not-is_pipe_flags.false in
    let writable : is_writable (memory_of g) (a0 g h) 8 ≡ true =
    sym (c.writable.ensures.answer ∙ ap (λ (x : ℕ). is_writable c.self.inside.memory x 8) c.argument-address.ensures ∙ ap (λ (x : Guest). is_writable (memory_of x) (a0 g h) 8) c.self.view_is) ∙ c.if-not-writable.false in
    let can : can_make g.pipes ≡ true = sym (c.can_make.ensures ∙ ap (λ (x : Guest). can_make x.pipes) c.self.view_is) ∙ c.if-not-can_make.false in
    c.answer-2.ensures
    ∙ ap (λ (x : Guest). with_answer (pos 0) h x) (c.open_pipe.ensures ∙ ap (λ (a : ℕ). with_stored a (number_bytes (made_numbers g.pipes)) (record g { pipes = made g.pipes })) c.argument-address.ensures)
    ∙ pipe2_is g h flags writable can
