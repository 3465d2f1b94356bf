use Rattle.std.proofs.Common.{ℕ, ◌≡◌, true, false, sym, ap, ◌∙◌, ◌++◌}
use Rattle.guest_pipes.specs.declared.ends.PipeEnd.TheVariants.{Reading, Writing}
use Rattle.guest_pipes.specs.Pipes.{closed, woken_for}
use Rattle.guest_calls.specs.Guest.{Guest, is_running}
use Rattle.guest_calls.specs.Calls.{a0, is_stream, is_end}
use Rattle.guest_calls.proofs.Rows.{running-made}
use Rattle.guest_calls.proofs.Rousing.{still-piped}
use Rattle.guest_calls.proofs.PipeCalls.{close_done}
use Rattle.guest_calls.proofs.Guest.close.Goals as goal

pub answer-requires-2 : goal.answer-requires-2
answer-requires-2 c =
    let g : Guest = c.args.self.now in
    let n : ℕ = c.end_number-number.result in
    running-made c.close_end.new.self c.args.hart.0
    (ap (λ (x : Guest). is_running x c.args.hart.0) c.close_end.ensures.closed ∙ still-piped g (closed n g.pipes) (woken_for Reading n g.pipes ++ woken_for Writing n g.pipes) c.args.hart.0 c.requires.running)

pub returns : goal.returns
returns c =
    let g : Guest = c.args.self.now in
    let h : ℕ = c.args.hart.0 in
    let stream : is_stream (a0 g h) ≡ false = ap is_stream (sym c.argument-file.ensures) ∙ sym c.is_stream.ensures ∙ c.if-is_stream.false in
    let open' : is_end (a0 g h) g ≡ true = ap (λ (n : ℕ). is_end n g) (sym c.argument-file.ensures) ∙ sym c.is_end.ensures ∙ c.if-not-is_end.false in
    close_done g c.close_end.new.self c.answer-2.new.self h c.end_number-number.result c.answer-2.result c.close_end.new.started stream open' c.end_number-number.ensures c.close_end.ensures.woken c.close_end.ensures.closed c.answer-2.ensures
