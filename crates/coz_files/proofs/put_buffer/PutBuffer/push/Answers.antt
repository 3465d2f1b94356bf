use Rattle.std.proofs.Common.{ap, ◌∙◌}
use Rattle.coz_files.proofs.Buffers.{failed_there, past_there}
use Rattle.coz_files.proofs.put_buffer.PutBuffer.push.Goals as goal

pub returns-in-Failed-answer-clause-gathers : goal.returns-in-Failed-answer-clause-gathers
returns-in-Failed-answer-clause-gathers g c =
    let kept = c.in_default-try_extend_from_slice.ensures.err in
    failed_there c.self.inside.answer _ c.self.inside.bytes.items _ _ _ _ c.in_default.not-Failed c.self.view_is (c.as_slice.ensures.value ∙ ap (λ v. v.items) kept) c.in-Failed-answer.is c.put-self-inside.ensures

pub returns-in-Err-clause-gathers : goal.returns-in-Err-clause-gathers
returns-in-Err-clause-gathers g c =
    let kept = c.in_default-try_extend_from_slice.ensures.err in
    let empty = c.in-Err.ensures.err in
    past_there c.self.inside.answer _ _ c.self.inside.bytes.items _ _ _ _ c.in_default.not-Failed c.self.view_is (c.as_slice.ensures.value ∙ ap (λ v. v.items) kept) c.in_default-answer.not-Failed c.put-self-inside.ensures (ap (λ v. v.items) empty ∙ c.clear.ensures) c.put-self-inside-in-Err.ensures
