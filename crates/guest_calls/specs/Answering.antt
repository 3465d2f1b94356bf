-- What a hart finds after its call.
use Rattle.std.specs.Prelude.{ℕ, ℤ}
use Rattle.rv_decode.specs.Fields.{twos_complement}
use Rattle.rv_execute.specs.declared.hart.HartState.{HartState}
use Rattle.rv_execute.specs.Execution.{with_register, with_pc, pc_after}

-- where a hart goes on after its call
abbrev pub after_call : HartState → HartState
after_call state = with_pc (pc_after state) state

-- an answer stands in a0, which is x10
abbrev pub with_result : ℕ → HartState → HartState
with_result n state = with_register 10 n (after_call state)

-- a negative answer in 64 bits
abbrev pub with_answer : ℤ → HartState → HartState
with_answer answer state = with_result (twos_complement 64 answer) state
