use Rattle.std.proofs.Common.{◌≡◌, ◌+◌, ◌*◌, ◌<◌, ℕ, Option, true, false, arith, refl, sym, ap, ◌∙◌}
use Rattle.std.specs.Prelude.{option_and_then}
use Rattle.cost_table.specs.Costs.{cycles_of}
use Rattle.guest_memory.specs.Memory.{fetch}
use Rattle.rv_decode.specs.declared.Instr.{Instr}
use Rattle.rv_decode.specs.Instructions.{instruction_of}
use Rattle.code_words.specs.Marks.{is_quiet_at}
use Rattle.rv_execute.specs.declared.hart.Step.TheVariants.{Next}
use Rattle.rv_execute.specs.Execution.{Executed, setting, execution}
use Rattle.hart_steps.specs.Steps.{step, ticks_of}
use Rattle.hart_steps.specs.Code.{IsIntact}
use Rattle.hart_steps.proofs.Going.{one_more, goes_on}
use Rattle.hart_steps.proofs.Intact.{still_intact, still_code}
use Rattle.hart_steps.proofs.steps.step_on.Goals as goal
use Rattle.hart_steps.proofs.steps.step_on.Goals.{in-Next, in_default-matches}

pub loop-step-preserved : goal.loop-step-preserved
loop-step-preserved c =
    let h = c.args.number.0 in
    let start = setting c.args.state.now c.args.memory.now c.args.reservations.now in
    let before = setting c.loop-step.state c.loop-step.memory c.loop-step.reservations in
    let e : Executed = execution c.execute_word-step.new.state c.execute_word-step.new.memory c.execute_word-step.new.reservations c.execute_word-step.result in
    let goes : c.execute_word-step.result ≡ Next = elim c.match-matches.branch [
      | in-Next w ↦ w.in-Next.is
      | in_default-matches w ↦ absurd (let never : false ≡ true = sym w.matches-is ∙ c.if-not-matches.false in cc)
    ] in
    let unmarked : is_quiet_at c.args.marks.now c.execute_word-step.new.state.pc ≡ true = sym c.is_quiet_at.ensures ∙ c.if-not-is_quiet_at.false in
    let intact : IsIntact c.args.code.now c.execute_word-step.new.memory =
    still_intact h c.args.code.now before c.loop-step.word.now e c.execute_word-step.ensures c.loop-step.invariant.word c.loop-step.invariant.intact (c.is_intact_after.ensures c.if-not-is_intact_after.false) in
    let next = c.in-Some-word.next.now in
    let at = c.in-Some-word.ensures in
    let decoded : option_and_then instruction_of (fetch c.execute_word-step.new.memory c.execute_word-step.new.state.pc) ≡ next.instr = ap (λ (o : Option ℕ). option_and_then instruction_of o) at.fetched ∙ sym at.is.instr in
    let ticks : c.from.result ≡ ticks_of (setting c.execute_word-step.new.state c.execute_word-step.new.memory c.execute_word-step.new.reservations) =
    omega (arith, c.from.ensures) ∙ at.is.ticks ∙ ap (λ (o : Option Instr). 100 * cycles_of o) (sym decoded) in
    let due : c.loop-step.due + ticks_of e.setting < c.args.limit = omega (arith, ticks, c.if-later-limit.false) in
    record {
      gone = one_more c.args.marks.now c.args.limit h start c.args.net c.loop-step.quiet before c.loop-step.due e (c.loop-step.quiet + 1) (c.loop-step.due + c.from.result) c.loop-step.invariant.gone
          c.execute_word-step.ensures goes unmarked due refl (ap (λ (t : ℕ). c.loop-step.due + t) ticks);
      word = at;
      code = still_code h c.args.code.now before e c.execute_word-step.ensures c.loop-step.invariant.code;
      intact = intact;
      few = omega (arith, c.if-quiet-most.false);
      low = omega (arith, c.if-later-limit.false, c.requires.limit);
    }

pub overflow_add-later : goal.overflow_add-later
overflow_add-later c = omega (arith, c.from.ensures, c.in-Some-word.ensures.is.few, c.loop-step.invariant.word.is.few, c.loop-step.invariant.low)

pub returns-then-not-matches-clause-effect : goal.returns-then-not-matches-clause-effect
returns-then-not-matches-clause-effect c = c.execute_word-step.ensures ∙ ap (step c.args.number.0) c.loop-step.invariant.gone.reached

pub returns-then-later-limit-clause-effect : goal.returns-then-later-limit-clause-effect
returns-then-later-limit-clause-effect c = c.execute_word-step.ensures ∙ ap (step c.args.number.0) c.loop-step.invariant.gone.reached

pub returns-then-later-limit-clause-next : goal.returns-then-later-limit-clause-next
returns-then-later-limit-clause-next c =
    let h = c.args.number.0 in
    let start = setting c.args.state.now c.args.memory.now c.args.reservations.now in
    let before = setting c.loop-step.state c.loop-step.memory c.loop-step.reservations in
    let e : Executed = execution c.execute_word-step.new.state c.execute_word-step.new.memory c.execute_word-step.new.reservations c.execute_word-step.result in
    let goes : c.execute_word-step.result ≡ Next = elim c.match-matches.branch [
      | in-Next w ↦ w.in-Next.is
      | in_default-matches w ↦ absurd (let never : false ≡ true = sym w.matches-is ∙ c.if-not-matches.false in cc)
    ] in
    let unmarked : is_quiet_at c.args.marks.now c.execute_word-step.new.state.pc ≡ true = sym c.is_quiet_at.ensures ∙ c.if-not-is_quiet_at.false in
    let next = c.in-Some-word.next.now in
    let at = c.in-Some-word.ensures in
    let decoded : option_and_then instruction_of (fetch c.execute_word-step.new.memory c.execute_word-step.new.state.pc) ≡ next.instr = ap (λ (o : Option ℕ). option_and_then instruction_of o) at.fetched ∙ sym at.is.instr in
    let ticks : c.from.result ≡ ticks_of (setting c.execute_word-step.new.state c.execute_word-step.new.memory c.execute_word-step.new.reservations) =
    omega (arith, c.from.ensures) ∙ at.is.ticks ∙ ap (λ (o : Option Instr). 100 * cycles_of o) (sym decoded) in (
      omega (arith, c.if-quiet-most.false),
      goes_on c.args.marks.now c.args.limit h start c.args.net c.loop-step.quiet before c.loop-step.due e (c.loop-step.due + c.from.result) c.loop-step.invariant.gone
          c.execute_word-step.ensures goes unmarked (ap (λ (t : ℕ). c.loop-step.due + t) ticks),
    )

pub word-requires-in-loop-step-clause-of : goal.word-requires-in-loop-step-clause-of
word-requires-in-loop-step-clause-of c =
    let h = c.args.number.0 in
    let before = setting c.loop-step.state c.loop-step.memory c.loop-step.reservations in
    let e : Executed = execution c.execute_word-step.new.state c.execute_word-step.new.memory c.execute_word-step.new.reservations c.execute_word-step.result in
    still_code h c.args.code.now before e c.execute_word-step.ensures c.loop-step.invariant.code

pub word-requires-in-loop-step-clause-intact : goal.word-requires-in-loop-step-clause-intact
word-requires-in-loop-step-clause-intact c =
    let h = c.args.number.0 in
    let before = setting c.loop-step.state c.loop-step.memory c.loop-step.reservations in
    let e : Executed = execution c.execute_word-step.new.state c.execute_word-step.new.memory c.execute_word-step.new.reservations c.execute_word-step.result in
    still_intact h c.args.code.now before c.loop-step.word.now e c.execute_word-step.ensures c.loop-step.invariant.word c.loop-step.invariant.intact (c.is_intact_after.ensures c.if-not-is_intact_after.false)
