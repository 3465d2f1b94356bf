-- How a retirement follows from the step of a hart.
use Rattle.std.proofs.Common.{ℕ, ◌≡◌, List, length, get_or, set, Option, Some, None, refl, sym, ap, ◌∙◌, subst, option_and_then}
use Rattle.std.proofs.lemmas.List.{set-get_or, length-set}
use Rattle.coz_types.specs.declared.ending.TrapCause.TheVariants.{Fetch, Illegal}
use Rattle.rv_decode.specs.declared.Instr.{Instr}
use Rattle.rv_decode.specs.declared.Instr.TheVariants.{Ecall}
use Rattle.rv_decode.specs.Instructions.{instruction_of}
use Rattle.coz_types.specs.Image.{ImageParts}
use Rattle.guest_memory.specs.Memory.{MemoryMap}
use Rattle.guest_areas.specs.Space.{RegionMap, SharesRegions}
use Rattle.rv_execute.specs.declared.hart.HartState.{HartState}
use Rattle.rv_execute.specs.declared.hart.Step.{Step}
use Rattle.rv_execute.specs.declared.hart.Step.TheVariants.{Call, Fault}
use Rattle.rv_execute.specs.Reservations.{Reservations}
use Rattle.rv_execute.specs.Execution.{Setting, Executed, setting, execution, execute}
use Rattle.guest_futex.specs.Waiters.{Waiter}
use Rattle.guest_pipes.specs.Pipes.{PipeMap}
use Rattle.guest_calls.specs.declared.hart.Hart.{Hart}
use Rattle.guest_calls.specs.Guest.{Guest, no_hart, setting_of, with_setting}
use Rattle.guest_calls.specs.Output.{Written}
use Rattle.guest_calls.specs.Kept.{guest_of}
use Rattle.guest_calls.specs.Retire.{word_at, next_of, Stepped, step_result, stepped_by, step, retirement_after, retire}
use Rattle.hart_steps.proofs.Steady.{only_ecall, ecall-unchanged, regions-kept}

-- the next instruction, and its absence
pub next-fetched : (g : Guest) (h w : ℕ) → Some w ≡ word_at g h → instruction_of w ≡ next_of g h
unfolding next_of
next-fetched g h w e = ap (option_and_then instruction_of) e

pub next-absent : (g : Guest) (h : ℕ) → None ≡ word_at g h → None ≡ next_of g h
unfolding next_of
next-absent g h e = ap (option_and_then instruction_of) e

-- what a step does, by the word at the pc and its instruction
abbrev pub decoded : Guest → ℕ → Option Instr → Stepped
decoded g h None = step_result g (Fault Illegal)
decoded g h (Some i) = stepped_by g h (execute h i (setting_of g h))

abbrev pub fetched : Guest → ℕ → Option ℕ → Stepped
fetched g h None = step_result g (Fault Fetch)
fetched g h (Some w) = decoded g h (instruction_of w)

decoded-is : (g : Guest) (h : ℕ) (o : Option Instr) → (elim o [ None ↦ step_result g (Fault Illegal) | Some i ↦ stepped_by g h (execute h i (setting_of g h)) ]) ≡ decoded g h o
decoded-is g h None = refl
decoded-is g h (Some i) = refl

fetched-is : (g : Guest) (h : ℕ) (o : Option ℕ)
    → (elim o [ None ↦ step_result g (Fault Fetch) | Some w ↦ elim (instruction_of w) [ None ↦ step_result g (Fault Illegal) | Some i ↦ stepped_by g h (execute h i (setting_of g h)) ] ]) ≡ fetched g h o
fetched-is g h None = refl
fetched-is g h (Some w) = decoded-is g h (instruction_of w)

pub step-is : (g : Guest) (h : ℕ) → step g h ≡ fetched g h (word_at g h)
unfolding step
step-is g h = fetched-is g h (word_at g h)

pub step-unfetched : (g : Guest) (h : ℕ) → None ≡ word_at g h → step_result g (Fault Fetch) ≡ step g h
step-unfetched g h e = ap (fetched g h) e ∙ sym (step-is g h)

pub step-illegal : (g : Guest) (h w : ℕ) → Some w ≡ word_at g h → None ≡ instruction_of w → step_result g (Fault Illegal) ≡ step g h
step-illegal g h w e i = ap (decoded g h) i ∙ ap (fetched g h) e ∙ sym (step-is g h)

pub step-executed : (g : Guest) (h w : ℕ) (i : Instr) (s : HartState) (m : MemoryMap) (r : Reservations) (result : Step) → Some w ≡ word_at g h → Some i ≡ instruction_of w
    → execution s m r result ≡ execute h i (setting_of g h) → step_result (with_setting h (setting s m r) g) result ≡ step g h
step-executed g h w i s m r result e f x = ap (stepped_by g h) x ∙ ap (decoded g h) f ∙ ap (fetched g h) e ∙ sym (step-is g h)

pub same_setting : (g : Guest) (h : ℕ) → with_setting h (setting_of g h) g ≡ g
same_setting g h = ap (λ (harts : List Hart). record g { harts = harts }) (set-get_or g.harts h no_hart)

-- a step that is a call leaves the guest as it is, at an ecall
pub record IsCall (g : Guest) (h : ℕ) (s : Stepped) (next : Option Instr) : Type 0 where
  pub same : s.guest ≡ g
  pub ecall : next ≡ Some Ecall

call_executed : (g : Guest) (h : ℕ) (i : Instr) → i ≡ Ecall → with_setting h (execute h i (setting_of g h)).setting g ≡ g
call_executed g h i e =
    ap (λ (x : Instr). with_setting h (execute h x (setting_of g h)).setting g) e
    ∙ ap (λ (x : Setting). with_setting h x g) (ecall-unchanged h (setting_of g h))
    ∙ same_setting g h

call_decoded : (g : Guest) (h : ℕ) (o : Option Instr) → (decoded g h o).step ≡ Call → IsCall g h (decoded g h o) o
call_decoded g h None p = absurd (let q : Fault Illegal ≡ Call = p in cc)
call_decoded g h (Some i) p =
    let e = only_ecall h i (setting_of g h) p in record { same = call_executed g h i e; ecall = ap Some e }

call_fetched : (g : Guest) (h : ℕ) (o : Option ℕ) → (fetched g h o).step ≡ Call → IsCall g h (fetched g h o) (option_and_then instruction_of o)
call_fetched g h None p = absurd (let q : Fault Fetch ≡ Call = p in cc)
call_fetched g h (Some w) p = call_decoded g h (instruction_of w) p

pub step-call : (g : Guest) (h : ℕ) → (step g h).step ≡ Call → IsCall g h (step g h) (next_of g h)
unfolding next_of
step-call g h p = rw step-is (call_fetched g h (word_at g h) (ap (λ (s : Stepped). s.step) (sym (step-is g h)) ∙ p))

guest_decoded : (Has : Guest → Type 0) (g : Guest) (h : ℕ) (o : Option Instr) → Has g → ((i : Instr) → Has (with_setting h (execute h i (setting_of g h)).setting g)) → Has (decoded g h o).guest
guest_decoded Has g h None here after = here
guest_decoded Has g h (Some i) here after = after i

guest_fetched : (Has : Guest → Type 0) (g : Guest) (h : ℕ) (o : Option ℕ) → Has g → ((i : Instr) → Has (with_setting h (execute h i (setting_of g h)).setting g)) → Has (fetched g h o).guest
guest_fetched Has g h None here after = here
guest_fetched Has g h (Some w) here after = guest_decoded Has g h (instruction_of w) here after

-- what the guest has, and has after each instruction, it has after a step
pub step-guest : (Has : Guest → Type 0) (g : Guest) (h : ℕ) → Has g → ((i : Instr) → Has (with_setting h (execute h i (setting_of g h)).setting g)) → Has (step g h).guest
step-guest Has g h here after = subst (λ (s : Stepped). Has s.guest) (sym (step-is g h)) (guest_fetched Has g h (word_at g h) here after)

-- a step makes no hart
pub step-harts : (g : Guest) (h : ℕ) → length (step g h).guest.harts ≡ length g.harts
step-harts g h = step-guest (λ x. length x.harts ≡ length g.harts) g h refl (λ i. length-set g.harts h _)

pub retire-after : (g after : Guest) (h v : ℕ) (s : Step) → step_result after s ≡ step g h → retirement_after h v (step_result after s) ≡ retire g h v
unfolding retire
retire-after g after h v s e = ap (retirement_after h v) e

-- what is asked of a call holds after the step that reaches it
pub call-same : (g after : Guest) (h : ℕ) (s : Step) → step_result after s ≡ step g h → s ≡ Call → IsCall g h (step_result after s) (next_of g h)
call-same g after h s e is =
    let p : (step g h).step ≡ Call = ap (λ (x : Stepped). x.step) (sym e) ∙ is in
    let there = step-call g h p in
    record { same = ap (λ (x : Stepped). x.guest) e ∙ there.same; ecall = there.ecall }

-- what is executed on the hart's own registers, in its place
pub step-in_place : (items : List Hart) (regions : RegionMap) (m after_m : MemoryMap) (r after_r : Reservations) (waiters : List Waiter) (pipes : PipeMap) (input whole : List ℕ) (output : Written) (g : Guest) (h w : ℕ) (i : Instr) (hart : Hart) (s : HartState) (result : Step)
    → guest_of items regions m r waiters pipes input whole output ≡ g → hart ≡ get_or items h no_hart → Some w ≡ word_at g h → Some i ≡ instruction_of w
    → execution s after_m after_r result ≡ execute h i (setting hart.state m r)
    → step_result (guest_of (set items h (record hart { state = s })) regions after_m after_r waiters pipes input whole output) result ≡ step g h
step-in_place items regions m after_m r after_r waiters pipes input whole output g h w i hart s result view at e f x =
    let old : Guest = guest_of items regions m r waiters pipes input whole output in
    ap (λ (y : Hart). step_result (guest_of (set items h (record y { state = s })) regions after_m after_r waiters pipes input whole output) result) at
    ∙ step-executed old h w i s after_m after_r result (e ∙ ap (λ (y : Guest). word_at y h) (sym view)) f (x ∙ ap (λ (y : Hart). execute h i (setting y.state m r)) at)
    ∙ ap (λ (y : Guest). step y h) view
