-- The steps of a guest's hart are those of its registers, the memory and the reservations.
use Rattle.std.proofs.Common.{ℕ, zero, suc, ◌≡◌, ◌+◌, ◌<◌, true, List, length, get_or, set, Option, Some, None, Result, Ok, Err, refl, sym, ap, subst, ◌∙◌}
use Rattle.std.specs.Prelude.{IfSome}
use Rattle.std.proofs.lemmas.List.{set-set, length-set, get_or-set_same}
use Rattle.coz_types.specs.declared.ending.TrapCause.{TrapCause}
use Rattle.coz_types.specs.declared.ending.TrapCause.TheVariants.{Fetch, Illegal}
use Rattle.coz_types.specs.Image.{ImageParts}
use Rattle.code_words.specs.Marks.{MarkMap, is_quiet_at}
use Rattle.rv_decode.specs.declared.Instr.{Instr}
use Rattle.rv_decode.specs.Instructions.{instruction_of}
use Rattle.guest_memory.specs.declared.Layout.{Layout}
use Rattle.guest_memory.specs.Memory.{MemoryMap, fetch}
use Rattle.guest_areas.specs.Space.{RegionMap}
use Rattle.guest_futex.specs.Waiters.{Waiter}
use Rattle.guest_pipes.specs.Pipes.{PipeMap}
use Rattle.rv_execute.specs.declared.hart.HartState.{HartState}
use Rattle.rv_execute.specs.declared.hart.Step.{Step}
use Rattle.rv_execute.specs.declared.hart.Step.TheVariants.{Fault}
use Rattle.rv_execute.specs.Reservations.{Reservations}
use Rattle.rv_execute.specs.Execution.{Setting, Executed, setting, execution}
use Rattle.hart_steps.specs.Words as words
use Rattle.hart_steps.specs.Steps as steps
use Rattle.guest_calls.specs.declared.hart.Hart.{Hart}
use Rattle.guest_calls.specs.Guest.{Guest, making, no_hart, hart_at, is_running, is_running_status, IsMade, pc_of, setting_of, with_setting, with_memory}
use Rattle.guest_calls.specs.Kept.{guest_of, Parts, AreShared}
use Rattle.guest_calls.specs.Orderly.{IsOrderly, waiting_harts}
use Rattle.guest_calls.specs.Output.{Written}
use Rattle.guest_calls.specs.Retire.{word_at, next_of, Stepped, step_result, stepped_by, step}
use Rattle.guest_calls.specs.Quiet.{after_steps, ticks_of, moment_after, IsQuietStep, GoesOnAt}
use Rattle.hart_steps.proofs.Unstored.{step-regions}
use Rattle.guest_calls.proofs.Shared.{still_shared}
use Rattle.guest_calls.proofs.Steps.{decoded, fetched, step-is, same_setting}
use Rattle.guest_calls.proofs.Waiting.{waiting-set}
use Rattle.guest_calls.proofs.Rows.{running-made}

-- a step is one of the setting
decoded-found : (g : Guest) (h : ℕ) (o : Option Instr) → decoded g h o ≡ stepped_by g h (steps.stepped h (setting_of g h) (words.decoded o))
decoded-found g h None = ap (λ (x : Guest). step_result x (Fault Illegal)) (sym (same_setting g h))
decoded-found g h (Some i) = refl

fetched-found : (g : Guest) (h : ℕ) (o : Option ℕ) → fetched g h o ≡ stepped_by g h (steps.stepped h (setting_of g h) (words.found o))
fetched-found g h None = ap (λ (x : Guest). step_result x (Fault Fetch)) (sym (same_setting g h))
fetched-found g h (Some w) = decoded-found g h (instruction_of w)

step-setting : (g : Guest) (h : ℕ) → step g h ≡ stepped_by g h (steps.step h (setting_of g h))
step-setting g h = step-is g h ∙ fetched-found g h (word_at g h)

-- one setting after another
twice : (xs : List Hart) (h : ℕ) (hart : Hart) (t : HartState) → h < length xs → set (set xs h hart) h (record (get_or (set xs h hart) h no_hart) { state = t }) ≡ set xs h (record hart { state = t })
twice xs h hart t below =
    ap (λ (x : Hart). set (set xs h hart) h (record x { state = t })) (get_or-set_same xs h hart no_hart below) ∙ set-set xs h hart (record hart { state = t })

put_twice : (g : Guest) (h : ℕ) (s t : Setting) → IsMade g h → with_setting h t (with_setting h s g) ≡ with_setting h t g
put_twice g h s t made =
    ap (λ (xs : List Hart). record (with_memory t.memory (record g { harts = xs })) { reservations = t.reservations }) (twice g.harts h (record (hart_at g h) { state = s.hart }) t.hart made)

setting-back : (g : Guest) (h : ℕ) (s : Setting) → IsMade g h → setting_of (with_setting h s g) h ≡ s
setting-back g h s made = ap (λ (x : Hart). setting x.state s.memory s.reservations) (get_or-set_same g.harts h (record (hart_at g h) { state = s.hart }) no_hart made)

pub after-setting : (n : ℕ) (g : Guest) (h : ℕ) → IsMade g h → after_steps n g h ≡ with_setting h (steps.after n h (setting_of g h)) g
after-setting zero g h made = sym (same_setting g h)
after-setting (suc n) g h made =
    let s = steps.after n h (setting_of g h) in
    let there = with_setting h s g in
    ap (λ (x : Guest). (step x h).guest) (after-setting n g h made)
    ∙ ap (λ (x : Stepped). x.guest) (step-setting there h)
    ∙ ap (λ (x : Setting). with_setting h (steps.step h x).setting there) (setting-back g h s made)
    ∙ put_twice g h s (steps.step h s).setting made

step-after : (n : ℕ) (g : Guest) (h : ℕ) → IsMade g h → step (after_steps n g h) h ≡ stepped_by g h (steps.step h (steps.after n h (setting_of g h)))
step-after n g h made =
    let s = steps.after n h (setting_of g h) in
    let there = with_setting h s g in
    ap (λ (x : Guest). step x h) (after-setting n g h made)
    ∙ step-setting there h
    ∙ ap (λ (x : Setting). stepped_by there h (steps.step h x)) (setting-back g h s made)
    ∙ ap (λ (x : Guest). step_result x (steps.step h s).step) (put_twice g h s (steps.step h s).setting made)

-- when they are due
ticks-setting : (g : Guest) (h : ℕ) → ticks_of g h ≡ steps.ticks_of (setting_of g h)
unfolding next_of
ticks-setting g h = refl

pub moment-setting : (n : ℕ) (g : Guest) (h net : ℕ) → IsMade g h → moment_after n g h net ≡ steps.moment n h (setting_of g h) net
moment-setting zero g h net made = refl
moment-setting (suc n) g h net made =
    let s = steps.after (suc n) h (setting_of g h) in
    let ticks : ticks_of (after_steps (suc n) g h) h ≡ steps.ticks_of s =
    ap (λ (x : Guest). ticks_of x h) (after-setting (suc n) g h made) ∙ ticks-setting (with_setting h s g) h ∙ ap steps.ticks_of (setting-back g h s made) in
    ap (λ (m : ℕ). m + ticks_of (after_steps (suc n) g h) h) (moment-setting n g h net made) ∙ ap (λ (t : ℕ). steps.moment n h (setting_of g h) net + t) ticks

pub quiet-setting : (marks : MarkMap) (limit n : ℕ) (g : Guest) (h net : ℕ) → IsMade g h → steps.IsQuiet marks limit h (steps.after n h (setting_of g h)) (steps.moment n h (setting_of g h) net)
    → IsQuietStep marks limit (after_steps n g h) h (moment_after n g h net)
quiet-setting marks limit n g h net made quiet =
    let e = steps.step h (steps.after n h (setting_of g h)) in
    let is = step-after n g h made in
    let back = setting-back g h e.setting made in
    let ticks : ticks_of (step (after_steps n g h) h).guest h ≡ steps.ticks_of e.setting =
    ap (λ (x : Stepped). ticks_of x.guest h) is ∙ ticks-setting (with_setting h e.setting g) h ∙ ap steps.ticks_of back in
    record {
      goes = ap (λ (x : Stepped). x.step) is ∙ quiet.goes;
      unmarked = ap (λ (x : Stepped). is_quiet_at marks (pc_of x.guest h)) is ∙ ap (λ (x : Setting). is_quiet_at marks x.hart.pc) back ∙ quiet.unmarked;
      due = subst (λ (m : ℕ). m + ticks_of (step (after_steps n g h) h).guest h < limit) (sym (moment-setting n g h net made))
          (subst (λ (t : ℕ). steps.moment n h (setting_of g h) net + t < limit) (sym ticks) quiet.due);
    }

pub goes_on-setting : (marks : MarkMap) (n : ℕ) (g : Guest) (h net next : ℕ) → IsMade g h → steps.GoesOn marks h (steps.after n h (setting_of g h)) net next → GoesOnAt marks (after_steps n g h) h net next
goes_on-setting marks n g h net next made on =
    let e = steps.step h (steps.after n h (setting_of g h)) in
    let is = step-after n g h made in
    let back = setting-back g h e.setting made in
    let ticks : ticks_of (step (after_steps n g h) h).guest h ≡ steps.ticks_of e.setting =
    ap (λ (x : Stepped). ticks_of x.guest h) is ∙ ticks-setting (with_setting h e.setting g) h ∙ ap steps.ticks_of back in
    record {
      goes = ap (λ (x : Stepped). x.step) is ∙ on.goes;
      unmarked = ap (λ (x : Stepped). is_quiet_at marks (pc_of x.guest h)) is ∙ ap (λ (x : Setting). is_quiet_at marks x.hart.pc) back ∙ on.unmarked;
      next = on.next ∙ ap (λ (t : ℕ). net + t) (sym ticks);
    }

pub goes_on-each : (marks : MarkMap) (most n : ℕ) (g : Guest) (h net : ℕ) (start : Setting) (o : Option ℕ) → IsMade g h → start ≡ setting_of g h
    → IfSome o (λ next. (n + 1 < most) × steps.GoesOn marks h (steps.after n h start) net next) → IfSome o (λ next. (n + 1 < most) × GoesOnAt marks (after_steps n g h) h net next)
goes_on-each marks most n g h net start None made is on = on
goes_on-each marks most n g h net start (Some next) made is on =
    (on.0, goes_on-setting marks n g h net next made (subst (λ (x : Setting). steps.GoesOn marks h (steps.after n h x) net next) is on.1))

-- what is executed on the hart's own registers, in its place
pub steps-in_place : (items : List Hart) (regions : RegionMap) (m after_m : MemoryMap) (r after_r : Reservations) (waiters : List Waiter) (pipes : PipeMap) (input whole : List ℕ) (output : Written) (g : Guest) (h n : ℕ) (hart : Hart) (s : HartState) (result : Step)
    → guest_of items regions m r waiters pipes input whole output ≡ g → hart ≡ get_or items h no_hart → h < length items
    → execution s after_m after_r result ≡ steps.step h (steps.after n h (setting hart.state m r))
    → step_result (guest_of (set items h (record hart { state = s })) regions after_m after_r waiters pipes input whole output) result ≡ step (after_steps n g h) h
steps-in_place items regions m after_m r after_r waiters pipes input whole output g h n hart s result view at made x =
    let old : Guest = guest_of items regions m r waiters pipes input whole output in
    ap (λ (y : Hart). step_result (guest_of (set items h (record y { state = s })) regions after_m after_r waiters pipes input whole output) result) at
    ∙ ap (λ (e : Executed). stepped_by old h e) (x ∙ ap (λ (y : Hart). steps.step h (steps.after n h (setting y.state m r))) at)
    ∙ sym (step-after n old h made)
    ∙ ap (λ (y : Guest). step (after_steps n y h) h) view

-- the setting of the hart in its place
pub setting-in_place : (items : List Hart) (regions : RegionMap) (m : MemoryMap) (r : Reservations) (waiters : List Waiter) (pipes : PipeMap) (input whole : List ℕ) (output : Written) (g : Guest) (h : ℕ) (hart : Hart)
    → guest_of items regions m r waiters pipes input whole output ≡ g → hart ≡ get_or items h no_hart → setting hart.state m r ≡ setting_of g h
setting-in_place items regions m r waiters pipes input whole output g h hart view at = ap (λ (y : Hart). setting y.state m r) at ∙ ap (λ (y : Guest). setting_of y h) view

-- the image and the layout stay
after-regions : (n h : ℕ) (s : Setting) → ((steps.after n h s).memory.image ≡ s.memory.image) × ((steps.after n h s).memory.layout ≡ s.memory.layout)
after-regions zero h s = (refl, refl)
after-regions (suc n) h s =
    let last = step-regions h (steps.after n h s) in
    let before = after-regions n h s in
    (last.0 ∙ before.0, last.1 ∙ before.1)

pub shares-steps : (r : Parts) (h n : ℕ) (s : Setting) (hart : HartState) (m : MemoryMap) (rs : Reservations) (result : Step) → execution hart m rs result ≡ steps.step h (steps.after n h s)
    → AreShared r s.memory → AreShared r m
shares-steps r h n s hart m rs result e shared =
    let last = step-regions h (steps.after n h s) in
    let before = after-regions n h s in
    let same : m ≡ (steps.step h (steps.after n h s)).setting.memory = ap (λ (x : Executed). x.setting.memory) e in
    still_shared r s.memory m (ap (λ (x : MemoryMap). x.image) same ∙ last.0 ∙ before.0) (ap (λ (x : MemoryMap). x.layout) same ∙ last.1 ∙ before.1) shared

-- what stays of a guest after steps of a running hart
pub running-after : (n : ℕ) (g : Guest) (h : ℕ) → is_running g h ≡ true → is_running (after_steps n g h) h ≡ true
running-after n g h runs =
    let made = running-made g h runs in
    ap (λ (x : Guest). is_running x h) (after-setting n g h made)
    ∙ ap (λ (x : Hart). is_running_status x.status) (get_or-set_same g.harts h (record (hart_at g h) { state = (steps.after n h (setting_of g h)).hart }) no_hart made)
    ∙ runs

pub orderly-after : (n : ℕ) (g : Guest) (h : ℕ) → IsMade g h → IsOrderly g → IsOrderly (after_steps n g h)
orderly-after n g h made good =
    subst (λ (x : Guest). IsOrderly x) (sym (after-setting n g h made)) (record {
      few = simp length-set good.few;
      waiting = waiting-set g.harts h (record (hart_at g h) { state = (steps.after n h (setting_of g h)).hart }) (waiting_harts g.waiters g.pipes.waiters) refl good.waiting;
      apart = good.apart;
    })

pub making-after : (n : ℕ) (g : Guest) (h : ℕ) → IsMade g h → making (after_steps n g h) ≡ making g
making-after n g h made =
    let kept = after-regions n h (setting_of g h) in
    ap making (after-setting n g h made)
    ∙ ap (λ (i : ImageParts). record (making (with_setting h (steps.after n h (setting_of g h)) g)) { image = i }) kept.0
    ∙ ap (λ (l : Layout). record (making g) { layout = l }) kept.1
