-- The numbers that a machine keeps grow by one with each retirement and each wake.
use Rattle.std.proofs.Common.{◌≡◌, ℕ, zero, suc, ◌+◌, ◌*◌, ◌≤◌, ⊎_elim, true, false, [], ◌∷◌, Some, refl, sym, subst, arith}
use Rattle.std.proofs.lemmas.Bool.{cases_Bool}
use Rattle.machines.specs.Guest.{Retirement}
use Rattle.guest_calls.specs.Guest as guests
use Rattle.guest_calls.specs.Retire as own
use Rattle.timing_laws.specs.Noted.{first_note, note_of}
use Rattle.timing_model.specs.declared.timing.Timing.{Timing}
use Rattle.timing_steps.specs.State.{keeps, is_over_at, number_of}
use Rattle.line_index.specs.Index.{Index}
use Rattle.timed_guest.specs.Guest.{Timed, with_wake, first_guest}
use Rattle.timed_guest.specs.Retire.{retire, gives_up, line_noted}
use Rattle.timed_guest.specs.Counts.{CountsWithin}
use Rattle.timed_guest.specs.Runs.{Run}
use Rattle.timed_guest.proofs.Line.{on_few}
use Rattle.timed_guest.proofs.Counted.{after_few}
use Rattle.timed_guest.proofs.Steps.{retires_kept, retires_plain, wakes_kept, wakes_plain}
use Rattle.timed_guest.proofs.Law.{x}

first_few : (h : ℕ) → (note_of (Some first_note ∷ []) h).count ≤ 0
first_few zero = omega arith
first_few (suc h) = omega arith

pub first_within : (r : Run) (t : Timing) (index : Index) → CountsWithin 0 (first_guest r.image r.input r.output_limit r.layout t index)
unfolding first_guest
first_within r t index = record { retired = first_few; on = omega arith }

pub retired_within : (n : ℕ) (t : Timed) (h v : ℕ) → t.beside.timing.cores ≤ 256 → CountsWithin n t → CountsWithin (n + 1) (retire t h v).guest
retired_within n t h v cores c =
    let r : Retirement guests.Guest = own.retire t.guest h v in
    let T : Timing = t.beside.timing in
    let on = c.on in
    ⊎_elim
    (λ (is : keeps T ≡ true).
    subst (λ (q : Retirement Timed). CountsWithin (n + 1) q.guest) (sym (retires_kept t h v x.guest refl is))
    (record {
      retired = after_few n (number_of (line_noted t h)) h r.others t.beside.notes c.retired;
      on = on_few T.cores (v + 100 * T.slice) h (256 + (n + 1)) (is_over_at t.beside.seats h v (gives_up t.guest h)) r.others r.fate t.beside.seats (omega (arith, cores)) (omega (arith, on));
    }))
    (λ (none : keeps T ≡ false).
    subst (λ (q : Retirement Timed). CountsWithin (n + 1) q.guest) (sym (retires_plain t h v none))
    (record { retired = λ k. let few = c.retired k in omega (arith, few); on = omega (arith, on) }))
    (cases_Bool (keeps T))

pub woken_within : (n : ℕ) (t : Timed) (h : ℕ) → CountsWithin n t → CountsWithin (n + 1) (with_wake h t)
woken_within n t h c =
    let on = c.on in
    ⊎_elim
    (λ (is : keeps t.beside.timing ≡ true). subst (CountsWithin (n + 1)) (sym (wakes_kept t h is)) (record { retired = λ k. let few = c.retired k in omega (arith, few); on = omega (arith, on) }))
    (λ (none : keeps t.beside.timing ≡ false). subst (CountsWithin (n + 1)) (sym (wakes_plain t h none)) (record { retired = λ k. let few = c.retired k in omega (arith, few); on = omega (arith, on) }))
    (cases_Bool (keeps t.beside.timing))
