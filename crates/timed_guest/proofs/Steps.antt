-- A retirement and a wake, on a machine that keeps notes and seats and on one that keeps none.
use Rattle.std.proofs.Common.{◌≡◌, ℕ, ◌+◌, Bool, true, false, not, ◌&&◌, ◌||◌, if◌then◌else◌, None, refl, sym, ap, ◌∙◌}
use Rattle.machines.specs.Guest.{Guest, Retirement}
use Rattle.guest_calls.specs.Guest as guests
use Rattle.guest_calls.specs.Retire as own
use Rattle.timing_laws.specs.Noted.{Noted, Noting, notes_after, noted_guest}
use Rattle.timing_laws.specs.Cores.{Cores, Turned, cores_guest}
use Rattle.timing_model.specs.Timing.{charges}
use Rattle.timing_steps.specs.State.{beside, keeps, number_of, turn_on}
use Rattle.timing_steps.specs.declared.retirement.Retirement.{Retirement as Past}
use Rattle.timed_guest.specs.Guest.{Timed, is_in_line, is_timed, with_wake}
use Rattle.timed_guest.specs.Retire.{retire, retirement, retirement_by, line_noted}
use Rattle.timed_guest.specs.Runs.{slicing_of}
use Rattle.timed_guest.specs.Laws.{with_guest}

-- the guest with notes, on cores, that a state is one of
abbrev pub as_cores : Timed → Cores (Noted guests.Guest)
as_cores t = beside t.beside.notes t.beside.seats t.guest

-- what its notes are for, with the lines as they are noted
abbrev pub noting_at : Timed → Noting guests.Guest
noting_at t = record {
  line = λ g h. number_of (line_noted (with_guest g t) h);
  selected = None;
  charges = charges t.beside.timing.charge;
  seed = t.beside.timing.seed;
}

abbrev pub guest_at : Timed → Guest guests.Guest → Guest (Cores (Noted guests.Guest))
guest_at t guest = cores_guest (slicing_of t.beside.timing) (noted_guest (noting_at t) guest)

-- a state of it, as one of this machine
abbrev pub back : Timed → Cores (Noted guests.Guest) → Timed
back t c = record t {
  guest = c.guest.guest;
  beside = record (t.beside) { notes = c.guest.notes; seats = c.seats };
}

module _ (t : Timed) where
  module _ (h v : ℕ) where
    abbrev r : Retirement guests.Guest
    r = own.retire t.guest h v

    abbrev past : Past
    past = retirement_by t h v r.fate

    abbrev turned_if : Bool → Turned
    turned_if b = if b then turn_on t.beside.timing.cores t.beside.timing.slice past r.others t.beside.seats else record { seats = t.beside.seats; fate = r.fate; others = r.others }

    abbrev retired_if : Bool → Retirement Timed
    retired_if b =
        retirement
        (record t {
          guest = r.guest;
          beside = record (t.beside) { notes = if b then notes_after (number_of past.line) h r.others t.beside.notes else t.beside.notes; seats = (turned_if b).seats };
        })
        (turned_if b).fate (turned_if b).others

    retired_by : retire t h v ≡ retired_if (keeps t.beside.timing)
    unfolding retire
    retired_by = refl

    -- what a retirement of the guest on cores is here
    abbrev pub from_cores : Retirement (Cores (Noted guests.Guest)) → Retirement Timed
    from_cores q = retirement (back t q.guest) q.fate q.others

    pub retires_kept : (guest : Guest guests.Guest) → guest.retire t.guest h v ≡ own.retire t.guest h v → keeps t.beside.timing ≡ true → retire t h v ≡ from_cores ((guest_at t guest).retire (as_cores t) h v)
    retires_kept guest same is =
        retired_by
        ∙ ap retired_if is
        ∙ ap
        (λ (q : Retirement guests.Guest).
        let p : Past = retirement_by t h v q.fate in
        let u : Turned = turn_on t.beside.timing.cores t.beside.timing.slice p q.others t.beside.seats in
        retirement (record t { guest = q.guest; beside = record (t.beside) { notes = notes_after (number_of p.line) h q.others t.beside.notes; seats = u.seats } }) u.fate u.others)
        (sym same)

    pub retires_plain : keeps t.beside.timing ≡ false → retire t h v ≡ retirement (with_guest r.guest t) r.fate r.others
    retires_plain is = retired_by ∙ ap retired_if is

  abbrev woken_if : ℕ → Bool → Timed
  woken_if h b = record t {
    guest = guests.with_wake h t.guest;
    beside = if b then record (t.beside) { seats = record (t.beside.seats) { on = t.beside.seats.on + 1 } } else t.beside;
  }

  pub wakes_kept : (h : ℕ) → keeps t.beside.timing ≡ true → with_wake h t ≡ woken_if h true
  wakes_kept h is = ap (woken_if h) is

  pub wakes_plain : (h : ℕ) → keeps t.beside.timing ≡ false → with_wake h t ≡ with_guest (guests.with_wake h t.guest) t
  wakes_plain h is = ap (woken_if h) is

and_true : (a : Bool) → (a && true) ≡ a
and_true true = refl
and_true false = refl

-- out of the line a hart is what the guest says
pub out_of_line : (a m : Bool) → m ≡ false → (a && not m) ≡ a
out_of_line a m e = ap (λ (b : Bool). a && not b) e ∙ and_true a

pub timed_free : (t : Timed) (h : ℕ) → is_in_line t h ≡ false → is_timed t h ≡ guests.is_timed t.guest h
timed_free t h out =
    ap (λ (b : Bool). b || (guests.is_running t.guest h && not (is_in_line t h))) (out_of_line (guests.is_sleeping t.guest h) (is_in_line t h) out)
    ∙ ap (λ (b : Bool). guests.is_sleeping t.guest h || b) (out_of_line (guests.is_running t.guest h) (is_in_line t h) out)
