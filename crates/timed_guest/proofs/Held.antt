-- What is held, as a guest on a machine, after each call.
use Rattle.std.proofs.Common.{◌≡◌, ℕ, zero, suc, ◌+◌, ◌<◌, ◌==◌, Bool, true, false, if◌then◌else◌, List, [], ◌∷◌, length, get_or, Option, refl, sym, ap, ◌∙◌, subst, arith}
use Rattle.coz_types.specs.declared.LineId.{LineId}
use Rattle.cost_table.specs.Costs.{cycles_of}
use Rattle.machines.specs.declared.Fate.{Fate}
use Rattle.machines.specs.Guest.{Retirement}
use Rattle.machines.specs.Places.{is_among}
use Rattle.guest_calls.specs.Guest as guests
use Rattle.guest_calls.specs.Calls as own_calls
use Rattle.guest_calls.specs.Quiet.{after_steps}
use Rattle.guest_calls.specs.Retire as own
use Rattle.guest_calls.specs.Orderly as own_order
use Rattle.guest_calls.proofs.Law as own_law
use Rattle.guest_calls.proofs.Strides.{running-after, orderly-after}
use Rattle.timing_laws.proofs.Apart.{self_among}
use Rattle.timing_model.specs.Timing.{IsUsual}
use Rattle.timing_steps.specs.State.{State, after_retirement, turn_in}
use Rattle.timing_steps.specs.declared.retirement.Retirement.{Retirement as Past}
use Rattle.timed_guest.specs.Guest.{Timed, is_running}
use Rattle.timed_guest.specs.Retire.{retire, retirement, line_noted, gives_up, cycles_of_next, next_of}
use Rattle.timed_guest.specs.Orderly.{IsOrderly}
use Rattle.timed_guest.specs.Laws.{with_guest}
use Rattle.timed_guest.proofs.Alone.{guest_alone, keeps_none}
use Rattle.timed_guest.proofs.Law.{alone, alone_orderly, retired, runs_alone, room}

-- on a usual machine a retirement is the guest's
pub usual_retired : (t now : Timed) (h v : ℕ) (g : guests.Guest) (fate : Fate) (others : List ℕ) → t ≡ now → IsUsual t.beside.timing → own_calls.retirement g fate others ≡ own.retire t.guest h v
    → retirement (with_guest g t) fate others ≡ retire now h v
usual_retired t now h v g fate others same usual effect =
    ap (λ (q : Retirement guests.Guest). retirement (with_guest q.guest t) q.fate q.others) effect
    ∙ sym ((guest_alone t usual).retires h v)
    ∙ ap (λ (s : Timed). retire s h v) same

pub retired_orderly : (t now : Timed) (h v : ℕ) (after : Timed) (fate : Fate) (others : List ℕ) → t ≡ now → IsOrderly t → is_running now h ≡ true → retirement after fate others ≡ retire now h v → IsOrderly after
retired_orderly t now h v after fate others same good runs effect =
    subst (λ (q : Retirement Timed). IsOrderly q.guest) (sym effect) (retired now h v (subst IsOrderly same good) runs).orderly

-- and so are several retirements of a hart
pub far_orderly : (t now : Timed) (h n v : ℕ) (g : guests.Guest) (fate : Fate) (others : List ℕ) → t ≡ now → IsUsual now.beside.timing → IsOrderly t → is_running now h ≡ true
    → own_calls.retirement g fate others ≡ own.retire (after_steps n t.guest h) h v → IsOrderly (with_guest g t)
far_orderly t now h n v g fate others same usual good runs effect =
    let own_runs : guests.is_running t.guest h ≡ true = ap (λ (s : Timed). guests.is_running s.guest h) same ∙ runs_alone now h runs in
    let made = (own_law.running_low t.guest h good.guest own_runs).0 in
    let none = keeps_none t.beside.timing (subst (λ (s : Timed). IsUsual s.beside.timing) (sym same) usual) in
    alone_orderly t g none good
    (subst (λ (q : Retirement guests.Guest). own_order.IsOrderly q.guest) (sym effect)
    (alone.stays_good (after_steps n t.guest h) h v (orderly-after n t.guest h made good.guest) (running-after n t.guest h own_runs)))

pub usual_cycles : (t now : Timed) (h cycles : ℕ) → t ≡ now → IsUsual t.beside.timing → cycles ≡ cycles_of (next_of t h) → cycles ≡ cycles_of_next now h
usual_cycles t now h cycles same usual is = is ∙ sym ((guest_alone t usual).cycles h) ∙ ap (λ (s : Timed). cycles_of_next s h) same

-- a retirement on any machine, from what is noted of it
abbrev past_by : ℕ → ℕ → Option LineId → Bool → Fate → Past
past_by h v line gives fate = record { hart = record { 0 = h }; moment = v; line = line; gives_up = gives; fate = fate }

module _ (t : Timed) (h v : ℕ) where
  abbrev on_cores : Past → guests.Guest → List ℕ → Retirement Timed
  on_cores past g others = retirement (record t { guest = g; beside = after_retirement t.beside past others }) (turn_in t.beside past others).fate (turn_in t.beside past others).others

  abbrev whole : Option LineId → Bool → Retirement guests.Guest → Retirement Timed
  whole line gives q = on_cores (past_by h v line gives q.fate) q.guest q.others

  whole_is : whole (line_noted t h) (gives_up t.guest h) (own.retire t.guest h v) ≡ retire t h v
  unfolding retire
  whole_is = refl

  pub timed_retired : (now : Timed) (line : Option LineId) (gives : Bool) (g : guests.Guest) (own_fate : Fate) (others : List ℕ) (s : State) (fate : Fate) (started : List ℕ)
      → t ≡ now → line ≡ line_noted now h → gives ≡ gives_up now.guest h → own_calls.retirement g own_fate others ≡ own.retire t.guest h v
      → s ≡ after_retirement t.beside (past_by h v line gives own_fate) others → fate ≡ (turn_in t.beside (past_by h v line gives own_fate) others).fate → started ≡ (turn_in t.beside (past_by h v line gives own_fate) others).others
      → retirement (record t { guest = g; beside = s }) fate started ≡ retire now h v
  timed_retired now line gives g own_fate others s fate started same lines yields effect state fates starts =
      ap (λ (b : State). retirement (record t { guest = g; beside = b }) fate started) state
      ∙ ap (λ (f : Fate). retirement (record t { guest = g; beside = after_retirement t.beside (past_by h v line gives own_fate) others }) f started) fates
      ∙ ap (λ (hs : List ℕ). retirement (record t { guest = g; beside = after_retirement t.beside (past_by h v line gives own_fate) others }) (turn_in t.beside (past_by h v line gives own_fate) others).fate hs) starts
      ∙ ap (λ (q : Retirement guests.Guest). whole line gives q) effect
      ∙ ap (λ (l : Option LineId). whole l gives (own.retire t.guest h v)) (lines ∙ ap (λ (n : Timed). line_noted n h) (sym same))
      ∙ ap (λ (b : Bool). whole (line_noted t h) b (own.retire t.guest h v)) (yields ∙ ap (λ (n : Timed). gives_up n.guest h) (sym same))
      ∙ whole_is
      ∙ ap (λ (n : Timed). retire n h v) same

-- whom the guest makes or wakes has a low number, and there is room for them in the line
rest_among : (b p : Bool) → p ≡ true → (if b then true else p) ≡ true
rest_among true p e = refl
rest_among false p e = e

all_low : (xs : List ℕ) → ((k : ℕ) → is_among k xs ≡ true → k < 256) → (i d : ℕ) → i < length xs → get_or xs i d < 256
all_low [] low i d below = absurd (omega (arith, below))
all_low (x ∷ xs) low zero d below = low x (self_among x xs)
all_low (x ∷ xs) low (suc i) d below = all_low xs (λ k among. low k (rest_among (k == x) (is_among k xs) among)) i d (omega (arith, below))

pub others_are_low : (t now : Timed) (h v : ℕ) (g : guests.Guest) (fate : Fate) (others : List ℕ) → t ≡ now → IsOrderly t → is_running now h ≡ true → own_calls.retirement g fate others ≡ own.retire t.guest h v
    → (i d : ℕ) → i < length others → get_or others i d < 256
others_are_low t now h v g fate others same good runs effect =
    let own_runs : guests.is_running t.guest h ≡ true = ap (λ (s : Timed). guests.is_running s.guest h) same ∙ runs_alone now h runs in
    all_low others
    (λ k among. own_law.others_low t.guest h v good.guest own_runs k (subst (λ (q : Retirement guests.Guest). is_among k q.others ≡ true) effect among))

pub has_room : (t now : Timed) (h v : ℕ) (g : guests.Guest) (fate : Fate) (others : List ℕ) → t ≡ now → IsOrderly t → is_running now h ≡ true → own_calls.retirement g fate others ≡ own.retire t.guest h v
    → length t.beside.seats.ready + length others < 256
has_room t now h v g fate others same good runs effect =
    subst (λ (q : Retirement guests.Guest). length t.beside.seats.ready + length q.others < 256) (sym effect)
    (room t h v good (ap (λ (s : Timed). is_running s h) same ∙ runs))
