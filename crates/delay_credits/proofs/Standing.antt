-- A seat is the hart of its account and pause at each moment from that of the latest raises on.
use Rattle.std.proofs.Common.{ℕ, zero, suc, ◌≡◌, ◌≤◌, ◌<◌, ◌+◌, ◌-◌, ◌==◌, min, false, List, [], ◌∷◌, length, map, set, get_or, refl, ap, ap₂, ◌∙◌, arith, eq-eqb, if◌then◌else◌, Option, Some, None}
use Rattle.std.specs.Prelude.{All}
use Rattle.coz_types.specs.declared.record.Account.{Account as GivenAccount}
use Rattle.machines.specs.Places.{change}
use Rattle.machines.specs.Delayed.{Hart, idle_hart, run, credit, raise_hart, has_load}
use Rattle.machines.specs.Steps.{sit_hart}
use Rattle.delay_credits.specs.declared.seat.Raises.{Raises}
use Rattle.delay_credits.specs.declared.seat.Running.{Running}
use Rattle.delay_credits.specs.declared.seat.Seat.{Seat}
use Rattle.delay_credits.specs.Delays.{pause_of}
use Rattle.delay_credits.specs.Ticks.{hart_after_ticks}
use Rattle.delay_credits.proofs.TicksLemmas.{ticked_is}
use Rattle.delay_credits.specs.Seats.{free_of, pause_left, pause_of_seat, account_of_seat, hart_of_seat, parts_of, started_seat, raised_seat, IsFree, IsSound, IsUnpaused}

-- a running hart of these ticks
abbrev hart_with : ℕ → ℕ → ℕ → ℕ → ℕ → Hart
hart_with own credited paused work pause =
    record { account = record { own = own; paused = paused; credited = credited }; load = Some (record { work = work; pause = pause }) }

same_hart : (own own' credited m n v w p q : ℕ) → own ≡ own' → m ≡ n → v ≡ w → p ≡ q → hart_with own credited m v p ≡ hart_with own' credited n w q
same_hart own own' credited m n v w p q o paused work pause = cc

-- a hart pauses for as many ticks as its pause is shorter later
later_paused : (raised parts sum free at latest now : ℕ) → at ≤ latest → latest ≤ now → parts + (sum - free) ≤ raised
    → raised - (parts + (sum - free - (latest - at))) + min (now - latest) (sum - free - (latest - at)) ≡ raised - (parts + (sum - free - (now - at)))
later_paused raised parts sum free at latest now past later within = omega arith

-- a hart as it is n ticks later
pub standing-later : (raised : ℕ) (raises : Raises) (latest now : ℕ) (seat : Seat) → raises.at ≤ latest → latest ≤ now → IsSound raised raises seat
    → sit_hart (now - latest) (hart_of_seat raised raises latest seat) ≡ hart_of_seat raised raises now seat
standing-later raised raises latest now seat past later sound = go seat.account seat.running sound.within
  where
    go : (a : GivenAccount) (running : Option Running) → parts_of raises (record { account = a; running = running }) ≤ raised
        → sit_hart (now - latest) (hart_of_seat raised raises latest (record { account = a; running = running })) ≡ hart_of_seat raised raises now (record { account = a; running = running })
    go a None within = refl
    go a (Some r) within =
        let f = free_of raises r in
        let p = raises.sum - f - (latest - raises.at) in
        same_hart a.own a.own a.credited (raised - (a.own + a.credited + r.lacks + p) + min (now - latest) p) (raised - (a.own + a.credited + r.lacks + (raises.sum - f - (now - raises.at)))) (0 - (now - latest - p)) 0 (p - (now - latest)) (raises.sum - f - (now - raises.at))
        refl
        (later_paused raised (a.own + a.credited + r.lacks) raises.sum f raises.at latest now past later within)
        (omega arith)
        (omega arith)

-- all harts as they are later
pub standing-all : (raised : ℕ) (raises : Raises) (latest now : ℕ) (seats : List Seat) → All (IsSound raised raises) seats → raises.at ≤ latest → latest ≤ now
    → map (hart_after_ticks (now - latest)) (map (hart_of_seat raised raises latest) seats) ≡ map (hart_of_seat raised raises now) seats
standing-all raised raises latest now [] sound past later = refl
standing-all raised raises latest now (seat ∷ seats) sound past later =
    ap₂ (λ (x : Hart) (xs : List Hart). x ∷ xs)
    (ticked_is (now - latest) (hart_of_seat raised raises latest seat) ∙ standing-later raised raises latest now seat past later (sound 0 seat (omega arith)))
    (standing-all raised raises latest now seats (λ k d (below : k < length seats). sound (suc k) d (omega arith)) past later)

-- the seat of one hart is written
pub standing-set : (of : Seat → Hart) (h : ℕ) (f : Hart → Hart) (seats : List Seat) (seat d : Seat) → h < length seats → of seat ≡ f (of (get_or seats h d)) → map of (set seats h seat) ≡ change idle_hart h f (map of seats)
standing-set of h f [] seat d below is = absurd (omega arith)
standing-set of zero f (x ∷ xs) seat d below is = ap (λ (y : Hart). y ∷ map of xs) is
standing-set of (suc h) f (x ∷ xs) seat d below is = ap (λ (ys : List Hart). of x ∷ ys) (standing-set of h f xs seat d (omega arith) is)

-- the hart of one seat
pub standing-read : (of : Seat → Hart) (h : ℕ) (seats : List Seat) (d : Seat) → h < length seats → get_or (map of seats) h idle_hart ≡ of (get_or seats h d)
standing-read of h [] d below = absurd (omega arith)
standing-read of zero (x ∷ xs) d below = refl
standing-read of (suc h) (x ∷ xs) d below = standing-read of h xs d (omega arith)

-- a hart that runs with no pause runs so from then on
pub standing-again : (raised : ℕ) (raises : Raises) (now : ℕ) (seat : Seat) → IsUnpaused raises now seat → hart_of_seat raised raises now seat ≡ run 0 (hart_of_seat raised raises now seat)
standing-again raised raises now seat unpaused = go seat.account seat.running unpaused
  where
    go : (a : GivenAccount) (running : Option Running) → IsUnpaused raises now (record { account = a; running = running })
        → hart_of_seat raised raises now (record { account = a; running = running }) ≡ run 0 (hart_of_seat raised raises now (record { account = a; running = running }))
    go a None given = absurd (given.0 refl)
    go a (Some r) given = ap (λ (n : ℕ). hart_with a.own a.credited (raised - (a.own + a.credited + r.lacks + pause_left raises now r)) 0 n) given.1

-- the pause of a hart
pub standing-pause : (raised : ℕ) (raises : Raises) (now : ℕ) (seat : Seat) → pause_of_seat raises now seat ≡ pause_of (hart_of_seat raised raises now seat)
standing-pause raised raises now seat = go seat.account seat.running
  where
    go : (a : GivenAccount) (running : Option Running) → pause_of_seat raises now (record { account = a; running = running }) ≡ pause_of (hart_of_seat raised raises now (record { account = a; running = running }))
    go a None = refl
    go a (Some r) = refl

-- the parts of an account
pub account_within : (raised : ℕ) (raises : Raises) (now : ℕ) (seat : Seat) → IsSound raised raises seat
    → (account_of_seat raised raises now seat).own + (account_of_seat raised raises now seat).credited + (account_of_seat raised raises now seat).paused ≤ raised
account_within raised raises now seat sound = go seat.account seat.running sound.within
  where
    go : (a : GivenAccount) (running : Option Running) → parts_of raises (record { account = a; running = running }) ≤ raised
        → (account_of_seat raised raises now (record { account = a; running = running })).own + (account_of_seat raised raises now (record { account = a; running = running })).credited + (account_of_seat raised raises now (record { account = a; running = running })).paused ≤ raised
    go a None within = within
    go a (Some r) within = let f = free_of raises r in omega (arith, within)

-- of what is free at the latest moment all is free
same_free : (raises : Raises) (free lacks : ℕ) → free_of raises (record { lacks = lacks; free = free; at = raises.at }) ≡ free
same_free raises free lacks = ap (λ b. if b then free else 0) (eq-eqb raises.at raises.at refl)

-- a hart that begins to run
pub standing-start : (raised : ℕ) (raises : Raises) (now : ℕ) (seat : Seat) → IsSound raised raises seat
    → hart_of_seat raised raises now (started_seat raised raises now seat) ≡ run 0 (hart_of_seat raised raises now seat)
standing-start raised raises now seat sound = go (account_of_seat raised raises now seat) (account_within raised raises now seat sound)
  where
    go : (a : GivenAccount) → a.own + a.credited + a.paused ≤ raised
        → hart_of_seat raised raises now (record { account = a; running = Some (record { lacks = raised - (a.own + a.credited + a.paused); free = raises.sum; at = raises.at }) })
        ≡ hart_with a.own a.credited a.paused 0 0
    go a within =
        let lacks = raised - (a.own + a.credited + a.paused) in
        let f = free_of raises (record { lacks = lacks; free = raises.sum; at = raises.at }) in
        let free : f ≡ raises.sum = same_free raises raises.sum lacks in
        same_hart a.own a.own a.credited (raised - (a.own + a.credited + lacks + (raises.sum - f - (now - raises.at)))) a.paused 0 0 (raises.sum - f - (now - raises.at)) 0 refl (omega (arith, free, within)) refl (omega (arith, free))

pub sound-start : (raised : ℕ) (raises : Raises) (now : ℕ) (seat : Seat) → IsSound raised raises seat → IsSound raised raises (started_seat raised raises now seat)
sound-start raised raises now seat sound = go (account_of_seat raised raises now seat) (account_within raised raises now seat sound)
  where
    go : (a : GivenAccount) → a.own + a.credited + a.paused ≤ raised
        → IsSound raised raises (record { account = a; running = Some (record { lacks = raised - (a.own + a.credited + a.paused); free = raises.sum; at = raises.at }) })
    go a within =
        let lacks = raised - (a.own + a.credited + a.paused) in
        let free = same_free raises raises.sum lacks in
        record { within = omega (arith, free, within); free = (omega arith, omega (arith, free)) }

pub sound-stop : (raised : ℕ) (raises : Raises) (now : ℕ) (seat : Seat) → IsSound raised raises seat → IsSound raised raises (record { account = account_of_seat raised raises now seat; running = None })
sound-stop raised raises now seat sound = record { within = account_within raised raises now seat sound; free = tt }

-- the raises of a moment with one more
abbrev pub more : Raises → ℕ → Raises
more raises ticks = record { at = raises.at; sum = raises.sum + ticks }

-- of a later raise a hart is free of what it was free of before
kept_free : (raises : Raises) (ticks : ℕ) (r : Running) → free_of (more raises ticks) r ≡ free_of raises r
kept_free raises ticks r = refl

pub standing-raise : (raised : ℕ) (raises : Raises) (ticks : ℕ) (seat : Seat) (h : ℕ) → IsSound raised raises seat
    → hart_of_seat (raised + ticks) (more raises ticks) raises.at (raised_seat raises ticks seat) ≡ raise_hart ticks h h (hart_of_seat raised raises raises.at seat)
standing-raise raised raises ticks seat h sound = go seat.account seat.running sound.within sound.free
  where
    go : (a : GivenAccount) (running : Option Running) → parts_of raises (record { account = a; running = running }) ≤ raised → IsFree raises running
        → hart_of_seat (raised + ticks) (more raises ticks) raises.at (raised_seat raises ticks (record { account = a; running = running })) ≡ raise_hart ticks h h (hart_of_seat raised raises raises.at (record { account = a; running = running }))
    go a None within free = refl
    go a (Some r) within free =
        let f = free_of raises r in
        let f' = free_of (more raises ticks) (record { lacks = r.lacks; free = f + ticks; at = raises.at }) in
        let all : f' ≡ f + ticks = same_free raises (f + ticks) r.lacks in
        let p = raises.sum - f - (raises.at - raises.at) in
        let p' = raises.sum + ticks - f' - (raises.at - raises.at) in
        rw (eq-eqb h h refl)
        (same_hart (a.own + ticks) (a.own + ticks) a.credited (raised + ticks - (a.own + ticks + a.credited + r.lacks + p')) (raised - (a.own + a.credited + r.lacks + p)) 0 0 p' p refl (omega (arith, all)) refl (omega (arith, all)))

pub standing-other : (raised : ℕ) (raises : Raises) (ticks : ℕ) (seat : Seat) (h k : ℕ) → (k == h) ≡ false → IsSound raised raises seat
    → hart_of_seat (raised + ticks) (more raises ticks) raises.at seat ≡ raise_hart ticks h k (hart_of_seat raised raises raises.at seat)
standing-other raised raises ticks seat h k apart sound = go seat.account seat.running sound.within sound.free
  where
    go : (a : GivenAccount) (running : Option Running) → parts_of raises (record { account = a; running = running }) ≤ raised → IsFree raises running
        → hart_of_seat (raised + ticks) (more raises ticks) raises.at (record { account = a; running = running }) ≡ raise_hart ticks h k (hart_of_seat raised raises raises.at (record { account = a; running = running }))
    go a None within free = refl
    go a (Some r) within free =
        let f = free_of raises r in
        let below = free.1 in
        let p = raises.sum - f - (raises.at - raises.at) in
        let p' = raises.sum + ticks - f - (raises.at - raises.at) in
        rw apart
        (same_hart a.own a.own a.credited (raised + ticks - (a.own + a.credited + r.lacks + p')) (raised - (a.own + a.credited + r.lacks + p)) 0 0 p' (p + ticks) refl (omega (arith, below, within)) refl (omega (arith, below)))

pub sound-raise : (raised : ℕ) (raises : Raises) (ticks : ℕ) (seat : Seat) → IsSound raised raises seat → IsSound (raised + ticks) (more raises ticks) (raised_seat raises ticks seat)
sound-raise raised raises ticks seat sound = go seat.account seat.running sound.within sound.free
  where
    go : (a : GivenAccount) (running : Option Running) → parts_of raises (record { account = a; running = running }) ≤ raised → IsFree raises running
        → IsSound (raised + ticks) (more raises ticks) (raised_seat raises ticks (record { account = a; running = running }))
    go a None within free = record { within = omega (arith, within); free = tt }
    go a (Some r) within free =
        let f = free_of raises r in
        let below = free.1 in
        let all = same_free raises (f + ticks) r.lacks in
        record { within = omega (arith, all, within); free = (omega arith, omega (arith, all, below)) }

pub sound-other : (raised : ℕ) (raises : Raises) (ticks : ℕ) (seat : Seat) → IsSound raised raises seat → IsSound (raised + ticks) (more raises ticks) seat
sound-other raised raises ticks seat sound = go seat.account seat.running sound.within sound.free
  where
    go : (a : GivenAccount) (running : Option Running) → parts_of raises (record { account = a; running = running }) ≤ raised → IsFree raises running
        → IsSound (raised + ticks) (more raises ticks) (record { account = a; running = running })
    go a None within free = record { within = omega (arith, within); free = tt }
    go a (Some r) within free =
        let f = free_of raises r in
        let below = free.1 in
        record { within = omega (arith, within); free = (free.0, omega (arith, below)) }

-- a hart that doesn't run is credited
pub standing-credit : (raised : ℕ) (raises : Raises) (now goal : ℕ) (s : Seat) → has_load (hart_of_seat raised raises now s) ≡ false
    → hart_of_seat raised raises now (record { account = record s.account { credited = s.account.credited + (goal - (s.account.own + s.account.paused + s.account.credited)) }; running = None }) ≡ credit goal (hart_of_seat raised raises now s)
standing-credit raised raises now goal s = go s.account s.running
  where
    go : (a : GivenAccount) (running : Option Running) → has_load (hart_of_seat raised raises now (record { account = a; running = running })) ≡ false
        → hart_of_seat raised raises now (record { account = record a { credited = a.credited + (goal - (a.own + a.paused + a.credited)) }; running = None }) ≡ credit goal (hart_of_seat raised raises now (record { account = a; running = running }))
    go a None waits = refl
    go a (Some r) waits = cc
