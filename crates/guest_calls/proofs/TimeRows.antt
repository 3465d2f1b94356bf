-- The calls by which harts sleep and read clocks.
use Rattle.std.proofs.Common.{◌≡◌, ◌≤◌, ◌^◌, ℕ, ◌==◌, nat_lt, Bool, true, false, not, ◌||◌, if◌then◌else◌, [], Option, Some, None, pos, refl, arith}
use Rattle.std.proofs.lemmas.Bool.{ltb-false}
use Rattle.coz_types.specs.declared.ending.Ending.{Ending}
use Rattle.coz_types.specs.declared.ending.Ending.TheVariants.{Clock, Trapped}
use Rattle.machines.specs.declared.Fate.{Fate}
use Rattle.machines.specs.declared.Fate.TheVariants.{Sleeps, Ends}
use Rattle.machines.specs.Guest.{Retirement}
use Rattle.guest_memory.specs.Memory.{is_readable, is_writable}
use Rattle.guest_areas.specs.Answers.{bad_address, invalid_argument}
use Rattle.guest_calls.specs.declared.times.Span.{Span}
use Rattle.guest_calls.specs.Times.{span_at, span_bytes, wake_moment, last_moment, clock_at}
use Rattle.guest_calls.specs.Guest.{Guest, with_stored, is_running, memory_of}
use Rattle.guest_calls.specs.Calls
use Rattle.guest_calls.specs.Calls.{retirement, with_answer, asleep, sleep_until, unsupported, a0, a1}
use Rattle.guest_calls.specs.Orderly.{IsOrderly}
use Rattle.guest_calls.proofs.RunningHarts.{made_running, runs_awake, timed_put, asleep_more}
use Rattle.guest_calls.proofs.Started.{IsStarted, IsStartedAt, at_any_net, either, unchanged, ends_started, answer_started, stored_made, checked, unsupported_started}
use Rattle.guest_calls.proofs.ThreadRows.{set_orderly}

same_moment : (m n : ℕ) → Sleeps m ≡ Sleeps n → m ≡ n
same_moment m n is = cc

-- a running hart sleeps until a moment
pub sleeps_started : (g : Guest) (h v moment : ℕ) → v ≤ moment → moment ≤ 10 ^ 16 → IsOrderly g → is_running g h ≡ true → IsStartedAt v g h (retirement (asleep g h) (Sleeps moment) [])
sleeps_started g h v moment later soon good runs = record {
  orderly = set_orderly g h _ good runs;
  apart = tt;
  timed = λ none k. timed_put g.harts h k _ (made_running g.harts h runs);
  asleep = asleep_more g.harts h _ (made_running g.harts h runs) (runs_awake _ runs) refl;
  fate = (later, λ n is. let same : moment ≡ n = same_moment moment n is in omega arith);
  trap = λ t is. absurd (let no : ◌≡◌ {A = Fate} (Sleeps moment) (Ends (Trapped t)) = is in cc);
  idle = λ k among. absurd (let never : false ≡ true = among in cc);
  low = λ k among. absurd (let never : false ≡ true = among in cc);
  made = refl;
}

until_started : (late : Bool) (g : Guest) (h v moment : ℕ) → nat_lt last_moment moment ≡ late → v ≤ moment → IsOrderly g → is_running g h ≡ true
    → IsStartedAt v g h (if late then retirement g (Ends Clock) [] else retirement (asleep g h) (Sleeps moment) [])
until_started true g h v moment e later good runs =
    at_any_net g h v _ (ends_started g h g Clock (λ t is. absurd (let no : ◌≡◌ {A = Ending} Clock (Trapped t) = is in cc)) (unchanged g) good)
until_started false g h v moment e later good runs = sleeps_started g h v moment later (ltb-false last_moment moment e) good runs

span_started : (o : Option Span) (g : Guest) (h v : ℕ) → IsOrderly g → is_running g h ≡ true
    → IsStartedAt v g h (elim o as (λ _. Retirement Guest) [ None ↦ with_answer invalid_argument h g | Some span ↦ sleep_until g h (wake_moment v span) ])
span_started None g h v good runs = at_any_net g h v _ (answer_started invalid_argument h g g refl refl refl good runs)
span_started (Some span) g h v good runs = until_started (nat_lt last_moment (wake_moment v span)) g h v (wake_moment v span) refl (omega arith) good runs

pub nanosleep_started : (g : Guest) (h v : ℕ) → IsOrderly g → is_running g h ≡ true → IsStartedAt v g h (Calls.nanosleep g h v)
unfolding Calls.nanosleep
nanosleep_started g h v good runs =
    either (IsStartedAt v g h) (not (is_readable (memory_of g) (a0 g h) 16)) (with_answer bad_address h g) _
    (at_any_net g h v _ (answer_started bad_address h g g refl refl refl good runs))
    (span_started (span_at (memory_of g) (a0 g h)) g h v good runs)

read_started : (g : Guest) (h v : ℕ) → IsOrderly g → is_running g h ≡ true → IsStarted g h (Calls.clock_gettime g h v)
unfolding Calls.clock_gettime
read_started g h v good runs =
    either (IsStarted g h) (not (a0 g h == 0 || a0 g h == 1)) (unsupported g h) _ (unsupported_started g h good)
    (checked (not (is_writable (memory_of g) (a1 g h) 16)) bad_address h g _ good runs
    (answer_started (pos 0) h g (with_stored (a1 g h) (span_bytes (clock_at v)) g) refl refl (stored_made (a1 g h) (span_bytes (clock_at v)) g) good runs))

pub clock_gettime_started : (g : Guest) (h v : ℕ) → IsOrderly g → is_running g h ≡ true → IsStartedAt v g h (Calls.clock_gettime g h v)
clock_gettime_started g h v good runs = at_any_net g h v (Calls.clock_gettime g h v) (read_started g h v good runs)
