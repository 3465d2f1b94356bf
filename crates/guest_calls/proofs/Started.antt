-- Which harts run or sleep after a retirement of an orderly guest, that the guest stays orderly, and that what it was made with stays.
use Rattle.std.proofs.Common.{◌≡◌, ◌+◌, ◌<◌, ◌≤◌, ◌^◌, ℕ, ◌==◌, Bool, true, false, cond, if◌then◌else◌, List, [], ◌∷◌, length, IsNone, ℤ, refl, sym, ap, ◌∙◌, arith, subst, add-zero, eqb-true}
use Rattle.std.proofs.lemmas.List.{length-set}
use Rattle.coz_types.specs.Image.{ImageParts}
use Rattle.coz_types.specs.declared.ending.Ending.{Ending}
use Rattle.coz_types.specs.declared.ending.Ending.TheVariants.{Trapped, Unsupported}
use Rattle.coz_types.specs.declared.ending.Trap.{Trap}
use Rattle.machines.specs.declared.Fate.{Fate}
use Rattle.machines.specs.declared.Fate.TheVariants.{Goes, Waits, Leaves, Sleeps, Ends}
use Rattle.machines.specs.Guest.{Retirement, IsLater, goes_on, is_sleeper, started_harts, own_ending}
use Rattle.machines.specs.Places.{is_among, AllApart}
use Rattle.rv_decode.specs.Fields.{twos_complement}
use Rattle.guest_memory.specs.declared.Layout.{Layout}
use Rattle.guest_memory.specs.Memory.{MemoryMap, with_bytes}
use Rattle.guest_memory.proofs.Runs.{same_regions-with_bytes}
use Rattle.guest_areas.specs.Space.{Space, Answered}
use Rattle.guest_areas.proofs.Shares.{IsSteady}
use Rattle.guest_calls.specs.declared.hart.Hart.{Hart}
use Rattle.guest_calls.specs.Answering.{with_result}
use Rattle.guest_calls.specs.Guest.{Guest, Making, making, memory_of, hart_at, state_of, with_hart, with_state, with_memory, with_stored, with_running_each, is_running, is_running_status, is_timed, sleepers, sleepers_of}
use Rattle.guest_calls.specs.Calls.{retirement, with_answer, of_space, unsupported}
use Rattle.guest_calls.specs.Orderly.{IsOrderly, waiting_harts, AreWaiting}
use Rattle.guest_calls.proofs.Waiting.{status-set, others-running}
use Rattle.guest_calls.proofs.Among.{IsWoken, among_fewer}
use Rattle.guest_calls.specs.declared.hart.HartStatus.TheVariants.{Running}
use Rattle.guest_calls.proofs.RunningHarts.{status_at, is_timed_status, made_timed, runs_timed, chosen_status, waiting_same, asleep_same, runs_here, length_each, status_each, waiting_left, woken_made, woken_idle, asleep_woken}

-- what holds after a retirement of hart h whose fate is one of these: the harts that it starts run, and the others run or sleep as before, but h itself, which may sleep now
pub record IsStartedWith (Fits : Fate → Type 0) (g : Guest) (h : ℕ) (r : Retirement Guest) : Type 0 where
  pub orderly : IsOrderly r.guest
  pub apart : AllApart (started_harts h r)
  pub timed : IsNone (own_ending r.fate) → (k : ℕ) → is_timed r.guest k ≡ (if is_among k (started_harts h r) then true else if k == h then is_sleeper r.fate else is_timed g k)
  -- one more sleeps, if h does
  pub asleep : sleepers r.guest ≡ sleepers g + (if is_sleeper r.fate then 1 else 0)
  pub fate : Fits r.fate
  -- a trap is its own
  pub trap : (t : Trap) → r.fate ≡ Ends (Trapped t) → t.hart.0 ≡ h
  -- those that it makes or wakes neither ran nor slept before
  pub idle : (k : ℕ) → is_among k r.others ≡ true → is_timed g k ≡ false
  -- and have low numbers, even if the run ends
  pub low : (k : ℕ) → is_among k r.others ≡ true → k < 256
  pub made : making r.guest ≡ making g

-- the hart is not put to sleep
abbrev pub IsAwake : Fate → Type 0
IsAwake fate = is_sleeper fate ≡ false

-- if it sleeps from net time v on, then until a moment that is not before v, and soon
abbrev pub IsTimely : ℕ → Fate → Type 0
IsTimely v fate = IsLater v fate × ((moment : ℕ) → fate ≡ Sleeps moment → moment ≤ 10 ^ 16)

abbrev pub IsStarted : Guest → ℕ → Retirement Guest → Type 0
IsStarted g h r = IsStartedWith IsAwake g h r

abbrev pub IsStartedAt : ℕ → Guest → ℕ → Retirement Guest → Type 0
IsStartedAt v g h r = IsStartedWith (IsTimely v) g h r

later_awake : (fate : Fate) (v : ℕ) → is_sleeper fate ≡ false → IsLater v fate
later_awake Goes v awake = tt
later_awake Waits v awake = tt
later_awake Leaves v awake = tt
later_awake (Sleeps moment) v awake = absurd (let no : true ≡ false = awake in cc)
later_awake (Ends ending) v awake = tt

-- a hart that isn't put to sleep is not at any net time
pub at_any_net : (g : Guest) (h v : ℕ) (r : Retirement Guest) → IsStarted g h r → IsStartedAt v g h r
at_any_net g h v r s = record {
  orderly = s.orderly;
  apart = s.apart;
  timed = s.timed;
  asleep = s.asleep;
  fate = (later_awake r.fate v s.fate, λ moment is. absurd (let never : true ≡ false = ap is_sleeper (sym is) ∙ s.fate in cc));
  trap = s.trap;
  idle = s.idle;
  low = s.low;
  made = s.made;
}

-- those that wait
abbrev pub waiting_of : Guest → List ℕ
waiting_of g = waiting_harts g.waiters g.pipes.waiters

-- each hart has the status that it had, and the same harts wait
pub record IsAsBefore (g after : Guest) : Type 0 where
  pub count : length after.harts ≡ length g.harts
  pub waiters : waiting_of after ≡ waiting_of g
  pub status : (k : ℕ) → status_at after.harts k ≡ status_at g.harts k
  pub made : making after ≡ making g

-- beside h these others run, which neither ran nor slept before, and all else has the status that it had
pub record RunsBeside (g : Guest) (h : ℕ) (others : List ℕ) (after : Guest) : Type 0 where
  pub orderly : IsOrderly after
  pub apart : AllApart (h ∷ others)
  pub status : (k : ℕ) → status_at after.harts k ≡ (if is_among k others then Running else status_at g.harts k)
  pub asleep : sleepers after ≡ sleepers g
  pub idle : (k : ℕ) → is_among k others ≡ true → is_timed g k ≡ false
  pub made : making after ≡ making g

-- a hart that runs or sleeps is one of those that were made
pub timed_low : (g : Guest) (h : ℕ) → IsOrderly g → is_timed g h ≡ true → (h < length g.harts) × (h < 256)
timed_low g h good timed =
    let made : h < length g.harts = made_timed g.harts h timed in
    let few : length g.harts ≤ 256 = good.few in
    (made, omega arith)

pub running_low : (g : Guest) (h : ℕ) → IsOrderly g → is_running g h ≡ true → (h < length g.harts) × (h < 256)
running_low g h good runs = timed_low g h good (runs_timed (status_at g.harts h) runs)

-- those that run beside a hart have low numbers
beside_low : (g : Guest) (h : ℕ) (others : List ℕ) (after : Guest) → RunsBeside g h others after → (k : ℕ) → is_among k others ≡ true → k < 256
beside_low g h others after beside k among =
    let runs : status_at after.harts k ≡ Running = beside.status k ∙ (rw among refl) in
    (running_low after k beside.orderly (ap is_running_status runs)).1

pub either : {X : Type 0} (P : X → Type 0) (b : Bool) (x y : X) → P x → P y → P (cond b x y)
either P true x y p q = p
either P false x y p q = q

-- another memory of the same image and layout
pub memory_made : (g : Guest) (m : MemoryMap) → (m.image ≡ (memory_of g).image) × (m.layout ≡ (memory_of g).layout) → making (with_memory m g) ≡ making g
memory_made g m same =
    ap (λ (i : ImageParts). let x : Making = record { image = i; layout = m.layout; input = g.whole_input; output_limit = g.output_limit } in x) same.0
    ∙ ap (λ (l : Layout). let x : Making = record { image = (memory_of g).image; layout = l; input = g.whole_input; output_limit = g.output_limit } in x) same.1

pub stored_made : (address : ℕ) (bytes : List ℕ) (g : Guest) → making (with_stored address bytes g) ≡ making g
stored_made address bytes g = memory_made g (with_bytes address bytes (memory_of g)) (same_regions-with_bytes (memory_of g) address bytes)

pub same_harts : (g after : Guest) → after.harts ≡ g.harts → waiting_of after ≡ waiting_of g → making after ≡ making g → IsAsBefore g after
same_harts g after harts waiters made = record {
  count = ap (λ (hs : List Hart). length hs) harts;
  waiters = waiters;
  status = λ k. ap (λ (hs : List Hart). status_at hs k) harts;
  made = made;
}

pub later : (g between after : Guest) → IsAsBefore g between → IsAsBefore between after → IsAsBefore g after
later g between after first second = record {
  count = second.count ∙ first.count;
  waiters = second.waiters ∙ first.waiters;
  status = λ k. second.status k ∙ first.status k;
  made = second.made ∙ first.made;
}

pub hart_kept : (g : Guest) (h : ℕ) (hart : Hart) → hart.status ≡ (hart_at g h).status → IsAsBefore g (with_hart h hart g)
hart_kept g h hart e = record {
  count = length-set g.harts h hart;
  waiters = refl;
  status = λ k. status-set g.harts h k hart e;
  made = refl;
}

pub unchanged : (g : Guest) → IsAsBefore g g
unchanged g = same_harts g g refl refl refl

pub still_orderly : (g after : Guest) → IsAsBefore g after → IsOrderly g → IsOrderly after
still_orderly g after kept good = record {
  few = rw kept.count good.few;
  waiting = subst (AreWaiting after.harts) (sym kept.waiters) (waiting_same g.harts after.harts (waiting_of g) kept.status good.waiting);
  apart = subst AllApart (sym kept.waiters) good.apart;
}

pub none_beside : (g : Guest) (h : ℕ) (after : Guest) → IsAsBefore g after → IsOrderly g → RunsBeside g h [] after
none_beside g h after kept good = record {
  orderly = still_orderly g after kept good;
  apart = (refl, tt);
  status = kept.status;
  asleep = asleep_same g.harts after.harts kept.count kept.status;
  idle = λ k among. absurd (let never : false ≡ true = among in cc);
  made = kept.made;
}

pub beside_then : (g : Guest) (h : ℕ) (others : List ℕ) (after last : Guest) → RunsBeside g h others after → IsAsBefore after last → RunsBeside g h others last
beside_then g h others after last beside kept = record {
  orderly = still_orderly after last kept beside.orderly;
  apart = beside.apart;
  status = λ k. kept.status k ∙ beside.status k;
  asleep = asleep_same after.harts last.harts kept.count kept.status ∙ beside.asleep;
  idle = beside.idle;
  made = kept.made ∙ beside.made;
}

-- the others run then, and else the same harts run or sleep
pub beside_timed : (g : Guest) (h : ℕ) (others : List ℕ) (after : Guest) → RunsBeside g h others after → (k : ℕ) → is_timed after k ≡ (if is_among k others then true else is_timed g k)
beside_timed g h others after beside k = ap is_timed_status (beside.status k) ∙ chosen_status is_timed_status (is_among k others) Running (status_at g.harts k)

-- h has the status that it had
pub beside_still : (g : Guest) (h : ℕ) (others : List ℕ) (after : Guest) → RunsBeside g h others after → status_at after.harts h ≡ status_at g.harts h
beside_still g h others after beside = beside.status h ∙ rw beside.apart.0 refl

-- the hart goes on
goes_bit : (is other before : Bool) → (is ≡ true → before ≡ true) → (if other then true else before) ≡ (if (if is then true else other) then true else if is then false else before)
goes_bit true true before runs = refl
goes_bit true false before runs = runs refl
goes_bit false true before runs = refl
goes_bit false false before runs = refl

pub goes_started : (g : Guest) (h : ℕ) (others : List ℕ) (after : Guest) → RunsBeside g h others after → is_running g h ≡ true → IsStarted g h (retirement after Goes others)
goes_started g h others after beside runs = record {
  orderly = beside.orderly;
  apart = beside.apart;
  timed = λ none k.
      beside_timed g h others after beside k
      ∙ goes_bit (k == h) (is_among k others) (is_timed g k) (λ is. ap (is_timed g) (eqb-true k h is) ∙ runs_timed (status_at g.harts h) runs);
  asleep = beside.asleep ∙ sym (add-zero (sleepers g));
  fate = refl;
  trap = λ t is. absurd (let no : ◌≡◌ {A = Fate} Goes (Ends (Trapped t)) = is in cc);
  idle = beside.idle;
  low = beside_low g h others after beside;
  made = beside.made;
}

same_ending : (e f : Ending) → Ends e ≡ Ends f → e ≡ f
same_ending e f is = cc

-- the run ends
pub ends_started : (g : Guest) (h : ℕ) (after : Guest) (e : Ending) → ((t : Trap) → e ≡ Trapped t → t.hart.0 ≡ h) → IsAsBefore g after → IsOrderly g → IsStarted g h (retirement after (Ends e) [])
ends_started g h after e own kept good = record {
  orderly = still_orderly g after kept good;
  apart = tt;
  timed = λ none k. absurd (let never : true ≡ false = none in cc);
  asleep = asleep_same g.harts after.harts kept.count kept.status ∙ sym (add-zero (sleepers g));
  fate = refl;
  trap = λ t is. own t (same_ending e (Trapped t) is);
  idle = λ k among. absurd (let never : false ≡ true = among in cc);
  low = λ k among. absurd (let never : false ≡ true = among in cc);
  made = kept.made;
}

-- the hart waits or leaves
stops_bit : (is other before : Bool) → (is ≡ true → other ≡ false) → (if is then false else if other then true else before) ≡ (if other then true else if is then false else before)
stops_bit true true before out = sym (out refl)
stops_bit true false before out = refl
stops_bit false other before out = refl

pub stops_started : (g : Guest) (h : ℕ) (others : List ℕ) (after last : Guest) (fate : Fate) → goes_on fate ≡ false → is_sleeper fate ≡ false → ((t : Trap) → fate ≡ Ends (Trapped t) → t.hart.0 ≡ h) → RunsBeside g h others after → IsOrderly last → making last ≡ making after
    → ((k : ℕ) → is_timed last k ≡ (if k == h then false else is_timed after k)) → sleepers last ≡ sleepers after → IsStarted g h (retirement last fate others)
stops_started g h others after last fate stays awake own beside orderly made stops asleep = record {
  orderly = orderly;
  apart = rw stays beside.apart.1;
  timed = λ none k. rw (stays, awake)
      (stops k
      ∙ ap (λ (b : Bool). if k == h then false else b) (beside_timed g h others after beside k)
      ∙ stops_bit (k == h) (is_among k others) (is_timed g k) (λ is. ap (λ (n : ℕ). is_among n others) (eqb-true k h is) ∙ beside.apart.0));
  asleep = rw awake (asleep ∙ beside.asleep ∙ sym (add-zero (sleepers g)));
  fate = awake;
  trap = own;
  idle = beside.idle;
  low = beside_low g h others after beside;
  made = made ∙ beside.made;
}

-- a call that is answered
pub replied_started : (n h : ℕ) (g : Guest) (others : List ℕ) (after : Guest) → RunsBeside g h others after → is_running g h ≡ true
    → IsStarted g h (retirement (with_state h (with_result n (state_of after h)) after) Goes others)
replied_started n h g others after beside runs =
    let last : Guest = with_state h (with_result n (state_of after h)) after in
    goes_started g h others last (beside_then g h others after last beside (hart_kept after h _ refl)) runs

pub kept_started : (z : ℤ) (h : ℕ) (g after : Guest) → IsAsBefore g after → IsOrderly g → is_running g h ≡ true → IsStarted g h (with_answer z h after)
kept_started z h g after kept good runs = replied_started (twos_complement 64 z) h g [] after (none_beside g h after kept good) runs

pub answer_started : (z : ℤ) (h : ℕ) (g after : Guest) → after.harts ≡ g.harts → waiting_of after ≡ waiting_of g → making after ≡ making g → IsOrderly g → is_running g h ≡ true → IsStarted g h (with_answer z h after)
answer_started z h g after harts waiters made good runs = kept_started z h g after (same_harts g after harts waiters made) good runs

-- each branch of a choice
pub checked : (b : Bool) (z : ℤ) (h : ℕ) (g : Guest) (r : Retirement Guest) → IsOrderly g → is_running g h ≡ true → IsStarted g h r → IsStarted g h (if b then with_answer z h g else r)
checked true z h g r good runs rest = answer_started z h g g refl refl refl good runs
checked false z h g r good runs rest = rest

-- another space of the same image and layout
pub space_made : (g : Guest) (after : Space) → IsSteady g.space after → making (record g { space = after }) ≡ making g
space_made g after steady = memory_made g after.memory (steady.image, steady.layout)

pub of_space_started : (g : Guest) (h : ℕ) (a : Answered) → IsSteady g.space a.space → IsOrderly g → is_running g h ≡ true → IsStarted g h (of_space g h a)
of_space_started g h a steady good runs = answer_started a.answer h g (record g { space = a.space }) refl refl (space_made g a.space steady) good runs

pub unsupported_started : (g : Guest) (h : ℕ) → IsOrderly g → IsStarted g h (unsupported g h)
unsupported_started g h good = ends_started g h g _ (λ t is. absurd (let no : ◌≡◌ {A = Ending} (Unsupported _) (Trapped t) = is in cc)) (unchanged g) good

-- those that some call wakes run then, whatever they waited for
pub roused_beside : (g after : Guest) (h : ℕ) (woken : List ℕ) → IsOrderly g → is_running g h ≡ true → IsWoken (waiting_of g) woken (waiting_of after) → after.harts ≡ with_running_each woken g.harts → making after ≡ making g → RunsBeside g h woken after
roused_beside g after h woken good runs w harts made = record {
  orderly = record {
    few = subst (λ (hs : List Hart). length hs ≤ 256) (sym harts) (subst (λ (n : ℕ). n ≤ 256) (sym (length_each woken g.harts)) good.few);
    waiting = subst (λ (hs : List Hart). AreWaiting hs (waiting_of after)) (sym harts) (waiting_left (waiting_of g) woken (waiting_of after) g.harts w good.waiting);
    apart = w.still;
  };
  apart = (among_fewer h woken (waiting_of g) (w.from h) (others-running g.harts h (waiting_of g) (runs_here g.harts h runs) good.waiting), w.apart);
  status = λ k. ap (λ (hs : List Hart). status_at hs k) harts ∙ status_each woken g.harts k (woken_made (waiting_of g) woken (waiting_of after) g.harts w good.waiting);
  asleep = ap sleepers_of harts ∙ asleep_woken (waiting_of g) woken (waiting_of after) g.harts w good.waiting;
  idle = λ k among. woken_idle (waiting_of g) woken (waiting_of after) g.harts k w good.waiting among;
  made = made;
}
