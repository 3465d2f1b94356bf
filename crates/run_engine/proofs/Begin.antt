-- The beginning of the harts that a retirement started.
use Rattle.std.proofs.Common.{◌≡◌, ◌≢◌, ℕ, ◌+◌, ◌-◌, ◌*◌, ◌≤◌, ◌<◌, Bool, true, false, if◌then◌else◌, ◌==◌, List, [], ◌∷◌, ◌++◌, length, filter, refl, sym, ap, subst, ◌∙◌, arith, eq-eqb, ne_eqb, Option, Some, None, ◌⊎◌, inl, inr, length-append, mul_comm, add-mul}
use Rattle.std.proofs.lemmas.Bool.{cases_eq}
use Rattle.std.proofs.lemmas.List.{length-set, append_assoc}
use Rattle.timing_steps.specs.Ticks.{timed_ticks}
use Rattle.hart_schedule.specs.Keys.{Keys, key_of, with_key, without_key}
use Rattle.machines.specs.Places.{is_among}
use Rattle.timed_guest.specs.Guest.{Timed}
use Rattle.timed_guest.specs.Retire.{cycles_of_next}
use Rattle.run_engine.specs.declared.choice.Setting.{Setting}
use Rattle.run_engine.specs.Begin.{keys_at_rest, many, IsIdle, AreIdle, AreBegun}
use Rattle.run_engine.specs.Run.{is_selected_in, ticks_in}
use Rattle.run_engine.specs.Engine.{AreWithin}
use Rattle.run_engine.proofs.Many.{many_with, many_without, many_below}
use Rattle.run_engine.proofs.Keys.{has_place, with_key_at, without_key_at, over_key_at, rested_at}
use Rattle.machines.specs.Shortened.{rest}
use Rattle.machines.specs.Guest.{goes_on}
use Rattle.machines.specs.declared.Fate.{Fate}
use Rattle.machines.specs.declared.Fate.TheVariants.{Goes, Waits, Leaves, Sleeps, Ends}
use Rattle.run_engine.specs.Ending.{runs_after}

-- the first of them
pub first_idle : (g : Timed) (keys : Keys) (h : ℕ) (hs : List ℕ) → AreIdle g keys (h ∷ hs) → IsIdle g keys h
first_idle g keys h hs are = are.idle h (rw (eq-eqb h h refl) refl)

-- a hart that isn't among them is another one
other_than : (k h : ℕ) (hs : List ℕ) → is_among h hs ≡ false → is_among k hs ≡ true → k ≢ h
other_than k h hs out among same =
    let no : is_among h hs ≡ true = subst (λ (n : ℕ). is_among n hs ≡ true) same among in
    let clash : false ≡ true = sym out ∙ no in
    cc

later_idle : (g : Timed) (keys : Keys) (h v k : ℕ) (hs : List ℕ) → AreIdle g keys (h ∷ hs) → is_among k hs ≡ true → k ≢ h → h < length keys → IsIdle g (with_key h v keys) k
later_idle g keys h v k hs are among other below =
    let idle : IsIdle g keys k = are.idle k (rw (ne_eqb k h other) among) in
    record {
      made = idle.made;
      below = rw (length-set keys h (Some v)) idle.below;
      absent = with_key_at keys h v k below ∙ rw (ne_eqb k h other) idle.absent;
    }

-- the others are idle once the first has begun
pub rest_idle : (g : Timed) (keys : Keys) (h v : ℕ) (hs : List ℕ) → AreIdle g keys (h ∷ hs) → AreIdle g (with_key h v keys) hs
rest_idle g keys h v hs are = record {
  apart = are.apart.1;
  idle = λ k among. later_idle g keys h v k hs are among (other_than k h hs are.apart.0 among) (first_idle g keys h hs are).below;
}

begun_by : (ticks : ℕ → ℕ) (m : ℕ) (h k : ℕ) (among : Bool) (old o : Option ℕ) → (k ≡ h → among ≡ false) → (k ≡ h) ⊎ (k ≡ h → ⊥)
    → o ≡ (if among then Some (m + ticks k) else if k == h then Some (m + ticks h) else old)
    → o ≡ (if (if k == h then true else among) then Some (m + ticks k) else old)
begun_by ticks m h k among old o out (inl same) is =
    let none : among ≡ false = out same in
    let due : Some (m + ticks h) ≡ Some (m + ticks k) = ap (λ (n : ℕ). Some (m + ticks n)) (sym same) in
    let first : o ≡ (if k == h then Some (m + ticks h) else old) = is ∙ rw none refl in
    let now : (k == h) ≡ true = rw (same, eq-eqb h h refl) refl in
    rw now (first ∙ rw now due)
begun_by ticks m h k among old o out (inr n) is = rw (ne_eqb k h n) (is ∙ rw (ne_eqb k h n) refl)

-- the first begins, and then the others
pub begun_more : (ticks : ℕ → ℕ) (m : ℕ) (h : ℕ) (hs : List ℕ) (old new : Keys) → h < length old → is_among h hs ≡ false
    → AreBegun ticks m hs (with_key h (m + ticks h) old) new → AreBegun ticks m (h ∷ hs) old new
begun_more ticks m h hs old new below out are k =
    begun_by ticks m h k (is_among k hs) (key_of old k) (key_of new k) (λ same. ap (λ (n : ℕ). is_among n hs) same ∙ out) (cases_eq k h)
    (are k ∙ ap (λ (o : Option ℕ). if is_among k hs then Some (m + ticks k) else o) (with_key_at old h (m + ticks h) k below))

head_by : (b : Bool) (h : ℕ) (rest : List ℕ) → (if b then h ∷ rest else rest) ≡ (if b then h ∷ [] else []) ++ rest
head_by true h rest = refl
head_by false h rest = refl

-- the first of them is kept or isn't, and then the others
pub filter_more : (p : ℕ → Bool) (h : ℕ) (hs : List ℕ) → filter p (h ∷ hs) ≡ filter p (h ∷ []) ++ filter p hs
filter_more p h hs = head_by (p h) h (filter p hs)

one_by : (b : Bool) (h : ℕ) → length (if b then h ∷ [] else []) ≤ 1
one_by true h = omega arith
one_by false h = omega arith

pub one_at_most : (p : ℕ → Bool) (h : ℕ) → length (filter p (h ∷ [])) ≤ 1
one_at_most p h = one_by (p h) h

-- the harts that are left are to begin, and what then has begun are all of them, with the chosen ones of all of them after those before
pub record IsBeginning (g : Timed) (ticks : ℕ → ℕ) (p : ℕ → Bool) (m : ℕ) (all : List ℕ) (old : Keys) (before : List ℕ) (left : List ℕ) (now : Keys) (chosen : List ℕ) : Type 0 where
  pub idle : AreIdle g now left
  pub room : length now ≡ 256
  pub begins : (new : Keys) → AreBegun ticks m left now new → AreBegun ticks m all old new
  pub chooses : chosen ++ filter p left ≡ before ++ filter p all
  pub few : length chosen + many old ≤ length before + many now
  pub below : length chosen ≤ many now

pub beginning : (g : Timed) (ticks : ℕ → ℕ) (p : ℕ → Bool) (m : ℕ) (hs : List ℕ) (keys : Keys) (before : List ℕ) → AreIdle g keys hs → length keys ≡ 256 → length before ≤ many keys
    → IsBeginning g ticks p m hs keys before hs keys before
beginning g ticks p m hs keys before idle room below = record { idle = idle; room = room; begins = λ new are. are; chooses = refl; few = omega arith; below = below }

-- there is room for another one that is chosen
pub room_left : (g : Timed) (ticks : ℕ → ℕ) (p : ℕ → Bool) (m : ℕ) (all : List ℕ) (old : Keys) (before : List ℕ) (h : ℕ) (hs : List ℕ) (now : Keys) (chosen : List ℕ)
    → IsBeginning g ticks p m all old before (h ∷ hs) now chosen → length chosen < 256
room_left g ticks p m all old before h hs now chosen b =
    let idle : IsIdle g now h = first_idle g now h hs b.idle in
    let few : many now < length now = many_below now h idle.below idle.absent in
    omega (arith, few, b.below, b.room)

pub one_more : (g : Timed) (ticks : ℕ → ℕ) (p : ℕ → Bool) (m : ℕ) (all : List ℕ) (old : Keys) (before : List ℕ) (h : ℕ) (hs : List ℕ) (now : Keys) (chosen : List ℕ)
    → IsBeginning g ticks p m all old before (h ∷ hs) now chosen
    → IsBeginning g ticks p m all old before hs (with_key h (m + ticks h) now) (chosen ++ filter p (h ∷ []))
one_more g ticks p m all old before h hs now chosen b =
    let idle : IsIdle g now h = first_idle g now h hs b.idle in
    let more : many (with_key h (m + ticks h) now) ≡ many now + 1 = many_with now h (m + ticks h) idle.below idle.absent in
    let one : length (filter p (h ∷ [])) ≤ 1 = one_at_most p h in
    let longer : length (chosen ++ filter p (h ∷ [])) ≡ length chosen + length (filter p (h ∷ [])) = length-append chosen (filter p (h ∷ [])) in
    record {
      idle = rest_idle g now h (m + ticks h) hs b.idle;
      room = length-set now h (Some (m + ticks h)) ∙ b.room;
      begins = λ new are. b.begins new (begun_more ticks m h hs now new idle.below b.idle.apart.0 are);
      chooses = append_assoc chosen (filter p (h ∷ [])) (filter p hs) ∙ ap (λ (xs : List ℕ). chosen ++ xs) (sym (filter_more p h hs)) ∙ b.chooses;
      few = omega (arith, b.few, more, one, longer);
      below = omega (arith, b.below, more, one, longer);
    }

-- the retiring hart begins if it goes on, and then the others

-- the keys without the retiring hart, if it goes on, and else as they are left
abbrev pub base : Bool → ℕ → Keys → Keys
base b h keys = if b then without_key h keys else keys

pub base_of : (b : Bool) (h v : ℕ) (old now : Keys) → now ≡ (if b then with_key h v (without_key h old) else old) → now ≡ (if b then with_key h v (base b h old) else base b h old)
base_of true h v old now is = is
base_of false h v old now is = is

pub base_length : (b : Bool) (h : ℕ) (keys : Keys) → length (base b h keys) ≡ length keys
base_length true h keys = length-set keys h None
base_length false h keys = refl

pub again_idle : (b : Bool) (g : Timed) (h : ℕ) (hs : List ℕ) (keys : Keys) → AreIdle g (base b h keys) (if b then h ∷ hs else hs) → b ≡ true → IsIdle g (without_key h keys) h
again_idle true g h hs keys are e = first_idle g (without_key h keys) h hs are
again_idle false g h hs keys are e = absurd (let no : false ≡ true = e in cc)

-- what the retiring hart leaves, if it goes on: these keys, and it is chosen or isn't
pub record IsAgain (b : Bool) (ticks : ℕ → ℕ) (p : ℕ → Bool) (m h : ℕ) (keys now : Keys) (chosen : List ℕ) : Type 0 where
  pub leaves : now ≡ (if b then with_key h (m + ticks h) keys else keys)
  pub chooses : chosen ≡ (if b then filter p (h ∷ []) else [])

pub others_left : (b : Bool) (g : Timed) (ticks : ℕ → ℕ) (p : ℕ → Bool) (m h : ℕ) (hs : List ℕ) (keys now : Keys) (chosen : List ℕ) → IsAgain b ticks p m h keys now chosen
    → AreIdle g keys (if b then h ∷ hs else hs) → AreIdle g now hs
others_left true g ticks p m h hs keys now chosen is are = subst (λ (ks : Keys). AreIdle g ks hs) (sym is.leaves) (rest_idle g keys h (m + ticks h) hs are)
others_left false g ticks p m h hs keys now chosen is are = subst (λ (ks : Keys). AreIdle g ks hs) (sym is.leaves) are

pub all_begun : (b : Bool) (g : Timed) (ticks : ℕ → ℕ) (p : ℕ → Bool) (m h : ℕ) (hs : List ℕ) (keys now new : Keys) (chosen : List ℕ) → IsAgain b ticks p m h keys now chosen
    → AreIdle g keys (if b then h ∷ hs else hs) → AreBegun ticks m hs now new → AreBegun ticks m (if b then h ∷ hs else hs) keys new
all_begun true g ticks p m h hs keys now new chosen is are begun =
    begun_more ticks m h hs keys new (first_idle g keys h hs are).below are.apart.0 (subst (λ (ks : Keys). AreBegun ticks m hs ks new) is.leaves begun)
all_begun false g ticks p m h hs keys now new chosen is are begun = subst (λ (ks : Keys). AreBegun ticks m hs ks new) is.leaves begun

pub same_room : (b : Bool) (ticks : ℕ → ℕ) (p : ℕ → Bool) (m h : ℕ) (keys now : Keys) (chosen : List ℕ) → IsAgain b ticks p m h keys now chosen → length now ≡ length keys
same_room true ticks p m h keys now chosen is = ap length is.leaves ∙ length-set keys h (Some (m + ticks h))
same_room false ticks p m h keys now chosen is = ap length is.leaves

-- as many have begun as are chosen at least
pub again_few : (b : Bool) (g : Timed) (ticks : ℕ → ℕ) (p : ℕ → Bool) (m h : ℕ) (hs : List ℕ) (keys now : Keys) (chosen : List ℕ) → IsAgain b ticks p m h keys now chosen
    → AreIdle g keys (if b then h ∷ hs else hs) → length chosen + many keys ≤ many now
again_few true g ticks p m h hs keys now chosen is are =
    let idle : IsIdle g keys h = first_idle g keys h hs are in
    let more : many now ≡ many keys + 1 = ap many is.leaves ∙ many_with keys h (m + ticks h) idle.below idle.absent in
    let one : length (filter p (h ∷ [])) ≤ 1 = one_at_most p h in
    let same : length chosen ≡ length (filter p (h ∷ [])) = ap length is.chooses in
    omega arith
again_few false g ticks p m h hs keys now chosen is are =
    let stays : many now ≡ many keys = ap many is.leaves in
    let none : length chosen ≡ 0 = ap length is.chooses in
    omega arith

pub all_chosen : (b : Bool) (ticks : ℕ → ℕ) (p : ℕ → Bool) (m h : ℕ) (hs : List ℕ) (keys now : Keys) (chosen new : List ℕ) → IsAgain b ticks p m h keys now chosen
    → new ≡ chosen ++ filter p hs → new ≡ filter p (if b then h ∷ hs else hs)
all_chosen true ticks p m h hs keys now chosen new is more = more ∙ ap (λ (xs : List ℕ). xs ++ filter p hs) is.chooses ∙ sym (filter_more p h hs)
all_chosen false ticks p m h hs keys now chosen new is more = more ∙ ap (λ (xs : List ℕ). xs ++ filter p hs) is.chooses

cut_by : (b : Bool) (v c s : ℕ) → s ≤ 100 → v + timed_ticks c b s ≡ v + 100 * c - (if b then s * c else 0)
cut_by true v c s small =
    let parts : (100 - s + s) * c ≡ (100 - s) * c + s * c = add-mul (100 - s) s c in
    let whole : 100 - s + s ≡ 100 = omega arith in
    let turned : c * (100 - s) ≡ (100 - s) * c = mul_comm c (100 - s) in
    let all : 100 * c ≡ (100 - s) * c + s * c = ap (λ (n : ℕ). n * c) (sym whole) ∙ parts in
    omega (arith, turned, all)
cut_by false v c s small = omega arith

-- the ticks of a selected instruction are those of another one, less what it is spared
pub ticks_less : (setting : Setting) (v : ℕ) (g : Timed) (h : ℕ) → setting.choice.speedup ≤ 100
    → v + ticks_in setting g h ≡ v + 100 * cycles_of_next g h - (if is_selected_in setting g h then setting.choice.speedup * cycles_of_next g h else 0)
ticks_less setting v g h small = cut_by (is_selected_in setting g h) v (cycles_of_next g h) setting.choice.speedup small

pub within_by : (most : ℕ) (ticks : ℕ → ℕ) (m h due : ℕ) (among : Bool) (o p : Option ℕ) (moment : ℕ) → ticks h ≤ most → o ≡ (if among then Some (m + ticks h) else p) → m ≤ moment → ((v : ℕ) → p ≡ Some v → v ≤ moment) → o ≡ Some due → due ≤ moment + most
within_by most ticks m h due true o p moment few is soon within has =
    let same : Some (m + ticks h) ≡ Some due = sym is ∙ has in
    let due_is : m + ticks h ≡ due = cc in
    omega arith
within_by most ticks m h due false o p moment few is soon within has = let before : due ≤ moment = within due (sym is ∙ has) in omega arith

-- what begins is due soon
pub within_begun : (most : ℕ) (ticks : ℕ → ℕ) (m : ℕ) (hs : List ℕ) (old new : Keys) (moment : ℕ) → ((h : ℕ) → ticks h ≤ most) → AreBegun ticks m hs old new → m ≤ moment → AreWithin moment old → AreWithin (moment + most) new
within_begun most ticks m hs old new moment few begun soon within h due has = within_by most ticks m h due (is_among h hs) (key_of new h) (key_of old h) moment (few h) (begun h) soon (within h) has

left_by : (k h : ℕ) (same : Bool) (o p r : Option ℕ) (moment : ℕ) → o ≡ (if same then r else p) → ((v : ℕ) → r ≡ Some v → v ≤ moment) → ((v : ℕ) → p ≡ Some v → v ≤ moment) → (due : ℕ) → o ≡ Some due → due ≤ moment
left_by k h true o p r moment is soon within due has = soon due (sym is ∙ has)
left_by k h false o p r moment is soon within due has = within due (sym is ∙ has)

sleeps_to : (fate : Fate) (v : ℕ) → rest fate ≡ Some v → fate ≡ Sleeps v
sleeps_to Goes v e = absurd (let no : ◌≡◌ {A = Option ℕ} None (Some v) = e in cc)
sleeps_to Waits v e = absurd (let no : ◌≡◌ {A = Option ℕ} None (Some v) = e in cc)
sleeps_to Leaves v e = absurd (let no : ◌≡◌ {A = Option ℕ} None (Some v) = e in cc)
sleeps_to (Sleeps moment) v e = let same : moment ≡ v = cc in ap Sleeps same
sleeps_to (Ends ending) v e = absurd (let no : ◌≡◌ {A = Option ℕ} None (Some v) = e in cc)

-- a wake that is soon enough is due so
pub within_left : (keys left : Keys) (h moment : ℕ) (fate : Fate) → h < length keys → left ≡ keys_at_rest h fate keys → ((v : ℕ) → fate ≡ Sleeps v → v ≤ moment) → AreWithin moment keys → AreWithin moment left
within_left keys left h moment fate below is soon within k due has =
    left_by k h (k == h) (key_of left k) (key_of keys k) (rest fate) moment (ap (λ (ks : Keys). key_of ks k) is ∙ rested_at fate keys h k below) (λ v e. soon v (sleeps_to fate v e)) (within k) due has

pub within_later : (n m : ℕ) (keys : Keys) → n ≤ m → AreWithin n keys → AreWithin m keys
within_later n m keys less within h due has = let soon : due ≤ n = within h due has in omega arith

-- a hart that was left in the schedule, as it goes on, is taken out all the same
pub left_again : (fate : Fate) (h : ℕ) (keys now : Keys) → now ≡ (if goes_on fate then keys else keys_at_rest h fate keys) → (if goes_on fate then without_key h now else now) ≡ keys_at_rest h fate keys
left_again Goes h keys now is = ap (without_key h) is
left_again Waits h keys now is = is
left_again Leaves h keys now is = is
left_again (Sleeps moment) h keys now is = is
left_again (Ends ending) h keys now is = is

-- and so runs some hart after it
pub left_runs : (fate : Fate) (others : List ℕ) (h : ℕ) (keys now : Keys) → now ≡ (if goes_on fate then keys else keys_at_rest h fate keys) → runs_after fate others now ≡ runs_after fate others (keys_at_rest h fate keys)
left_runs Goes others h keys now is = refl
left_runs Waits others h keys now is = ap (runs_after Waits others) is
left_runs Leaves others h keys now is = ap (runs_after Leaves others) is
left_runs (Sleeps moment) others h keys now is = ap (runs_after (Sleeps moment) others) is
left_runs (Ends ending) others h keys now is = ap (runs_after (Ends ending) others) is

-- one hart less is due, or none
pub many_rested : (fate : Fate) (keys : Keys) (h due : ℕ) → key_of keys h ≡ Some due → many keys ≤ many (keys_at_rest h fate keys) + 1
many_rested fate keys h due turn = go fate
  where
    one : many keys ≡ many (without_key h keys) + 1
    one = many_without keys h due turn

    go : (f : Fate) → many keys ≤ many (keys_at_rest h f keys) + 1
    go Goes = omega (arith, one)
    go Waits = omega (arith, one)
    go Leaves = omega (arith, one)
    go (Sleeps moment) =
        let below : h < length (without_key h keys) = rw (length-set keys h None) (has_place keys h due turn) in
        let more : many (with_key h moment (without_key h keys)) ≡ many (without_key h keys) + 1 = many_with (without_key h keys) h moment below (without_key_at keys h h ∙ rw (eq-eqb h h refl) refl) in
        omega (arith, one, more)
    go (Ends ending) = omega (arith, one)

one_bit : (b : Bool) (o p : Option ℕ) → (if (if b then true else false) then o else p) ≡ (if b then o else p)
one_bit true o p = refl
one_bit false o p = refl

same_ticks : (ticks : ℕ → ℕ) (m h k : ℕ) (o : Option ℕ) → (k ≡ h) ⊎ (k ≡ h → ⊥) → (if k == h then Some (m + ticks h) else o) ≡ (if k == h then Some (m + ticks k) else o)
same_ticks ticks m h k o (inl same) = rw (eq-eqb k h same) (ap (λ (n : ℕ). Some (m + ticks n)) (sym same))
same_ticks ticks m h k o (inr n) = rw (ne_eqb k h n) refl

-- a hart that was due and has woken has begun
pub woken_begun : (ticks : ℕ → ℕ) (m h : ℕ) (keys new : Keys) → h < length keys → new ≡ with_key h (m + ticks h) (without_key h keys) → AreBegun ticks m (h ∷ []) keys new
woken_begun ticks m h keys new below is k =
    ap (λ (ks : Keys). key_of ks k) is
    ∙ over_key_at keys h (m + ticks h) k below
    ∙ same_ticks ticks m h k (key_of keys k) (cases_eq k h)
    ∙ sym (one_bit (k == h) (Some (m + ticks k)) (key_of keys k))
