-- One pass over the places of a queue: what is taken and kept so far, with what the rest will give.
use Rattle.std.proofs.Common.{ℕ, zero, suc, ◌≡◌, ◌≢◌, ◌≤◌, ◌<◌, ◌+◌, ◌-◌, ◌⊎◌, List, [], ◌∷◌, ◌++◌, length, take, drop, set, get_or, arith, refl, sym, ◌∙◌, ap, append_assoc, length-append, add-one, drop-cons, length-set}
use Rattle.std.proofs.lemmas.List.{drop-set-lt, take_more_set, map-append, append-nil}
use Rattle.guest_futex.specs.declared.queue.Waiting.{Waiting}
use Rattle.guest_futex.specs.Waiters.{Waiter, woken_harts, waiters_left}
use Rattle.guest_futex.specs.Apart.{AreApart}
use Rattle.guest_futex.specs.Held.{waiter_of, waiters_of}
use Rattle.guest_futex.proofs.Left.{left_by, woken-here, woken-elsewhere, left-here, left-elsewhere, left_by-left}

-- after i places, of which some are kept, with n still wanted
pub record Passed (address : ℕ) (old : List Waiting) (count : ℕ) (before : List ℕ) (i kept wanted : ℕ) (places : List Waiting) (into : List ℕ) : Type 0 where
  pub within : kept ≤ i
  pub same : length places ≡ length old
  pub rest : drop i places ≡ drop i old
  pub taken : into ++ woken_harts address (waiters_of (drop i old)) wanted ≡ before ++ woken_harts address (waiters_of old) count
  pub still : waiters_of (take kept places) ++ left_by address (waiters_of (drop i old)) wanted ≡ left_by address (waiters_of old) count

-- the waiting at i is the old one, and the rest too
at_rest : (old places : List Waiting) (i : ℕ) (d : Waiting) → length places ≡ length old → i < length old → drop i places ≡ drop i old → (drop i old ≡ get_or places i d ∷ drop (i + 1) old) × (drop (i + 1) places ≡ drop (i + 1) old)
at_rest old places i d same below rest =
    let ours : drop i places ≡ get_or places i d ∷ drop (suc i) places = drop-cons places i d (omega arith) in
    let theirs : drop i old ≡ get_or old i d ∷ drop (suc i) old = drop-cons old i d below in
    rw add-one (cc, cc)

-- the place's hart is taken
pub passed-taken : {address count i kept wanted : ℕ} {old places : List Waiting} {before into : List ℕ} (d : Waiting) → Passed address old count before i kept wanted places into → i < length old → 0 < wanted → (get_or places i d).address ≡ address → Passed address old count before (i + 1) kept (wanted - 1) places (into ++ (get_or places i d).hart.0 ∷ [])
passed-taken {address} {count} {i} {kept} {wanted} {old} {places} {before} {into} d p below some here =
    let w : Waiting = get_or places i d in
    let parts : (drop i old ≡ get_or places i d ∷ drop (i + 1) old) × (drop (i + 1) places ≡ drop (i + 1) old) = at_rest old places i d p.same below p.rest in
    let one : wanted ≡ suc (wanted - 1) = omega arith in
    let more : List Waiter = waiters_of (drop (i + 1) old) in
    let takes : woken_harts address (waiters_of (drop i old)) wanted ≡ w.hart.0 ∷ woken_harts address more (wanted - 1) =
    ap (λ xs. woken_harts address (waiters_of xs) wanted) parts.0 ∙ woken-here address (waiter_of w) more wanted (wanted - 1) one here in
    let leaves : left_by address (waiters_of (drop i old)) wanted ≡ left_by address more (wanted - 1) =
    ap (λ xs. left_by address (waiters_of xs) wanted) parts.0 ∙ left-here address (waiter_of w) more wanted (wanted - 1) one here in
    record {
      within = let within = p.within in omega arith;
      same = p.same;
      rest = parts.1;
      taken = append_assoc into (w.hart.0 ∷ []) (woken_harts address more (wanted - 1)) ∙ ap (λ xs. into ++ xs) (sym takes) ∙ p.taken;
      still = ap (λ xs. waiters_of (take kept places) ++ xs) (sym leaves) ∙ p.still;
    }

-- the waiting is kept
pub passed-kept : {address count i kept wanted : ℕ} {old places : List Waiting} {before into : List ℕ} (d : Waiting) → Passed address old count before i kept wanted places into → i < length old → (wanted ≡ 0) ⊎ ((get_or places i d).address ≢ address) → Passed address old count before (i + 1) (kept + 1) wanted (set places kept (get_or places i d)) into
passed-kept {address} {count} {i} {kept} {wanted} {old} {places} {before} {into} d p below elsewhere =
    let w : Waiting = get_or places i d in
    let parts : (drop i old ≡ get_or places i d ∷ drop (i + 1) old) × (drop (i + 1) places ≡ drop (i + 1) old) = at_rest old places i d p.same below p.rest in
    let more : List Waiter = waiters_of (drop (i + 1) old) in
    let takes : woken_harts address (waiters_of (drop i old)) wanted ≡ woken_harts address more wanted =
    ap (λ xs. woken_harts address (waiters_of xs) wanted) parts.0 ∙ woken-elsewhere address (waiter_of w) more wanted elsewhere in
    let leaves : left_by address (waiters_of (drop i old)) wanted ≡ waiter_of w ∷ left_by address more wanted =
    ap (λ xs. left_by address (waiters_of xs) wanted) parts.0 ∙ left-elsewhere address (waiter_of w) more wanted elsewhere in
    let within : kept ≤ i = p.within in
    let same : length places ≡ length old = p.same in
    let longer : waiters_of (take (kept + 1) (set places kept w)) ≡ waiters_of (take kept places) ++ waiter_of w ∷ [] =
    ap waiters_of (take_more_set places kept w (omega arith)) ∙ map-append waiter_of (take kept places) (w ∷ []) in
    record {
      within = omega arith;
      same = length-set places kept w ∙ p.same;
      rest = drop-set-lt (i + 1) places kept w (omega arith) ∙ parts.1;
      taken = ap (λ xs. into ++ xs) (sym takes) ∙ p.taken;
      still = ap (λ xs. xs ++ left_by address more wanted) longer ∙ append_assoc (waiters_of (take kept places)) (waiter_of w ∷ []) (left_by address more wanted) ∙ ap (λ xs. waiters_of (take kept places) ++ xs) (sym leaves) ∙ p.still;
    }

-- there is room for the place's hart
pub passed-room : {address count i kept wanted : ℕ} {old places : List Waiting} {before into : List ℕ} (d : Waiting) → Passed address old count before i kept wanted places into → length before + length (woken_harts address (waiters_of old) count) ≤ 256 → i < length old → 0 < wanted → (get_or places i d).address ≡ address → length into < 256
passed-room {address} {count} {i} {kept} {wanted} {old} {places} {before} {into} d p room below some here =
    let next = passed-taken d p below some here in
    let all : length ((into ++ (get_or places i d).hart.0 ∷ []) ++ woken_harts address (waiters_of (drop (i + 1) old)) (wanted - 1)) ≡ length (before ++ woken_harts address (waiters_of old) count) = ap length next.taken in
    omega (arith, simp length-append at all)

drop-past : {A : Type 0} (xs : List A) (k : ℕ) → length xs ≤ k → drop k xs ≡ []
drop-past [] zero past = refl
drop-past [] (suc k) past = refl
drop-past (x ∷ xs) zero past = absurd (omega arith)
drop-past (x ∷ xs) (suc k) past = drop-past xs k (omega arith)

-- after the last waiting those that are kept are the waiters that are left
pub passed-left : {address count i kept wanted : ℕ} {old places : List Waiting} {before into : List ℕ} → Passed address old count before i kept wanted places into → AreApart (waiters_of old) → length old ≤ i → waiters_of (take kept places) ≡ waiters_left address (waiters_of old) count
passed-left {address} {count} {i} {kept} {wanted} {old} {places} p apart past =
    let none : waiters_of (take kept places) ++ left_by address (waiters_of (drop i old)) wanted ≡ waiters_of (take kept places) =
    ap (λ (xs : List Waiting). waiters_of (take kept places) ++ left_by address (waiters_of xs) wanted) (drop-past old i past) ∙ append-nil (waiters_of (take kept places)) in
    sym none ∙ p.still ∙ left_by-left address (waiters_of old) count apart
