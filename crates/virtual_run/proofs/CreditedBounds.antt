-- The global delay is bounded by the number of selected starts.
use Rattle.std.proofs.Common.{◌≡◌, ℕ, zero, suc, ◌+◌, ◌*◌, ◌≤◌, Bool, true, false, if◌then◌else◌, List, [], ◌∷◌, length, filter, fold, refl, sym, ap, ◌∙◌, subst, arith, Option, Some, None, ◌⊎◌, inl, inr, add-zero, add-mul, mul_comm}
use Rattle.std.proofs.Math.Nat.{mul-le-mul}
use Rattle.coz_types.specs.declared.ending.Ending.{Ending}
use Rattle.machines.specs.Places.{change_each}
use Rattle.machines.specs.Guest.{Experiment, IsLawful, cost, cut, started_harts}
use Rattle.machines.specs.Delayed.{Delayed, idle_hart, run, over_or, raise, begin, retirement, leave, give_credit, ending, retire, wake, unbegun, after, delayed}
use Rattle.machines.specs.Shortened.{shortened}
use Rattle.machines.specs.Steps.{jump}
use Rattle.machines.specs.Standing.{ticks_left, next, standing}
use Rattle.machines.proofs.Standing.{Comes, comes_at, stays}
use Rattle.machines.proofs.Runs.{come_by}
use Rattle.machines.proofs.Stepping.{begin_frame}

mul_one_more : (most n : ℕ) → most * (n + 1) ≡ most * n + most
mul_one_more most n =
    let parts : (n + 1) * most ≡ n * most + 1 * most = add-mul n 1 most in
    let left : most * (n + 1) ≡ (n + 1) * most = mul_comm most (n + 1) in
    let right : most * n ≡ n * most = mul_comm most n in
    omega (arith, parts, left, right)

-- each selected start raised at most n ticks
abbrev pub Bounded : {G : Type 0} → ℕ → Delayed G → Type 0
Bounded most d = d.delay ≤ most * d.starts

some_or_none : (o : Option Ending) → (o ≡ None) ⊎ ((a : Ending) × (o ≡ Some a))
some_or_none None = inl refl
some_or_none (Some a) = inr (a, refl)

module _ {G : Type 0} (x : Experiment G) where
  pub raises_starts : (hs : List ℕ) (d : Delayed G) → (fold (raise x) d hs).starts ≡ d.starts + length hs
  unfolding raise
  raises_starts [] d = sym (add-zero d.starts)
  raises_starts (h ∷ hs) d = let e : (fold (raise x) (raise x d h) hs).starts ≡ d.starts + 1 + length hs = raises_starts hs (raise x d h) in omega arith

  -- as many selected starts as selected harts begin
  pub begin_starts : (hs : List ℕ) (d : Delayed G) → (begin x hs d).starts ≡ d.starts + length (filter (x.guest.is_selected d.guest) hs)
  unfolding begin
  begin_starts hs d = raises_starts (filter (x.guest.is_selected d.guest) hs) (record d { harts = change_each idle_hart hs (λ h. run (cost x d.guest h)) d.harts })

  pub credit_starts : (h : ℕ) (d : Delayed G) → ((give_credit x h d).starts ≡ d.starts) × ((give_credit x h d).delay ≡ d.delay) × ((leave x h d).starts ≡ d.starts) × ((leave x h d).delay ≡ d.delay)
  unfolding give_credit leave
  credit_starts h d = (refl, refl, refl, refl)

  pub standing_suc : (n : ℕ) → standing x (suc n) ≡ next x (standing x n)
  unfolding standing
  standing_suc n = refl

  pub standing_zero : standing x 0 ≡ delayed x 0
  unfolding standing
  standing_zero = refl

  begin_guest : (hs : List ℕ) (d : Delayed G) → (begin x hs d).guest ≡ d.guest
  begin_guest hs d = ap (λ o. o.guest) (begin_frame x hs d)

  module _ (most : ℕ) where
    -- no instruction that a hart of a guest begins next is spared more
    abbrev pub Spares : G → Type 0
    Spares g = (h : ℕ) → cut x g h ≤ most

    raise_bounded : (h : ℕ) (d : Delayed G) → Spares d.guest → Bounded most d → Bounded most (raise x d h)
    unfolding raise
    raise_bounded h d few b =
        let f : cut x d.guest h ≤ most = few h in
        let parts : most * (d.starts + 1) ≡ most * d.starts + most = mul_one_more most d.starts in
        omega (arith, f, b, parts)

    raises_bounded : (hs : List ℕ) (d : Delayed G) → Spares d.guest → Bounded most d → Bounded most (fold (raise x) d hs)
    unfolding raise
    raises_bounded [] d few b = b
    raises_bounded (h ∷ hs) d few b = raises_bounded hs (raise x d h) few (raise_bounded h d few b)

    begun_bounded : (hs : List ℕ) (d : Delayed G) → Spares d.guest → Bounded most d → Bounded most (begin x hs d)
    unfolding begin
    begun_bounded hs d few b = raises_bounded (filter (x.guest.is_selected d.guest) hs) (record d { harts = change_each idle_hart hs (λ h. run (cost x d.guest h)) d.harts }) few b

    begin_bounded : (hs : List ℕ) (d : Delayed G) → Spares (begin x hs d).guest → Bounded most d → Bounded most (begin x hs d)
    begin_bounded hs d few b = begun_bounded hs d (subst Spares (begin_guest hs d) few) b

    over_bounded : (o : Option Ending) (d next : Delayed G) → Spares (over_or o d next).guest → Bounded most d → (Spares next.guest → Bounded most next) → Bounded most (over_or o d next)
    over_bounded None d next few b c = c few
    over_bounded (Some a) d next few b c = b

    retire_bounded : (h : ℕ) (d : Delayed G) → Spares (retire x h d).guest → Bounded most d → Bounded most (retire x h d)
    unfolding retire
    retire_bounded h d few b =
        let c = credit_starts h d in
        over_bounded (ending x h d) (leave x h d) (begin x (started_harts h (retirement x h d)) (give_credit x h d)) few
        (rw (c.2, c.3) b) (λ begun. begin_bounded (started_harts h (retirement x h d)) (give_credit x h d) begun (rw (c.0, c.1) b))

    wake_bounded : (h : ℕ) (d : Delayed G) → Spares (wake x h d).guest → Bounded most d → Bounded most (wake x h d)
    unfolding wake
    wake_bounded h d few b = begin_bounded (h ∷ []) (record d { guest = x.guest.wake d.guest h; wakes = d.wakes + 1 }) few b

    jump_bounded : (k : ℕ) (d : Delayed G) → Bounded most d → Bounded most (jump k d)
    unfolding jump
    jump_bounded k d b = b

    first_bounded : Spares (delayed x 0).guest → Bounded most (delayed x 0)
    unfolding delayed after unbegun
    first_bounded few = begin_bounded (0 ∷ []) (unbegun x) few (omega arith)

module _ {G : Type 0} (x : Experiment G) (Good : G → Type 0) (law : IsLawful x Good) where
  -- hart h has its turn at the end of the ticks that are left
  abbrev pub turned : ℕ → Delayed G
  turned n = jump (ticks_left (standing x n).harts) (standing x n)

  -- what holds of a state holds of the next one, if it holds after each wake and each retirement that may come
  pub next_by : (P : Delayed G → Type 0) (n : ℕ) → P (standing x n)
      → ((h : ℕ) → (standing x n).ending ≡ None → Comes x Good law (standing x n) (shortened x n) h → x.guest.is_sleeping (turned n).guest h ≡ true → P (wake x h (turned n)))
      → ((h : ℕ) → (standing x n).ending ≡ None → Comes x Good law (standing x n) (shortened x n) h → x.guest.is_sleeping (turned n).guest h ≡ false → P (retire x h (turned n)))
      → P (standing x (suc n))
  next_by P n before wakes retires = go (some_or_none (standing x n).ending)
    where
      go : ((standing x n).ending ≡ None) ⊎ ((a : Ending) × ((standing x n).ending ≡ Some a)) → P (standing x (suc n))
      go (inl none) =
          let r = comes_at x Good law n none in
          subst P (sym (standing_suc x n ∙ r.1.is)) (come_by x P (turned n) r.0 (λ asleep. wakes r.0 none r.1 asleep) (λ awake. retires r.0 none r.1 awake))
      go (inr e) = subst P (sym (ap (standing x) (let one : suc n ≡ 1 + n = omega arith in one) ∙ stays x Good law n e.0 e.1 1)) before

  pub standing_bounded : (most : ℕ) → ((n h : ℕ) → cut x (standing x n).guest h ≤ most) → (n : ℕ) → Bounded most (standing x n)
  standing_bounded most few zero = subst (Bounded most) (sym (standing_zero x)) (first_bounded x most (subst (λ (d : Delayed G). Spares x most d.guest) (standing_zero x) (few 0)))
  standing_bounded most few (suc n) =
      let before : Bounded most (turned n) = jump_bounded x most (ticks_left (standing x n).harts) (standing x n) (standing_bounded most few n) in
      next_by (λ (d : Delayed G). Spares x most d.guest → Bounded most d) n (λ _. standing_bounded most few n) (λ h none r asleep here. wake_bounded x most h (turned n) here before) (λ h none r awake here. retire_bounded x most h (turned n) here before) (few (suc n))

-- if instructions have at most n cycles, and the speedup is at most n per cent
pub cut_few : {G : Type 0} (x : Experiment G) (cycles speedup : ℕ) → ((g : G) (h : ℕ) → x.guest.cycles g h ≤ cycles) → x.speedup ≤ speedup → (g : G) (h : ℕ) → cut x g h ≤ speedup * cycles
unfolding cut
cut_few x cycles speedup few small g h = go (x.guest.is_selected g h)
  where
    go : (b : Bool) → (if b then x.speedup * x.guest.cycles g h else 0) ≤ speedup * cycles
    go true = mul-le-mul small (few g h)
    go false = omega arith
