-- What the delayed machine does to a hart, seen without the hart's work.
use Rattle.std.proofs.Common.{ℕ, zero, suc, ◌≡◌, ◌≢◌, ◌+◌, ◌-◌, min, Bool, true, false, refl, ap, ap₂, ◌∙◌, sym, arith, List, [], ◌∷◌, map, Option, Some, None, if◌then◌else◌, ◌==◌}
use Rattle.std.proofs.lemmas.Bool.{eqb-true, eqb-false}
use Rattle.machines.specs.Delayed.{Account, Load, Hart, tick_hart, run, stop, credit, raise_hart}
use Rattle.machines.specs.Steps.{sit_load, sit_hart}
use Rattle.delay_credits.specs.Ticks.{without_work, hart_after_ticks}

abbrev the_hart : Account → ℕ → ℕ → Hart
the_hart a work pause = record { account = a; load = Some (record { work = work; pause = pause }) }

same_parts : (a : Account) (m n v w p q : ℕ) → m ≡ n → v ≡ w → p ≡ q
    → the_hart (record a { paused = m }) v p ≡ the_hart (record a { paused = n }) w q
same_parts a m n v w p q paused work pause = cc

-- n ticks at once
pub without_work-sit : (k : ℕ) (hart : Hart) → without_work (sit_hart k hart) ≡ sit_hart k (without_work hart)
without_work-sit k hart = go hart.account hart.load
  where
    go : (a : Account) (load : Option Load) → without_work (sit_hart k (record { account = a; load = load })) ≡ sit_hart k (without_work (record { account = a; load = load }))
    go a None = refl
    go a (Some l) = let none : 0 ≡ 0 - (k - l.pause) = omega arith in cc

-- one tick
tick_by : (a : Account) (l : Load) (b : Bool) → (l.pause == 0) ≡ b
    → without_work (if b then record { account = a; load = Some (record l { work = l.work - 1 }) } else record { account = record a { paused = a.paused + 1 }; load = Some (record l { pause = l.pause - 1 }) })
    ≡ sit_load 1 a (record { work = 0; pause = l.pause })
tick_by a l true e =
    let z : l.pause ≡ 0 = eqb-true _ _ e in
    let paused : a.paused ≡ a.paused + min 1 l.pause = omega arith in
    let work : 0 ≡ 0 - (1 - l.pause) = omega arith in
    let pause : l.pause ≡ l.pause - 1 = omega arith in
    same_parts a a.paused (a.paused + min 1 l.pause) 0 (0 - (1 - l.pause)) l.pause (l.pause - 1) paused work pause
tick_by a l false e =
    let z : l.pause ≢ 0 = eqb-false _ _ e in
    let paused : a.paused + 1 ≡ a.paused + min 1 l.pause = omega arith in
    let work : 0 ≡ 0 - (1 - l.pause) = omega arith in
    cc

pub without_work-tick : (hart : Hart) → without_work (tick_hart hart) ≡ sit_hart 1 (without_work hart)
without_work-tick hart = go hart.account hart.load
  where
    go : (a : Account) (load : Option Load) → without_work (tick_hart (record { account = a; load = load })) ≡ sit_hart 1 (without_work (record { account = a; load = load }))
    go a None = refl
    go a (Some l) = tick_by a l (l.pause == 0) refl

sit_one_more : (k : ℕ) (hart : Hart) → sit_hart 1 (sit_hart k (without_work hart)) ≡ sit_hart (suc k) (without_work hart)
sit_one_more k hart = go hart.account hart.load
  where
    go : (a : Account) (load : Option Load) → sit_hart 1 (sit_hart k (without_work (record { account = a; load = load }))) ≡ sit_hart (suc k) (without_work (record { account = a; load = load }))
    go a None = refl
    go a (Some l) =
        let paused : a.paused + min k l.pause + min 1 (l.pause - k) ≡ a.paused + min (suc k) l.pause = omega arith in
        let work : 0 - (k - l.pause) - (1 - (l.pause - k)) ≡ 0 - (suc k - l.pause) = omega arith in
        let pause : l.pause - k - 1 ≡ l.pause - suc k = omega arith in
        cc

-- a tick more than n at once
one_more_by : (k : ℕ) (a : Account) (l : Load) (b : Bool) → (l.pause - k == 0) ≡ b
    → (if b
    then record { account = record a { paused = a.paused + min k l.pause }; load = Some (record { work = l.work - (k - l.pause) - 1; pause = l.pause - k }) }
    else record { account = record a { paused = a.paused + min k l.pause + 1 }; load = Some (record { work = l.work - (k - l.pause); pause = l.pause - k - 1 }) })
    ≡ sit_load (suc k) a l
one_more_by k a l true e =
    let z : l.pause - k ≡ 0 = eqb-true _ _ e in
    let paused : a.paused + min k l.pause ≡ a.paused + min (suc k) l.pause = omega arith in
    let work : l.work - (k - l.pause) - 1 ≡ l.work - (suc k - l.pause) = omega arith in
    let pause : l.pause - k ≡ l.pause - suc k = omega arith in
    same_parts a (a.paused + min k l.pause) (a.paused + min (suc k) l.pause) (l.work - (k - l.pause) - 1) (l.work - (suc k - l.pause)) (l.pause - k) (l.pause - suc k) paused work pause
one_more_by k a l false e =
    let z : l.pause - k ≢ 0 = eqb-false _ _ e in
    let paused : a.paused + min k l.pause + 1 ≡ a.paused + min (suc k) l.pause = omega arith in
    let work : l.work - (k - l.pause) ≡ l.work - (suc k - l.pause) = omega arith in
    let pause : l.pause - k - 1 ≡ l.pause - suc k = omega arith in
    same_parts a (a.paused + min k l.pause + 1) (a.paused + min (suc k) l.pause) (l.work - (k - l.pause)) (l.work - (suc k - l.pause)) (l.pause - k - 1) (l.pause - suc k) paused work pause

one_more : (k : ℕ) (hart : Hart) → tick_hart (sit_hart k hart) ≡ sit_hart (suc k) hart
one_more k hart = go hart.account hart.load
  where
    go : (a : Account) (load : Option Load) → tick_hart (sit_hart k (record { account = a; load = load })) ≡ sit_hart (suc k) (record { account = a; load = load })
    go a None = refl
    go a (Some l) = one_more_by k a l (l.pause - k == 0) refl

no_tick : (hart : Hart) → hart ≡ sit_hart 0 hart
no_tick hart = go hart.account hart.load
  where
    go : (a : Account) (load : Option Load) → record { account = a; load = load } ≡ sit_hart 0 (record { account = a; load = load })
    go a None = refl
    go a (Some l) =
        let paused : a.paused ≡ a.paused + min 0 l.pause = omega arith in
        let work : l.work ≡ l.work - (0 - l.pause) = omega arith in
        let pause : l.pause ≡ l.pause - 0 = omega arith in
        same_parts a a.paused (a.paused + min 0 l.pause) l.work (l.work - (0 - l.pause)) l.pause (l.pause - 0) paused work pause

-- n single ticks are as many at once
pub ticked_is : (k : ℕ) (hart : Hart) → hart_after_ticks k hart ≡ sit_hart k hart
ticked_is zero hart = no_tick hart
ticked_is (suc k) hart = ap tick_hart (ticked_is k hart) ∙ one_more k hart

pub all_ticked : (k : ℕ) (harts : List Hart) → map (hart_after_ticks k) harts ≡ map (sit_hart k) harts
all_ticked k [] = refl
all_ticked k (hart ∷ harts) = ap₂ (λ (x : Hart) (xs : List Hart). x ∷ xs) (ticked_is k hart) (all_ticked k harts)

sit_none : (hart : Hart) → sit_hart 0 (without_work hart) ≡ without_work hart
sit_none hart = go hart.account hart.load
  where
    go : (a : Account) (load : Option Load) → sit_hart 0 (without_work (record { account = a; load = load })) ≡ without_work (record { account = a; load = load })
    go a None = refl
    go a (Some l) =
        let paused : a.paused + min 0 l.pause ≡ a.paused = omega arith in
        let work : 0 - (0 - l.pause) ≡ 0 = omega arith in
        let pause : l.pause - 0 ≡ l.pause = omega arith in
        same_parts a (a.paused + min 0 l.pause) a.paused (0 - (0 - l.pause)) 0 (l.pause - 0) l.pause paused work pause

-- account and pause after n single ticks are those of n at once
pub without_work-ticked : (k : ℕ) (hart : Hart) → without_work (hart_after_ticks k hart) ≡ sit_hart k (without_work hart)
without_work-ticked zero hart = sym (sit_none hart)
without_work-ticked (suc k) hart = without_work-tick (hart_after_ticks k hart) ∙ ap (sit_hart 1) (without_work-ticked k hart) ∙ sit_one_more k hart

pub without_work-run : (work : ℕ) (hart : Hart) → without_work (run work hart) ≡ run 0 (without_work hart)
without_work-run work hart = go hart.account hart.load
  where
    go : (a : Account) (load : Option Load) → without_work (run work (record { account = a; load = load })) ≡ run 0 (without_work (record { account = a; load = load }))
    go a None = refl
    go a (Some l) = refl

pub without_work-stop : (hart : Hart) → without_work (stop hart) ≡ stop (without_work hart)
without_work-stop hart = go hart.account hart.load
  where
    go : (a : Account) (load : Option Load) → without_work (stop (record { account = a; load = load })) ≡ stop (without_work (record { account = a; load = load }))
    go a None = refl
    go a (Some l) = refl

pub without_work-credit : (goal : ℕ) (hart : Hart) → without_work (credit goal hart) ≡ credit goal (without_work hart)
without_work-credit goal hart = go hart.account hart.load
  where
    go : (a : Account) (load : Option Load) → without_work (credit goal (record { account = a; load = load })) ≡ credit goal (without_work (record { account = a; load = load }))
    go a None = refl
    go a (Some l) = refl

raise_by : (ticks : ℕ) (a : Account) (l : Load) (b : Bool) → without_work (if b then record { account = record a { own = a.own + ticks }; load = Some l } else record { account = a; load = Some (record l { pause = l.pause + ticks }) })
    ≡ (if b then record { account = record a { own = a.own + ticks }; load = Some (record { work = 0; pause = l.pause }) } else record { account = a; load = Some (record { work = 0; pause = l.pause + ticks }) })
raise_by ticks a l true = refl
raise_by ticks a l false = refl

pub without_work-raise : (ticks h k : ℕ) (hart : Hart) → without_work (raise_hart ticks h k hart) ≡ raise_hart ticks h k (without_work hart)
without_work-raise ticks h k hart = go hart.account hart.load
  where
    go : (a : Account) (load : Option Load) → without_work (raise_hart ticks h k (record { account = a; load = load })) ≡ raise_hart ticks h k (without_work (record { account = a; load = load }))
    go a None = refl
    go a (Some l) = raise_by ticks a l (k == h)
