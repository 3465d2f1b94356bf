use Rattle.std.proofs.Common.{ℕ, zero, suc, ◌≡◌, List, ◌∷◌, ◌∙◌, ap, map, replicate, refl, None}
use Rattle.machines.specs.Delayed.{Hart, idle_hart}
use Rattle.delay_credits.specs.Seats.{hart_of_seat}
use Rattle.delay_credits.proofs.Credits.new.Goals as goal

none-standing : (n : ℕ) → map (hart_of_seat 0 (record { at = 0; sum = 0 }) 0) (replicate n (record { account = record { own = 0; paused = 0; credited = 0 }; running = None })) ≡ replicate n idle_hart
none-standing zero = refl
none-standing (suc n) = ap (λ (hs : List Hart). idle_hart ∷ hs) (none-standing n)

pub returns : goal.returns
returns c =
    ap (λ (hs : List Hart). record { latest = 0; raised = 0; harts = hs })
    (ap (map (hart_of_seat 0 (record { at = 0; sum = 0 }) 0)) (c.in_ok-vec.ensures.items_if_clones_equal (λ y is. is)) ∙ none-standing c.args.harts)
