-- Harts that enter the line or start, one after another.
use Rattle.std.proofs.Common.{◌≡◌, ℕ, zero, suc, ◌+◌, ◌≤◌, ◌<◌, ◌^◌, List, [], ◌∷◌, map, drop, length, get_or, refl, sym, ap, ◌∙◌, subst, ◌⊎◌, inl, inr, add-one, arith}
use Rattle.std.proofs.lemmas.Bool.{cases_eq}
use Rattle.std.proofs.lemmas.List.{drop_all}
use Rattle.std.proofs.Math.Seq.{drop-cons}
use Rattle.coz_types.specs.declared.HartId.{HartId}
use Rattle.machines.specs.Places.{change, change_each}
use Rattle.machines.proofs.Maps.{change_same, change_other}
use Rattle.ready_ticks.specs.declared.waits.Wait.{Wait}
use Rattle.ready_ticks.specs.Waits.{entered_at, never, started_at, ticks_at, wait_of}

change_read : {A : Type 0} (x : A) (h : ℕ) (f : A → A) (xs : List A) → change x h (λ _. f (get_or xs h x)) xs ≡ change x h f xs
change_read x zero f [] = refl
change_read x zero f (y ∷ ys) = refl
change_read x (suc h) f [] = ap (λ zs. x ∷ zs) (change_read x h f [])
change_read x (suc h) f (y ∷ ys) = ap (λ zs. y ∷ zs) (change_read x h f ys)

-- what is read is changed and put
pub put_read : (h : ℕ) (xs ys : List Wait) (f : Wait → Wait) (v : Wait) → v ≡ f (get_or xs h never) → ys ≡ change never h (λ _. v) xs → ys ≡ change never h f xs
put_read h xs ys f v is put = put ∙ ap (λ (w : Wait). change never h (λ _. w) xs) is ∙ change_read never h f xs

abbrev pub numbers : List HartId → List ℕ
numbers harts = map (λ hart. hart.0) harts

-- the next of the harts that are left, and the rest
pub next_number : (harts : List HartId) (i : ℕ) → i < length harts → numbers (drop i harts) ≡ (get_or harts i (record { 0 = 0 })).0 ∷ numbers (drop (i + 1) harts)
next_number harts i below = ap (map (λ hart. hart.0)) (drop-cons harts i (record { 0 = 0 }) below) ∙ rw add-one refl

pub no_numbers : (harts : List HartId) (i : ℕ) → length harts ≤ i → numbers (drop i harts) ≡ []
no_numbers harts i past = ap (map (λ hart. hart.0)) (drop_all i harts past)

-- ---- the ticks stay few

abbrev pub AreFew : ℕ → List Wait → Type 0
AreFew now waits = (hart : ℕ) → ticks_at now (wait_of waits hart) < 2 ^ 64

few_at : (now h k : ℕ) (f : Wait → Wait) (waits : List Wait) → ((w : Wait) → ticks_at now (f w) ≤ ticks_at now w) → AreFew now waits → (h ≡ k) ⊎ (h ≡ k → ⊥) → ticks_at now (wait_of (change never h f waits) k) < 2 ^ 64
few_at now h k f waits less few (inl same) =
    subst (λ (n : ℕ). ticks_at now (wait_of (change never h f waits) n) < 2 ^ 64) same
    (subst (λ (w : Wait). ticks_at now w < 2 ^ 64) (sym (change_same never h f waits))
    (let below = less (wait_of waits h) in let old = few h in omega (arith, below, old)))
few_at now h k f waits less few (inr n) = subst (λ (w : Wait). ticks_at now w < 2 ^ 64) (sym (change_other never h k f waits n)) (few k)

few_changed : (now h : ℕ) (f : Wait → Wait) (waits : List Wait) → ((w : Wait) → ticks_at now (f w) ≤ ticks_at now w) → AreFew now waits → AreFew now (change never h f waits)
few_changed now h f waits less few = λ k. few_at now h k f waits less few (cases_eq h k)

entered_less : (now : ℕ) (w : Wait) → ticks_at now (entered_at now w) ≤ ticks_at now w
entered_less now w = omega arith

started_less : (now : ℕ) (w : Wait) → ticks_at now (started_at now w) ≤ ticks_at now w
started_less now w = omega arith

pub few_started : (now h : ℕ) (waits : List Wait) → AreFew now waits → AreFew now (change never h (started_at now) waits)
few_started now h waits few = few_changed now h (started_at now) waits (started_less now) few

pub few_entered : (now : ℕ) (hs : List ℕ) (waits : List Wait) → AreFew now waits → AreFew now (change_each never hs (λ _. entered_at now) waits)
few_entered now [] waits few = few
few_entered now (h ∷ hs) waits few = few_entered now hs (change never h (entered_at now) waits) (few_changed now h (entered_at now) waits (entered_less now) few)

-- ---- one after another

-- these are still to be changed, for what is to be reached
abbrev pub AreLeft : (Wait → Wait) → List Wait → List ℕ → List Wait → Type 0
AreLeft f goal left waits = change_each never left (λ _. f) waits ≡ goal

pub one_less : (f : Wait → Wait) (goal : List Wait) (harts : List HartId) (i : ℕ) (waits new : List Wait) → i < length harts → new ≡ change never (get_or harts i (record { 0 = 0 })).0 f waits
    → AreLeft f goal (numbers (drop i harts)) waits → AreLeft f goal (numbers (drop (i + 1) harts)) new
one_less f goal harts i waits new below is left =
    ap (change_each never (numbers (drop (i + 1) harts)) (λ _. f)) is
    ∙ subst (λ (hs : List ℕ). AreLeft f goal hs waits) (next_number harts i below) left

pub none_left : (f : Wait → Wait) (goal : List Wait) (harts : List HartId) (i : ℕ) (waits : List Wait) → length harts ≤ i → AreLeft f goal (numbers (drop i harts)) waits → waits ≡ goal
none_left f goal harts i waits past left = subst (λ (hs : List ℕ). AreLeft f goal hs waits) (no_numbers harts i past) left

-- the same of harts in line, by number
next_in_line : (line : List ℕ) (i : ℕ) → i < length line → drop i line ≡ get_or line i 0 ∷ drop (i + 1) line
next_in_line line i below = drop-cons line i 0 below ∙ rw add-one refl

pub one_fewer : (f : Wait → Wait) (goal : List Wait) (line : List ℕ) (i : ℕ) (waits new : List Wait) → i < length line → new ≡ change never (get_or line i 0) f waits
    → AreLeft f goal (drop i line) waits → AreLeft f goal (drop (i + 1) line) new
one_fewer f goal line i waits new below is left =
    ap (change_each never (drop (i + 1) line) (λ _. f)) is
    ∙ subst (λ (hs : List ℕ). AreLeft f goal hs waits) (next_in_line line i below) left

pub none_in_line : (f : Wait → Wait) (goal : List Wait) (line : List ℕ) (i : ℕ) (waits : List Wait) → length line ≤ i → AreLeft f goal (drop i line) waits → waits ≡ goal
none_in_line f goal line i waits past left = subst (λ (hs : List ℕ). AreLeft f goal hs waits) (drop_all i line past) left
