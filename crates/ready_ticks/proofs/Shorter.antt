-- Harts that enter the line and start at once need not be passed.
use Rattle.std.proofs.Common.{◌≡◌, ℕ, zero, suc, ◌-◌, ◌≤◌, ◌<◌, ◌||◌, ◌==◌, if◌then◌else◌, Bool, true, false, List, [], ◌∷◌, ◌++◌, take, drop, length, min, refl, sym, ap, ap₂, ◌∙◌, subst, ◌⊎◌, inl, inr, ⊎_elim, arith}
use Rattle.std.proofs.lemmas.Bool.{cases_lt}
use Rattle.std.proofs.lemmas.List.{length-map, take-map}
use Rattle.coz_types.specs.declared.HartId.{HartId}
use Rattle.machines.specs.Places.{is_among, change_each, AllApart}
use Rattle.timing_laws.proofs.Apart.{among-append, apart_split, none_among}
use Rattle.ready_ticks.specs.Ready.{Course}
use Rattle.ready_ticks.specs.declared.waits.Wait.{Wait}
use Rattle.ready_ticks.specs.Waits.{AreTold, Passes, entered_at, never, passed, started_at}
use Rattle.ready_ticks.proofs.Changes.{numbers}
use Rattle.ready_ticks.proofs.Told.{pass_told}

drop_front : {A : Type 0} (xs ys : List A) → drop (length xs) (xs ++ ys) ≡ ys
drop_front [] ys = refl
drop_front (x ∷ xs) ys = drop_front xs ys

none_taken : (h : ℕ) (k : ℕ) (xs : List ℕ) → is_among h xs ≡ false → is_among h (take k xs) ≡ false
none_taken h zero xs none = refl
none_taken h (suc k) [] none = refl
none_taken h (suc k) (x ∷ xs) none = by (h == x) none (λ n. none_taken h k xs n)
  where
    by : (b : Bool) → (if b then true else is_among h xs) ≡ false → (is_among h xs ≡ false → is_among h (take k xs) ≡ false) → (if b then true else is_among h (take k xs)) ≡ false
    by true e rest = e
    by false e rest = rest e

none_in_both : (p q : Bool) → p ≡ false → q ≡ false → (p || q) ≡ false
none_in_both p q e f = rw (e, f)

-- of a line, and the line after it
abbrev IsShorter : ℕ → List ℕ → List ℕ → List ℕ → Type 0
IsShorter k line starting new =
    (line ++ drop (length line - k) new ≡ take k starting ++ new) × AllApart (line ++ drop (length line - k) new)

shorter : (k : ℕ) (line entering starting new : List ℕ) → line ++ entering ≡ starting ++ new → AllApart (line ++ entering)
    → k ≤ length starting → k ≤ length line → (k ≡ length starting) ⊎ (k ≡ length line) → IsShorter k line starting new
shorter zero [] entering starting new is apart a b c = (refl, (apart_split starting new (subst AllApart is apart)).second)
shorter zero (l ∷ line) entering [] new is apart a b c =
    let rest : drop (length (l ∷ line)) new ≡ entering = ap (drop (length (l ∷ line))) (sym is) ∙ drop_front (l ∷ line) entering in
    let all : length (l ∷ line) ≡ length (l ∷ line) - 0 = omega arith in
    subst (λ (n : ℕ). ((l ∷ line) ++ drop n new ≡ new) × AllApart ((l ∷ line) ++ drop n new)) all
    (ap (λ (xs : List ℕ). (l ∷ line) ++ xs) rest ∙ is, subst (λ (xs : List ℕ). AllApart ((l ∷ line) ++ xs)) (sym rest) apart)
shorter zero (l ∷ line) entering (s ∷ starting) new is apart a b (inl e) = absurd (omega arith)
shorter zero (l ∷ line) entering (s ∷ starting) new is apart a b (inr e) = absurd (omega arith)
shorter (suc k) [] entering starting new is apart a b c = absurd (omega arith)
shorter (suc k) (l ∷ line) entering [] new is apart a b c = absurd (omega arith)
shorter (suc k) (l ∷ line) entering (s ∷ starting) new is apart a b c =
    let head : l ≡ s = cc in
    let tail : line ++ entering ≡ starting ++ new = cc in
    let rest : IsShorter k line starting new = shorter k line entering starting new tail apart.1 (omega arith) (omega arith)
    (⊎_elim (λ (e : suc k ≡ suc (length starting)). inl (let f : k ≡ length starting = omega arith in f)) (λ (e : suc k ≡ suc (length line)). inr (let f : k ≡ length line = omega arith in f)) c) in
    let fewer : length (l ∷ line) - suc k ≡ length line - k = omega arith in
    let out : is_among l (starting ++ new) ≡ false = ap (is_among l) (sym tail) ∙ apart.0 in
    let outs = none_among l starting new out in
    let none : is_among l (line ++ drop (length line - k) new) ≡ false =
    ap (is_among l) rest.0 ∙ among-append l (take k starting) new ∙ none_in_both (is_among l (take k starting)) (is_among l new) (none_taken l k starting outs.0) outs.1 in
    subst (λ (n : ℕ). ((l ∷ line) ++ drop n new ≡ take (suc k) (s ∷ starting) ++ new) × AllApart ((l ∷ line) ++ drop n new)) (sym fewer)
    (ap₂ (λ (x : ℕ) (xs : List ℕ). x ∷ xs) head rest.0, (none, rest.1))

pub shorter_passes : (c : Course) (n now before : ℕ) (entering starting new : List ℕ) → Passes c n now entering starting → length (c.line n) ≡ before → c.line (suc n) ≡ new
    → Passes c n now (drop (before - min (length starting) before) new) (take (min (length starting) before) starting)
shorter_passes c n now before entering starting new p count is =
    let k : ℕ = min (length starting) before in
    let one : IsShorter k (c.line n) starting (c.line (suc n)) =
    shorter k (c.line n) entering starting (c.line (suc n)) p.line p.apart (omega arith) (omega (arith, count)) (either (length starting) before (length (c.line n)) count) in
    let short : IsShorter k (c.line n) starting new = subst (IsShorter k (c.line n) starting) is one in
    let same : length (c.line n) - k ≡ before - k = ap (λ (m : ℕ). m - k) count in
    record {
      moment = p.moment;
      later = p.later;
      line = ap (λ (m : ℕ). c.line n ++ drop m new) (sym same) ∙ short.0 ∙ ap (λ (l : List ℕ). take k starting ++ l) (sym is);
      apart = subst (λ (m : ℕ). AllApart (c.line n ++ drop m new)) same short.1;
    }
  where
    either : (a b l : ℕ) → l ≡ b → (min a b ≡ a) ⊎ (min a b ≡ l)
    either a b l e = ⊎_elim (λ (less : a < b). inl (let m : min a b ≡ a = omega arith in m)) (λ (more : b ≤ a). inr (let m : min a b ≡ l = omega (arith, e) in m)) (cases_lt a b)

-- as the harts that are left start after those from a place on have entered
pub followed : (now left before : ℕ) (started : List HartId) (line : List ℕ) (old mid new : List Wait) → left ≡ min (length started) before
    → mid ≡ change_each never (drop (before - left) line) (λ _. entered_at now) old → new ≡ change_each never (numbers (take left started)) (λ _. started_at now) mid
    → new ≡ passed now (drop (before - min (length started) before) line) (take (min (length started) before) (numbers started)) old
followed now left before started line old mid new is enter start =
    start
    ∙ ap (change_each never (numbers (take left started)) (λ _. started_at now)) enter
    ∙ ap (λ (hs : List ℕ). change_each never hs (λ _. started_at now) (change_each never (drop (before - left) line) (λ _. entered_at now) old)) (sym (take-map (λ (hart : HartId). hart.0) left started))
    ∙ ap (λ (k : ℕ). passed now (drop (before - k) line) (take k (numbers started)) old) is

pub follow_told : (c : Course) (n now before : ℕ) (started : List HartId) (line entered : List ℕ) (old new : List Wait) → new ≡ passed now (drop (before - min (length started) before) line) (take (min (length started) before) (numbers started)) old
    → AreTold c n old → length (c.line n) ≡ before → c.line (suc n) ≡ line → Passes c n now entered (numbers started) → AreTold c (suc n) new
follow_told c n now before started line entered old new is told count after p =
    let many : length (numbers started) ≡ length started = length-map started (λ (hart : HartId). hart.0) in
    let less = shorter_passes c n now before entered (numbers started) line p count after in
    let k : ℕ = min (length started) before in
    let passes : Passes c n now (drop (before - k) line) (take k (numbers started)) =
    subst (λ (m : ℕ). Passes c n now (drop (before - min m before) line) (take (min m before) (numbers started))) many less in
    subst (λ (waits : List Wait). AreTold c (suc n) waits) (sym is) (pass_told c n now old _ _ told passes)
