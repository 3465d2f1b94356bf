-- What the counts of some harts are, one after the other.
use Rattle.std.proofs.Common.{◌≡◌, ℕ, ◌+◌, ◌*◌, ◌≤◌, ◌<◌, ◌∙◌, ◌==◌, Bool, true, false, if◌then◌else◌, List, [], ◌∷◌, map, drop, fold, length, get_or, refl, sym, ap, subst, arith, eq-eqb, add-one, add-mul, mul_comm}
use Rattle.std.proofs.Math.Seq.{drop-cons}
use Rattle.std.proofs.Math.ListN.{get_or-map}
use Rattle.std.proofs.lemmas.List.{length-map}
use Rattle.coz_types.specs.declared.HartId.{HartId}
use Rattle.machines.specs.declared.Fate.{Fate}
use Rattle.machines.specs.declared.Fate.TheVariants.{Goes, Waits, Leaves, Sleeps, Ends}
use Rattle.machines.specs.Places.{is_among}
use Rattle.timed_guest.specs.Guest.{Timed}
use Rattle.timed_guest.specs.Retire.{cycles_of_next, line_counted}
use Rattle.guest_calls.proofs.Among.{among_at}
use Rattle.run_engine.specs.Begin.{started_by}
use Rattle.run_engine.specs.Engine.{most_ticks}
use Rattle.run_engine.proofs.Ticks.{whole_few}
use Rattle.run_counts.specs.Counts.{Counts, place_in, IsWithin}
use Rattle.run_counts.proofs.Within.{within_one, one_begun, one_all}
use Rattle.counted_run.specs.Begun.{with_hart}

times_next : (m n : ℕ) → m * (n + 1) ≡ m * n + m
times_next m n =
    let parts : (n + 1) * m ≡ n * m + 1 * m = add-mul n 1 m in
    let left : m * (n + 1) ≡ (n + 1) * m = mul_comm m (n + 1) in
    let right : m * n ≡ n * m = mul_comm m n in
    omega (arith, parts, left, right)

module _ (g : Timed) where
  pub hart_within : (c : Counts) (h : ℕ) → IsWithin c → IsWithin (with_hart g c h)
  hart_within c h w = within_one (place_in (length c.lines) (line_counted g h)) (100 * cycles_of_next g h) c w

  pub hart_begun : (c : Counts) (h : ℕ) → (with_hart g c h).begun ≡ c.begun + 1
  hart_begun c h = one_begun (place_in (length c.lines) (line_counted g h)) (100 * cycles_of_next g h) c

  pub hart_all : (c : Counts) (h : ℕ) → (with_hart g c h).all ≡ c.all + 100 * cycles_of_next g h
  hart_all c h = one_all (place_in (length c.lines) (line_counted g h)) (100 * cycles_of_next g h) c

  pub fold_within : (hs : List ℕ) (c : Counts) → IsWithin c → IsWithin (fold (with_hart g) c hs)
  fold_within [] c w = w
  fold_within (h ∷ hs) c w = fold_within hs (with_hart g c h) (hart_within c h w)

  pub fold_begun : (hs : List ℕ) (c : Counts) → (fold (with_hart g) c hs).begun ≡ c.begun + length hs
  fold_begun [] c = omega arith
  fold_begun (h ∷ hs) c =
      let one = hart_begun c h in
      let rest : (fold (with_hart g) (with_hart g c h) hs).begun ≡ (with_hart g c h).begun + length hs = fold_begun hs (with_hart g c h) in
      omega arith

  -- the work of so many instructions is at most that of as many of the dearest
  abbrev most : ℕ
  most = most_ticks g.beside.timing

  pub hart_work : (c : Counts) (h : ℕ) → c.all ≤ most * c.begun → (with_hart g c h).all ≤ most * (with_hart g c h).begun
  hart_work c h few =
      let all = hart_all c h in
      let one : 100 * cycles_of_next g h ≤ most = whole_few g h in
      let more : most * (c.begun + 1) ≡ most * c.begun + most = times_next most c.begun in
      let sum : (with_hart g c h).all ≤ most * (c.begun + 1) = omega (arith, few, all, one, more) in
      subst (λ (n : ℕ). (with_hart g c h).all ≤ most * n) (sym (hart_begun c h)) sum

  pub fold_work : (hs : List ℕ) (c : Counts) → c.all ≤ most * c.begun → (fold (with_hart g) c hs).all ≤ most * (fold (with_hart g) c hs).begun
  fold_work [] c few = few
  fold_work (h ∷ hs) c few = fold_work hs (with_hart g c h) (hart_work c h few)

  -- the hart that retired, and then those that it made or woke
  pub both_folded : (h : ℕ) (fate : Fate) (others : List ℕ) (c : Counts) → fold (with_hart g) (fold (with_hart g) c (started_by h fate [])) others ≡ fold (with_hart g) c (started_by h fate others)
  both_folded h Goes others c = refl
  both_folded h Waits others c = refl
  both_folded h Leaves others c = refl
  both_folded h (Sleeps moment) others c = refl
  both_folded h (Ends ending) others c = refl

pub one_at_most : (h : ℕ) (fate : Fate) → length (started_by h fate []) ≤ 1
one_at_most h Goes = omega arith
one_at_most h Waits = omega arith
one_at_most h Leaves = omega arith
one_at_most h (Sleeps moment) = omega arith
one_at_most h (Ends ending) = omega arith

pub others_few : (h : ℕ) (fate : Fate) (others : List ℕ) → length others ≤ length (started_by h fate others)
others_few h Goes others = omega arith
others_few h Waits others = omega arith
others_few h Leaves others = omega arith
others_few h (Sleeps moment) others = omega arith
others_few h (Ends ending) others = omega arith

among_rest : (b a : Bool) → a ≡ true → (if b then true else a) ≡ true
among_rest true a is = refl
among_rest false a is = is

among_first : (b a : Bool) → (if b then true else false) ≡ true → (if b then true else a) ≡ true
among_first true a is = refl
among_first false a is = let no : false ≡ true = is in absurd cc

pub self_among : (h : ℕ) (rest : List ℕ) → is_among h (h ∷ rest) ≡ true
self_among h rest = rw (eq-eqb h h refl) refl

-- one that was made or woken was started, and so was the hart itself if it goes on
pub other_started : (h : ℕ) (fate : Fate) (others : List ℕ) (k : ℕ) → is_among k others ≡ true → is_among k (started_by h fate others) ≡ true
other_started h Goes others k is = among_rest (k == h) (is_among k others) is
other_started h Waits others k is = is
other_started h Leaves others k is = is
other_started h (Sleeps moment) others k is = is
other_started h (Ends ending) others k is = is

pub self_started : (h : ℕ) (fate : Fate) (others : List ℕ) (k : ℕ) → is_among k (started_by h fate []) ≡ true → is_among k (started_by h fate others) ≡ true
self_started h Goes others k is = among_first (k == h) (is_among k others) is
self_started h Waits others k is = let no : false ≡ true = is in absurd cc
self_started h Leaves others k is = let no : false ≡ true = is in absurd cc
self_started h (Sleeps moment) others k is = let no : false ≡ true = is in absurd cc
self_started h (Ends ending) others k is = let no : false ≡ true = is in absurd cc

-- the numbers of harts from one place on
pub numbers_from : (harts : List HartId) (i : ℕ) → i < length harts → map (λ (hart : HartId). hart.0) (drop i harts) ≡ (get_or harts i (record { 0 = 0 })).0 ∷ map (λ (hart : HartId). hart.0) (drop (i + 1) harts)
numbers_from harts i below =
    ap (map (λ (hart : HartId). hart.0)) (drop-cons harts i (record { 0 = 0 }) below ∙ ap (λ (j : ℕ). get_or harts i (record { 0 = 0 }) ∷ drop j harts) (sym (add-one i)))

-- the hart at a place is one of them
pub number_among : (harts : List HartId) (i : ℕ) → i < length harts → is_among (get_or harts i (record { 0 = 0 })).0 (map (λ (hart : HartId). hart.0) harts) ≡ true
number_among harts i below =
    subst (λ (h : ℕ). is_among h (map (λ (hart : HartId). hart.0) harts) ≡ true) (get_or-map (λ (hart : HartId). hart.0) harts i (record { 0 = 0 }))
    (among_at (map (λ (hart : HartId). hart.0) harts) i (let long = length-map harts (λ (hart : HartId). hart.0) in omega arith))
