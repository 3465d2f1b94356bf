-- The line of harts that wait for a core: the first start while cores are free.
use Rattle.std.proofs.Common.{◌≡◌, ℕ, zero, suc, ◌+◌, ◌-◌, ◌<◌, ◌≤◌, ◌⊎◌, inl, inr, List, [], ◌∷◌, ◌++◌, length, take, drop, refl, sym, ap, ◌∙◌, subst, arith}
use Rattle.std.proofs.lemmas.List.{append_assoc}
use Rattle.std.proofs.Common.{length-append, map, get_or}
use Rattle.std.specs.Prelude.{All}
use Rattle.std.proofs.lemmas.List.{length-map, take_more, append-nil}
use Rattle.coz_types.specs.declared.HartId.{HartId}
use Rattle.timing_state.proofs.Maps.{map_get}
use Rattle.machines.specs.Places.{change, change_each}
use Rattle.timing_laws.specs.Cores.{Seats, fill, starting, in_line}
use Rattle.timing_state.specs.Held.{Starts}

no_cores : (cores on : ℕ) → cores ≤ on → cores - on ≡ 0
no_cores cores on full = omega (arith, full)

take_none : (xs : List ℕ) → take 0 xs ≡ []
take_none [] = refl
take_none (x ∷ xs) = refl

drop_none : (xs : List ℕ) → drop 0 xs ≡ xs
drop_none [] = refl
drop_none (x ∷ xs) = refl

abbrev nobody : List ℕ
nobody = []

take_nil : (n : ℕ) → take n nobody ≡ nobody
take_nil zero = refl
take_nil (suc n) = refl

drop_nil : (n : ℕ) → drop n nobody ≡ nobody
drop_nil zero = refl
drop_nil (suc n) = refl

-- in parts
fill_parts : ℕ → ℕ → List ℕ → ℕ → List ℕ → Seats
fill_parts moment n ready on ends = record {
  ready = drop n ready;
  on = on + length (take n ready);
  slice_ends = change_each 0 (take n ready) (λ _ _. moment) ends;
}

parts_first : (moment n h on : ℕ) (rest ends : List ℕ)
    → fill_parts moment (suc n) (h ∷ rest) on ends ≡ fill_parts moment n rest (on + 1) (change 0 h (λ _. moment) ends)
unfolding fill_parts
parts_first moment n h on rest ends =
    let sum : on + suc (length (take n rest)) ≡ on + 1 + length (take n rest) = omega arith in
    ap (λ (k : ℕ). let r : Seats = record { ready = drop n rest; on = k; slice_ends = change_each 0 (take n rest) (λ _ _. moment) (change 0 h (λ _. moment) ends) } in r) sum

fill_is_parts : (cores moment : ℕ) (s : Seats) → fill cores moment s ≡ fill_parts moment (cores - s.on) s.ready s.on s.slice_ends
unfolding fill_parts
fill_is_parts cores moment s = refl

pub fill_first : (cores moment h : ℕ) (s t : Seats) → s.on < cores → Starts moment h s t → fill cores moment t ≡ fill cores moment s
fill_first cores moment h s t free starts =
    let more : cores - s.on ≡ suc (cores - (s.on + 1)) = omega (arith, free) in
    fill_is_parts cores moment t
    ∙ ap (λ (k : ℕ). fill_parts moment (cores - k) t.ready k t.slice_ends) starts.on
    ∙ ap (λ (ends : List ℕ). fill_parts moment (cores - (s.on + 1)) t.ready (s.on + 1) ends) starts.slice_ends
    ∙ sym (parts_first moment (cores - (s.on + 1)) h s.on t.ready s.slice_ends)
    ∙ ap (λ (k : ℕ). fill_parts moment k (h ∷ t.ready) s.on s.slice_ends) (sym more)
    ∙ ap (λ (ready : List ℕ). fill_parts moment (cores - s.on) ready s.on s.slice_ends) (sym starts.ready)
    ∙ sym (fill_is_parts cores moment s)

pub starting_first : (cores moment h : ℕ) (s t : Seats) → s.on < cores → Starts moment h s t → starting cores s ≡ h ∷ starting cores t
starting_first cores moment h s t free starts =
    let more : cores - s.on ≡ suc (cores - t.on) = let on = starts.on in omega (arith, free, on) in
    ap (λ (k : ℕ). take k s.ready) more ∙ ap (λ (ready : List ℕ). take (suc (cores - t.on)) ready) starts.ready

-- nobody can start
pub starting_none : (cores : ℕ) (s : Seats) → (cores ≤ s.on) ⊎ (s.ready ≡ []) → starting cores s ≡ []
starting_none cores s (inl full) = ap (λ (k : ℕ). take k s.ready) (no_cores cores s.on full) ∙ take_none s.ready
starting_none cores s (inr none) = ap (λ (ready : List ℕ). take (cores - s.on) ready) none ∙ take_nil (cores - s.on)

parts_none : (moment n on : ℕ) (ready ends : List ℕ) → take n ready ≡ [] → drop n ready ≡ ready
    → fill_parts moment n ready on ends ≡ record { ready = ready; on = on; slice_ends = ends }
unfolding fill_parts
parts_none moment n on ready ends none all =
    let sum : on + 0 ≡ on = omega arith in
    ap (λ (first : List ℕ). let r : Seats = record { ready = drop n ready; on = on + length first; slice_ends = change_each 0 first (λ _ _. moment) ends } in r) none
    ∙ ap (λ (rest : List ℕ). let r : Seats = record { ready = rest; on = on + 0; slice_ends = ends } in r) all
    ∙ ap (λ (k : ℕ). let r : Seats = record { ready = ready; on = k; slice_ends = ends } in r) sum

rest_all : (cores : ℕ) (s : Seats) → (cores ≤ s.on) ⊎ (s.ready ≡ []) → drop (cores - s.on) s.ready ≡ s.ready
rest_all cores s (inl full) = ap (λ (k : ℕ). drop k s.ready) (no_cores cores s.on full) ∙ drop_none s.ready
rest_all cores s (inr none) = ap (λ (ready : List ℕ). drop (cores - s.on) ready) none ∙ drop_nil (cores - s.on) ∙ sym none

pub fill_none : (cores moment : ℕ) (s : Seats) → (cores ≤ s.on) ⊎ (s.ready ≡ []) → fill cores moment s ≡ s
fill_none cores moment s stop =
    fill_is_parts cores moment s ∙ parts_none moment (cores - s.on) s.on s.ready s.slice_ends (starting_none cores s stop) (rest_all cores s stop)

-- what is left to do while the first start, one by one
pub record Filling (cores moment : ℕ) (s₀ : Seats) (started₀ : List ℕ) (s : Seats) (started : List ℕ) : Type 0 where
  pub filled : fill cores moment s ≡ fill cores moment s₀
  pub chosen : started ++ starting cores s ≡ started₀ ++ starting cores s₀
  pub room : length started + length s.ready ≤ 256

pub filling_first : (cores moment h : ℕ) (s₀ : Seats) (started₀ : List ℕ) (s : Seats) (started : List ℕ) (t : Seats)
    → Filling cores moment s₀ started₀ s started → s.on < cores → Starts moment h s t
    → Filling cores moment s₀ started₀ t (started ++ h ∷ [])
filling_first cores moment h s₀ started₀ s started t before free starts = record {
  filled = fill_first cores moment h s t free starts ∙ before.filled;
  chosen =
      append_assoc started (h ∷ []) (starting cores t)
      ∙ ap (λ (xs : List ℕ). started ++ xs) (sym (starting_first cores moment h s t free starts))
      ∙ before.chosen;
  room =
      let room = before.room in
      let len : length s.ready ≡ suc (length t.ready) = ap (λ (xs : List ℕ). length xs) starts.ready in
      simp length-append (omega (arith, room, len));
}

-- a hart of a list is low if all are
pub low_at : (harts : List HartId) (numbers : List ℕ) (i : ℕ) (d : HartId) → map (λ (hart : HartId). hart.0) harts ≡ numbers → All (λ h. h < 256) numbers → i < length harts → (get_or harts i d).0 < 256
low_at harts numbers i d same all below =
    let f : HartId → ℕ = λ hart. hart.0 in
    let mapped : All (λ h. h < 256) (map f harts) = subst (λ (ns : List ℕ). All (λ h. h < 256) ns) (sym same) all in
    let len : length (map f harts) ≡ length harts = length-map harts f in
    subst (λ k. k < 256) (map_get f harts i d) (mapped i d.0 (omega (arith, len, below)))

-- one hart more at the end of the line
pub lined_more : (harts : List HartId) (i : ℕ) (d : HartId) (s₀ s t : Seats) → i < length harts
    → s ≡ in_line (take i (map (λ (hart : HartId). hart.0) harts)) s₀
    → t ≡ record s { ready = s.ready ++ (get_or harts i d).0 ∷ [] }
    → t ≡ in_line (take (i + 1) (map (λ (hart : HartId). hart.0) harts)) s₀
lined_more harts i d s₀ s t below before more =
    let f : HartId → ℕ = λ hart. hart.0 in
    let len : length (map f harts) ≡ length harts = length-map harts f in
    let next : take (i + 1) (map f harts) ≡ take i (map f harts) ++ (get_or harts i d).0 ∷ [] =
    take_more (map f harts) i d.0 (omega (arith, len, below)) ∙ ap (λ k. take i (map f harts) ++ k ∷ []) (map_get f harts i d) in
    more
    ∙ ap (λ (r : Seats). let q : Seats = record r { ready = r.ready ++ (get_or harts i d).0 ∷ [] } in q) before
    ∙ ap (λ (line : List ℕ). let q : Seats = record s₀ { ready = line } in q) (append_assoc s₀.ready (take i (map f harts)) ((get_or harts i d).0 ∷ []))
    ∙ ap (λ (hs : List ℕ). in_line hs s₀) (sym next)

-- as long as somebody stands in line there is room for one more to start
pub filling_room : (cores moment : ℕ) (s₀ : Seats) (started₀ : List ℕ) (s : Seats) (started : List ℕ)
    → Filling cores moment s₀ started₀ s started → (s.ready ≡ [] → ⊥) → length started < 256
filling_room cores moment s₀ started₀ s started f some = by s.ready some f.room
  where
    by : (ready : List ℕ) → (ready ≡ [] → ⊥) → length started + length ready ≤ 256 → length started < 256
    by [] none room = absurd (none refl)
    by (x ∷ xs) none room = omega (arith, room)

pub filling_done : (cores moment : ℕ) (s₀ : Seats) (started₀ : List ℕ) (s : Seats) (started : List ℕ)
    → Filling cores moment s₀ started₀ s started → (cores ≤ s.on) ⊎ (s.ready ≡ [])
    → (s ≡ fill cores moment s₀) × (started ≡ started₀ ++ starting cores s₀)
filling_done cores moment s₀ started₀ s started f stop = (
  sym (fill_none cores moment s stop) ∙ f.filled,
  sym (append-nil started) ∙ ap (λ (xs : List ℕ). started ++ xs) (sym (starting_none cores s stop)) ∙ f.chosen,
)

pub filling_begins : (cores moment : ℕ) (s : Seats) (started : List ℕ) → length started + length s.ready ≤ 256 → Filling cores moment s started s started
filling_begins cores moment s started room = record { filled = refl; chosen = refl; room = room }
