-- What each call makes of the seats is what it makes of the harts.
use Rattle.std.proofs.Common.{ℕ, ◌≡◌, ◌≢◌, ◌≤◌, ◌<◌, ◌+◌, ◌-◌, ◌^◌, false, List, ◌++◌, length, map, take, drop, set, get_or, refl, ap, ◌∙◌, sym, arith, subst, None, ne_eqb, ⊎_elim, get_or-set_same, get_or-set_other}
use Rattle.std.specs.Prelude.{All}
use Rattle.std.proofs.lemmas.Bool.{cases_eq}
use Rattle.std.proofs.lemmas.List.{length-map, length-set, set-get_or}
use Rattle.std.proofs.Math.Seq.{take-append_seam}
use Rattle.machines.specs.Places.{change, change_from}
use Rattle.machines.specs.Delayed.{Hart, idle_hart, credit, raise_hart, total, has_load}
use Rattle.machines.proofs.Maps.{change_from_is}
use Rattle.delay_credits.specs.declared.seat.Raises.{Raises}
use Rattle.delay_credits.specs.declared.seat.Seat.{Seat}
use Rattle.delay_credits.specs.Delays.{Delays, hart_at, at, with_raise, with_credit}
use Rattle.delay_credits.specs.Seats.{hart_of_seat, raised_seat, IsSound, IsLater, AreLater}
use Rattle.delay_credits.proofs.Standing.{standing-all, standing-set, standing-read, standing-raise, standing-other, standing-credit, sound-raise, sound-other, more}

-- a seat to name an index past the end
abbrev no_seat : Seat
no_seat = record { account = record { own = 0; paused = 0; credited = 0 }; running = None }

-- what the seats stand for
abbrev pub seen : ℕ → ℕ → Raises → List Seat → Delays
seen latest raised raises seats = record { latest = latest; raised = raised; harts = map (hart_of_seat raised raises latest) seats }

below-seats : (latest raised : ℕ) (raises : Raises) (h : ℕ) (seats : List Seat) → h < length (seen latest raised raises seats).harts → h < length seats
below-seats latest raised raises h seats below = rw length-map at below

pub few_raised : (v : Delays) (latest raised : ℕ) (raises : Raises) (seats : List Seat) (ticks : ℕ) → seen latest raised raises seats ≡ v → v.raised + ticks ≤ 10 ^ 17 → raised + ticks ≤ 10 ^ 17
few_raised v latest raised raises seats ticks view = subst (λ (w : Delays). w.raised + ticks ≤ 10 ^ 17 → raised + ticks ≤ 10 ^ 17) view (λ few. few)

-- what was read is the seat of the hart
read : (h p : ℕ) (seats : List Seat) (s : Seat) → p ≡ h → s ≡ get_or seats p s → s ≡ get_or seats h s
read h p seats s index item = item ∙ ap (λ i. get_or seats i s) index

-- a seat that was read is sound
pub sound-at : (raised : ℕ) (raises : Raises) (p : ℕ) (seats : List Seat) (s : Seat) → All (IsSound raised raises) seats → p < length seats → s ≡ get_or seats p s → IsSound raised raises s
sound-at raised raises p seats s sound below item = subst (IsSound raised raises) (sym item) (sound p s below)

pub sound-of : (v : Delays) (latest raised : ℕ) (raises : Raises) (h p : ℕ) (seats : List Seat) (s : Seat) → seen latest raised raises seats ≡ v → All (IsSound raised raises) seats → h < length v.harts → p ≡ h → s ≡ get_or seats p s → IsSound raised raises s
sound-of v latest raised raises h p seats s view sound below index item =
    let inside : h < length seats = subst (λ (w : Delays). h < length w.harts → h < length seats) view (below-seats latest raised raises h seats) below in
    sound-at raised raises p seats s sound (omega (arith, index, inside)) item

-- what holds of each seat and of the one that is written
pub all-set : (P : Seat → Type 0) (p : ℕ) (seats : List Seat) (r : Seat) → All P seats → P r → All P (set seats p r)
all-set P p seats r each one k d below =
    let size = length-set seats p r in
    ⊎_elim
    (λ (e : k ≡ p). let inside : p < length seats = omega (arith, size, below, e) in subst P (sym (ap (λ i. get_or (set seats p r) i d) e ∙ get_or-set_same seats p r d inside)) one)
    (λ (other : k ≢ p). subst P (sym (get_or-set_other seats p k r d other)) (each k d (omega (arith, size, below))))
    (cases_eq k p)

-- the hart of a seat that was read
pub hart-at : (v : Delays) (latest now raised : ℕ) (raises : Raises) (h p : ℕ) (seats : List Seat) (s : Seat) → seen latest raised raises seats ≡ v → All (IsSound raised raises) seats → raises.at ≤ latest → h < length v.harts → v.latest ≤ now
    → p ≡ h → s ≡ get_or seats p s → hart_of_seat raised raises now s ≡ hart_at (at now v) h
hart-at v latest now raised raises h p seats s view sound past below later index item =
    ap (hart_of_seat raised raises now) (read h p seats s index item)
    ∙ subst (λ (w : Delays). h < length w.harts → w.latest ≤ now → hart_of_seat raised raises now (get_or seats h s) ≡ hart_at (at now w) h)
    view
    (λ below' later'. sym (ap (λ (hs : List Hart). get_or hs h idle_hart) (standing-all raised raises latest now seats sound past later') ∙ standing-read (hart_of_seat raised raises now) h seats s (below-seats latest raised raises h seats below')))
    below later

-- one hart is changed by f at a moment
pub changed-at : (v : Delays) (latest now raised : ℕ) (raises : Raises) (h p : ℕ) (f : Hart → Hart) (seats : List Seat) (s r : Seat) → seen latest raised raises seats ≡ v → All (IsSound raised raises) seats → raises.at ≤ latest → h < length v.harts → v.latest ≤ now
    → p ≡ h → s ≡ get_or seats p s → hart_of_seat raised raises now r ≡ f (hart_of_seat raised raises now s)
    → seen now raised raises (set seats p r) ≡ record (at now v) { harts = change idle_hart h f (at now v).harts }
changed-at v latest now raised raises h p f seats s r view sound past below later index item is =
    ap (λ i. seen now raised raises (set seats i r)) index
    ∙ subst (λ (w : Delays). h < length w.harts → w.latest ≤ now → seen now raised raises (set seats h r) ≡ record (at now w) { harts = change idle_hart h f (at now w).harts })
    view
    (λ below' later'. ap (λ (hs : List Hart). record { latest = now; raised = raised; harts = hs })
    (standing-set (hart_of_seat raised raises now) h f seats r s (below-seats latest raised raises h seats below') (is ∙ ap (λ (x : Seat). f (hart_of_seat raised raises now x)) (read h p seats s index item))
    ∙ ap (change idle_hart h f) (sym (standing-all raised raises latest now seats sound past later'))))
    below later

-- no seat is written if a change leaves the hart as it is
pub kept-at : (v : Delays) (latest now raised : ℕ) (raises : Raises) (h p : ℕ) (f : Hart → Hart) (seats : List Seat) (s : Seat) → seen latest raised raises seats ≡ v → All (IsSound raised raises) seats → raises.at ≤ latest → h < length v.harts → v.latest ≤ now
    → p ≡ h → s ≡ get_or seats p s → hart_of_seat raised raises now s ≡ f (hart_of_seat raised raises now s)
    → seen now raised raises seats ≡ record (at now v) { harts = change idle_hart h f (at now v).harts }
kept-at v latest now raised raises h p f seats s view sound past below later index item is =
    ap (seen now raised raises) (sym (ap (set seats p) item ∙ set-get_or seats p s))
    ∙ changed-at v latest now raised raises h p f seats s s view sound past below later index item is

-- every hart is changed by a raise
pub raised-at : (v : Delays) (latest now raised : ℕ) (raises new : Raises) (h p ticks n : ℕ) (seats old renewed : List Seat) (s : Seat) → seen latest raised raises seats ≡ v → All (IsSound raised raises) seats → raises.at ≤ latest → v.latest ≤ now
    → p ≡ h → old ≡ seats → length old ≡ n → length renewed ≡ length old → new.at ≡ now → AreLater now raises new old renewed
    → s ≡ get_or (take n (renewed ++ drop (length renewed) seats)) p s
    → (seen now (raised + ticks) (record { at = new.at; sum = new.sum + ticks }) (set (take n (renewed ++ drop (length renewed) seats)) p (raised_seat new ticks s)) ≡ with_raise h ticks now v)
    × All (IsSound (raised + ticks) (record { at = new.at; sum = new.sum + ticks })) (set (take n (renewed ++ drop (length renewed) seats)) p (raised_seat new ticks s))
raised-at v latest now raised raises new h p ticks n seats old renewed s view sound past later index is many same at_now each item = rw all (
  subst (λ (w : Delays). w.latest ≤ now → seen now (raised + ticks) (more new ticks) (set renewed p (raised_seat new ticks s)) ≡ with_raise h ticks now w)
      view
      (λ later'. ap (λ (hs : List Hart). record { latest = now; raised = raised + ticks; harts = hs })
      (harts later' ∙ ap (change_from 0 (raise_hart ticks h)) (sym (standing-all raised raises latest now seats sound past later'))))
      later,
  sounds,
)
  where
    all : take n (renewed ++ drop (length renewed) seats) ≡ renewed
    all = rw (← same ∙ many) (take-append_seam renewed (drop (length renewed) seats))

    size : length renewed ≡ length seats
    size = same ∙ ap length is

    one : s ≡ get_or renewed p s
    one = item ∙ ap (λ (xs : List Seat). get_or xs p s) all

    later-at : (k : ℕ) → k < length seats → (d : Seat) → IsLater now raises new (get_or seats k d) (get_or renewed k d)
    later-at = subst (λ (xs : List Seat). AreLater now raises new xs renewed) is each

    sound-now : All (IsSound raised new) renewed
    sound-now k d below = (later-at k (omega (arith, size, below)) d).sound raised (sound k d (omega (arith, size, below)))

    sounds : All (IsSound (raised + ticks) (more new ticks)) (set renewed p (raised_seat new ticks s))
    sounds k d below =
        let sizes = length-set renewed p (raised_seat new ticks s) in
        ⊎_elim
        (λ (e : k ≡ p).
        let inside : p < length renewed = omega (arith, sizes, below, e) in
        subst (IsSound (raised + ticks) (more new ticks)) (sym (ap (λ i. get_or (set renewed p (raised_seat new ticks s)) i d) e ∙ get_or-set_same renewed p (raised_seat new ticks s) d inside))
        (sound-raise raised new ticks s (sound-at raised new p renewed s sound-now inside one)))
        (λ (other : k ≢ p).
        subst (IsSound (raised + ticks) (more new ticks)) (sym (get_or-set_other renewed p k (raised_seat new ticks s) d other))
        (sound-other raised new ticks (get_or renewed k d) (sound-now k d (omega (arith, sizes, below)))))
        (cases_eq k p)

    -- the hart of a seat at the moment, before the raise
    before : (k : ℕ) → k < length seats → (d : Seat) → hart_of_seat raised new new.at (get_or renewed k d) ≡ hart_of_seat raised raises now (get_or seats k d)
    before k below d = (later-at k below d).same raised new.at (omega (arith, at_now)) (sound k d below) ∙ ap (λ (m : ℕ). hart_of_seat raised raises m (get_or seats k d)) at_now

    at_seat : (k : ℕ) → k < length seats → hart_of_seat (raised + ticks) (more new ticks) now (get_or (set renewed p (raised_seat new ticks s)) k s) ≡ raise_hart ticks h k (hart_of_seat raised raises now (get_or seats k s))
    at_seat k below =
        ap (λ (m : ℕ). hart_of_seat (raised + ticks) (more new ticks) m (get_or (set renewed p (raised_seat new ticks s)) k s)) (sym at_now)
        ∙ ⊎_elim
        (λ (e : k ≡ p).
        let inside : p < length renewed = omega (arith, size, below, e) in
        ap (hart_of_seat (raised + ticks) (more new ticks) new.at) (ap (λ i. get_or (set renewed p (raised_seat new ticks s)) i s) e ∙ get_or-set_same renewed p (raised_seat new ticks s) s inside)
        ∙ standing-raise raised new ticks s h (sound-at raised new p renewed s sound-now inside one)
        ∙ ap (λ (i : ℕ). raise_hart ticks h i (hart_of_seat raised new new.at s)) (sym (e ∙ index))
        ∙ ap (λ (x : Seat). raise_hart ticks h k (hart_of_seat raised new new.at x)) (one ∙ ap (λ i. get_or renewed i s) (sym e))
        ∙ ap (raise_hart ticks h k) (before k below s))
        (λ (other : k ≢ p).
        ap (hart_of_seat (raised + ticks) (more new ticks) new.at) (get_or-set_other renewed p k (raised_seat new ticks s) s other)
        ∙ standing-other raised new ticks (get_or renewed k s) h k (ne_eqb k h (λ e. other (e ∙ sym index))) (sound-now k s (omega (arith, size, below)))
        ∙ ap (raise_hart ticks h k) (before k below s))
        (cases_eq k p)

    harts : latest ≤ now → map (hart_of_seat (raised + ticks) (more new ticks) now) (set renewed p (raised_seat new ticks s)) ≡ change_from 0 (raise_hart ticks h) (map (hart_of_seat raised raises now) seats)
    harts later' =
        let sizes = length-set renewed p (raised_seat new ticks s) in
        change_from_is idle_hart (raise_hart ticks h) (λ k. refl) (map (hart_of_seat raised raises now) seats) (map (hart_of_seat (raised + ticks) (more new ticks) now) (set renewed p (raised_seat new ticks s)))
        (length-map (set renewed p (raised_seat new ticks s)) (hart_of_seat (raised + ticks) (more new ticks) now) ∙ sizes ∙ size ∙ sym (length-map seats (hart_of_seat raised raises now)))
        (λ k below.
        let inside : k < length (set renewed p (raised_seat new ticks s)) = rw length-map at below in
        let in_seats : k < length seats = omega (arith, sizes, size, inside) in
        standing-read (hart_of_seat (raised + ticks) (more new ticks) now) k (set renewed p (raised_seat new ticks s)) s inside
        ∙ at_seat k in_seats
        ∙ ap (raise_hart ticks h k) (sym (standing-read (hart_of_seat raised raises now) k seats s in_seats)))

-- the seat after a credit, at this global delay
abbrev credited_seat : ℕ → Seat → Seat
credited_seat raised s = record { account = record s.account { credited = s.account.credited + (raised - (s.account.own + s.account.paused + s.account.credited)) }; running = None }

pub credited-at : (v : Delays) (latest raised : ℕ) (raises : Raises) (woken waker p : ℕ) (seats : List Seat) (s : Seat) → seen latest raised raises seats ≡ v → woken < length v.harts → has_load (hart_at v woken) ≡ false → total (hart_at v waker).account ≡ v.raised
    → p ≡ woken → s ≡ get_or seats p s → seen latest raised raises (set seats p (credited_seat raised s)) ≡ with_credit woken waker v
credited-at v latest raised raises woken waker p seats s view below waits whole index item =
    subst (λ (w : Delays). woken < length w.harts → has_load (hart_at w woken) ≡ false → total (hart_at w waker).account ≡ w.raised → seen latest raised raises (set seats p (credited_seat raised s)) ≡ with_credit woken waker w)
    view go below waits whole
  where
    is : s ≡ get_or seats woken s
    is = read woken p seats s index item

    go : woken < length (seen latest raised raises seats).harts → has_load (hart_at (seen latest raised raises seats) woken) ≡ false → total (hart_at (seen latest raised raises seats) waker).account ≡ raised
        → seen latest raised raises (set seats p (credited_seat raised s)) ≡ with_credit woken waker (seen latest raised raises seats)
    go below waits whole =
        let at_seat : woken < length seats = below-seats latest raised raises woken seats below in
        let hart : get_or (map (hart_of_seat raised raises latest) seats) woken idle_hart ≡ hart_of_seat raised raises latest s = standing-read (hart_of_seat raised raises latest) woken seats s at_seat ∙ ap (hart_of_seat raised raises latest) (sym is) in
        let still : has_load (hart_of_seat raised raises latest s) ≡ false = ap has_load (sym hart) ∙ waits in
        let one = standing-credit raised raises latest raised s still ∙ ap (λ (x : Seat). credit raised (hart_of_seat raised raises latest x)) is in
        let all = standing-set (hart_of_seat raised raises latest) woken (credit raised) seats (credited_seat raised s) s at_seat one in
        ap (λ i. seen latest raised raises (set seats i (credited_seat raised s))) index
        ∙ ap (λ (hs : List Hart). record { latest = latest; raised = raised; harts = hs }) all
        ∙ ap (λ goal. record { latest = latest; raised = raised; harts = change idle_hart woken (credit goal) (map (hart_of_seat raised raises latest) seats) }) (sym whole)
