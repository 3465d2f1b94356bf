use Rattle.std.proofs.Common.{◌≡◌, ℕ, ◌+◌, List, ◌∷◌, Bool, length, map, drop, get_or, ◌<◌, ap, refl, ◌∙◌, subst, sym, add-one}
use Rattle.std.proofs.Math.Seq.{drop-cons}
use Rattle.std.proofs.lemmas.List.{drop_all, append-nil}
use Rattle.coz_types.specs.declared.HartId.{HartId}
use Rattle.hart_schedule.specs.Keys.{Keys, with_key}
use Rattle.timed_guest.specs.Guest.{Timed}
use Rattle.run_engine.specs.Run.{is_selected_in, ticks_in}
use Rattle.run_engine.proofs.Begin.{IsBeginning, beginning, first_idle, room_left, one_more}
use Rattle.run_engine.proofs.start.begin_each.Goals as goal

numbers : List HartId → List ℕ
numbers harts = map (λ hart. hart.0) harts

-- the next of the harts that are left, and the rest
next_of : (harts : List HartId) (i : ℕ) → i < length harts → numbers (drop i harts) ≡ (get_or harts i (record { 0 = 0 })).0 ∷ numbers (drop (i + 1) harts)
unfolding numbers
next_of harts i below = ap (map (λ hart. hart.0)) (drop-cons harts i (record { 0 = 0 }) below) ∙ rw add-one refl

pub loop-hart-init : goal.loop-hart-init
loop-hart-init c =
    beginning c.args.guest.now (ticks_in c.args.setting.now c.args.guest.now) (is_selected_in c.args.setting.now c.args.guest.now) c.args.moment
    (map (λ hart. hart.0) c.args.harts.now) c.args.schedule.now c.args.selected.now c.requires.idle c.requires.room c.requires.few

-- the next hart is to begin, and then the rest
going_on : (g : Timed) (ticks : ℕ → ℕ) (p : ℕ → Bool) (m : ℕ) (harts : List HartId) (old : Keys) (before : List ℕ) (i : ℕ) (now : Keys) (chosen : List ℕ) → i < length harts
    → IsBeginning g ticks p m (numbers harts) old before (numbers (drop i harts)) now chosen
    → IsBeginning g ticks p m (numbers harts) old before ((get_or harts i (record { 0 = 0 })).0 ∷ numbers (drop (i + 1) harts)) now chosen
going_on g ticks p m harts old before i now chosen below b =
    subst (λ (left : List ℕ). IsBeginning g ticks p m (numbers harts) old before left now chosen) (next_of harts i below) b

pub begin-requires-clause-idle : goal.begin-requires-clause-idle
unfolding numbers
begin-requires-clause-idle c =
    let l = c.loop-hart in
    first_idle c.args.guest.now l.schedule _ (numbers (drop (l.hart-index + 1) c.args.harts.now))
    (going_on c.args.guest.now _ _ _ c.args.harts.now _ _ l.hart-index l.schedule l.selected c.loop-hart-test.true l.invariant).idle

pub begin-requires-clause-few : goal.begin-requires-clause-few
unfolding numbers
begin-requires-clause-few c =
    let l = c.loop-hart in
    room_left _ _ _ _ _ _ _ _ _ _ _
    (going_on c.args.guest.now _ _ _ c.args.harts.now _ _ l.hart-index l.schedule l.selected c.loop-hart-test.true l.invariant)

pub loop-hart-preserved : goal.loop-hart-preserved
unfolding numbers
loop-hart-preserved c =
    let l = c.loop-hart in
    let g : Timed = c.args.guest.now in
    let ticks : ℕ → ℕ = ticks_in c.args.setting.now g in
    let p : ℕ → Bool = is_selected_in c.args.setting.now g in
    let m : ℕ = c.args.moment in
    let all : List ℕ = numbers c.args.harts.now in
    let hart : ℕ = (get_or c.args.harts.now l.hart-index (record { 0 = 0 })).0 in
    let rest : List ℕ = numbers (drop (l.hart-index + 1) c.args.harts.now) in
    let next = one_more g ticks p m all c.args.schedule.now c.args.selected.now hart rest l.schedule l.selected
    (going_on g ticks p m c.args.harts.now c.args.schedule.now c.args.selected.now l.hart-index l.schedule l.selected c.loop-hart-test.true l.invariant) in
    subst (λ (keys : Keys). IsBeginning g ticks p m all c.args.schedule.now c.args.selected.now rest keys c.begin.new.selected) (sym c.begin.ensures.due)
    (subst (λ (chosen : List ℕ). IsBeginning g ticks p m all c.args.schedule.now c.args.selected.now rest (with_key hart (m + ticks hart) l.schedule) chosen) (sym c.begin.ensures.selected) next)

pub returns-clause-begun : goal.returns-clause-begun
returns-clause-begun c = c.loop-hart.invariant.begins c.loop-hart.schedule (rw (drop_all c.loop-hart.hart-index c.args.harts.now c.loop-hart-test.false) (λ hart. refl))

pub returns-clause-selected : goal.returns-clause-selected
returns-clause-selected c =
    let l = c.loop-hart in
    sym (append-nil l.selected) ∙ (rw (drop_all l.hart-index c.args.harts.now c.loop-hart-test.false) at l.invariant.chooses)

pub returns-clause-room : goal.returns-clause-room
returns-clause-room c = c.loop-hart.invariant.room

pub returns-clause-few : goal.returns-clause-few
returns-clause-few c = c.loop-hart.invariant.few
