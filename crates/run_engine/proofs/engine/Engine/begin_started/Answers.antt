use Rattle.std.proofs.Common.{ℕ, ◌+◌, ◌≤◌, List, length, subst, sym, ◌∙◌, arith}
use Rattle.machines.specs.Guest.{goes_on}
use Rattle.run_engine.specs.Begin.{many, AreIdle, AreBegun}
use Rattle.run_engine.specs.Run.{is_selected_in, ticks_in}
use Rattle.run_engine.proofs.Begin.{base, base_of, base_length, again_idle, others_left, all_begun, all_chosen, again_few, same_room}
use Rattle.run_engine.proofs.engine.Engine.begin_started.Goals as goal

pub begin_again-requires-clause-idle : goal.begin_again-requires-clause-idle
begin_again-requires-clause-idle c = again_idle (goes_on c.args.fate) c.args.self.now.guest c.args.hart.0 c.args.self.now.started c.args.self.now.schedule c.requires.idle

pub begin_each-requires-clause-idle : goal.begin_each-requires-clause-idle
begin_each-requires-clause-idle c =
    let s = c.args.self.now in
    subst (λ (harts : List ℕ). AreIdle s.guest c.begin_again.new.schedule harts) (sym c.harts.ensures)
    (others_left (goes_on c.args.fate) s.guest (ticks_in c.args.setting.now s.guest) (is_selected_in c.args.setting.now s.guest) s.time c.args.hart.0 s.started (base (goes_on c.args.fate) c.args.hart.0 s.schedule)
    c.begin_again.new.schedule c.begin_again.new.selected (record { leaves = base_of (goes_on c.args.fate) c.args.hart.0 (s.time + ticks_in c.args.setting.now s.guest c.args.hart.0) s.schedule c.begin_again.new.schedule c.begin_again.ensures.due; chooses = c.begin_again.ensures.selected }) c.requires.idle)

pub begin_each-requires-clause-room : goal.begin_each-requires-clause-room
begin_each-requires-clause-room c =
    let s = c.args.self.now in
    same_room (goes_on c.args.fate) (ticks_in c.args.setting.now s.guest) (is_selected_in c.args.setting.now s.guest) s.time c.args.hart.0 (base (goes_on c.args.fate) c.args.hart.0 s.schedule)
    c.begin_again.new.schedule c.begin_again.new.selected (record { leaves = base_of (goes_on c.args.fate) c.args.hart.0 (s.time + ticks_in c.args.setting.now s.guest c.args.hart.0) s.schedule c.begin_again.new.schedule c.begin_again.ensures.due; chooses = c.begin_again.ensures.selected })
    ∙ base_length (goes_on c.args.fate) c.args.hart.0 s.schedule ∙ c.requires.room

pub begin_each-requires-clause-few : goal.begin_each-requires-clause-few
begin_each-requires-clause-few c =
    let s = c.args.self.now in
    let few : length c.begin_again.new.selected + many (base (goes_on c.args.fate) c.args.hart.0 s.schedule) ≤ many c.begin_again.new.schedule =
    again_few (goes_on c.args.fate) s.guest (ticks_in c.args.setting.now s.guest) (is_selected_in c.args.setting.now s.guest) s.time c.args.hart.0 s.started (base (goes_on c.args.fate) c.args.hart.0 s.schedule)
    c.begin_again.new.schedule c.begin_again.new.selected (record { leaves = base_of (goes_on c.args.fate) c.args.hart.0 (s.time + ticks_in c.args.setting.now s.guest c.args.hart.0) s.schedule c.begin_again.new.schedule c.begin_again.ensures.due; chooses = c.begin_again.ensures.selected }) c.requires.idle in
    omega arith

pub returns-clause-begun : goal.returns-clause-begun
returns-clause-begun c =
    let s = c.args.self.now in
    all_begun (goes_on c.args.fate) s.guest (ticks_in c.args.setting.now s.guest) (is_selected_in c.args.setting.now s.guest) s.time c.args.hart.0 s.started (base (goes_on c.args.fate) c.args.hart.0 s.schedule)
    c.begin_again.new.schedule c.begin_each.new.schedule c.begin_again.new.selected (record { leaves = base_of (goes_on c.args.fate) c.args.hart.0 (s.time + ticks_in c.args.setting.now s.guest c.args.hart.0) s.schedule c.begin_again.new.schedule c.begin_again.ensures.due; chooses = c.begin_again.ensures.selected }) c.requires.idle
    (subst (λ (harts : List ℕ). AreBegun (ticks_in c.args.setting.now s.guest) s.time harts c.begin_again.new.schedule c.begin_each.new.schedule) c.harts.ensures c.begin_each.ensures.begun)

pub returns-clause-selected : goal.returns-clause-selected
returns-clause-selected c =
    let s = c.args.self.now in
    all_chosen (goes_on c.args.fate) (ticks_in c.args.setting.now s.guest) (is_selected_in c.args.setting.now s.guest) s.time c.args.hart.0 s.started (base (goes_on c.args.fate) c.args.hart.0 s.schedule)
    c.begin_again.new.schedule c.begin_again.new.selected c.begin_each.new.selected (record { leaves = base_of (goes_on c.args.fate) c.args.hart.0 (s.time + ticks_in c.args.setting.now s.guest c.args.hart.0) s.schedule c.begin_again.new.schedule c.begin_again.ensures.due; chooses = c.begin_again.ensures.selected })
    (rw c.harts.ensures at c.begin_each.ensures.selected)

pub returns-clause-few : goal.returns-clause-few
returns-clause-few c =
    let s = c.args.self.now in
    let few : length c.begin_again.new.selected + many (base (goes_on c.args.fate) c.args.hart.0 s.schedule) ≤ many c.begin_again.new.schedule =
    again_few (goes_on c.args.fate) s.guest (ticks_in c.args.setting.now s.guest) (is_selected_in c.args.setting.now s.guest) s.time c.args.hart.0 s.started (base (goes_on c.args.fate) c.args.hart.0 s.schedule)
    c.begin_again.new.schedule c.begin_again.new.selected (record { leaves = base_of (goes_on c.args.fate) c.args.hart.0 (s.time + ticks_in c.args.setting.now s.guest c.args.hart.0) s.schedule c.begin_again.new.schedule c.begin_again.ensures.due; chooses = c.begin_again.ensures.selected }) c.requires.idle in
    let more = c.begin_each.ensures.few in
    omega arith
