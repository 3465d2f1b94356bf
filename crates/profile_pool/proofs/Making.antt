-- What leads and machines are made with, taken up and forked.
use Rattle.std.proofs.Common.{◌≡◌, ◌<◌, ◌≤◌, ◌^◌, ℕ, [], ◌∷◌, length, All, Option, Some, None, IfSome, refl, sym, ap, ◌∙◌, subst}
use Rattle.coz_types.specs.declared.LineId.{LineId}
use Rattle.machines.specs.Delayed.{unbegun}
use Rattle.machines.specs.Lead.{Before}
use Rattle.timed_guest.specs.Guest.{Timed}
use Rattle.progress_points.specs.Points.{point_of}
use Rattle.run_engine.specs.declared.choice.Choice.{Choice}
use Rattle.run_engine.specs.Run.{timed_experiment, IsMachine}
use Rattle.run_engine.specs.Seen.{Seen, experiment_of}
use Rattle.virtual_run.specs.Lead.{arguments}
use Rattle.experiment_plan.specs.declared.experiment.Experiment.{Experiment}
use Rattle.profile_pool.specs.declared.work.Work.{Work}
use Rattle.run_engine.specs.Choices.{choice_of}
use Rattle.profile_pool.specs.Made.{parts_made, made_for, IsFor}
use Rattle.profile_pool.specs.Plain.{IsPlain}
use Rattle.profile_pool.specs.Work.{IsWork}

-- what is made for some line is made for any
pub for_any : {S : Type 0} (work : Work) (line : Option ℕ) (speedup : ℕ) (seen : Seen S) → parts_made seen ≡ made_for work line speedup → IsFor work seen
for_any work line speedup seen is = ap arguments is

abbrev with_line : LineId → Seen (Unit {0}) → Seen (Unit {0})
with_line line seen = record seen { choice = record seen.choice { selected = Some line } }

abbrev with_choice : Choice → Seen (Unit {0}) → Seen (Unit {0})
with_choice choice seen = record seen { choice = choice }

-- a line that is taken up
pub taken : {S : Type 0} (work : Work) (line : LineId) (first new : Seen S) → parts_made first ≡ made_for work (Some 0) 0
    → new ≡ record first { choice = record first.choice { selected = Some line } } → parts_made new ≡ made_for work (Some line.0) 0
taken work line first new are is = ap parts_made is ∙ ap (with_line line) are

-- a run that is forked
pub forked : {S T : Type 0} (work : Work) (line speedup : ℕ) (lead : Seen S) (machine new : Seen T) (state : T) → IsFor work machine
    → parts_made lead ≡ made_for work (Some line) 0 → new ≡ record machine { choice = record lead.choice { speedup = speedup }; state = state }
    → parts_made new ≡ made_for work (Some line) speedup
forked work line speedup lead machine new state are led is =
    ap parts_made is
    ∙ ap (with_choice (record lead.choice { speedup = speedup })) are
    ∙ ap (λ (seen : Seen (Unit {0})). with_choice (record seen.choice { speedup = speedup }) (made_for work None 0)) led

-- a lead that stands where it was made
abbrev pub made_lead : Work → Choice → Seen (Before Timed)
made_lead work choice = record {
  image = work.subject.image.now;
  index = work.subject.index.now;
  points = work.subject.points.now;
  timing = work.subject.timing;
  input = work.subject.input.now;
  choice = choice;
  state = record {
    state = unbegun (timed_experiment work.subject.timing work.subject.image.now work.subject.index.now (point_of work.subject.points.now) work.subject.input.now choice);
    harts = 0 ∷ [];
  };
}

pub work_of : (work : Work) (choice : Choice) → All (λ (pair : Experiment). pair.line.0 < length work.subject.index.now.lines) work.plan.now
    → 1 ≤ work.budget → work.budget ≤ 10 ^ 12 → IsMachine work.subject.timing work.budget → work.first.now ≡ made_lead work choice → choice ≡ choice_of (Some 0) 0 work.budget
    → IfSome work.plain.now (IsPlain work.subject work.budget) → IsWork work
work_of work choice lines some few machine led chosen plain =
    let P : Seen (Before Timed) → Type 0 = λ lead. lead.state ≡ record { state = unbegun (experiment_of lead); harts = 0 ∷ [] } in
    record {
      lines = lines;
      some_budget = some;
      few = few;
      machine = machine;
      first = ap parts_made led ∙ ap (λ (c : Choice). parts_made (made_lead work c)) chosen;
      unbegun = subst P (sym led) refl;
      plain = plain;
    }
