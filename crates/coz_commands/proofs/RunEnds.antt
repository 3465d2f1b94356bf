-- What a machine says of a run that has ended, as the latency of its net record; and the run of a lead's line.
use Rattle.std.proofs.Common.{◌≡◌, ℕ, ◌-◌, List, [], ◌∷◌, map, refl, sym, ap, ap₂, ◌∙◌, Option, Some, None, option_map}
use Rattle.coz_types.specs.declared.ending.Ending.{Ending}
use Rattle.coz_types.specs.declared.record.Outcome.{Outcome}
use Rattle.coz_types.specs.declared.record.Visit.{Visit}
use Rattle.coz_types.specs.declared.PointId.{PointId}
use Rattle.machines.specs.Delayed.{Delayed}
use Rattle.machines.specs.Shortened.{NetVisit}
use Rattle.machines.specs.KeptVisits.{net_of, visit_as}
use Rattle.machines.specs.Records.{net, net_visit, record_of}
use Rattle.timed_guest.specs.Guest.{Timed}
use Rattle.virtual_run.specs.DelayedRun.{outcome_of}
use Rattle.run_engine.specs.Seen.{Seen, experiment_of}
use Rattle.latency_points.specs.declared.latency.Latency.{Latency}
use Rattle.latency_points.specs.Latency.{latency_of}
use Rattle.latency_points.specs.Moments.{numbers_of, moments_of}
use Rattle.coz_commands.specs.declared.measuring.RunLatency.{RunLatency}
use Rattle.coz_commands.specs.Measured.{measured_in}

-- the numbers of an outcome are those of the state
pub record IsOf (o : Outcome) (d : Delayed Timed) : Type 0 where
  pub ending : d.ending ≡ Some o.ending
  pub time : o.time ≡ d.now
  pub delay : o.delay ≡ d.delay

pub outcome_is : (o : Outcome) (d : Delayed Timed) → Some o ≡ outcome_of d → IsOf o d
outcome_is o d e = go d.ending e refl
  where
    go : (ending : Option Ending) → Some o ≡ option_map (λ a. record { ending = a; time = d.now; delay = d.delay; retired = d.retired; starts = d.starts }) ending → d.ending ≡ ending → IsOf o d
    go None e at = let no : Some o ≡ None = e in absurd cc
    go (Some a) e at =
        let same : o ≡ record { ending = a; time = d.now; delay = d.delay; retired = d.retired; starts = d.starts } = cc in
        record {
          ending = at ∙ ap (λ (p : Outcome). Some p.ending) (sym same);
          time = ap (λ (p : Outcome). p.time) same;
          delay = ap (λ (p : Outcome). p.delay) same;
        }

nets : (visits : List Visit) → map net_of visits ≡ map net_visit (map visit_as visits)
nets [] = refl
nets (v ∷ vs) = ap (λ (ns : List NetVisit). net_of v ∷ ns) (nets vs)

some_same : (a b : Ending) → Some a ≡ Some b → a ≡ b
some_same a b e = cc

pub measured_is : (machine : Seen (Delayed Timed)) (visits : List Visit) (arrive depart : List PointId) (o : Outcome) (end : ℕ) (l : Latency) (ending : Ending) → IsOf o machine.state → machine.state.ending ≡ Some ending
    → map visit_as visits ≡ machine.state.visits → end ≡ o.time - o.delay
    → l ≡ latency_of (moments_of (numbers_of arrive) (numbers_of depart) (map net_of visits)) end
    → ◌≡◌ {A = RunLatency} (record { ending = o.ending; net = end; latency = l }) (measured_in arrive depart (net (record_of (experiment_of machine) machine.state ending)))
measured_is machine visits arrive depart o end l ending is over kept ends told =
    let d : Delayed Timed = machine.state in
    let when : end ≡ d.now - d.delay = ends ∙ ap₂ (λ (t u : ℕ). t - u) is.time is.delay in
    let same : o.ending ≡ ending = some_same o.ending ending (sym is.ending ∙ over) in
    let all : map net_of visits ≡ map net_visit d.visits = nets visits ∙ ap (map net_visit) kept in
    let latency : l ≡ latency_of (moments_of (numbers_of arrive) (numbers_of depart) (map net_visit d.visits)) (d.now - d.delay) =
    told ∙ ap₂ (λ (ns : List NetVisit) (t : ℕ). latency_of (moments_of (numbers_of arrive) (numbers_of depart) ns) t) all when in
    ap (λ (a : Ending). record { ending = a; net = end; latency = l }) same
    ∙ ap₂ (λ (t : ℕ) (m : Latency). record { ending = ending; net = t; latency = m }) when latency
