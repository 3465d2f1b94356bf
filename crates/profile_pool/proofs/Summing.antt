-- What is summed up is the summary of a record.
use Rattle.std.proofs.Common.{◌≡◌, ◌≤◌, ℕ, List, map, length, arith, subst, Result, Ok, Err, IfOk, Option, Some, None, option_map, sym, ap, ap₂, ◌∙◌}
use Rattle.std.specs.declared.alloc.AllocError.{AllocError}
use Rattle.std.proofs.lemmas.List.{length-map}
use Rattle.std.proofs.lemmas.Simd.{map-map}
use Rattle.coz_types.specs.declared.ending.Ending.{Ending}
use Rattle.coz_types.specs.declared.record.Digest.{Digest}
use Rattle.coz_types.specs.declared.record.Outcome.{Outcome}
use Rattle.coz_types.specs.declared.record.Summary.{Summary}
use Rattle.coz_types.specs.declared.record.Visit.{Visit}
use Rattle.machines.specs.Delayed.{Delayed}
use Rattle.machines.specs.Shortened.{NetVisit}
use Rattle.machines.specs.Records.{Record, net_visit}
use Rattle.sha2.specs.Sha256.{sha256}
use Rattle.timed_guest.specs.Guest.{Timed}
use Rattle.machines.specs.KeptVisits.{net_of}
use Rattle.virtual_run.specs.DelayedRun.{outcome_of}
use Rattle.machines.specs.KeptVisits.{visit_as}
use Rattle.run_summary.specs.Summaries.{kept}
use Rattle.profile_pool.specs.Summaries.{outcome_in, summary_of}

abbrev pub outcome_at : Delayed Timed → Ending → Outcome
outcome_at d ending = record { ending = ending; time = d.now; delay = d.delay; retired = d.retired; starts = d.starts }

-- the outcome of a state that has ended
pub outcome_is : (d : Delayed Timed) (ending : Ending) (o : Outcome) → Some o ≡ outcome_of d → d.ending ≡ Some ending → o ≡ outcome_at d ending
outcome_is d ending o came ended = cc

pub ending_is : (d : Delayed Timed) (o : Outcome) → Some o ≡ outcome_of d → d.ending ≡ Some o.ending
ending_is d o came = by d.ending came
  where
    by : (ending : Option Ending) → Some o ≡ option_map (λ (e : Ending). outcome_at d e) ending → ending ≡ Some o.ending
    by None never = cc
    by (Some e) so = let same : o ≡ outcome_at d e = cc in ap (λ (it : Outcome). Some it.ending) (sym same)

pub net_visits : (given : List Visit) (r : Record) → map visit_as given ≡ r.visits → map net_of given ≡ map net_visit r.visits
net_visits given r are = sym (map-map net_visit visit_as given) ∙ ap (map net_visit) are

-- what is kept of a run is the summary of its record
pub summed : (label : List ℕ) (speedup points : ℕ) (r : Record) (text : List ℕ) (o : Outcome) (size : ℕ) (digest : Digest) (count : ℕ) (nets : List NetVisit)
    → text ≡ label → o ≡ outcome_in r → size ≡ length r.output → digest.bytes ≡ sha256 r.output → count ≡ points → nets ≡ map net_visit r.visits
    → kept text speedup o size digest count nets ≡ summary_of label speedup points r
unfolding summary_of
summed label speedup points r text o size digest count nets named came long hashed many are =
    ap₂ (λ (t : List ℕ) (it : Outcome). kept t speedup it size digest count nets) named came
    ∙ ap₂ (λ (n : ℕ) (bytes : List ℕ). kept label speedup (outcome_in r) n (record { bytes = bytes }) count nets) long hashed
    ∙ ap₂ (kept label speedup (outcome_in r) (length r.output) (record { bytes = sha256 r.output })) many are

pub ok_as : (result : Result Summary AllocError) (made asked : Summary) → made ≡ asked → IfOk result (λ s. s ≡ made) → IfOk result (λ s. s ≡ asked)
ok_as result made asked same is = let P : Summary → Type 0 = λ it. IfOk result (λ s. s ≡ it) in subst P same is

pub ok_so : (result : Result Summary AllocError) (made : Summary) (P : Summary → Type 0) → IfOk result (λ s. s ≡ made) → P made → IfOk result P
ok_so (Ok s) made P is holds = subst P (sym is) holds
ok_so (Err e) made P is holds = is

-- the few visits of a record
pub few_visits : (given : List Visit) (r : Record) → map net_of given ≡ map net_visit r.visits → length given ≤ 1048576 → length r.visits ≤ 1048576
few_visits given r are few = let same = ap length are in omega (arith, length-map given net_of, length-map r.visits net_visit)

pub summary_at : (label text : List ℕ) (speedup points : ℕ) (made asked : Record) (result : Result Summary AllocError) → text ≡ label → made ≡ asked
    → IfOk result (λ s. s ≡ summary_of text speedup points made) → IfOk result (λ s. s ≡ summary_of label speedup points asked)
summary_at label text speedup points made asked result named same is =
    let P : List ℕ → Type 0 = λ it. IfOk result (λ s. s ≡ summary_of it speedup points asked) in
    let Q : Record → Type 0 = λ it. IfOk result (λ s. s ≡ summary_of text speedup points it) in
    subst P named (subst Q same is)
