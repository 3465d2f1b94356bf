-- The record of a program's delayed run is within the ranges of a profile.
use Rattle.std.proofs.Common.{◌≡◌, ℕ, ◌+◌, ◌*◌, ◌^◌, ◌≤◌, Bool, true, false, not, ◌||◌, nat_le, List, [], ◌∷◌, map, length, Option, Some, None, IsSome, unwrap_or, refl, sym, ap, ◌∙◌, subst, arith}
use Rattle.std.proofs.lemmas.List.{length-map}
use Rattle.coz_types.specs.Image.{ImageParts}
use Rattle.coz_types.specs.Ranges.{is_ending}
use Rattle.coz_types.specs.declared.ending.Ending.{Ending}
use Rattle.coz_types.specs.declared.ending.Ending.TheVariants.{OutputFull, VisitsFull, Stalled, Spent}
use Rattle.cost_table.proofs.ByOpcode.{few_cycles}
use Rattle.machines.specs.declared.Fate.{Fate}
use Rattle.machines.specs.declared.Fate.TheVariants.{Goes, Waits, Leaves, Sleeps, Ends}
use Rattle.machines.specs.Guest.{Experiment, Retirement, IsLawful, enough, own_ending, ending_if, first_ending, ending_after, started_harts}
use Rattle.machines.specs.Delayed.{Delayed, is_any}
use Rattle.machines.specs.Shortened.{Shortened, Turn, has_due_any, retirement, leave, ending, begin, retire, wake, unbegun, shortened}
use Rattle.machines.specs.Agreement.{Agrees}
use Rattle.machines.specs.Records.{Record, net_visit}
use Rattle.machines.specs.Standing.{standing, delayed_record}
use Rattle.machines.proofs.Short.{turn_runs}
use Rattle.machines.proofs.Ends.{followed}
use Rattle.machines.proofs.Standing.{agrees, ended_within}
use Rattle.guest_calls.specs.Guest.{Guest}
use Rattle.guest_calls.specs.Orderly.{IsOrderly}
use Rattle.guest_calls.specs.Retire.{next_of}
use Rattle.guest_calls.proofs.Law.{running_low}
use Rattle.run_engine.specs.declared.choice.Choice.{Choice}
use Rattle.run_engine.specs.Run.{experiment, IsChoice}
use Rattle.virtual_run.proofs.CreditedBounds.{standing_bounded, cut_few}
use Rattle.profile_pool.specs.Summaries.{outcome_in}
use Rattle.profile_pool.proofs.Within.{IsWithin}
use Rattle.join_cli.proofs.Tables.{AreBytes}
use Rattle.join_cli.proofs.Words.{IsWord}
use Rattle.join_cli.proofs.Guests.{IsFit, IsFitFate, retire_fit, wake_fit, first_fit}
use Rattle.join_cli.proofs.Moves.{Comes, by_moves, retired_by, begun, law, InBounds, in_bounds}

-- ---- endings

limit_ending : (output_full visits_full idle spent : Bool) (e : Ending)
    → first_ending (ending_if output_full OutputFull ∷ ending_if visits_full VisitsFull ∷ ending_if idle Stalled ∷ ending_if spent Spent ∷ []) ≡ Some e → is_ending e ≡ true
limit_ending true v i s e is = let same : OutputFull ≡ e = cc in subst (λ a. is_ending a ≡ true) same refl
limit_ending false true i s e is = let same : VisitsFull ≡ e = cc in subst (λ a. is_ending a ≡ true) same refl
limit_ending false false true s e is = let same : Stalled ≡ e = cc in subst (λ a. is_ending a ≡ true) same refl
limit_ending false false false true e is = let same : Spent ≡ e = cc in subst (λ a. is_ending a ≡ true) same refl
limit_ending false false false false e is = absurd (let no : ◌≡◌ {A = Option Ending} None (Some e) = is in cc)

any_ending : (fate : Fate) (output_full visits_full idle spent : Bool) (e : Ending) → IsFitFate fate
    → first_ending (own_ending fate ∷ ending_if output_full OutputFull ∷ ending_if visits_full VisitsFull ∷ ending_if idle Stalled ∷ ending_if spent Spent ∷ []) ≡ Some e → is_ending e ≡ true
any_ending Goes o v i s e fit is = limit_ending o v i s e is
any_ending Waits o v i s e fit is = limit_ending o v i s e is
any_ending Leaves o v i s e fit is = limit_ending o v i s e is
any_ending (Sleeps moment) o v i s e fit is = limit_ending o v i s e is
any_ending (Ends own) o v i s e fit is = let same : own ≡ e = cc in subst (λ a. is_ending a ≡ true) same fit

module _ (image : ImageParts) (position point : ℕ → Option ℕ) (input : List ℕ) (choice : Choice) (valid : IsChoice choice) where
  abbrev run : Experiment Guest
  run = experiment image position point input choice

  rules : IsLawful run IsOrderly
  rules = law image position point input choice valid

  -- the guest is fit, and the ending, if there is one, is in its ranges
  record IsSound (s : Shortened Guest) : Type 0 where
    fit : IsFit choice.output_limit s.guest
    ends : (e : Ending) → s.ending ≡ Some e → is_ending e ≡ true

  never : (s : Shortened Guest) → s.ending ≡ None → (e : Ending) → s.ending ≡ Some e → is_ending e ≡ true
  never s none e is = absurd (let no : ◌≡◌ {A = Option Ending} None (Some e) = sym none ∙ is in cc)

  wake_frame : (s : Shortened Guest) (t : Turn) → ((wake run t s).guest ≡ run.guest.wake s.guest t.hart) × ((wake run t s).ending ≡ s.ending)
  unfolding wake begin
  wake_frame s t = (refl, refl)

  wake_sound : (s : Shortened Guest) (t : Turn) → Comes run IsOrderly rules s t → run.guest.is_sleeping s.guest t.hart ≡ true → IsSound s → IsSound (wake run t s)
  wake_sound s t comes asleep sound =
      let f = wake_frame s t in
      record {
        fit = subst (IsFit choice.output_limit) (sym f.0) (wake_fit choice.output_limit s.guest t.hart sound.fit);
        ends = never (wake run t s) (f.1 ∙ comes.goes);
      }

  leave_frame : (s : Shortened Guest) (t : Turn) → ((leave run t s).guest ≡ (run.guest.retire s.guest t.hart t.due).guest) × ((retirement run t s).fate ≡ (run.guest.retire s.guest t.hart t.due).fate)
  unfolding leave retirement
  leave_frame s t = (refl, refl)

  begun_frame : (hs : List ℕ) (s : Shortened Guest) (t : Turn) → ((begin run hs t.due (leave run t s)).guest ≡ (leave run t s).guest) × ((begin run hs t.due (leave run t s)).ending ≡ s.ending)
  unfolding begin leave
  begun_frame hs s t = (refl, refl)

  ending_low : (s : Shortened Guest) (t : Turn) (e : Ending) → IsFitFate (retirement run t s).fate → ending run t s ≡ Some e → is_ending e ≡ true
  unfolding ending ending_after
  ending_low s t e fit is =
      let r : Retirement Guest = retirement run t s in
      any_ending r.fate (nat_le choice.output_limit (length (run.guest.output r.guest))) (nat_le choice.visit_limit (length (leave run t s).visits))
      (not (is_any (started_harts t.hart r) || has_due_any (leave run t s).dues)) (nat_le choice.budget (leave run t s).retired) e fit is

  retire_sound : (s : Shortened Guest) (t : Turn) → Comes run IsOrderly rules s t → run.guest.is_sleeping s.guest t.hart ≡ false → IsSound s → IsSound (retire run t s)
  retire_sound s t comes awake sound =
      let low = running_low s.guest t.hart comes.lives.good (turn_runs run IsOrderly rules s t comes.lives comes.turn awake) in
      let has = retire_fit choice.output_limit s.guest t.hart t.due low.1 sound.fit in
      let f = leave_frame s t in
      let left : IsFit choice.output_limit (leave run t s).guest = subst (IsFit choice.output_limit) (sym f.0) has.0 in
      retired_by run IsOrderly rules IsSound s t
      (λ none is.
      let g = begun_frame (started_harts t.hart (retirement run t s)) s t in
      record { fit = subst (IsFit choice.output_limit) (sym g.0) left; ends = never (begun run IsOrderly rules t s) (g.1 ∙ comes.goes) })
      (λ e is. record { fit = left; ends = λ a same. ending_low s t a (subst IsFitFate (sym f.1) has.1) (is ∙ same) })

  first_frame : ((shortened run 0).guest ≡ run.first) × ((shortened run 0).ending ≡ None)
  unfolding shortened begin unbegun
  first_frame = (refl, refl)

  module _ (file : AreBytes image.file) (entry : IsWord image.entry) (bytes : AreBytes input) where
    first_sound : IsSound (shortened run 0)
    first_sound = record { fit = subst (IsFit choice.output_limit) (sym first_frame.0) (first_fit image input choice.output_limit choice.layout file entry bytes); ends = never (shortened run 0) first_frame.1 }

    sound_at : (n : ℕ) → IsSound (shortened run n)
    sound_at = by_moves run IsOrderly rules IsSound first_sound wake_sound retire_sound

    -- the record's numbers, and the lengths of its output and visits
    pub record IsInRanges (r : Record) : Type 0 where
      pub within : IsWithin (outcome_in r)
      pub output : length r.output ≤ 67108864
      pub visits : length r.visits ≤ 1048576

    pub in_ranges : IsInRanges (delayed_record run)
    unfolding delayed_record
    in_ranges =
        let n : ℕ = enough run in
        let d : Delayed Guest = standing run n in
        let s : Shortened Guest = shortened run n in
        let a : Agrees d s = agrees run IsOrderly rules n in
        let e = ended_within run IsOrderly rules valid.some_budget in
        let b : InBounds image position point input choice valid s = in_bounds image position point input choice valid n in
        let sound : IsSound s = sound_at n in
        let moment : d.now ≡ s.time + d.delay = a.time (subst IsSome (sym e.1) refl) in
        let delayed : d.delay ≤ 3800 * d.starts = standing_bounded run IsOrderly rules 3800 (λ m h. cut_few run 40 95 (λ g h. few_cycles (next_of g h)) valid.speedup (standing run m).guest h) n in
        let wakes : s.wakes + run.guest.sleepers s.guest ≤ s.retired = followed run IsOrderly rules n in
        let ending : unwrap_or d.ending Spent ≡ e.0 = ap (λ (o : Option Ending). unwrap_or o Spent) e.1 in
        let budget : choice.budget ≤ 10 ^ 12 = valid.few in
        let limit : choice.output_limit ≤ 67108864 = valid.output in
        let most : choice.visit_limit ≤ 1048576 = valid.visits in
        let visits : length (map net_visit d.visits) ≡ length s.visits = ap length a.visits in
        record {
          within = record {
            ending = subst (λ (x : Ending). is_ending x ≡ true) (sym ending) (sound.ends e.0 (sym a.ending ∙ e.1));
            time = omega (arith, moment, delayed, wakes, a.starts, budget, b.starts, b.few, b.time, b.retired);
            delay = omega (arith, moment);
            retired = omega (arith, a.retired, b.retired, budget);
            starts = omega (arith, a.starts, b.starts, b.few, wakes, b.retired, budget);
          };
          output = omega (arith, ap (λ (g : Guest). length g.output) a.guest, sound.fit.output, sound.fit.limit, limit);
          visits = omega (arith, length-map d.visits net_visit, visits, b.visits, most);
        }
