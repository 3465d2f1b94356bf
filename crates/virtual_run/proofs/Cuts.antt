-- What the instructions of a run on a machine are spared, and how late it comes.
use Rattle.std.proofs.Common.{◌≡◌, ℕ, ◌+◌, ◌*◌, ◌^◌, ◌≤◌, Bool, true, false, if◌then◌else◌, List, ap, subst, ◌∙◌, arith, mul-le-mul, mul_comm, ◌⊎◌, inl, inr}
use Rattle.coz_types.specs.Image.{ImageParts}
use Rattle.machines.specs.Guest.{cut}
use Rattle.machines.specs.Standing.{standing}
use Rattle.machines.proofs.Standing.{agrees}
use Rattle.progress_points.specs.Points.{point_of}
use Rattle.timing_model.specs.declared.timing.Timing.{Timing}
use Rattle.timing_model.specs.Timing.{IsUsual}
use Rattle.timed_guest.specs.Guest.{Timed}
use Rattle.timed_guest.specs.Orderly.{IsOrderly}
use Rattle.timed_guest.specs.Retire.{cycles_of_next}
use Rattle.run_engine.specs.declared.choice.Setting.{Setting}
use Rattle.run_engine.specs.Run.{IsSetting, IsMachine, is_selected_in, experiment_in}
use Rattle.run_engine.specs.Engine.{most_ticks}
use Rattle.run_engine.proofs.Ticks.{whole_few, machine_small, usual_small}
use Rattle.run_engine.proofs.Law.{lawful_in}
use Rattle.run_engine.proofs.Grown.{grown}
use Rattle.virtual_run.proofs.CreditedBounds.{standing_bounded}

times : (m most n : ℕ) → m ≤ most → m * n ≤ most * n
times m most n few = mul-le-mul few (let same : n ≤ n = omega arith in same)

-- twice as many instructions as the budget has, and one for each hart
pub ticks_within : (t : Timing) (budget n : ℕ) → IsMachine t budget → budget ≤ 10 ^ 12 → n ≤ 2 * budget + 257 → most_ticks t * n ≤ 41 * 10 ^ 15
ticks_within t budget n machine long few = go (machine_small t budget machine)
  where
    go : (most_ticks t ≤ 4000) ⊎ ((most_ticks t ≤ 2000000) × (budget ≤ 10 ^ 10)) → most_ticks t * n ≤ 41 * 10 ^ 15
    go (inl small) = let all : most_ticks t * n ≤ 4000 * n = times (most_ticks t) 4000 n small in let most : 4000 * n ≤ 41 * 10 ^ 15 = omega (arith, long, few) in omega (arith, all, most)
    go (inr is) = let all : most_ticks t * n ≤ 2000000 * n = times (most_ticks t) 2000000 n is.0 in let most : 2000000 * n ≤ 41 * 10 ^ 15 = omega (arith, is.1, few) in omega (arith, all, most)

pub usual_within : (t : Timing) (n : ℕ) → IsUsual t → n ≤ 2 * 10 ^ 12 + 257 → most_ticks t * n ≤ 10 ^ 16
usual_within t n usual few =
    let all : most_ticks t * n ≤ 4000 * n = times (most_ticks t) 4000 n (usual_small t usual) in
    let most : 4000 * n ≤ 10 ^ 16 = omega (arith, few) in
    omega (arith, all, most)

part_few : (b : Bool) (s c : ℕ) → s ≤ 100 → (if b then s * c else 0) ≤ 100 * c
part_few true s c small = mul-le-mul small (let same : c ≤ c = omega arith in same)
part_few false s c small = omega arith

pub raise_few : (c s : ℕ) → s ≤ 95 → c * s ≤ 100 * c
raise_few c s small =
    let part : s * c ≤ 100 * c = mul-le-mul (let less : s ≤ 100 = omega (arith, small) in less) (let same : c ≤ c = omega arith in same) in
    let turned : c * s ≡ s * c = mul_comm c s in
    omega (arith, part, turned)

module _ (image : ImageParts) (input : List ℕ) (setting : Setting) (valid : IsSetting setting) where
  cut_few : (t : Timed) (h : ℕ) → cut (experiment_in image input setting) t h ≤ most_ticks t.beside.timing
  unfolding cut
  cut_few t h =
      let small : setting.choice.speedup ≤ 100 = let few : setting.choice.speedup ≤ 95 = valid.choice.speedup in omega (arith, few) in
      let part = part_few (is_selected_in setting t h) setting.choice.speedup (cycles_of_next t h) small in
      let whole : 100 * cycles_of_next t h ≤ most_ticks t.beside.timing = whole_few t h in
      omega (arith, part, whole)

  pub standing_timing : (n : ℕ) → (standing (experiment_in image input setting) n).guest.beside.timing ≡ setting.timing
  standing_timing n =
      let x = experiment_in image input setting in
      ap (λ (t : Timed). t.beside.timing) (agrees x IsOrderly (lawful_in image input setting valid.choice.speedup) n).guest
      ∙ (grown setting.timing image setting.index.now (point_of setting.points.now) input setting.choice valid.machine.timing.few_cores n).timing

  cuts_few : (n h : ℕ) → cut (experiment_in image input setting) (standing (experiment_in image input setting) n).guest h ≤ most_ticks setting.timing
  cuts_few n h = subst (λ (t : Timing). cut (experiment_in image input setting) (standing (experiment_in image input setting) n).guest h ≤ most_ticks t) (standing_timing n) (cut_few (standing (experiment_in image input setting) n).guest h)

  -- each selected start raises the delay by no more than the dearest instruction takes
  pub delay_within : (n : ℕ) → (standing (experiment_in image input setting) n).delay ≤ most_ticks setting.timing * (standing (experiment_in image input setting) n).starts
  delay_within n = standing_bounded (experiment_in image input setting) IsOrderly (lawful_in image input setting valid.choice.speedup) (most_ticks setting.timing) cuts_few n
