-- What is noted of a hart tells its changes.
use Rattle.std.proofs.Common.{◌≡◌, ℕ, ◌+◌, ◌-◌, ◌≤◌, ◌<◌, ◌^◌, ◌==◌, Bool, true, false, if◌then◌else◌, List, [], ◌∷◌, refl, sym, ap, ◌∙◌, Option, Some, unwrap_or, arith}
use Rattle.hart_states.specs.declared.change.Activity.{Activity}
use Rattle.hart_states.specs.declared.change.Activity.TheVariants.{Running, Waiting, Sleeping, Ready, Gone}
use Rattle.hart_states.specs.declared.change.Change.{Change}
use Rattle.hart_states.specs.Changes.{InOrder, earliest, is_same, latest, ticks_in}
use Rattle.hart_states.proofs.Lives.{later_order, within}
use Rattle.hart_handovers.specs.Handovers.{way, way_from}
use Rattle.hart_turns.specs.declared.life.Life.{Life}
use Rattle.hart_turns.specs.declared.life.Ticks.{Ticks}
use Rattle.hart_turns.specs.Lives.{AreTicks, TellsOf, after, capped, settled, unmade, with_ticks}

capped_is : (n : ℕ) → n < 2 ^ 64 → capped n ≡ n
capped_is n fits = omega (arith, fits)

-- ---- ticks

-- by an activity, each grows or stays
record Grown (to : Activity) (d : ℕ) (t new : Ticks) : Type 0 where
  runs : new.runs ≡ t.runs + (if is_same Running to then d else 0)
  waits : new.waits ≡ t.waits + (if is_same Waiting to then d else 0)
  sleeps : new.sleeps ≡ t.sleeps + (if is_same Sleeping to then d else 0)
  ready : new.ready ≡ t.ready + (if is_same Ready to then d else 0)

record AreFew (d : ℕ) (t : Ticks) : Type 0 where
  runs : t.runs + d < 2 ^ 64
  waits : t.waits + d < 2 ^ 64
  sleeps : t.sleeps + d < 2 ^ 64
  ready : t.ready + d < 2 ^ 64

same : (n : ℕ) → n ≡ n + 0
same n = omega arith

grown : (to : Activity) (d : ℕ) (t : Ticks) → AreFew d t → Grown to d t (with_ticks to d t)
grown Running d t few = record { runs = capped_is (t.runs + d) few.runs; waits = same t.waits; sleeps = same t.sleeps; ready = same t.ready }
grown Waiting d t few = record { runs = same t.runs; waits = capped_is (t.waits + d) few.waits; sleeps = same t.sleeps; ready = same t.ready }
grown Sleeping d t few = record { runs = same t.runs; waits = same t.waits; sleeps = capped_is (t.sleeps + d) few.sleeps; ready = same t.ready }
grown Ready d t few = record { runs = same t.runs; waits = same t.waits; sleeps = same t.sleeps; ready = capped_is (t.ready + d) few.ready }
grown Gone d t few = record { runs = same t.runs; waits = same t.waits; sleeps = same t.sleeps; ready = same t.ready }

ticks_own : (a : Activity) (h now : ℕ) (c : Change) (past : List Change) → (h == c.hart.0) ≡ true → ticks_in a h now (c ∷ past) ≡ ticks_in a h c.moment past + (if is_same a c.to then now - c.moment else 0)
ticks_own a h now c past is = ap (λ (b : Bool). if b then ticks_in a h c.moment past + (if is_same a c.to then now - c.moment else 0) else ticks_in a h now past) is

ticks_other : (a : Activity) (h now : ℕ) (c : Change) (past : List Change) → (h == c.hart.0) ≡ false → ticks_in a h now (c ∷ past) ≡ ticks_in a h now past
ticks_other a h now c past is = ap (λ (b : Bool). if b then ticks_in a h c.moment past + (if is_same a c.to then now - c.moment else 0) else ticks_in a h now past) is

few_by : (n t m now : ℕ) → n ≡ t → t ≤ m → m ≤ now → now < 2 ^ 64 → n + (now - m) < 2 ^ 64
few_by n t m now is less later fits = omega (arith, is, less, later, fits)

module _ (h : ℕ) (c : Change) (past : List Change) (life : Life) (told : TellsOf h past life) where
  module _ (mine : (h == c.hart.0) ≡ true) (order : InOrder c.moment past) (moment_fits : c.moment < 2 ^ 64) where
    before : AreTicks h c.moment past (settled life.ticks life.last c.moment)
    before = told.ticks c.moment moment_fits order

    few : (now : ℕ) → c.moment ≤ now → now < 2 ^ 64 → AreFew (now - c.moment) (settled life.ticks life.last c.moment)
    few now later fits = record {
      runs = few_by _ (ticks_in Running h c.moment past) c.moment now before.runs (within Running h c.moment past order) later fits;
      waits = few_by _ (ticks_in Waiting h c.moment past) c.moment now before.waits (within Waiting h c.moment past order) later fits;
      sleeps = few_by _ (ticks_in Sleeping h c.moment past) c.moment now before.sleeps (within Sleeping h c.moment past order) later fits;
      ready = few_by _ (ticks_in Ready h c.moment past) c.moment now before.ready (within Ready h c.moment past order) later fits;
    }

    ticks_mine : (now : ℕ) → now < 2 ^ 64 → InOrder now (c ∷ past) → AreTicks h now (c ∷ past) (settled (after life c).ticks (after life c).last now)
    ticks_mine now fits new_order =
        let g = grown c.to (now - c.moment) (settled life.ticks life.last c.moment) (few now new_order.0 fits) in record {
          runs = g.runs ∙ ap (λ (n : ℕ). n + (if is_same Running c.to then now - c.moment else 0)) before.runs ∙ sym (ticks_own Running h now c past mine);
          waits = g.waits ∙ ap (λ (n : ℕ). n + (if is_same Waiting c.to then now - c.moment else 0)) before.waits ∙ sym (ticks_own Waiting h now c past mine);
          sleeps = g.sleeps ∙ ap (λ (n : ℕ). n + (if is_same Sleeping c.to then now - c.moment else 0)) before.sleeps ∙ sym (ticks_own Sleeping h now c past mine);
          ready = g.ready ∙ ap (λ (n : ℕ). n + (if is_same Ready c.to then now - c.moment else 0)) before.ready ∙ sym (ticks_own Ready h now c past mine);
        }

    pub tells_own : TellsOf h (c ∷ past) (after life c)
    tells_own = record {
      first = ap (λ (o : Option Change). Some (unwrap_or o c)) told.first ∙ sym (ap (λ (b : Bool). if b then Some (unwrap_or (earliest h past) c) else earliest h past) mine);
      last = sym (ap (λ (b : Bool). if b then Some c else latest h past) mine);
      way_is = λ moment.
          ap (way_from c.to (c.moment == moment)) (told.way_is c.moment)
          ∙ sym (ap (λ (b : Bool). if b then way_from c.to (c.moment == moment) (way h c.moment past) else way h moment past) mine);
      ticks = ticks_mine;
    }

  pub tells_other : (h == c.hart.0) ≡ false → TellsOf h (c ∷ past) life
  tells_other other = record {
    first = told.first ∙ sym (ap (λ (b : Bool). if b then Some (unwrap_or (earliest h past) c) else earliest h past) other);
    last = told.last ∙ sym (ap (λ (b : Bool). if b then Some c else latest h past) other);
    way_is = λ moment. told.way_is moment ∙ sym (ap (λ (b : Bool). if b then way_from c.to (c.moment == moment) (way h c.moment past) else way h moment past) other);
    ticks = λ now fits order.
        let t = told.ticks now fits (later_order c.moment now past order.0 order.1) in record {
          runs = t.runs ∙ sym (ticks_other Running h now c past other);
          waits = t.waits ∙ sym (ticks_other Waiting h now c past other);
          sleeps = t.sleeps ∙ sym (ticks_other Sleeping h now c past other);
          ready = t.ready ∙ sym (ticks_other Ready h now c past other);
        };
  }

pub tells_nothing : (h : ℕ) → TellsOf h [] unmade
tells_nothing h = record {
  first = refl;
  last = refl;
  way_is = λ moment. refl;
  ticks = λ now fits order. record { runs = refl; waits = refl; sleeps = refl; ready = refl };
}
