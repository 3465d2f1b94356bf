use Rattle.std.proofs.Common.{◌≡◌, ℕ, ◌≤◌, ◌∙◌, ap, sym, subst, All, eq-eqb}
use Rattle.std.proofs.lemmas.Bool.{eqb-true}
use Rattle.std.proofs.lemmas.Option.{get_or_from_slice_get}
use Rattle.path_chains.specs.declared.event.Event.{Event}
use Rattle.path_chains.specs.Path.{event_at, no_event, last_of, Sound}
use Rattle.path_chains.proofs.Heaviest.{none_heavier, numbers_below}
use Rattle.path_chains.proofs.checked.check.Goals as goal
use Rattle.path_chains.proofs.checked.check.Goals.{After-weight}

pub weight-requires : goal.weight-requires
weight-requires c = numbers_below c.args.events.now c.args.chain.now (c.is_chain.ensures.0 c.if-not-is_chain.false)

-- the last event's moment
last_due : (c : After-weight) → (event_at c.args.events.now (last_of c.args.events.now)).due ≡ c.in-Some.last.now.due
last_due c = ap (λ (e : Event). e.due) (get_or_from_slice_get c.args.events.now (last_of c.args.events.now) c.in-Some.last.now no_event (sym c.in-Some.ensures.value))

sound_when : (c : After-weight) → c.weight.result ≡ c.in-Some.last.now.due → Sound c.args.events.now c.args.chain.now
sound_when c same = record {
  chain = c.is_chain.ensures.0 c.if-not-is_chain.false;
  ends = c.ends.ensures.0 c.if-not-ends.false;
  timely = c.are_timely.ensures.0 c.if-not-are_timely.false;
  latest = subst (λ (last : ℕ). All (λ (e : Event). e.due ≤ last) c.args.events.now) (sym (last_due c)) (c.is_latest.ensures.0 c.if-not-is_latest.false);
  whole = sym c.weight.ensures ∙ same ∙ sym (last_due c);
}

pub returns-clause-exact : goal.returns-clause-exact
returns-clause-exact c = (
  λ yes. sound_when (goal.at.returns-clause-exact c).After-weight (eqb-true _ _ yes),
  λ sound. eq-eqb _ _ (c.weight.ensures ∙ sound.whole ∙ last_due (goal.at.returns-clause-exact c).After-weight),
)

pub returns-clause-heaviest : goal.returns-clause-heaviest
returns-clause-heaviest c = λ yes. none_heavier c.args.events.now c.args.chain.now (sound_when (goal.at.returns-clause-heaviest c).After-weight (eqb-true _ _ yes))
