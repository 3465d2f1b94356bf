use Rattle.std.proofs.Common.{◌≡◌, ◌∙◌, ℕ, List, length, ap, ap₂, subst, sym, arith}
use Rattle.line_index.specs.Index.{position_at}
use Rattle.path_chains.specs.declared.event.Event.{Event}
use Rattle.path_chains.specs.Path.{chain_of, event_at, last_of, weight, Linked}
use Rattle.path_texts.specs.PathText.{events_on, shares_of, slept_on, work_elsewhere}
use Rattle.path_texts.proofs.PathShares.{text_is}
use Rattle.path_texts.proofs.WholeRuns.{all_events}
use Rattle.path_texts.proofs.texts.path_of.Goals as goal

pub net_of-net-requires : goal.net_of-net-requires
net_of-net-requires c = (subst Linked (sym c.as_slice-events.ensures) c.requires).some

pub shares_of_chain-requires-clause-light : goal.shares_of_chain-requires-clause-light
shares_of_chain-requires-clause-light c =
    let same = c.as_slice-events.ensures in
    let chain : List ℕ = c.in_ok-chain.chain.items in
    let heavy = ap (λ (es : List Event). weight es c.deref.result.now) same ∙ ap (weight c.args.trace.events) c.deref.ensures.value in
    let late = ap (λ (es : List Event). (event_at es (last_of es)).due) same in
    let whole = c.in_ok-chain.ensures.sound.whole in
    omega (arith, heavy, late, whole, c.net_of-net.ensures)

pub shares_of_chain-requires-clause-whole : goal.shares_of_chain-requires-clause-whole
shares_of_chain-requires-clause-whole c = λ many.
    let events : List Event = c.as_slice-events.result.now in
    let same = c.as_slice-events.ensures in
    let linked : Linked events = subst Linked (sym same) c.requires in
    let chain_is : c.deref.result.now ≡ chain_of events = c.deref.ensures.value ∙ c.in_ok-chain.ensures.chain ∙ ap chain_of (sym same) in
    ap (events_on events) chain_is ∙ all_events events linked (ap length (sym chain_is) ∙ many)

pub returns-clause-text : goal.returns-clause-text
returns-clause-text c =
    let same = c.as_slice-events.ensures in
    let index = c.args.index.now in
    let events : List Event = c.args.trace.events in
    let chain : List ℕ = c.in_ok-chain.chain.items in
    let shares = c.in_ok-shares.ensures in
    text_is c.args.trace.ending c.net_of-net.result _ (length events) events chain (position_at index) index.lines c.in_ok-shares.shares.lines c.in_ok-shares.shares.none c.in_ok-shares.shares.sleep
    (c.net_of-net.ensures ∙ ap (λ (es : List Event). (event_at es (last_of es)).due) same)
    c.in_ok-chain.ensures.chain
    (shares.lines ∙ ap₂ (λ (es : List Event) (is : List ℕ). shares_of (position_at index) (length index.lines) (events_on es is)) same c.deref.ensures.value)
    (shares.none ∙ ap₂ (λ (es : List Event) (is : List ℕ). work_elsewhere (position_at index) (events_on es is)) same c.deref.ensures.value)
    (shares.sleep ∙ ap₂ (λ (es : List Event) (is : List ℕ). slept_on (events_on es is)) same c.deref.ensures.value)
