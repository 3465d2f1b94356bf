use Rattle.std.proofs.Common.{◌≡◌, ℕ, List, length, sym, ap, subst, arith, rules, sum_by}
use Rattle.std.specs.Prelude.{IfOk}
use Rattle.line_index.specs.Index.{position_at}
use Rattle.path_chains.specs.declared.event.Event.{Event}
use Rattle.path_chains.specs.Path.{ticks}
use Rattle.path_texts.specs.PathText.{shares_of, slept_on, work_elsewhere}
use Rattle.path_texts.proofs.PathShares.{weight_is}
use Rattle.path_texts.proofs.shares.shares_of_chain.Goals as goal

pub shares_of_run-requires : goal.shares_of_run-requires
shares_of_run-requires c =
    let events : List Event = c.args.events.now in
    let chain : List ℕ = c.args.chain.now in
    let whole = ap (λ (es : List Event). sum_by ticks es) (c.requires.whole (search rules)) in
    omega (arith, c.requires.light, weight_is events chain, whole)

pub returns-then-chain-events-clause-lines : goal.returns-then-chain-events-clause-lines
returns-then-chain-events-clause-lines c = subst (λ (es : List Event). IfOk c.shares_of_run.result (λ shares. shares.lines ≡ shares_of (position_at c.args.index.now) (length c.args.index.now.lines) es)) (sym (c.requires.whole (search rules))) c.shares_of_run.ensures.lines

pub returns-then-chain-events-clause-none : goal.returns-then-chain-events-clause-none
returns-then-chain-events-clause-none c = subst (λ (es : List Event). IfOk c.shares_of_run.result (λ shares. shares.none ≡ work_elsewhere (position_at c.args.index.now) es)) (sym (c.requires.whole (search rules))) c.shares_of_run.ensures.none

pub returns-then-chain-events-clause-sleep : goal.returns-then-chain-events-clause-sleep
returns-then-chain-events-clause-sleep c = subst (λ (es : List Event). IfOk c.shares_of_run.result (λ shares. shares.sleep ≡ slept_on es)) (sym (c.requires.whole (search rules))) c.shares_of_run.ensures.sleep
