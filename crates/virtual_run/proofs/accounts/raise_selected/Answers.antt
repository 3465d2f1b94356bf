use Rattle.std.proofs.Common.{ℕ, List, ◌+◌, ◌*◌, ◌^◌, ◌≤◌, length, ap, sym, subst, ◌∙◌}
use Rattle.run_engine.specs.Engine.{most_ticks}
use Rattle.virtual_run.specs.Credited.{raise_ticks, with_raises, AllRun, AllMade}
use Rattle.virtual_run.proofs.accounts.raise_selected.Goals as goal

pub raise_harts-requires-clause-run : goal.raise_harts-requires-clause-run
raise_harts-requires-clause-run c = subst (λ (hs : List ℕ). AllRun c.args.credits.now hs) (sym c.harts-harts.ensures) c.requires.run

pub raise_harts-requires-clause-made : goal.raise_harts-requires-clause-made
raise_harts-requires-clause-made c = subst (λ (hs : List ℕ). AllMade c.args.engine.now.guest hs) (sym c.harts-harts.ensures) c.requires.made

pub raise_harts-requires-clause-few : goal.raise_harts-requires-clause-few
raise_harts-requires-clause-few c = subst (λ (hs : List ℕ). c.args.credits.now.raised + most_ticks c.args.engine.now.guest.beside.timing * length hs ≤ 10 ^ 17) (sym c.harts-harts.ensures) c.requires.few

pub returns : goal.returns
returns c = c.raise_harts.ensures ∙ ap (λ (hs : List ℕ). with_raises (raise_ticks c.args.engine.now.guest c.args.speedup) hs c.args.credits.now) c.harts-harts.ensures
