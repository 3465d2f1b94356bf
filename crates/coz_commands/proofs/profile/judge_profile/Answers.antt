use Rattle.std.proofs.Common.{◌∙◌, ℕ, List, ap, subst, IfSome}
use Rattle.coz_files.specs.Held.{Held}
use Rattle.timing_model.specs.declared.timing.Timing.{Timing}
use Rattle.coz_commands.specs.Answer.{IsMemory, Settles}
use Rattle.coz_commands.specs.Verdict.{Verdict, bytes_verdict, machine_verdict}
use Rattle.coz_commands.proofs.Budgets.{few_budget}
use Rattle.coz_commands.proofs.Profiling.{usual_machine}
use Rattle.coz_commands.proofs.profile.judge_profile.Goals as goal

pub returns-clause-verdict : goal.returns-clause-verdict
returns-clause-verdict g c =
    let asked = c.args.request.now in
    subst (λ (of_file : List ℕ → List ℕ → Verdict). IfSome (g.F.Files.held c.args.files.now) (λ (held : Held). (IsMemory c.judge_profile_on.result → ⊥) → Settles (bytes_verdict asked held of_file) (g.F.Files.faults c.args.files.now) (g.F.Files.faults c.judge_profile_on.new.files) c.judge_profile_on.result))
    (ap (λ (t : Timing). machine_verdict t asked) c.usual.ensures.machine ∙ usual_machine asked c.requires.some_budget (few_budget asked c.requires.fit) c.requires.fit.speedups)
    c.judge_profile_on.ensures.verdict
