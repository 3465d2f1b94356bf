use Rattle.std.proofs.Common.{List, IfOk, IfSome, Ok, Err, Result, subst, sym, ap, ◌∙◌}
use Rattle.coz_files.specs.Held.{Held}
use Rattle.coz_files.specs.InMemory.{entries}
use Rattle.coz_files.specs.Puts.{Puts}
use Rattle.coz_files.specs.declared.memory_files.HeldFile.{HeldFile}
use Rattle.causal_curves.specs.declared.curve.Curve.{Curve}
use Rattle.page_words.specs.Words.{asked_of}
use Rattle.page_values.specs.Sources.{Answers, look_up}
use Rattle.page_cli.specs.Answer.{page_with}
use Rattle.page_cli.specs.Verdict.{AreNamed}
use Rattle.page_cli.proofs.top.show.Goals as goal

-- what holds of a result that a value has
ok_as : {A E : Type 0} {P Q : A → Type 0} (r : Result A E) → ((a : A) → P a → Q a) → IfOk r P → IfOk r Q
ok_as (Ok a) so p = so a p
ok_as (Err e) so p = tt

pub returns-clause-shown : goal.returns-clause-shown
returns-clause-shown g c =
    let r = c.args.ranked.now in
    let asked = asked_of r.asked in
    let answers = look_up (entries c.in_ok-sources.sources.items) in
    let now = g.F.Files.faults c.read_sources.new.files in
    let seen = ap (λ (files : List HeldFile). look_up (entries files)) c.as_slice.ensures.value ∙ sym c.in_ok-sources.ensures.used in
    ok_as c.put_with_sources.result
    (λ answer puts. record {
      answers = answers;
      read = subst (λ (cs : List Curve). IfSome (g.F.Files.held c.args.files.now) (λ (h : Held). AreNamed asked.source h (g.F.Files.faults c.args.files.now) now cs answers)) c.as_slice-curves.ensures c.in_ok-sources.ensures.read;
      puts = subst (λ (a : Answers). Puts g.O.Sink.holds g.O.Sink.faults c.args.out.now c.put_with_sources.new.out answer (page_with a r)) seen puts;
    })
    c.put_with_sources.ensures.puts
