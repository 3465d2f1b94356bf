use Rattle.std.proofs.Common.{rules, ◌≤◌, ◌≡◌, ℕ, true, List, [], take, Option, IfSome, is_some, subst, ap, ◌∙◌, refl, arith}
use Rattle.coz_types.specs.Labels.{Text, path_of}
use Rattle.coz_files.specs.Held.{Held, file_at}
use Rattle.coz_files.specs.InMemory.{entries}
use Rattle.coz_files.specs.declared.memory_files.HeldFile.{HeldFile}
use Rattle.page_values.specs.Sources.{AreRight}
use Rattle.page_cli.proofs.Reading.{Reading, nothing_read, one_more_read, all_read}
use Rattle.page_cli.proofs.sources.sources_below.Goals as goal

pub loop-curve-init : goal.loop-curve-init
loop-curve-init g c =
    let known = g.F.Files.held c.args.files.now in
    let start = g.F.Files.faults c.args.files.now in
    let empty : [] ≡ c.new-sources.result.items = search rules in
    record {
      same = refl;
      later = omega arith;
      reading = subst (λ (files : List HeldFile). Reading known c.args.folder.now start start (entries files) (take 0 c.args.curves.now)) empty (nothing_read known c.args.folder.now start c.args.curves.now);
    }

pub loop-curve-preserved : goal.loop-curve-preserved
loop-curve-preserved g c =
    let so_far = c.loop-curve.invariant in
    let read = c.in_ok-read_source.ensures in
    let le = so_far.later in
    let more = read.later in
    let old = entries c.loop-curve.sources.items in
    let new = entries c.read_source.new.sources.items in
    let path = c.path_of-path.ensures ∙ ap path_of c.bytes.ensures in
    let step = λ (known : Option Held). IfSome known (λ h. (s : ℕ) → s ≤ g.F.Files.faults c.loop-curve.files → AreRight h c.args.folder.now s (g.F.Files.faults c.loop-curve.files) old → AreRight h c.args.folder.now s (g.F.Files.faults c.read_source.new.files) new) in
    record {
      same = read.same ∙ so_far.same;
      later = omega (arith, le, more);
      reading =
          one_more_read c.args.folder.now (g.F.Files.faults c.args.files.now) (g.F.Files.faults c.loop-curve.files) (g.F.Files.faults c.read_source.new.files) old new le (g.F.Files.held c.args.files.now) c.args.curves.now c.loop-curve.curve-index c.curve-item.result (search rules) (search rules)
          (subst (λ (p : Text). is_some (file_at new p) ≡ true) path read.there)
          read.kept
          (subst step so_far.same read.right)
          so_far.reading;
    }

pub returns-clause-read : goal.returns-clause-read
returns-clause-read g c =
    all_read (g.F.Files.held c.args.files.now) c.args.folder.now (g.F.Files.faults c.args.files.now) (g.F.Files.faults c.loop-curve.files) (entries c.loop-curve.sources.items) c.args.curves.now c.loop-curve.curve-index (search rules) c.loop-curve.invariant.reading
