-- A verdict of 0 or 1 prints the critical path of the shortened run.
use Rattle.std.proofs.Common.{◌≡◌, ℕ, ◌≤◌, List, [], length, Option, None, refl, sym, ap, subst, ◌∙◌, arith}
use Rattle.std.specs.Io.KnownBytes.{Appends}
use Rattle.coz_types.specs.Image.{ImageParts}
use Rattle.coz_types.specs.declared.image.Area.{Area}
use Rattle.coz_files.specs.Held.{Held}
use Rattle.dwarf_lines.specs.Registers.{Table}
use Rattle.line_index.specs.Lines.{Line}
use Rattle.line_index.specs.Listed.{lines_in, position_in}
use Rattle.machines.specs.Guest.{Experiment, IsLawful, enough}
use Rattle.machines.specs.Shortened.{shortened}
use Rattle.machines.specs.Records.{IsShortened, shortened_record}
use Rattle.machines.proofs.Ends.{record_is}
use Rattle.guest_calls.specs.Guest.{Guest, pc_of}
use Rattle.guest_calls.specs.Orderly.{IsOrderly}
use Rattle.path_chains.specs.declared.event.Event.{Event}
use Rattle.path_chains.specs.Path.{chain_of, weight, Sound}
use Rattle.path_chains.proofs.Chains.{sound_of}
use Rattle.path_chains.proofs.Heaviest.{none_heavier}
use Rattle.path_chains.specs.Segments.{segments_of, Tile}
use Rattle.path_chains.proofs.Tiling.{tiles}
use Rattle.path_texts.specs.PathText.{all_shares, events_on}
use Rattle.path_texts.proofs.PathShares.{weight_is}
use Rattle.path_texts.proofs.Sharing.{position_below, shares_are_all}
use Rattle.critical_path.specs.Events.{events_of}
use Rattle.critical_path.proofs.Recorded.{last_due, linked}
use Rattle.coz_words.specs.declared.request.Request.{Request}
use Rattle.run_inputs.specs.Experiment.{experiment_by_table}
use Rattle.coz_commands.specs.CriticalPath.{path_of_run, path_printed, plain_run}
use Rattle.coz_commands.specs.Verdict.{Verdict, path_verdict}
use Rattle.coz_cli.specs.Headline.{PrintsPath}
use Rattle.coz_cli.proofs.Comes.{OnTable, budget_is, bytes_come, law}

-- what is so of the events of a run with a budget of at most 4,000,000
record IsTraced (x : Experiment Guest) : Type 0 where
  shortened : IsShortened x (shortened_record x)
  sound : Sound (events_of x pc_of) (chain_of (events_of x pc_of))
  whole : weight (events_of x pc_of) (chain_of (events_of x pc_of)) ≡ (shortened_record x).time

time_is : (x : Experiment Guest) → (shortened_record x).time ≡ (shortened x (enough x)).time
unfolding shortened_record
time_is x = refl

traced_by : (x : Experiment Guest) → IsLawful x IsOrderly → 1 ≤ x.budget → x.budget ≤ 4000000 → IsTraced x
traced_by x law some few =
    let events : List Event = events_of x pc_of in
    let sound : Sound events (chain_of events) = sound_of events (linked x IsOrderly law pc_of some few) in
    record {
      shortened = record_is x IsOrderly law some;
      sound = sound;
      whole = sound.whole ∙ last_due x IsOrderly law pc_of some ∙ sym (time_is x);
    }

module _ (image : ImageParts) (table : Table) (input : List ℕ) (budget : ℕ) where
  abbrev plain : Experiment Guest
  plain = plain_run (experiment_by_table image table input) budget

  traced : 1 ≤ budget → budget ≤ 4000000 → IsTraced plain
  traced some few =
      let same = budget_is image table input None 0 budget [] in
      traced_by plain (law image table input None 0 budget [] (omega arith))
      (subst (λ (n : ℕ). 1 ≤ n) (sym same) some) (subst (λ (n : ℕ). n ≤ 4000000) (sym same) few)

abbrev path_table : ℕ → OnTable
path_table budget input image table =
    path_printed (plain image table input budget) (position_in table image.areas) (lines_in table image.areas)

printed_is : (x : Experiment Guest) (line_of : ℕ → Option ℕ) (lines : List Line) → (path_printed x line_of lines).text ≡ path_of_run (shortened_record x) (events_of x pc_of) (chain_of (events_of x pc_of)) line_of lines
unfolding path_printed
printed_is x line_of lines = refl

-- the segments and the shares of a path are those of its whole time
tiled_to : (events : List Event) (chain : List ℕ) (time : ℕ) → Sound events chain → weight events chain ≡ time → Tile 0 time (segments_of (events_on events chain))
tiled_to events chain time sound whole =
    subst (λ (to : ℕ). Tile 0 to (segments_of (events_on events chain))) (sym sound.whole ∙ whole) (tiles events chain sound)

shared_to : (table : Table) (areas : List Area) (events : List Event) (chain : List ℕ) (time : ℕ) → weight events chain ≡ time
    → all_shares (position_in table areas) (length (lines_in table areas)) (events_on events chain) ≡ time
shared_to table areas events chain time whole =
    shares_are_all (position_in table areas) (length (lines_in table areas)) (position_below table areas) (events_on events chain)
    ∙ sym (weight_is events chain) ∙ whole

pub path_prints : (held : Held) (asked : Request) (before now : Option (List ℕ)) → 1 ≤ asked.budget → asked.budget ≤ 4000000
    → (path_verdict asked held).status ≤ 1 → Appends before now (path_verdict asked held).text → PrintsPath held asked before now
path_prints held asked before now some few low gained =
    let comes = bytes_come held asked (path_table asked.budget) low in
    let on = comes.on in
    let x : Experiment Guest = plain on.image on.table on.input asked.budget in
    let events : List Event = events_of x pc_of in
    let is : IsTraced x = traced on.image on.table on.input asked.budget some few in
    let printed : (path_verdict asked held).text ≡ path_of_run (shortened_record x) events (chain_of events) (position_in on.table on.image.areas) (lines_in on.table on.image.areas) =
    ap (λ (w : Verdict). w.text) comes.is ∙ printed_is x (position_in on.table on.image.areas) (lines_in on.table on.image.areas)
    in
    record {
      image = on.image;
      table = on.table;
      experiment = x;
      run = shortened_record x;
      events = events;
      chain = chain_of events;
      is_plain = record {
        file = on.file;
        input = on.input;
        found = on.found;
        given = on.given;
        program = on.program;
        lines = on.lines;
        experiment = refl;
      };
      shortened = is.shortened;
      events_are = refl;
      sound = is.sound;
      whole = is.whole;
      heaviest = none_heavier events (chain_of events) is.sound;
      tiled = tiled_to events (chain_of events) (shortened_record x).time is.sound is.whole;
      shared = shared_to on.table on.image.areas events (chain_of events) (shortened_record x).time is.whole;
      printed = subst (λ (text : List ℕ). Appends before now text) printed gained;
    }
