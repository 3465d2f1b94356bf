use Rattle.std.proofs.Common.{rules, ◌++◌, [], ap}
use Rattle.std.specs.List.{flat_map}
use Rattle.coz_files.proofs.GatheredLemmas.{gathers_nothing, gathers_then}
use Rattle.profile_book.proofs.Gathering.{gathers_as}
use Rattle.path_texts.specs.PathText.{segment_line}
use Rattle.path_texts.specs.Segments.{closed}
use Rattle.path_texts.proofs.PathSegments.{begins, text_last, text_more}
use Rattle.path_texts.proofs.texts.put_segments.Goals as goal

pub loop-number-init : goal.loop-number-init
loop-number-init g c = record {
  done = [];
  gathers = gathers_nothing c.args.out.now c.args.to.now;
  is = ap (flat_map segment_line) (begins c.args.events.now c.args.chain.now c.in-Some.rest.now c.in-Some.first.now c.first_segment-segment.result (search rules) (search rules));
}

pub loop-number-preserved : goal.loop-number-preserved
loop-number-preserved g c =
    let known = c.loop-number.invariant in
    record {
      done = known.done ++ closed c.loop-number.segment c.event_of-event.result;
      gathers = gathers_then known.gathers c.pass.ensures.text;
      is =
          text_more c.args.events.now c.in-Some.rest.now c.loop-number.number-index c.loop-number.segment c.pass.new.segment c.event_of-event.result (search rules) (search rules) c.pass.ensures.segment known.done _ known.is;
    }

pub returns : goal.returns
returns g c =
    let known = c.loop-number.invariant in
    gathers_as (text_last c.args.events.now c.in-Some.rest.now c.loop-number.number-index c.loop-number.segment known.done _ (search rules) known.is) (gathers_then known.gathers c.put_segment.ensures)
