use Rattle.std.proofs.Common.{◌∙◌, ℕ, List, length, ap, ap₂, subst}
use Rattle.std.specs.List.{flat_map}
use Rattle.coz_files.specs.Gathered.{Gathers, Rest}
use Rattle.coz_files.proofs.GatheredLemmas.{gathers_then, puts_whole}
use Rattle.profile_book.proofs.Gathering.{gathers_as}
use Rattle.path_chains.specs.declared.event.Event.{Event}
use Rattle.path_chains.specs.Segments.{segments_of}
use Rattle.path_texts.specs.PathText.{events_on, head_lines, segment_line}
use Rattle.path_texts.proofs.texts.write_path.Goals as goal

pub returns : goal.returns
returns g c =
    let path = c.args.path.now in
    let same = c.as_slice-events.ensures in
    let count = c.count_segments-segments.ensures ∙ ap₂ (λ (es : List Event) (is : List ℕ). length (segments_of (events_on es is))) same c.deref.ensures.value in
    let head = subst (λ (r : Rest). Gathers g.O.Sink.holds g.O.Sink.faults c.args.out.now c.put_head.new.out r c.put_head.new.to (head_lines path.trace.ending path.net (length path.trace.events) c.count_segments-segments.result)) c.new-buffer.ensures c.put_head.ensures in
    let counted = gathers_as (ap (head_lines path.trace.ending path.net (length path.trace.events)) count) head in
    let segments = gathers_as (ap₂ (λ (es : List Event) (is : List ℕ). flat_map segment_line (segments_of (events_on es is))) same c.deref-2.ensures.value) c.put_each.ensures in
    puts_whole (gathers_then (gathers_then counted segments) c.put_parts.ensures) c.finish.ensures
