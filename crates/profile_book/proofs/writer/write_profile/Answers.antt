use Rattle.std.proofs.Common.{ap, subst}
use Rattle.std.specs.List.{flat_map, enumerate_from}
use Rattle.coz_files.specs.Gathered.{Gathers, Rest}
use Rattle.coz_files.proofs.GatheredLemmas.{gathers_then, puts_whole}
use Rattle.profile_book.specs.Profile.{profile_text, head_line, point_line, block}
use Rattle.profile_book.proofs.Gathering.{gathers_as}
use Rattle.profile_book.proofs.writer.write_profile.Goals as goal

pub returns : goal.returns
unfolding profile_text
returns g c =
    let points = gathers_as (ap (λ xs. flat_map point_line (enumerate_from 0 xs)) c.as_slice.ensures) c.put_points.ensures in
    let blocks = gathers_as (ap (flat_map block) c.as_slice-2.ensures) c.put_blocks.ensures in
    let head = subst (λ (r : Rest). Gathers g.O.Sink.holds g.O.Sink.faults c.args.out.now c.put_head.new.out r c.put_head.new.to (head_line c.args.profile.now)) c.new-buffer.ensures c.put_head.ensures in
    puts_whole (gathers_then (gathers_then head points) blocks) c.finish.ensures
