use Rattle.std.proofs.Common.{◌<◌, length, arith}
use Rattle.std.proofs.lemmas.List.Elements.{All-replicate}
use Rattle.coz_types.specs.declared.LineId.{LineId}
use Rattle.file_tests.proofs.progress_points_tests.check_most.Goals as goal

pub check_points-requires : goal.check_points-requires
check_points-requires g c = All-replicate (λ (line : LineId). line.0 < length c.args.index.now.lines) 64 (record { 0 = 0 }) (omega arith)

pub new-more-requires : goal.new-more-requires
new-more-requires g c = All-replicate (λ (line : LineId). line.0 < length c.args.index.now.lines) 65 (record { 0 = 0 }) (omega arith)
