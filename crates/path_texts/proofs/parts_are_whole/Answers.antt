use Rattle.std.proofs.Common.{◌∙◌, ℕ, sym, subst}
use Rattle.path_chains.specs.Segments.{segments_of, Tile}
use Rattle.path_chains.proofs.Tiling.{tiles}
use Rattle.path_texts.specs.PathText.{events_on}
use Rattle.path_texts.proofs.PathShares.{weight_is}
use Rattle.path_texts.proofs.Sharing.{shares_are_all}
use Rattle.path_texts.proofs.parts_are_whole.Goals as goal

pub returns-clause-segments : goal.returns-clause-segments
returns-clause-segments c = λ events chain sound. subst (λ (to : ℕ). Tile 0 to (segments_of (events_on events chain))) (sym sound.whole) (tiles events chain sound)

pub returns-clause-shares : goal.returns-clause-shares
returns-clause-shares c = λ events chain line_of lines among. shares_are_all line_of lines among (events_on events chain) ∙ sym (weight_is events chain)
