use Rattle.std.proofs.Common.{◌∙◌, ◌++◌, [], ◌∷◌, ℕ, List, sym, ap, if◌then◌else◌, arith}
use Rattle.std.proofs.lemmas.List.FromFn.{filter_of_map_range_with_len_more}
use Rattle.path_chains.specs.declared.share.Share.{Share}
use Rattle.path_texts.specs.PathText.{has_some}
use Rattle.path_texts.specs.Shares.{share_in}
use Rattle.path_texts.proofs.shares.shares_in.Goals as goal

pub loop-line-preserved : goal.loop-line-preserved
loop-line-preserved c =
    let lines : List ℕ = c.args.lines.now in
    let i : ℕ = c.loop-line.line in
    let s : Share = share_in lines i in
    c.in_ok-push_share.ensures
    ∙ ap (λ (shares : List Share). shares ++ (if has_some s then s ∷ [] else [])) c.loop-line.invariant
    ∙ sym (filter_of_map_range_with_len_more has_some (share_in lines) 0 i i (omega arith))
