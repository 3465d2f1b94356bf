use Rattle.std.proofs.Common.{◌++◌, ◌-◌, length, replicate, ap, ◌∙◌}
use Rattle.std.proofs.lemmas.List.{append_assoc}
use Rattle.image_write.proofs.push_filled_up.Goals as goal

pub returns : goal.returns
returns c =
    c.in_ok-push_zeros.ensures
    ∙ ap (λ xs. xs ++ replicate (c.args.room - length c.args.bytes.now) 0) c.in_ok-extend_from_slice.ensures.items
    ∙ append_assoc c.args.out.now.items c.args.bytes.now (replicate (c.args.room - length c.args.bytes.now) 0)
