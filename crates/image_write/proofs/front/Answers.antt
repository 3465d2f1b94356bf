use Rattle.std.proofs.Common.{sym, subst, length, ◌≤◌, ◌∙◌}
use Rattle.rv_asm.specs.Assembled.{view}
use Rattle.image_write.proofs.Fronts.{headers_short}
use Rattle.image_write.proofs.front.Goals as goal

pub push_filled_up-requires : goal.push_filled_up-requires
push_filled_up-requires c = subst (λ xs. length xs ≤ 4096) (sym (c.as_slice.ensures.value ∙ c.in_ok-headers.ensures)) (headers_short _ _ _ (view c.args.assembled.now))
