use Rattle.std.proofs.Common.{◌+◌, ◌-◌, ◌∙◌, ap, arith, drop, length, take, ◌++◌, ◌≡◌, ℕ, List}
use Rattle.std.proofs.lemmas.List.{length-drop, take_all}
use Rattle.byte_write.specs.Numbers.{double}
use Rattle.byte_write.proofs.Appends.{replaced}
use Rattle.byte_write.proofs.file.with_section.Goals as goal

-- what follows the two numbers
behind : (file : List ℕ) (offset : ℕ) → take (length file - (offset + 32 + 8)) (drop (offset + 32 + 8) file) ≡ drop (offset + 40) file
behind file offset =
    let same : offset + 32 + 8 ≡ offset + 40 = omega arith in
    take_all (length file - (offset + 32 + 8)) (drop (offset + 32 + 8) file) (omega (arith, length-drop (offset + 32 + 8) file))
    ∙ ap (λ (n : ℕ). drop n file) same

pub returns : goal.returns
returns c =
    let file = c.args.file.now in
    let offset = c.args.offset in
    let out = c.push_doubles.new.out.items in
    replaced (take (offset + 24) file) (double (length file)) (double (length c.args.unit.now)) (drop (offset + 40) file) c.args.unit.now _ _ _ _
    c.in_ok-out.ensures.items c.in_ok-push_doubles.ensures (c.in_ok-extend_from_slice.ensures.items ∙ ap (λ (rest : List ℕ). out ++ rest) (behind file offset))
    c.in_ok-extend_from_slice-2.ensures.items
