use Rattle.std.proofs.Common.{◌≡◌, ℕ, ◌≤◌, List, [], ◌∷◌, ◌++◌, length, ap, ap₂, sym, ◌∙◌, subst, arith, append_assoc, length-append}
use Rattle.std.specs.Prelude.{codes}
use Rattle.std.proofs.lemmas.List.Concat.{flat_map-append}
use Rattle.work_gen.specs.Text.{Line, Source, text_of_lines, statements, opening, blocks, ending, generated}
use Rattle.work_gen.specs.Accepted.{IsAccepted}
use Rattle.work_gen.proofs.Accepted.{accepted}
use Rattle.work_gen.proofs.Short.{generated_short}
use Rattle.work_gen.proofs.source.Goals as goal

abbrev middle : List Line
middle = statements ("la a0, ended" ∷ "li a1, 1" ∷ [])

-- lines after lines
more_lines : {a b : List ℕ} (ls ms : List Line) → a ≡ text_of_lines ls → b ≡ a ++ text_of_lines ms → b ≡ text_of_lines (ls ++ ms)
more_lines ls ms first more = more ∙ ap (λ t. t ++ text_of_lines ms) first ∙ sym (flat_map-append (λ line. line ++ codes "\n") ls ms)

pub returns-clause-text : goal.returns-clause-text
unfolding generated
returns-clause-text c =
    let some = blocks 0 c.args.size c.args.seed in
    let before = opening ++ some in
    let text = more_lines before (middle ++ ending) (more_lines opening some c.in_ok-text.ensures.items c.in_ok-lines.ensures.text) c.in_ok-extend_from_slice.ensures.items in
    ap₂ (λ text point. let made : Source = record { text = text; point = point } in made)
    (c.new.ensures ∙ text ∙ ap text_of_lines (sym (append_assoc before middle ending)))
    (omega (arith, c.in_ok-lines.ensures.lines, length-append before middle, length-append opening some))

pub returns-clause-accepted : goal.returns-clause-accepted
returns-clause-accepted c = subst IsAccepted (sym (returns-clause-text c)) (accepted c.args.seed c.args.size c.requires.most)

pub returns-clause-short : goal.returns-clause-short
returns-clause-short c = subst (λ (s : Source). length s.text ≤ 2097152) (sym (returns-clause-text c)) (generated_short c.args.seed c.args.size c.requires.most)
