use Rattle.std.proofs.Common.{List, [], ◌∷◌, ◌++◌, ℕ, refl, sym, ap, ◌∙◌, subst}
use Rattle.std.specs.Global.{Vec}
use Rattle.coz_types.specs.Labels.{written, is_written}
use Rattle.line_index.proofs.WrittenFiles.{IsWhole, directory_whole, name_behind}
use Rattle.line_index.proofs.paths.written_path.Goals as goal
use Rattle.line_index.proofs.paths.written_path.Goals.{then-not-is_empty+then-not-is_rooted+in_ok-write_escaped+in_ok-push, else-not-is_empty}

pub returns-clause-right : goal.returns-clause-right
returns-clause-right c =
    let whole : IsWhole c.if-not-is_empty.text.items = elim c.if-not-is_empty.branch [
      | then-not-is_empty+then-not-is_rooted+in_ok-write_escaped+in_ok-push w ↦
          subst IsWhole (sym (ap (λ (text : Vec ℕ). text.items) w.text-is ∙ w.in_ok-push.ensures.items ∙ ap (λ (front : List ℕ). front ++ 47 ∷ []) (w.in_ok-write_escaped.ensures.text ∙ ap (λ (front : List ℕ). front ++ written c.args.entry.now.directory.now) c.new-text.ensures.items))) (directory_whole c.args.entry.now.directory.now w.write_escaped.ensures.bytes)
      | else-not-is_empty w ↦ subst IsWhole (sym (ap (λ (text : Vec ℕ). text.items) w.text-is ∙ c.new-text.ensures.items)) (λ rest. refl)
    ] in
    ap is_written c.in_ok-write_escaped-2.ensures.text ∙ name_behind c.if-not-is_empty.text.items c.args.entry.now.name.now whole c.write_escaped-2.ensures.bytes
