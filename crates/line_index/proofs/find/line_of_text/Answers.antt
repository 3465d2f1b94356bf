use Rattle.std.proofs.Common.{rules, ℕ, ◌<◌, sym, ◌∙◌, subst}
use Rattle.std.specs.Global.{Vec}
use Rattle.std.specs.Ordering.{nat_cmp}
use Rattle.std.specs.Cmp.Lexicographic.{slice_cmp}
use Rattle.std.proofs.lemmas.Fn.{always_returns_same}
use Rattle.std.proofs.lemmas.List.{length-map}
use Rattle.line_index.specs.Keys.{texts}
use Rattle.line_index.proofs.Order.{sorted_map}
use Rattle.line_index.proofs.Names.{text_line, no_text_line, path_at, text_not_missed}
use Rattle.line_index.proofs.find.line_of_text.Goals as goal

pub returns-in-Ok : goal.returns-in-Ok
returns-in-Ok c =
    let equal = c.in-Ok.ensures.position (λ (other : Vec ℕ). slice_cmp nat_cmp other.items c.args.path.now) (always_returns_same _ _ _ (λ a r q k. search rules)) in
    c.line_of_path.ensures
    ∙ text_line (texts c.args.paths.now) c.args.keys.now c.args.path.now c.in-Ok.at c.args.number (sorted_map (λ (path : Vec ℕ). path.items) (slice_cmp nat_cmp) c.args.paths.now c.requires.paths_in_order) c.requires.have_paths
    (subst (λ n. c.in-Ok.at < n) (sym (length-map c.args.paths.now (λ (path : Vec ℕ). path.items))) c.in-Ok.ensures.bound)
    (path_at c.args.paths.now c.in-Ok.at c.args.path.now c.in-Ok.ensures.bound equal)

pub returns-in-Err : goal.returns-in-Err
returns-in-Err c =
    sym (no_text_line (texts c.args.paths.now) c.args.keys.now c.args.path.now c.args.number c.requires.have_paths
    (λ one. text_not_missed c.args.paths.now c.args.path.now c.binary_search_by.result _ c.requires.paths_in_order one
    (c.binary_search_by.ensures.position (λ (other : Vec ℕ). slice_cmp nat_cmp other.items c.args.path.now) (always_returns_same _ _ _ (λ a r q k. search rules))) c.in-Err.is))
