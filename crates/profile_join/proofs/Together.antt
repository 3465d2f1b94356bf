-- The blocks of lists of lines are those of all their lines together.
use Rattle.std.proofs.Common.{List, map, subst}
use Rattle.std.specs.List.{flat_map}
use Rattle.profile_join.proofs.Among.{Among, among_map, among_mapped, into_all, out_of_all}

-- g gives the pairs of a line, and s the block of a pair
module _ {L E S : Type 0} (g : L → List E) (s : E → S) where
  abbrev blocks : List L → List S
  blocks lines = map s (flat_map g lines)

  abbrev joined : List (List L) → List L
  joined lists = flat_map (λ (lines : List L). lines) lists

  pub into_whole : (lists : List (List L)) (all : List L) → ((l : L) → Among l (joined lists) → Among l all) → (z : S) → Among z (flat_map blocks lists) → Among z (blocks all)
  into_whole lists all to z h =
      let part = out_of_all blocks z lists h in
      let pair = among_mapped s z (flat_map g part.0) part.2 in
      let line = out_of_all g pair.0 part.0 pair.1 in
      let there : Among line.0 all = to line.0 (into_all (λ (lines : List L). lines) part.0 line.0 lists part.1 line.1) in
      subst (λ w. Among w (blocks all)) pair.2 (among_map s pair.0 (flat_map g all) (into_all g line.0 pair.0 all there line.2))

  pub from_whole : (lists : List (List L)) (all : List L) → ((l : L) → Among l all → Among l (joined lists)) → (z : S) → Among z (blocks all) → Among z (flat_map blocks lists)
  from_whole lists all from z h =
      let pair = among_mapped s z (flat_map g all) h in
      let line = out_of_all g pair.0 all pair.1 in
      let part = out_of_all (λ (lines : List L). lines) line.0 lists (from line.0 line.1) in
      into_all blocks part.0 z lists part.1 (subst (λ w. Among w (blocks part.0)) pair.2 (among_map s pair.0 (flat_map g part.0) (into_all g line.0 pair.0 part.0 part.2 line.2)))
