-- Lists of lines that have what each of their lines has.
use Rattle.std.proofs.Common.{◌≡◌, Bool, true, false, if◌then◌else◌, List, [], ◌∷◌, ◌++◌, All, sym, subst}
use Rattle.std.proofs.lemmas.List.Elements.{All-nil, All-cons, All-append}
use Rattle.hot_lines.specs.declared.lines.HotLine.{HotLine}
use Rattle.hot_lines.specs.Lines.{has_started}

-- with one line more, if it starts
pub all_if : (P : HotLine → Type 0) (old new : List HotLine) (h : HotLine) → new ≡ old ++ (if has_started h then h ∷ [] else []) → All P old → P h → All P new
all_if P old new h is all p = subst (All P) (sym is) (All-append P old (if has_started h then h ∷ [] else []) all (rest (has_started h)))
  where
    rest : (t : Bool) → All P (if t then h ∷ [] else [])
    rest true = All-cons P h [] p (All-nil P)
    rest false = All-nil P
