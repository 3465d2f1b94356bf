-- The source files that are read for curves, one after the other.
use Rattle.std.proofs.Common.{◌≡◌, ℕ, ◌+◌, ◌<◌, ◌≤◌, true, List, [], length, take, get_or, Option, None, Some, IfSome, refl, sym, ap, subst, arith}
use Rattle.std.specs.Prelude.{is_some, unwrap_or}
use Rattle.std.specs.List.{All}
use Rattle.std.proofs.lemmas.List.{take_all}
use Rattle.std.proofs.lemmas.List.Elements.{All-more}
use Rattle.coz_types.specs.Labels.{Text, path_of}
use Rattle.coz_files.specs.Held.{Held, file_at}
use Rattle.causal_curves.specs.declared.curve.Curve.{Curve}
use Rattle.page_values.specs.Sources.{AreRight, IsAnswer, look_up, source_in}
use Rattle.page_cli.specs.Verdict.{AreSources}

abbrev IsThere : Held → Curve → Type 0
IsThere sources c = is_some (file_at sources (path_of c.selected)) ≡ true

-- the files are right, and those of these curves are there
pub record Reading (known : Option Held) (folder : Text) (start now : ℕ) (sources : Held) (curves : List Curve) : Type 0 where
  pub right : IfSome known (λ h. AreRight h folder start now sources)
  pub there : All (IsThere sources) curves

nothing_right : (known : Option Held) (folder : Text) (start : ℕ) → IfSome known (λ h. AreRight h folder start start [])
nothing_right None folder start = tt
nothing_right (Some h) folder start = λ path bytes is. let no : ⊥ = cc in absurd no

pub nothing_read : (known : Option Held) (folder : Text) (start : ℕ) (curves : List Curve) → Reading known folder start start [] (take 0 curves)
nothing_read known folder start curves = record { right = nothing_right known folder start; there = λ k d lt. absurd (omega (arith, lt)) }

module _ (folder : Text) (start before now : ℕ) (old new : Held) (within : start ≤ before) where
  more_right : (known : Option Held) → IfSome known (λ h. (s : ℕ) → s ≤ before → AreRight h folder s before old → AreRight h folder s now new)
      → IfSome known (λ h. AreRight h folder start before old) → IfSome known (λ h. AreRight h folder start now new)
  more_right None step right = tt
  more_right (Some h) step right = step start within right

  pub one_more_read : (known : Option Held) (curves : List Curve) (i : ℕ) (c : Curve) → i < length curves → get_or curves i c ≡ c
      → is_some (file_at new (path_of c.selected)) ≡ true → ((other : Text) → is_some (file_at old other) ≡ true → is_some (file_at new other) ≡ true)
      → IfSome known (λ h. (s : ℕ) → s ≤ before → AreRight h folder s before old → AreRight h folder s now new)
      → Reading known folder start before old (take i curves) → Reading known folder start now new (take (i + 1) curves)
  one_more_read known curves i c lt at there kept step so_far = record {
    right = more_right known step so_far.right;
    there = All-more (IsThere new) curves i c lt (λ k d short. kept (path_of (get_or (take i curves) k d).selected) (so_far.there k d short)) (subst (IsThere new) (sym at) there);
  }

found : (h : Held) (folder path : Text) (start now : ℕ) (sources : Held) → AreRight h folder start now sources → is_some (file_at sources path) ≡ true → IsAnswer (source_in h folder path) start now (look_up sources path)
found h folder path start now sources right there = by (file_at sources path) refl there
  where
    by : (f : Option Text) → file_at sources path ≡ f → is_some f ≡ true → IsAnswer (source_in h folder path) start now (look_up sources path)
    by (Some bytes) is some = subst (IsAnswer (source_in h folder path) start now) (sym (ap (λ (f : Option Text). unwrap_or f []) is)) (right path bytes is)
    by None is some = let no : ⊥ = cc in absurd no

pub all_read : (known : Option Held) (folder : Text) (start now : ℕ) (sources : Held) (curves : List Curve) (i : ℕ) → length curves ≤ i → Reading known folder start now sources (take i curves)
    → IfSome known (λ h. AreSources h folder start now curves (look_up sources))
all_read None folder start now sources curves i le so_far = tt
all_read (Some h) folder start now sources curves i le so_far =
    let there : All (IsThere sources) curves = subst (All (IsThere sources)) (take_all i curves le) so_far.there in
    λ k d lt. found h folder (path_of (get_or curves k d).selected) start now sources so_far.right (there k d lt)
