-- A search through files, one after the other, for the file of a path.
use Rattle.std.proofs.Common.{◌≡◌, ℕ, suc, ◌+◌, ◌<◌, ◌≤◌, Bool, true, false, cond, List, ◌∷◌, length, drop, get_or, Option, Some, None, sym, ap, ◌∙◌, drop-cons, arith}
use Rattle.std.proofs.lemmas.List.{drop_all}
use Rattle.std.specs.Str.{bytes_eq}
use Rattle.coz_types.specs.Labels.{Text}
use Rattle.coz_files.specs.Held.{file_at}
use Rattle.coz_files.specs.InMemory.{entries}
use Rattle.coz_files.specs.declared.memory_files.HeldFile.{HeldFile}

module _ (files : List HeldFile) (path : Text) (i : ℕ) where
  -- what is found in the rest is found among all
  abbrev pub IsAhead : Type 0
  IsAhead = file_at (entries (drop i files)) path ≡ file_at (entries files) path

  abbrev after : Option Text
  after = file_at (entries (drop (i + 1) files)) path

  next : (file : HeldFile) → i < length files → file ≡ get_or files i file → file_at (entries (drop i files)) path ≡ cond (bytes_eq file.path.items path) (Some file.bytes.items) after
  next file lt at =
      let more : suc i ≡ i + 1 = omega arith in
      ap (λ (fs : List HeldFile). file_at (entries fs) path) (drop-cons files i file lt)
      ∙ ap (λ (k : ℕ). file_at (entries (get_or files i file ∷ drop k files)) path) more
      ∙ ap (λ (f : HeldFile). cond (bytes_eq f.path.items path) (Some f.bytes.items) after) (sym at)

  pub found_here : (file : HeldFile) → i < length files → file ≡ get_or files i file → bytes_eq file.path.items path ≡ true → IsAhead → Some file.bytes.items ≡ file_at (entries files) path
  found_here file lt at is ahead = sym (ap (λ (b : Bool). cond b (Some file.bytes.items) after) is) ∙ sym (next file lt at) ∙ ahead

  pub still_ahead : (file : HeldFile) → i < length files → file ≡ get_or files i file → bytes_eq file.path.items path ≡ false → IsAhead → after ≡ file_at (entries files) path
  still_ahead file lt at is ahead = sym (ap (λ (b : Bool). cond b (Some file.bytes.items) after) is) ∙ sym (next file lt at) ∙ ahead

  pub found_nowhere : length files ≤ i → IsAhead → None ≡ file_at (entries files) path
  found_nowhere le ahead = sym (ap (λ (fs : List HeldFile). file_at (entries fs) path) (drop_all i files le)) ∙ ahead
