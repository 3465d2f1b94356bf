-- A file that was read, if it is not too long.
use Rattle.std.proofs.Common.{◌≡◌, inl, ℕ, ◌≤◌, nat_lt, Bool, false, [], length, Option, Some, None, sym, ap, ◌∙◌, rules, if◌then◌else◌}
use Rattle.std.specs.Prelude.{IfSome}
use Rattle.coz_types.specs.Labels.{Text}
use Rattle.coz_files.specs.Held.{Held, file_at}
use Rattle.coz_files.specs.Reads.{Reads, ReadsTold}
use Rattle.coz_files.specs.declared.outside.FileAnswer.{FileAnswer}
use Rattle.coz_files.specs.declared.outside.FileAnswer.TheVariants.{Whole}
use Rattle.page_values.specs.Sources.{IsAnswer, short}
use Rattle.page_values.specs.declared.sources.TheConstants.{MAX_SOURCE}

not_long : (n : ℕ) → n ≤ MAX_SOURCE → nat_lt MAX_SOURCE n ≡ false
not_long n le = search (rules, le)

whole_is : (bytes : Text) → length bytes ≤ MAX_SOURCE → short (Some bytes) ≡ bytes
whole_is bytes le = ap (λ (long : Bool). if long then [] else bytes) (not_long (length bytes) le)

module _ {F : Type 0} {held : F → Option Held} {faults : F → ℕ} {old new : F} (path : Text) (answer : FileAnswer) (into : Text) (is : answer ≡ Whole) (reads : Reads held faults old new path MAX_SOURCE answer into) where
  pub whole_right : IfSome (held old) (λ h. IsAnswer (short (file_at h path)) (faults old) (faults new) into)
  whole_right = by (held old) reads.told
    where
      by : (known : Option Held) → IfSome known (λ h. ReadsTold (file_at h path) MAX_SOURCE (faults old) (faults new) answer into) → IfSome known (λ h. IsAnswer (short (file_at h path)) (faults old) (faults new) into)
      by None told = tt
      by (Some h) told = inl (sym (ap short (told.whole is) ∙ whole_is into (reads.whole_size is)))
