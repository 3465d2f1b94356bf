-- The written path of a file is in its one form.
use Rattle.std.proofs.Common.{◌≡◌, ℕ, ◌<◌, [], ◌∷◌, ◌++◌, All, Some, None, true, Fits, w8, get_or, refl, ap, ◌∙◌, arith}
use Rattle.std.specs.List.{AllByRecursion}
use Rattle.std.proofs.lemmas.List.{append_assoc}
use Rattle.std.proofs.lemmas.List.Elements.{All-from_get_or, recursion_from_All}
use Rattle.coz_types.specs.Labels.{Text, is_scanned, escape_of, written, is_written}
use Rattle.coz_types.proofs.WrittenPaths.{byte_scans, written_is}

abbrev pub Bytes : Text → Type 0
Bytes text = All (λ (byte : ℕ). byte < 256) text

byte_fits : (b : ℕ) → Fits w8 b → b < 256
byte_fits b fits = omega (arith, fits)

pub bytes_fit : (text : Text) → ((i : ℕ) → Fits w8 (get_or text i 0)) → Bytes text
bytes_fit text fits = All-from_get_or (λ (byte : ℕ). byte < 256) text 0 (λ i lt. byte_fits (get_or text i 0) (fits i))

scans_over : (text rest : Text) → AllByRecursion (λ (byte : ℕ). byte < 256) text → is_scanned (Some None) (written text ++ rest) ≡ is_scanned (Some None) rest
scans_over [] rest all = refl
scans_over (b ∷ text) rest all = ap (is_scanned (Some None)) (append_assoc (escape_of b) (written text) rest) ∙ byte_scans b (written text ++ rest) all.0 ∙ scans_over text rest all.1

-- the scan of a text after this one begins anew
abbrev pub IsWhole : Text → Type 0
IsWhole front = (rest : Text) → is_scanned (Some None) (front ++ rest) ≡ is_scanned (Some None) rest

-- a slash is written as it is
pub directory_whole : (directory : Text) → Bytes directory → IsWhole (written directory ++ 47 ∷ [])
directory_whole directory all rest = ap (is_scanned (Some None)) (append_assoc (written directory) (47 ∷ []) rest) ∙ scans_over directory (47 ∷ rest) (recursion_from_All (λ (byte : ℕ). byte < 256) directory all)

pub name_behind : (front name : Text) → IsWhole front → Bytes name → is_written (front ++ written name) ≡ true
name_behind front name whole all = whole (written name) ∙ written_is name (recursion_from_All (λ (byte : ℕ). byte < 256) name all)
