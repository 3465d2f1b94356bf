-- The five lines of a trial.
use Rattle.std.specs.Prelude.{ℕ, List, [], ◌∷◌, ◌++◌, length, Option, None, Some, codes, ℤ}
use Rattle.std.specs.Fmt.{signed_decimal}
use Rattle.sha2.specs.Sha256.{sha256}
use Rattle.coz_types.specs.Labels.{Text}
use Rattle.work_gen.specs.Text.{Source}
use Rattle.line_index.specs.Lines.{Line}
use Rattle.profile_book.specs.declared.profile.Profile.{Profile}
use Rattle.profile_book.specs.Pieces.{named, number_line}
use Rattle.profile_book.specs.Profile.{hex_text, profile_text}
use Rattle.causal_curves.specs.Curves.{curves_of, ranked_curves}
use Rattle.causal_curves.specs.declared.curve.Curve.{Curve}

-- the length of some bytes, and their digest
abbrev pub digest_line : Text → List ℕ → Text
digest_line name bytes =
    named name (length bytes) ++ (codes " " ++ hex_text (sha256 bytes)) ++ codes "\n"

abbrev pub gain_line : Text → Option ℤ → Text
gain_line label None = codes "best none\n"
gain_line label (Some gain) =
    (codes "best " ++ label) ++ (codes " " ++ signed_decimal gain) ++ codes "\n"

-- of the first of ranked curves
abbrev pub best_line : List Curve → Text
best_line [] = codes "best none\n"
best_line (curve ∷ curves) = gain_line curve.selected curve.gain

-- what `trial` prints of a source, the lines of its program, and a profile of this number of runs
unfoldable pub trial_lines : Source → List Line → ℕ → Profile → Text
trial_lines source lines experiments profile =
    digest_line (codes "source ") source.text
    ++ number_line (codes "lines ") (length lines)
    ++ number_line (codes "experiments ") experiments
    ++ digest_line (codes "profile ") (profile_text profile)
    ++ best_line (ranked_curves (curves_of profile))
