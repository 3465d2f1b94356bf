-- A program's help and its version, and the words that ask for them.
use Rattle.std.specs.Prelude.{ℕ, Bool, ◌||◌, List, [], ◌∷◌, ◌++◌, codes, Option, Some, None, if◌then◌else◌, ◌⊎◌}
use Rattle.std.specs.Str.{bytes_eq}
use Rattle.coz_files.specs.Verdict.{text_verdict}
use Rattle.coz_serve.specs.declared.info.Info.{Info}
use Rattle.coz_serve.specs.declared.info.Info.TheVariants.{Help, Version}
use Rattle.coz_serve.specs.Written.{IsDone, IsCut}

-- the version of all programs
abbrev pub version : List ℕ
version = codes "0.4.0"

-- the word is the long option, or the short one
abbrev pub is_option : List ℕ → List ℕ → List ℕ → Bool
is_option long short word = bytes_eq word long || bytes_eq word short

abbrev pub info_of : List ℕ → Option Info
info_of word =
    if is_option (codes "--help") (codes "-h") word then Some Help
    else if is_option (codes "--version") (codes "-V") word then Some Version
    else None

-- what the first word asks for; the words after it say nothing
abbrev pub info_in : List (List ℕ) → Option Info
info_in [] = None
info_in (word ∷ words) = info_of word

-- the help of a program, or its name and its version
abbrev pub info_text : List ℕ → List ℕ → Info → List ℕ
info_text name help Help = help
info_text name help Version = name ++ codes " " ++ version ++ codes "\n"

-- What a program leaves that prints a text of itself: the text, and status 0; or a prefix of it,
-- status 6 and the line that says so.
abbrev pub Informs : {O E : Type 0} → List ℕ → (O → Option (List ℕ)) → (O → ℕ) → O → O
    → (E → Option (List ℕ)) → (E → ℕ) → E → E → ℕ → List ℕ → Type 0
Informs name holds faults old new err_holds err_faults err_old err_new status text =
    IsDone name holds faults old new err_holds err_faults err_old err_new status (text_verdict text)
    ⊎ IsCut name holds faults old new err_holds err_faults err_old err_new status (text_verdict text)
