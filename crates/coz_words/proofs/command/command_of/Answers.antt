use Rattle.std.proofs.Common.{◌≡◌, Bool, true, false, cond, List, [], ◌∷◌, Some, find, refl, sym, ap, ◌∙◌}
use Rattle.std.specs.Str.{bytes_eq}
use Rattle.std.proofs.lemmas.Slice.Eq.{bytes_eq-Decides}
use Rattle.coz_words.specs.Said.{Text}
use Rattle.coz_words.specs.Request.{command_name}
use Rattle.coz_words.specs.declared.command.Command.{Command}
use Rattle.coz_words.specs.declared.command.Command.TheVariants.{Run, Really, Profile, Lines, Plot, Asm, Trial, Latency, Path}
use Rattle.coz_words.proofs.command.command_of.Goals as goal

-- a word that isn't the name of the first of these commands is that of another, if of any
passed : (word : Text) (c : Command) (cs : List Command) → (word ≡ command_name c → ⊥) → find (λ d. bytes_eq (command_name d) word) (c ∷ cs) ≡ find (λ d. bytes_eq (command_name d) word) cs
passed word c cs other = ap (λ (b : Bool). cond b (Some c) (find (λ d. bytes_eq (command_name d) word) cs)) (by (bytes_eq (command_name c) word) refl)
  where
    by : (b : Bool) → bytes_eq (command_name c) word ≡ b → bytes_eq (command_name c) word ≡ false
    by true e = absurd (other (sym ((bytes_eq-Decides (command_name c) word).0 e)))
    by false e = e

pub returns-in_default : goal.returns-in_default
returns-in_default c =
    let word = c.args.word.now in
    let no = c.in_default in
    sym (
    passed word Run (Really ∷ Profile ∷ Lines ∷ Plot ∷ Asm ∷ Trial ∷ Latency ∷ Path ∷ []) no.not-run
    ∙ passed word Really (Profile ∷ Lines ∷ Plot ∷ Asm ∷ Trial ∷ Latency ∷ Path ∷ []) no.not-really
    ∙ passed word Profile (Lines ∷ Plot ∷ Asm ∷ Trial ∷ Latency ∷ Path ∷ []) no.not-profile
    ∙ passed word Lines (Plot ∷ Asm ∷ Trial ∷ Latency ∷ Path ∷ []) no.not-lines
    ∙ passed word Plot (Asm ∷ Trial ∷ Latency ∷ Path ∷ []) no.not-plot
    ∙ passed word Asm (Trial ∷ Latency ∷ Path ∷ []) no.not-asm
    ∙ passed word Trial (Latency ∷ Path ∷ []) no.not-trial
    ∙ passed word Latency (Path ∷ []) no.not-latency
    ∙ passed word Path [] no.not-path
    )
