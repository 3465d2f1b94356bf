-- Words that ask for a program's help or its version.
use Rattle.std.proofs.Common.{◌≡◌, Bool, true, false, ◌||◌, cond, ℕ, List, codes, Option, Some, None, refl, sym, subst, ◌∙◌, arith, true≢false, inl, inr}
use Rattle.std.specs.Str.{bytes_eq}
use Rattle.std.proofs.lemmas.Slice.Eq.{bytes_eq-Decides}
use Rattle.coz_serve.specs.declared.info.Info.{Info}
use Rattle.coz_serve.specs.declared.info.Info.TheVariants.{Help, Version}
use Rattle.coz_serve.specs.Info.{Informs, info_in, info_of, is_option}

module _ (P : List ℕ → Type 0) (word : List ℕ) where
  one_of : (long short : List ℕ) → P long → P short → (b c : Bool) → bytes_eq word long ≡ b → bytes_eq word short ≡ c → b || c ≡ true → P word
  one_of long short l s true c at_long at_short is = subst P (sym ((bytes_eq-Decides word long).0 at_long)) l
  one_of long short l s false true at_long at_short is = subst P (sym ((bytes_eq-Decides word short).0 at_short)) s
  one_of long short l s false false at_long at_short is = absurd (true≢false (sym is))

  -- what holds of the four options holds of a word that asks for one of the texts
  pub of_info : P (codes "--help") → P (codes "-h") → P (codes "--version") → P (codes "-V") → (info : Info) → info_of word ≡ Some info → P word
  of_info help h version v info is = by (is_option (codes "--help") (codes "-h") word) (is_option (codes "--version") (codes "-V") word) refl refl is
    where
      by : (b c : Bool) → is_option (codes "--help") (codes "-h") word ≡ b → is_option (codes "--version") (codes "-V") word ≡ c → cond b (Some Help) (cond c (Some Version) None) ≡ Some info → P word
      by true c helps tells is = one_of (codes "--help") (codes "-h") help h (bytes_eq word (codes "--help")) (bytes_eq word (codes "-h")) refl refl helps
      by false true helps tells is = one_of (codes "--version") (codes "-V") version v (bytes_eq word (codes "--version")) (bytes_eq word (codes "-V")) refl refl tells
      by false false helps tells is = let no : ⊥ = cc in absurd no

-- a text that is printed is no answer to wrong words
pub never_usage : {O E : Type 0} {name : List ℕ} {holds : O → Option (List ℕ)} {faults : O → ℕ} {old new : O} {err_holds : E → Option (List ℕ)} {err_faults : E → ℕ} {err_old err_new : E} {status : ℕ} {text : List ℕ}
    → Informs name holds faults old new err_holds err_faults err_old err_new status text → status ≡ 2 → ⊥
never_usage (inl done) two = let zero = done.same_status in omega (arith, zero, two)
never_usage (inr cut) two = let six = cut.six in omega (arith, six, two)

-- words ask for a text, or for none
pub not_both : (words : List (List ℕ)) (info : Info) → info_in words ≡ Some info → info_in words ≡ None → ⊥
not_both words info some none = let no : ◌≡◌ {A = Option Info} (Some info) None = sym some ∙ none in cc
