-- The verdict of a profile's text, by what reading it came to.
use Rattle.std.proofs.Common.{◌≡◌, ℕ, List, Option, Some, None, flat_map, sym, ap, ◌∙◌}
use Rattle.profile_reader.specs.Grammar.{book_fault}
use Rattle.profile_reader.specs.Judging.{IsError}
use Rattle.profile_book.specs.Profile.{IsTextOf}
use Rattle.profile_reader.specs.Parsed.{parsed_profile}
use Rattle.profile_book.specs.declared.profile.Profile.{Profile}
use Rattle.profile_reader.specs.declared.fault.BookFault.{BookFault}
use Rattle.failures.specs.declared.Failure.{Failure}
use Rattle.failures.specs.declared.Failure.TheVariants as book
use Rattle.profile_reader.proofs.Only.{told_is}
use Rattle.causal_curves.specs.Curves.{curves_of, ranked_curves}
use Rattle.causal_curves.specs.Texts.{curve_text}
use Rattle.causal_curves.specs.declared.curve.Curve.{Curve}
use Rattle.coz_commands.specs.Answer.{fault_verdict, IsMemoryFault}
use Rattle.program_load.specs.Causes.{profile_fault}
use Rattle.command_texts.specs.Text.{plot_text}
use Rattle.coz_commands.specs.Verdict.{book_verdict, plot_verdict, text_verdict}

at_fault : (bytes : List ℕ) (fault : Option BookFault) → book_fault bytes ≡ fault → book_verdict fault (parsed_profile bytes) ≡ plot_verdict bytes
at_fault bytes fault is = ap (λ (o : Option BookFault). book_verdict o (parsed_profile bytes)) (sym is)

pub no_profile : (bytes : List ℕ) (error : Failure BookFault) → IsError error (book_fault bytes) → (IsMemoryFault (profile_fault error) → ⊥)
    → fault_verdict (profile_fault error) ≡ plot_verdict bytes
no_profile bytes (book.Fault fault) is other = at_fault bytes (Some fault) is
no_profile bytes book.Memory is other = absurd (other tt)

pub plotted : (bytes : List ℕ) (p : Profile) (curves : List Curve) → book_fault bytes ≡ None → IsTextOf p bytes → curves ≡ ranked_curves (curves_of p)
    → text_verdict (flat_map curve_text curves) ≡ plot_verdict bytes
unfolding plot_text
plotted bytes p curves none is ranks =
    ap (λ (cs : List Curve). text_verdict (flat_map curve_text cs)) ranks
    ∙ ap (λ (q : Profile). text_verdict (plot_text q)) (sym (told_is bytes p is))
    ∙ at_fault bytes None none
