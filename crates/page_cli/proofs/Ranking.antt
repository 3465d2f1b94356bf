-- The verdict of a profile's text, by what reading it gave.
use Rattle.std.proofs.Common.{◌≡◌, ℕ, List, length, Option, None, sym, ap, ◌∙◌}
use Rattle.profile_reader.specs.Grammar.{book_fault}
use Rattle.profile_book.specs.Profile.{IsTextOf}
use Rattle.profile_reader.specs.Parsed.{parsed_profile}
use Rattle.profile_book.specs.declared.profile.Profile.{Profile}
use Rattle.profile_reader.specs.declared.fault.BookFault.{BookFault}
use Rattle.profile_reader.proofs.Only.{told_is}
use Rattle.causal_curves.specs.Curves.{curves_of, ranked_curves}
use Rattle.causal_curves.specs.declared.curve.Curve.{Curve}
use Rattle.page_words.specs.Words.{Request}
use Rattle.page_values.specs.Sources.{Answers}
use Rattle.page_values.specs.Ranks.{by_mean}
use Rattle.page_cli.specs.Harm.{harmful_curves}
use Rattle.page_cli.specs.Page.{chosen_curves, curves_page, page_curves, page_text, view_for}
use Rattle.page_cli.specs.Verdict.{book_verdict, text_verdict, profile_verdict}

module _ (asked : Request) (bytes : List ℕ) (p : Profile) (is : IsTextOf p bytes) where
  pub curves_told : (ranked curves : List Curve) → ranked ≡ ranked_curves (curves_of p) → curves ≡ by_mean (chosen_curves asked.file ranked) → curves ≡ page_curves asked.file (parsed_profile bytes)
  curves_told ranked curves ranks chosen =
      chosen ∙ ap (λ (cs : List Curve). by_mean (chosen_curves asked.file cs)) ranks ∙ ap (page_curves asked.file) (sym (told_is bytes p is))

  pub ranked_page : (answers : Answers) (all : ℕ) (ranked curves harmful : List Curve) → all ≡ length ranked → book_fault bytes ≡ None → ranked ≡ ranked_curves (curves_of p)
      → curves ≡ by_mean (chosen_curves asked.file ranked) → harmful ≡ harmful_curves curves
      → text_verdict (curves_page (view_for asked answers) asked all p curves harmful) ≡ profile_verdict asked answers bytes
  unfolding page_text
  ranked_page answers all ranked curves harmful as_many none ranks chosen harms =
      ap (λ (n : ℕ). text_verdict (curves_page (view_for asked answers) asked n p curves harmful)) as_many
      ∙ ap (λ (hs : List Curve). text_verdict (curves_page (view_for asked answers) asked (length ranked) p curves hs)) harms
      ∙ ap (λ (cs : List Curve). text_verdict (curves_page (view_for asked answers) asked (length ranked) p cs (harmful_curves cs))) (chosen ∙ ap (λ (cs : List Curve). by_mean (chosen_curves asked.file cs)) ranks)
      ∙ ap (λ (cs : List Curve). text_verdict (curves_page (view_for asked answers) asked (length cs) p (page_curves asked.file p) (harmful_curves (page_curves asked.file p)))) ranks
      ∙ ap (λ (q : Profile). text_verdict (page_text asked answers q)) (sym (told_is bytes p is))
      ∙ ap (λ (o : Option BookFault). book_verdict asked answers o (parsed_profile bytes)) (sym none)
