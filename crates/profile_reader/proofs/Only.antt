-- The text of a profile within the ranges and orders is read as this profile.
use Rattle.std.proofs.Common.{◌≡◌, ◌≤◌, List, [], ◌∷◌, ◌++◌, length, Some, None, Result, Ok, Err, sym, ap, subst, ◌∙◌, arith, length-append}
use Rattle.coz_types.specs.Labels.{Text}
use Rattle.coz_types.specs.declared.record.Summary.{Summary}
use Rattle.profile_book.specs.declared.profile.Profile.{Profile}
use Rattle.profile_reader.specs.declared.fault.BookFault.{BookFault}
use Rattle.failures.specs.declared.Failure.{Failure}
use Rattle.failures.specs.declared.Failure.TheVariants as errors
use Rattle.profile_reader.specs.Judging.{IsParsedAs}
use Rattle.profile_book.specs.Profile.{IsProfile, IsTextOf, profile_text}
use Rattle.profile_reader.specs.Items.{items_of}
use Rattle.profile_reader.specs.Reading.{profile_at}
use Rattle.failures.specs.Answers.{Gives}
use Rattle.profile_reader.specs.Parsed.{or_nothing, parsed_profile}
use Rattle.profile_reader.specs.Grammar.{book_fault}
use Rattle.profile_reader.proofs.Texts.{items_few, reading_is, IsReading}
use Rattle.profile_reader.proofs.Again.{head_items, names_items}
use Rattle.profile_reader.proofs.BlocksAgain.{block_items, blocks_items, profile_again}
use Rattle.profile_reader.proofs.CutLines.{items_are}

blocks_few : (summaries : List Summary) → length summaries ≤ length (blocks_items summaries)
blocks_few [] = omega arith
blocks_few (s ∷ summaries) = let h = blocks_few summaries in let e = length-append (block_items s) (blocks_items summaries) in omega arith

few : (p : Profile) → IsProfile p → length p.summaries ≤ length (profile_text p)
few p is =
    let a = blocks_few p.summaries in
    let b = length-append (names_items 0 p.points) (blocks_items p.summaries) in
    let c = length-append (head_items (p.budget, length p.points)) (names_items 0 p.points ++ blocks_items p.summaries) in
    let d = items_few (profile_text p) in
    let e = ap length (items_are p is) in
    omega arith

pub written_is_read : (p : Profile) → IsProfile p → profile_at (length (profile_text p)) (items_of (profile_text p)) ≡ Ok p
written_is_read p is = ap (profile_at (length (profile_text p))) (items_are p is) ∙ profile_again p (length (profile_text p)) (few p is) is

pub only_by : (bytes : Text) (result : Result Profile (Failure BookFault)) → Gives (λ q. q) result (profile_at (length bytes) (items_of bytes)) → (p : Profile) → IsTextOf p bytes → IsParsedAs result p
only_by bytes result gives p is = by result (subst (Gives (λ q. q) result) reads gives)
  where
    reads : profile_at (length bytes) (items_of bytes) ≡ Ok p
    reads = ap (λ (t : Text). profile_at (length t) (items_of t)) is.1 ∙ written_is_read p is.0

    by : (r : Result Profile (Failure BookFault)) → Gives (λ q. q) r (Ok p) → IsParsedAs r p
    by (Ok q) e = cc
    by (Err errors.Memory) e = tt
    by (Err (errors.Fault f)) e = cc

-- ---- texts and faults

pub text_of_no_fault : (bytes : Text) → book_fault bytes ≡ None → (p : Profile) × IsTextOf p bytes
text_of_no_fault bytes none = by (profile_at (length bytes) (items_of bytes)) (reading_is bytes)
  where
    by : (r : Result Profile BookFault) → IsReading bytes r → (p : Profile) × IsTextOf p bytes
    by (Ok p) is = (p, (is.1, is.2))
    by (Err f) is = let never : None ≡ Some f = sym none ∙ is in absurd cc

pub no_fault_of_text : (bytes : Text) (p : Profile) → IsTextOf p bytes → book_fault bytes ≡ None
no_fault_of_text bytes p is =
    let reads : profile_at (length bytes) (items_of bytes) ≡ Ok p = ap (λ (t : Text). profile_at (length t) (items_of t)) is.1 ∙ written_is_read p is.0 in
    (subst (IsReading bytes) reads (reading_is bytes)).0

pub told_is : (bytes : Text) (p : Profile) → IsTextOf p bytes → parsed_profile bytes ≡ p
unfolding parsed_profile
told_is bytes p is = ap or_nothing (ap (λ (t : Text). profile_at (length t) (items_of t)) is.1 ∙ written_is_read p is.0)
