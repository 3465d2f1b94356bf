-- What an answer of the words says of the requests that they make.
use Rattle.std.proofs.Common.{◌≡◌, ◌⊎◌, inl, inr, List, Some, None, Result, Ok, Err, refl, sym, ◌∙◌}
use Rattle.std.specs.Prelude.{IfOk}
use Rattle.coz_words.specs.Said.{Text}
use Rattle.coz_words.specs.Answers.{Answers}
use Rattle.coz_words.specs.Request.{IsFit, Requests}
use Rattle.coz_words.specs.Slow.{request_in}
use Rattle.coz_words.specs.declared.request.Request.{Request}
use Rattle.coz_words.specs.declared.request.WordsError.{WordsError}
use Rattle.coz_words.specs.declared.request.WordsError.TheVariants.{Usage, Memory}
use Rattle.coz_words.proofs.Exact.{exact_back, exact_forth}
use Rattle.coz_words.proofs.Fit.{fit_in}

abbrev NoRequest : List Text → Type 0
NoRequest words = (request : Request) → Requests words request → ⊥

no_request : (words : List Text) → request_in words ≡ None → NoRequest words
no_request words none request q = absurd (let bad : Some request ≡ None = sym (exact_forth words request q) ∙ none in cc)

pub given : (words : List Text) (r : Result Request WordsError) → Answers (request_in words) r → IfOk r (λ request. Requests words request)
given words (Ok s) is = exact_back words s is
given words (Err e) is = tt

pub only : (words : List Text) (r : Result Request WordsError) → Answers (request_in words) r → (request : Request) → Requests words request → (r ≡ Ok request) ⊎ (r ≡ Err Memory)
only words (Ok s) is request q = let same : Some s ≡ Some request = sym is ∙ exact_forth words request q in inl cc
only words (Err Usage) is request q = absurd (no_request words is request q)
only words (Err Memory) is request q = inr refl

pub usage : (words : List Text) (r : Result Request WordsError) → Answers (request_in words) r → (r ≡ Err Usage → NoRequest words) × (NoRequest words → (r ≡ Err Usage) ⊎ (r ≡ Err Memory))
usage words (Ok s) is = (λ e. absurd cc, λ none. absurd (none s (exact_back words s is)))
usage words (Err Usage) is = (λ e. no_request words is, λ none. inl refl)
usage words (Err Memory) is = (λ e. absurd cc, λ none. inr refl)

pub fit : (words : List Text) (r : Result Request WordsError) → Answers (request_in words) r → IfOk r IsFit
fit words (Ok s) is = fit_in words s (exact_back words s is)
fit words (Err e) is = tt

pub law : (words : List Text) (request : Request) → (request_in words ≡ Some request → Requests words request) × (Requests words request → request_in words ≡ Some request)
law words request = (exact_back words request, exact_forth words request)
