use Rattle.std.proofs.Common.{subst, fold, Ok, Err, Result}
use Rattle.std.specs.Prelude.{IfOk}
use Rattle.coz_words.specs.Answers.{Answers, bytes_of}
use Rattle.coz_words.specs.declared.request.WordsError.{WordsError}
use Rattle.timing_model.specs.Timing.{IsTiming}
use Rattle.gain_words.specs.declared.asked.GainRequest.{GainRequest}
use Rattle.gain_words.specs.Words.{Given, scan_word, no_words, gain_request, gain_request_of}
use Rattle.gain_words.proofs.Law.{machine_within}
use Rattle.gain_words.proofs.asked.read_gain.Goals as goal

pub returns-clause-asked : goal.returns-clause-asked
unfolding gain_request
returns-clause-asked c = subst (λ (g : Given). Answers (gain_request_of g) c.request_in-asked.result) c.in_ok-scan.ensures c.request_in-asked.ensures.asked

pub returns-clause-timing : goal.returns-clause-timing
returns-clause-timing c = by c.request_in-asked.result asked
  where
    asked : Answers (gain_request_of (fold scan_word no_words (bytes_of c.args.words.now))) c.request_in-asked.result
    asked = subst (λ (g : Given). Answers (gain_request_of g) c.request_in-asked.result) c.in_ok-scan.ensures c.request_in-asked.ensures.asked

    by : (result : Result GainRequest WordsError) → Answers (gain_request_of (fold scan_word no_words (bytes_of c.args.words.now))) result → IfOk result (λ asked. IsTiming asked.timing)
    by (Ok request) is = machine_within (bytes_of c.args.words.now) request is
    by (Err error) is = tt
