use Rattle.std.proofs.Common.{sym}
use Rattle.coz_serve.proofs.Informed.{not_both}
use Rattle.page_cli.specs.Verdict.{bytes_of}
use Rattle.page_cli.proofs.top.serve.Goals as goal

pub returns-in-None-clause-serves : goal.returns-in-None-clause-serves
returns-in-None-clause-serves g c = λ none.
    let did = c.serve_words.ensures in
    record {
      usage = did.usage;
      known = did.known;
      verdict = did.verdict;
      read = did.read;
      write = did.write;
      write_last = did.write_last;
      text = did.text;
      prefix = did.prefix;
      nothing = did.nothing;
      no_error_line = did.no_error_line;
      line = did.line;
      read_count = did.read_count;
      write_count = did.write_count;
    }

pub returns-in-Some-clause-serves : goal.returns-in-Some-clause-serves
returns-in-Some-clause-serves g c = λ none. absurd (not_both (bytes_of c.args.words.now) c.in-Some.info (sym c.in-Some.ensures) none)
