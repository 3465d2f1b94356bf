use Rattle.byte_write.proofs.Appends.{no_words, some_words}
use Rattle.byte_write.proofs.words.push_words.Goals as goal

pub returns-in-None : goal.returns-in-None
returns-in-None c =
    no_words c.extend_from_slice.result c.args.start c.args.lines.now c.args.out.now.items _ _
    c.in-None.ensures.cases c.in_ok-push_address.ensures c.extend_from_slice.ensures.items

pub returns-in_ok-push_row-in-Some : goal.returns-in_ok-push_row-in-Some
returns-in_ok-push_row-in-Some c =
    some_words c.push_rows.result c.args.start c.in-Some.first.now c.args.lines.now c.in-Some.rest.now c.args.out.now.items _ _ _
    c.in-Some.ensures.cases.0 c.in_ok-push_address.ensures c.in_ok-push_row-in-Some.ensures c.push_rows.ensures
