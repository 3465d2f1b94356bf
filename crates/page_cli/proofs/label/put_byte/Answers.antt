use Rattle.profile_book.proofs.Gathering.{gathers_as}
use Rattle.page_cli.proofs.label.put_byte.Goals as goal

pub returns-in-Some : goal.returns-in-Some
returns-in-Some g c = gathers_as c.in-Some.ensures c.push.ensures.gathers

pub returns-in-None : goal.returns-in-None
returns-in-None g c = gathers_as c.in-None.ensures c.push-in-None.ensures.gathers
