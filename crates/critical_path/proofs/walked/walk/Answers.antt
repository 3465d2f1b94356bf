use Rattle.critical_path.proofs.Usual.{told_alone}
use Rattle.critical_path.proofs.walked.walk.Goals as goal

pub returns-clause-events : goal.returns-clause-events
returns-clause-events c =
    told_alone c.usual-timing.result c.usual-timing.ensures.usual c.args.image.now c.in_ok-index.index c.args.input.now c.args.budget c.args.output_limit c.args.layout c.requires.choice
    c.walk_on.result c.walk_on.ensures _ (λ t is. is.events)

pub returns-clause-ending : goal.returns-clause-ending
returns-clause-ending c =
    told_alone c.usual-timing.result c.usual-timing.ensures.usual c.args.image.now c.in_ok-index.index c.args.input.now c.args.budget c.args.output_limit c.args.layout c.requires.choice
    c.walk_on.result c.walk_on.ensures _ (λ t is. is.ending)

pub returns-clause-output : goal.returns-clause-output
returns-clause-output c =
    told_alone c.usual-timing.result c.usual-timing.ensures.usual c.args.image.now c.in_ok-index.index c.args.input.now c.args.budget c.args.output_limit c.args.layout c.requires.choice
    c.walk_on.result c.walk_on.ensures _ (λ t is. is.output)

pub returns-clause-linked : goal.returns-clause-linked
returns-clause-linked c =
    told_alone c.usual-timing.result c.usual-timing.ensures.usual c.args.image.now c.in_ok-index.index c.args.input.now c.args.budget c.args.output_limit c.args.layout c.requires.choice
    c.walk_on.result c.walk_on.ensures _ (λ t is. is.linked)

pub returns-clause-many : goal.returns-clause-many
returns-clause-many c =
    told_alone c.usual-timing.result c.usual-timing.ensures.usual c.args.image.now c.in_ok-index.index c.args.input.now c.args.budget c.args.output_limit c.args.layout c.requires.choice
    c.walk_on.result c.walk_on.ensures _ (λ t is. is.many)

pub returns-clause-whole : goal.returns-clause-whole
returns-clause-whole c =
    told_alone c.usual-timing.result c.usual-timing.ensures.usual c.args.image.now c.in_ok-index.index c.args.input.now c.args.budget c.args.output_limit c.args.layout c.requires.choice
    c.walk_on.result c.walk_on.ensures _ (λ t is. is.whole)

pub returns-clause-befores : goal.returns-clause-befores
returns-clause-befores c =
    told_alone c.usual-timing.result c.usual-timing.ensures.usual c.args.image.now c.in_ok-index.index c.args.input.now c.args.budget c.args.output_limit c.args.layout c.requires.choice
    c.walk_on.result c.walk_on.ensures _ (λ t is. is.befores)

pub returns-clause-froms : goal.returns-clause-froms
returns-clause-froms c =
    told_alone c.usual-timing.result c.usual-timing.ensures.usual c.args.image.now c.in_ok-index.index c.args.input.now c.args.budget c.args.output_limit c.args.layout c.requires.choice
    c.walk_on.result c.walk_on.ensures _ (λ t is. is.froms)
