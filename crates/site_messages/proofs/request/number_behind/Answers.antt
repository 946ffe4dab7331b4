use Rattle.site_messages.proofs.RequestLemmas.{number_after}
use Rattle.site_messages.proofs.request.number_behind.Goals as goal

pub returns : goal.returns
returns c =
    number_after c.args.line.now c.args.word.now c.in_ok-rest.rest.now c.number_of.result c.in_ok-rest.ensures
    c.number_of.ensures
