use Rattle.site_messages.proofs.RequestLemmas.{both_after, no_first, no_second}
use Rattle.site_messages.proofs.request.numbers_behind.Goals as goal

pub returns-in-Err : goal.returns-in-Err
returns-in-Err c =
    no_first c.args.line.now c.args.word.now c.in_ok-rest.rest.now c.in-Err.field-0 c.in_ok-rest.ensures c.in-Err.ensures

pub returns-in-None : goal.returns-in-None
returns-in-None c =
    no_second c.args.line.now c.args.word.now c.in_ok-rest.rest.now c.in-Ok.rest.now c.in-Ok.first c.in_ok-rest.ensures
    c.in-Ok.ensures c.in-None.ensures

pub returns-in-Some : goal.returns-in-Some
returns-in-Some c =
    both_after c.args.line.now c.args.word.now c.in_ok-rest.rest.now c.in-Ok.rest.now c.in-Ok.first c.in-Some.second
    c.in_ok-rest.ensures c.in-Ok.ensures c.in-Some.ensures.0 c.in-Some.ensures.1
