use Rattle.server_words.proofs.AddressLemmas.{spelled_is, unspelled_is}
use Rattle.server_words.proofs.address.address.Goals as goal

pub returns-in-Ok : goal.returns-in-Ok
returns-in-Ok c = spelled_is c.args.text.now c.in-Ok.address c.in-Ok.ensures.value

pub returns-in-Err : goal.returns-in-Err
returns-in-Err c = unspelled_is c.args.text.now c.in-Err.ensures.value
