use Rattle.std.proofs.Common.{refl, rules}
use Rattle.send_engine.proofs.SendLemmas.{made_of}
use Rattle.send_engine.specs.Options.{texts_of}
use Rattle.send_engine.proofs.values.read_values.Goals as goal

pub returns-clause-ok : goal.returns-clause-ok
returns-clause-ok c =
    let (f, up_to, n) = c.in_ok-sender.ensures.ok in
    made_of (texts_of c.args.options.now) _ f up_to _ _ _ _ _ n c.in_ok-severity.ensures.ok c.in_ok-time.ensures.ok
    c.in_ok-word.ensures.ok.0 c.in_ok-word.ensures.ok.1 c.in_ok-framing.ensures.ok refl
