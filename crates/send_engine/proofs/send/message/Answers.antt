use Rattle.std.proofs.Common.{rules}
use Rattle.send_engine.proofs.SendLemmas.{not_bom}
use Rattle.send_engine.proofs.send.message.Goals as goal

pub unreachable-requires : goal.unreachable-requires
unreachable-requires c = not_bom c.args.text.now (search rules) (search rules)
