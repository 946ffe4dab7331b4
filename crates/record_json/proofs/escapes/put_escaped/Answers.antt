use Rattle.record_json.proofs.Escaping.{escapes_all, escapes_end}
use Rattle.record_json.proofs.escapes.put_escaped.Goals as goal

pub returns-in-None : goal.returns-in-None
returns-in-None c =
    let octets = c.args.octets.now in
    escapes_end octets octets c.args.out.now.items c.args.out.now.items c.put.new.out.items c.put.result
    (escapes_all octets c.args.out.now.items) c.in-None.ensures c.put.ensures
