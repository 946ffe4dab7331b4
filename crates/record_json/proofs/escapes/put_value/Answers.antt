use Rattle.octet_language.specs.Language.{Only}
use Rattle.syslog_fields.proofs.Appends.{puts_as}
use Rattle.record_json.specs.Texts.{ValueOf}
use Rattle.record_json.proofs.Escaping.{plain_value}
use Rattle.record_json.proofs.escapes.put_value.Goals as goal

pub returns-in-None : goal.returns-in-None
returns-in-None c =
    let raw = c.args.raw.now in
    puts_as (Only raw) (ValueOf raw) c.args.out.now.items c.put.new.out.items c.put.result
    (plain_value raw c.in-None.ensures) c.put.ensures
