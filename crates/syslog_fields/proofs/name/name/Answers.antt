use Rattle.std.proofs.Common.{rules, ◌<◌, ◌≤◌, length, inr, refl}
use Rattle.octet_language.specs.Language.{IfFirst}
use Rattle.syslog_fields.proofs.Classes.{at_limit}
use Rattle.syslog_fields.proofs.Names.{EndsName}
use Rattle.syslog_value.specs.Parts.{IsNameOctet}
use Rattle.syslog_fields.proofs.name.name.Goals as goal

pub returns-then-goes_on : goal.returns-then-goes_on
returns-then-goes_on c =
    let goes = c.goes_on.ensures.goes c.if-goes_on.true in
    let n = length c.split_at.result.0.now in
    let most : n ≤ 32 = search rules in
    let ends : n < 32 → IfFirst EndsName c.split_at.result.1.now = search rules in
    record {
      read = c.split_at.result.0.now;
      rest = c.split_at.result.1.now;
      parts = search rules;
      count = refl;
      octets = search rules;
      ends = inr (at_limit IsNameOctet 32 n c.split_at.result.1.now most ends goes.0 goes.1, goes.0);
    }
