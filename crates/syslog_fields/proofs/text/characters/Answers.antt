use Rattle.std.proofs.lemmas.Result.{err_from_is_err_and}
use Rattle.syslog_fields.specs.Utf8.{IsCharacter}
use Rattle.syslog_fields.proofs.Characters.{character_some}
use Rattle.syslog_fields.proofs.Loops.{takes_some}
use Rattle.syslog_fields.proofs.Messages.{goes_more, goes_bad}
use Rattle.syslog_fields.proofs.text.characters.Goals as goal

pub returns-in_err-behind : goal.returns-in_err-behind
returns-in_err-behind c =
    let p = err_from_is_err_and c.from_residual.result c.from_residual.ensures.1 in
    rw (p.1, p.2) (goes_bad c.args.octets.now c.loop-octet.rest.now c.in-Some._after.now c.in-Some._octet _
    c.in-Some.ensures c.in_err-behind.ensures c.loop-octet.invariant)

pub loop-octet-smaller : goal.loop-octet-smaller
loop-octet-smaller c = takes_some IsCharacter c.loop-octet.rest.now c.in_ok-behind.behind.now character_some
    c.in_ok-behind.ensures

pub loop-octet-preserved : goal.loop-octet-preserved
loop-octet-preserved c = goes_more c.args.octets.now c.loop-octet.rest.now c.in_ok-behind.behind.now
    c.in-Some._after.now c.in-Some._octet c.in-Some.ensures c.in_ok-behind.ensures c.loop-octet.invariant
