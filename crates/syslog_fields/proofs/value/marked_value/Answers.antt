use Rattle.std.proofs.Common.{arith, ap, length, sym, ◌∙◌}
use Rattle.std.proofs.lemmas.List.{length-drop}
use Rattle.syslog_fields.proofs.MarkedValues.{passed_none, passed_found, passed_more, quoted}
use Rattle.syslog_fields.proofs.Values.{escapes_take}
use Rattle.syslog_fields.proofs.value.marked_value.Goals as goal

pub loop-offset-init : goal.loop-offset-init
loop-offset-init c = passed_none c.args.octets.now

pub loop-offset-preserved : goal.loop-offset-preserved
loop-offset-preserved c =
    let m = passed_found c.args.octets.now c.loop-offset.rest.now c.split_at.result.1.now
    c.split_at-in-Some.result.0.now c.in-Some.offset c.loop-offset.invariant c.in-Some.ensures c.split_at.ensures.back
    c.split_at-in-Some.ensures.front in
    passed_more c.args.octets.now c.split_at.result.1.now c.split_at-in-Some.result.0.now c.behind_first.result.now
    c.behind_escapes-rest.result.now m (sym c.ends_taking.ensures ∙ c.if-not-ends_taking.false) c.behind_first.ensures
    c.behind_escapes-rest.ensures

pub returns-in-Ok : goal.returns-in-Ok
returns-in-Ok c =
    let m = passed_found c.args.octets.now c.loop-offset.rest.now c.split_at.result.1.now
    c.split_at-in-Some.result.0.now c.in-Some.offset c.loop-offset.invariant c.in-Some.ensures c.split_at.ensures.back
    c.split_at-in-Some.ensures.front in (
      quoted c.args.octets.now c.split_at-in-Some.result.0.now c.split_at.result.1.now c.in-Ok.behind.now m.parts
          c.in-Ok.ensures,
      (m.unmarked, sym c.ends_taking.ensures ∙ c.if-not-ends_taking.true),
    )

pub loop-offset-smaller : goal.loop-offset-smaller
loop-offset-smaller c =
    omega (
      arith,
      c.in-Some.ensures.0.high,
      escapes_take c.behind_first.result.now c.behind_escapes-rest.result.now c.behind_escapes-rest.ensures,
      ap length c.behind_first.ensures,
      ap length c.split_at.ensures.back,
      length-drop 1 c.split_at.result.1.now,
      length-drop c.in-Some.offset c.loop-offset.rest.now,
    )
