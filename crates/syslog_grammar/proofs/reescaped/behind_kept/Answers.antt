use Rattle.std.proofs.Common.{arith, length, ap, sym, ◌∙◌}
use Rattle.std.proofs.lemmas.Bool.{false≢true}
use Rattle.std.proofs.lemmas.List.{length-drop}
use Rattle.syslog_grammar.proofs.FirstForms.{kept_ends, kept_escapes, kept_lone, kept_missing, kept_more, kept_none}
use Rattle.syslog_fields.proofs.Values.{escapes_take}
use Rattle.syslog_grammar.proofs.reescaped.behind_kept.Goals as goal

pub loop-offset-init : goal.loop-offset-init
loop-offset-init c = record { kept = kept_none c.args.octets.now; within = omega arith }

pub returns-then-begins_with-clause-kept : goal.returns-then-begins_with-clause-kept
returns-then-begins_with-clause-kept c =
    let first = c.begins_with.ensures.mark c.if-begins_with.true in
    kept_ends c.args.octets.now c.loop-offset.rest.now c.split_at.result.1.now c.behind_first-behind.result.now first.0
    c.in-Some.offset c.in-Some.ensures c.split_at.ensures.back c.behind_first-behind.ensures first.1
    c.loop-offset.invariant.kept

pub returns-then-not-begins_special-clause-kept : goal.returns-then-not-begins_special-clause-kept
returns-then-not-begins_special-clause-kept c =
    kept_lone c.args.octets.now c.loop-offset.rest.now c.split_at.result.1.now c.behind_first-behind.result.now
    c.in-Some.offset c.in-Some.ensures c.split_at.ensures.back c.behind_first-behind.ensures
    (c.begins_with.ensures.other (λ e. false≢true (sym c.if-begins_with.false ∙ e)))
    (c.begins_special.ensures.other (λ e. false≢true (sym c.if-not-begins_special.true ∙ e)))
    c.loop-offset.invariant.kept

pub loop-offset-preserved : goal.loop-offset-preserved
loop-offset-preserved c = record {
  kept =
      kept_escapes c.args.octets.now c.behind_first.result.now c.behind_escapes-rest.result.now
      (kept_more c.args.octets.now c.loop-offset.rest.now c.split_at.result.1.now c.behind_first-behind.result.now
      c.behind_first.result.now c.in-Some.offset c.in-Some.ensures c.split_at.ensures.back
      c.behind_first-behind.ensures (c.begins_with.ensures.other (λ e. false≢true (sym c.if-begins_with.false ∙ e)))
      (c.begins_special.ensures.special c.if-not-begins_special.false) c.behind_first.ensures
      c.loop-offset.invariant.kept)
      c.behind_escapes-rest.ensures;
  within =
      omega (
        arith,
        c.loop-offset.invariant.within,
        escapes_take c.behind_first.result.now c.behind_escapes-rest.result.now c.behind_escapes-rest.ensures,
        ap length c.behind_first.ensures,
        ap length c.behind_first-behind.ensures,
        ap length c.split_at.ensures.back,
        length-drop 1 c.behind_first-behind.result.now,
        length-drop 1 c.split_at.result.1.now,
        length-drop c.in-Some.offset c.loop-offset.rest.now,
      );
}

pub returns-clause-kept : goal.returns-clause-kept
returns-clause-kept c = kept_missing c.args.octets.now c.loop-offset.rest.now c.in_default.ensures
    c.loop-offset.invariant.kept

pub loop-offset-smaller : goal.loop-offset-smaller
loop-offset-smaller c =
    omega (
      arith,
      c.in-Some.ensures.0.high,
      escapes_take c.behind_first.result.now c.behind_escapes-rest.result.now c.behind_escapes-rest.ensures,
      ap length c.behind_first.ensures,
      ap length c.behind_first-behind.ensures,
      ap length c.split_at.ensures.back,
      length-drop 1 c.behind_first-behind.result.now,
      length-drop 1 c.split_at.result.1.now,
      length-drop c.in-Some.offset c.loop-offset.rest.now,
    )
