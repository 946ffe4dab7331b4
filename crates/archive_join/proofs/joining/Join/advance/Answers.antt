use Rattle.std.proofs.Common.{rules, ◌≡◌, ◌∙◌, ◌+◌, ◌<◌, Bool, List, false, drop, length, take, sym, subst, arith}
use Rattle.std.proofs.Common.{drop-set-lt}
use Rattle.archive_streams.proofs.Turns.{at_err}
use Rattle.archive_join.specs.Sides.{AreIdle}
use Rattle.archive_join.proofs.Sides.{behind_more, idle_more, nearer_more}
use Rattle.archive_join.proofs.joining.Join.advance.Goals as goal

pub returns-in_err-advance_at-clause-advances : goal.returns-in_err-advance_at-clause-advances
returns-in_err-advance_at-clause-advances g c =
    record {
      on = search rules;
      halts = at_err c.from_residual.result c.in_err-advance_at.field-0.0 _ c.from_residual.ensures.1
          (λ ds tss ws st. c.in_err-advance_at.ensures.advances.halts ds tss ws (c.heads.invariant.advances ds tss ws st));
    }

pub heads-preserved : goal.heads-preserved
heads-preserved g c =
    let at = c.heads.at in
    let was = c.heads.self in
    let now = c.advance_at.new.self in
    let before = c.heads.invariant in
    let done = c.in_ok-advance_at.ensures in
    let within : at < length was.holders.items = omega (arith, was.holders.ok.0, was.sizes, c.heads-test.true) in
    record {
      size = done.size ∙ before.size;
      inputs = omega (arith, c.advance_at.auto.inputs, before.inputs);
      held = done.output.held ∙ before.held;
      count = done.output.count ∙ before.count;
      idle = subst (λ (l : List Bool). AreIdle (take (at + 1) l)) (sym done.holders)
          (idle_more was.holders.items at within before.idle);
      advances = λ ds tss ws st. done.advances.on ds tss ws (before.advances ds tss ws st);
      no_farther = omega (arith, done.nears.no_farther, before.no_farther);
      nearer = nearer_more c.args.self.now.heads.items was.heads.items now.heads.items c.args.self.now.holders.items
          was.holders.items at before.heads before.holders before.no_farther before.nearer done.nears;
      heads = done.nears.others ∙ behind_more was.heads.items c.args.self.now.heads.items at before.heads;
      holders = subst (λ (l : List Bool). drop (at + 1) l ≡ drop (at + 1) c.args.self.now.holders.items)
          (sym done.holders)
          (drop-set-lt (at + 1) was.holders.items at false (omega arith)
          ∙ behind_more was.holders.items c.args.self.now.holders.items at before.holders);
      failures = done.reads.told ∙ before.failures;
    }
