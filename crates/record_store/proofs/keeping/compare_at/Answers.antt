use Rattle.std.proofs.Common.{◌≢◌, ◌∙◌, arith, rules, subst, sym, take}
use Rattle.std.specs.Prelude.{IsSomeAnd}
use Rattle.disk.specs.Calls.{Gives}
use Rattle.record_store.proofs.Compared.{agree, gives_text}
use Rattle.record_store.proofs.Differing.{ends_before, fronts_differ}
use Rattle.record_store.proofs.keeping.compare_at.Goals as goal

pub returns-then-eq-clause-agree : goal.returns-then-eq-clause-agree
returns-then-eq-clause-agree g c tells sound =
    let zero = g.D.Disk.state c.args.disk.now in
    let first = c.in_ok-n.ensures.done (c.read-2.ensures.told tells) in
    let second = c.in_ok-m.ensures.done tells in
    let left = gives_text (zero.entries c.args.one.now).now c.args.at c.read.new.buf c.in_ok-n.n (first.gives sound) in
    let right = gives_text (zero.entries c.args.other.now).now c.args.at c.read-2.new.buf c.in_ok-m.m
    (subst (λ e. IsSomeAnd e.now (λ file. Gives file c.args.at c.read-2.new.buf c.in_ok-m.m))
    (first.same.entries c.args.other.now) (second.gives (first.same.lost ∙ sound))) in (
      left.0,
      right.0,
      left.1,
      right.1,
      agree left.0 right.0 c.read.new.buf c.read-2.new.buf c.args.at c.in_ok-n.n c.in_ok-m.m c.min-both.result
          c.min-both.ensures (λ zero. absurd (omega arith)) (omega arith) (omega arith) (search rules) left.2 right.2,
    )

pub returns-then-both-eq0-clause-differ : goal.returns-then-both-eq0-clause-differ
returns-then-both-eq0-clause-differ g c tells _ sound =
    let zero = g.D.Disk.state c.args.disk.now in
    let first = c.in_ok-n.ensures.done (c.read-2.ensures.told tells) in
    let second = c.in_ok-m.ensures.done tells in
    let left = gives_text (zero.entries c.args.one.now).now c.args.at c.read.new.buf c.in_ok-n.n (first.gives sound) in
    let right = gives_text (zero.entries c.args.other.now).now c.args.at c.read-2.new.buf c.in_ok-m.m
    (subst (λ e. IsSomeAnd e.now (λ file. Gives file c.args.at c.read-2.new.buf c.in_ok-m.m))
    (first.same.entries c.args.other.now) (second.gives (first.same.lost ∙ sound))) in (
      left.0,
      right.0,
      left.1,
      right.1,
      ends_before left.0 right.0 c.read.new.buf c.read-2.new.buf c.args.at c.in_ok-n.n c.in_ok-m.m
          (sym c.min-both.ensures ∙ c.if-both-eq0.true) c.if-n-m.false (omega arith) (omega arith) left.2 right.2,
    )

pub returns-clause-differ : goal.returns-clause-differ
returns-clause-differ g c tells _ sound =
    let zero = g.D.Disk.state c.args.disk.now in
    let first = c.in_ok-n.ensures.done (c.read-2.ensures.told tells) in
    let second = c.in_ok-m.ensures.done tells in
    let left = gives_text (zero.entries c.args.one.now).now c.args.at c.read.new.buf c.in_ok-n.n (first.gives sound) in
    let right = gives_text (zero.entries c.args.other.now).now c.args.at c.read-2.new.buf c.in_ok-m.m
    (subst (λ e. IsSomeAnd e.now (λ file. Gives file c.args.at c.read-2.new.buf c.in_ok-m.m))
    (first.same.entries c.args.other.now) (second.gives (first.same.lost ∙ sound))) in
    let apart : take c.min-both.result c.read.new.buf ≢ take c.min-both.result c.read-2.new.buf = search rules in (
      left.0,
      right.0,
      left.1,
      right.1,
      fronts_differ left.0 right.0 c.read.new.buf c.read-2.new.buf c.args.at c.in_ok-n.n c.in_ok-m.m c.min-both.result
          c.min-both.ensures apart left.2 right.2,
    )
