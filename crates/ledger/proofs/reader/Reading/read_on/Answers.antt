use Rattle.std.proofs.Common.{◌∙◌, arith, take, refl}
use Rattle.std.proofs.lemmas.Result.{err_from_is_err_and}
use Rattle.ledger.proofs.ReadingLemmas.{gives_more, gives_nothing, read_breaks}
use Rattle.ledger.proofs.reader.Reading.read_on.Goals as goal

pub loop-turn-init : goal.loop-turn-init
loop-turn-init g c = record {
  gives = gives_nothing (g.R.Input.state c.args.input.now) c.args.self.now;
  calls = λ small. omega (arith, small.0);
  no_failure = refl;
}

pub returns-in_err-take_all : goal.returns-in_err-take_all
returns-in_err-take_all g c =
    let p = err_from_is_err_and c.from_residual.result c.from_residual.ensures.1 in
    rw (p.1, p.2)
    (read_breaks (g.R.Input.state c.args.input.now) (g.R.Input.state c.loop-turn.input) (g.R.Input.state c.read.new.self)
    c.args.self.now c.loop-turn.self (take c.in-Ok.n c.read.new.buf) c.in_err-take_all.field-0.0 c.loop-turn.invariant.gives
    c.in-Ok.ensures.octets (c.in_err-take_all.ensures {u = tt}))

pub loop-turn-preserved : goal.loop-turn-preserved
loop-turn-preserved g c = record {
  gives = gives_more (g.R.Input.state c.args.input.now) (g.R.Input.state c.loop-turn.input)
      (g.R.Input.state c.read.new.self) c.args.self.now c.loop-turn.self c.take_all.new.self
      (take c.in-Ok.n c.read.new.buf) c.loop-turn.invariant.gives c.in-Ok.ensures.octets
      (c.in_ok-take_all.ensures {u = tt});
  calls = λ small. omega (arith, c.in-Ok.ensures.counted, c.loop-turn.invariant.calls small, small.0);
  no_failure = c.in-Ok.ensures.no_failure ∙ c.loop-turn.invariant.no_failure;
}
