use Rattle.std.proofs.Common.{◌≡◌, length, map, refl, arith}
use Rattle.std.proofs.lemmas.List.{length-map}
use Rattle.archive_streams.proofs.Turns.{at_err}
use Rattle.archive_join.proofs.Ends.{joining_fresh}
use Rattle.archive_join.proofs.Turns.{joining_advanced, joining_halts, not_writer}
use Rattle.archive_join.proofs.joining.Join.join.Goals as goal

pub returns-in_err-advance-clause-halted : goal.returns-in_err-advance-clause-halted
returns-in_err-advance-clause-halted g c =
    let keeps = g.K.Kept.keeps c.args.kept.now in
    let text = g.K.Kept.text c.args.kept.now in
    let ds = map g.R.Input.state c.args.inputs.now in
    let all : length ds ≡ length c.args.self.now.heads.items =
    omega (arith, c.requires.inputs, length-map c.args.inputs.now g.R.Input.state, c.args.self.now.heads.ok.0) in
    let fault = c.in_err-advance.field-0.0 in
    at_err c.from_residual.result fault _ c.from_residual.ensures.1
    (joining_halts keeps text fault c.args.self.now c.advance.new.self ds ds _ _ _ c.advance.ensures.output.held
    (not_writer (Unit {0}) fault c.in_err-advance.ensures.reads.not_writer) c.in_err-advance.ensures.advances.halts
    (joining_fresh keeps text c.args.self.now ds _ c.requires.fresh all))

pub entries-init : goal.entries-init
entries-init g c =
    let keeps = g.K.Kept.keeps c.args.kept.now in
    let text = g.K.Kept.text c.args.kept.now in
    let ds = map g.R.Input.state c.args.inputs.now in
    let all : length ds ≡ length c.args.self.now.heads.items =
    omega (arith, c.requires.inputs, length-map c.args.inputs.now g.R.Input.state, c.args.self.now.heads.ok.0) in
    record {
      inputs = omega (arith, c.requires.inputs, c.advance.auto.inputs, c.advance.ensures.size);
      idle = c.in_ok-advance.ensures.idle;
      joining = joining_advanced keeps text c.args.self.now c.advance.new.self ds ds _ _ _ c.advance.ensures.output.held
          c.advance.ensures.output.count c.in_ok-advance.ensures.advances.on
          (joining_fresh keeps text c.args.self.now ds _ c.requires.fresh all);
      read = c.in_ok-advance.ensures.reads.told;
      written = refl;
    }
