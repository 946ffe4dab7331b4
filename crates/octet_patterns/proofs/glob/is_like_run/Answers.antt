use Rattle.std.proofs.Common.{sym}
use Rattle.octet_patterns.proofs.Runs.{fits_like, like_fits, run_length}
use Rattle.octet_patterns.proofs.glob.is_like_run.Goals as goal

pub returns-then-run-text : goal.returns-then-run-text
returns-then-run-text c = λ h. (
  λ on. absurd cc,
  λ like. absurd (c.if-run-text.true (sym (run_length c.args.run.now c.args.text.now h like))),
)

pub returns : goal.returns
returns c = λ h. (
  λ on. fits_like c.args.run.now c.args.text.now c.if-run-text.false (c.are_alike.ensures.0 on),
  λ like. c.are_alike.ensures.1 (like_fits c.args.run.now c.args.text.now h like),
)
