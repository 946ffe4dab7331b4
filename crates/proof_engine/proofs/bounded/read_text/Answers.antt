use Rattle.std.proofs.Common.{rules, ◌≡◌, ◌+◌, ◌<◌, ◌++◌, ◌∙◌, List, ℕ, length, arith}
use Rattle.std.proofs.KnownBytes.{Consumes-trans}
use Rattle.std.proofs.lemmas.List.{length-append}
use Rattle.proof_engine.proofs.bounded.read_text.Goals as goal

pub returns-then-is_err-clause-outcome : goal.returns-then-is_err-clause-outcome
returns-then-is_err-clause-outcome g c =
    let text : List ℕ = c.pieces.text.items in
    let piece : List ℕ = c.in-Ok.piece.now in
    let size : length (text ++ piece) ≡ length text + length piece = length-append text piece in
    let some : 0 < length piece = search rules in
    record {
      given = text ++ piece;
      gave = record {
        consumed = Consumes-trans _ _ _ text piece c.pieces.invariant.consumed c.in-Ok.ensures.consumed;
        calls = omega (arith, size, c.in-Ok.ensures.calls, c.pieces.invariant.calls);
      };
      few = omega (
        arith,
        size,
        c.in-Ok.ensures.few,
        c.saturating_add-most.ensures,
        c.len.ensures,
        c.len-in-pieces.ensures,
        c.pieces.invariant.few,
        c.pieces-test.true,
      );
      no_end = c.in-Ok.ensures.no_end some ∙ c.pieces.invariant.no_end;
    }
