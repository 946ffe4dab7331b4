use Rattle.std.proofs.Common.{◌≡◌, ◌∙◌, arith, false, refl, sym, true}
use Rattle.std.proofs.Math.Logic.{∥∥₁_map}
use Rattle.session_output.proofs.Beginnings.{if_some_map}
use Rattle.session_output.proofs.session_output.SessionOutputOutput.write.Goals as goal

pub invariant_of-self : goal.invariant_of-self
invariant_of-self g c = record {
  runs = ∥∥₁_map c.args.self.now.runs (if_some_map _ _ g.K.Beginning.first (λ first runs begun.
      rw c.note.ensures (c.in-Ok.ensures.gives first g.K.Beginning.start c.args.self.now.given.octets (runs begun))));
  output = c.give.ensures.output ∙ c.args.self.now.output;
  diagnostics = c.give.ensures.diagnostics ∙ c.args.self.now.diagnostics;
  sound = λ _. c.in-Ok.ensures.sound;
  stopped = λ some.
      let none : false ≡ true = sym c.in-Ok.ensures.was_sound ∙ c.args.self.now.stopped some in
      cc;
}

pub invariant_of-self-in-Err : goal.invariant_of-self-in-Err
invariant_of-self-in-Err g c = record {
  runs = ∥∥₁_map c.args.self.now.runs (if_some_map _ _ g.K.Beginning.first (λ first runs begun.
      c.in-Err.ensures.gives first g.K.Beginning.start c.args.self.now.given.octets (runs begun)));
  output = c.give.ensures.output ∙ c.args.self.now.output;
  diagnostics = c.give.ensures.diagnostics ∙ c.args.self.now.diagnostics;
  sound = λ none. absurd (omega (arith, none, c.saturating_add-self-in-Err.ensures));
  stopped = λ _. refl;
}
