use Rattle.std.proofs.Common.{ap, arith, length}
use Rattle.std.proofs.Math.Logic.{∥∥₁_map}
use Rattle.std.proofs.lemmas.List.{length-drop}
use Rattle.record_choice.proofs.Lists.{short_dropped, short_pushed}
use Rattle.record_choice.proofs.last_frames.LastFrames.push.Goals as goal

pub invariant_of-self-then-len-self : goal.invariant_of-self-then-len-self
invariant_of-self-then-len-self c =
    let q = c.push_back.new.self in
    let r = c.pop_front.new.self in
    record {
      range = c.args.self.now.range;
      few = omega (
        arith,
        r.ok.0,
        ap length c.pop_front.ensures.rest,
        length-drop 1 q.items,
        q.ok.0,
        c.in_ok-push_back.ensures.len,
        c.args.self.now.few,
      );
      short = ∥∥₁_map c.args.self.now.short (λ h. short_dropped r.items q.items c.pop_front.ensures.rest
          (short_pushed q.items c.args.self.now.frames.items c.extend_from_slice.new.self c.in_ok-push_back.ensures.items
          (omega (arith, c.requires, c.in_ok-extend_from_slice.ensures.len, c.extend_from_slice.new.self.ok)) h));
    }

pub invariant_of-self-else-len-self : goal.invariant_of-self-else-len-self
invariant_of-self-else-len-self c =
    let q = c.push_back.new.self in
    record {
      range = c.args.self.now.range;
      few = omega (arith, c.if-len-self.false, c.len.ensures);
      short = ∥∥₁_map c.args.self.now.short (λ h. short_pushed q.items c.args.self.now.frames.items
          c.extend_from_slice.new.self c.in_ok-push_back.ensures.items
          (omega (arith, c.requires, c.in_ok-extend_from_slice.ensures.len, c.extend_from_slice.new.self.ok)) h);
    }
