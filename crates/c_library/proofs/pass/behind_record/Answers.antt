use Rattle.std.proofs.Common.{◌≡◌, ℕ, ◌-◌, List, ◌++◌, ap, drop, inr, subst, sym, take, ◌∙◌}
use Rattle.syslog_frame.specs.Frames.{framed}
use Rattle.c_library.specs.Faults.{IsRead}
use Rattle.c_library.proofs.Passing.{frame_is, frame_parts}
use Rattle.c_library.proofs.pass.behind_record.Goals as goal

pub returns-in-None : goal.returns-in-None
returns-in-None c =
    let b = c.args.piece.now in
    let start = c.in-Complete.start in
    let end = c.in-Complete.end in
    let used = c.in-Complete.used in
    let h = c.in-Complete.ensures in
    let same : c.split_at-2.result.0.now ≡ h.frame =
    c.split_at-2.ensures.front ∙ ap (λ (u : List ℕ). take (end - start) u) c.split_at.ensures.back
    ∙ frame_is c.args.kind b start end used h in (
      h.frame,
      (h.whole.0, subst IsRead same c.in-None.ensures.read),
      frame_parts c.args.kind b start end used h
          ∙ ap (λ (u : List ℕ). framed c.args.kind h.frame ++ u) (sym c.split_at-3.ensures.back),
    )

pub returns-in-Some : goal.returns-in-Some
returns-in-Some c =
    let b = c.args.piece.now in
    let start = c.in-Complete.start in
    let end = c.in-Complete.end in
    let used = c.in-Complete.used in
    let h = c.in-Complete.ensures in
    let same : c.split_at-2.result.0.now ≡ h.frame =
    c.split_at-2.ensures.front ∙ ap (λ (u : List ℕ). take (end - start) u) c.split_at.ensures.back
    ∙ frame_is c.args.kind b start end used h in
    inr (
      h.frame,
      drop used b,
      h.whole.0,
      (λ good. c.in-Some.ensures.none (subst IsRead (sym same) good)),
      frame_parts c.args.kind b start end used h,
    )
