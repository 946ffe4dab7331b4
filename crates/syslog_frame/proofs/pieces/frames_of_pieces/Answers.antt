use Rattle.std.proofs.Common.{◌≡◌, map, take, arith, refl, inl, inr}
use Rattle.std.specs.Prelude.{option_map}
use Rattle.std.specs.List.{flat_map}
use Rattle.std.proofs.lemmas.Result.{err_from_is_err_and}
use Rattle.syslog_frame.specs.Pieces.{IsRead}
use Rattle.syslog_frame.specs.declared.limits.TheConstants.{FRAME_MAX}
use Rattle.syslog_frame.specs.declared.fault.PiecesFault.TheVariants.{StreamTooLong}
use Rattle.syslog_frame.specs.declared.pieces.StreamEnd.TheVariants.{BadCount}
use Rattle.syslog_frame.proofs.Delivered.{pieces_all, read_whole, read_bad, only_read, delivered_next, delivered_length}
use Rattle.syslog_frame.proofs.Delivered.{piece_length}
use Rattle.syslog_frame.proofs.pieces.frames_of_pieces.Goals as goal

pub returns-in_err-at-clause-too_long : goal.returns-in_err-at-clause-too_long
returns-in_err-at-clause-too_long c =
    let p = err_from_is_err_and c.from_residual.result c.from_residual.ensures.1 in
    let xs = c.args.pieces.now in
    let i = c.loop-piece.piece-index in
    let at = delivered_length (λ v. v.items) _ c.loop-piece.scanner c.args.framing xs i _
    c.loop-piece.invariant.delivered in
    let within = piece_length (λ v. v.items) xs i c.piece-item.result c.deref.result.now c.loop-piece-test.true
    c.piece-item.is c.deref.ensures.value in
    rw (p.1, p.2) (λ e. let long : c.in_err-at.field-0.0 ≡ StreamTooLong = cc in
    omega (arith, c.in_err-at.ensures.too_long long, at, within))

pub returns-in-Some : goal.returns-in-Some
returns-in-Some c =
    let xs = c.args.pieces.now in
    let i = c.loop-piece.piece-index in
    let out = map (option_map (λ v. v.items)) c.read_piece.new.out.items in
    let bad = rw c.in-Some.is at (c.in_ok-at.ensures.delivers c.args.framing (flat_map (λ v. v.items) (take i xs))
    c.loop-piece.invariant.delivered) in
    let whole : IsRead FRAME_MAX c.args.framing (flat_map (λ v. v.items) xs) out (BadCount c.in-Some.at) =
    read_bad (λ v. v.items) FRAME_MAX c.args.framing xs i c.piece-item.result c.deref.result.now out c.in-Some.at
    c.loop-piece-test.true c.piece-item.is c.deref.ensures.value bad in
    record {
      read = whole;
      only = only_read FRAME_MAX c.args.framing (flat_map (λ v. v.items) xs) out (BadCount c.in-Some.at) whole;
      too_long = λ e. absurd cc;
      fits = inr (c.in-Some.at, refl);
    }

pub loop-piece-preserved : goal.loop-piece-preserved
loop-piece-preserved c =
    let xs = c.args.pieces.now in
    let i = c.loop-piece.piece-index in
    let on = rw c.in_default-2.is at (c.in_ok-at.ensures.delivers c.args.framing (flat_map (λ v. v.items) (take i xs))
    c.loop-piece.invariant.delivered) in
    record {
      reading = c.in_ok-at.ensures.reading (rw c.in_default-2.is refl);
      bound = c.in_ok-at.ensures.bound c.loop-piece.invariant.bound;
      delivered = delivered_next (λ v. v.items) FRAME_MAX c.read_piece.new.scanner c.args.framing xs i
          c.piece-item.result c.deref.result.now _ c.loop-piece-test.true c.piece-item.is c.deref.ensures.value on;
    }

pub returns : goal.returns
returns c =
    let xs = c.args.pieces.now in
    let i = c.loop-piece.piece-index in
    let d = c.loop-piece.invariant.delivered in
    let out = map (option_map (λ v. v.items)) c.loop-piece.frames.items in
    let stops = c.stop_of-stop.ensures c.args.framing (flat_map (λ v. v.items) (take i xs)) d.frames d.rest d.reads in
    let whole : IsRead FRAME_MAX c.args.framing (flat_map (λ v. v.items) xs) out c.stop_of-stop.result =
    read_whole (λ v. v.items) FRAME_MAX c.loop-piece.scanner c.args.framing xs i out c.stop_of-stop.result
    c.loop-piece-test.false d stops.0 stops.1 in
    let at = delivered_length (λ v. v.items) FRAME_MAX c.loop-piece.scanner c.args.framing xs i out d in
    record {
      read = whole;
      only = only_read FRAME_MAX c.args.framing (flat_map (λ v. v.items) xs) out c.stop_of-stop.result whole;
      too_long = λ e. absurd cc;
      fits = inl (rw (← pieces_all (λ v. v.items) xs i c.loop-piece-test.false)
          (omega (arith, at, c.loop-piece.invariant.bound)));
    }
