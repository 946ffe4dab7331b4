use Rattle.std.proofs.Common.{[], arith, refl, sym}
use Rattle.frame_engine.proofs.SessionLemmas.{nothing_goes_on}
use Rattle.frame_engine.proofs.stream_session.StreamSession.new.Goals as goal

pub returns-clause-begun : goal.returns-clause-begun
returns-clause-begun g c =
    let reads = rw (sym c.in_ok-scanner.ensures.reads.stands.framing_is) at c.in_ok-scanner.ensures.reads in (
      record {
        frames = [];
        rest = [];
        reads = reads;
        stands = g.met.D.FrameHandler.begun c.args.handler;
        number_is = omega arith;
        room_is = omega arith;
        goes_on = refl;
      },
      nothing_goes_on _ _,
    )
