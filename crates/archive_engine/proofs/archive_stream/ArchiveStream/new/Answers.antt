use Rattle.std.proofs.Common.{arith, refl, sym}
use Rattle.frame_engine.proofs.SessionLemmas.{nothing_goes_on}
use Rattle.archive_engine.proofs.GatheredSets.{holds_none}
use Rattle.archive_engine.proofs.archive_stream.ArchiveStream.new.Goals as goal

pub returns-clause-begun : goal.returns-clause-begun
returns-clause-begun c =
    let h = rw (sym c.in_ok-stream.ensures.framing) at c.in_ok-stream.ensures.begun in (
      (
        holds_none _ _ c.in_ok-stream.ensures.set c.new.ensures,
        record {
          frames = h.frames;
          rest = h.rest;
          reads = h.reads;
          stands = h.stands;
          number_is = h.number_is;
          room_is = omega arith;
          goes_on = refl;
        },
      ),
      nothing_goes_on _ _,
    )
