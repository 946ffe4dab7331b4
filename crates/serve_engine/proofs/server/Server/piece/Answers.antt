use Rattle.std.proofs.Common.{◌++◌, true, false, List, refl, subst, sym, ap, append_assoc, ◌∙◌}
use Rattle.syslog_collect.specs.History.{AcceptedEvent, Ended, Piece, history_of}
use Rattle.serve_engine.specs.Events.{Manner, Receives, ends_in_bad_count, manner_of}
use Rattle.serve_engine.specs.Intakes.{StandsBy}
use Rattle.serve_engine.specs.Refusals.{kept_in}
use Rattle.serve_engine.specs.Notes.{told_in}
use Rattle.serve_engine.specs.Peers.{peer_of}
use Rattle.serve_engine.proofs.Told.{piece_lost, piece_told, piece_turn}
use Rattle.serve_engine.proofs.Refused.{ended_none_lost, hears_kept, kept_at, kept_frames, kept_starved, none_lost, one_lost}
use Rattle.serve_engine.proofs.Refused.{refused_none_lost}
use Rattle.serve_engine.proofs.Turns.{accepted_closing, accepted_own, ended_memory, kept_memory, lost_memory, lost_taken}
use Rattle.serve_engine.proofs.Turns.{lost_refused, quiet_memory, still_settled, taken_on}
use Rattle.serve_engine.proofs.server.Server.piece.Goals as goal

pub returns-then-frame_waits-clause-served : goal.returns-then-frame_waits-clause-served
returns-then-frame_waits-clause-served g c = (
  false,
  refl,
  λ k first before at none.
      let made = c.receive_piece-received.ensures.received k first before at in
      let quiet = c.receive_piece-received.ensures.settled k first before at none in
      let os = c.receive_piece-received.new.self.outcomes.items in
      let one = c.frame_waits.ensures.one c.if-frame_waits.true _ first (before ++ made.0) made.1.collector in
      let taken = accepted_own (manner_of c.args.self.now.intake.collector) before (Piece c.args.conn c.args.octets.now)
      c.receive_piece-received.result os made.0 _
      (_, _, none, quiet, made.2, c.receive_piece-received.ensures.room k first before at)
      (kept_memory c.receive_piece-received.result os _ c.in-Memory.is one)
      (ended_memory c.receive_piece-received.result _ c.in-Memory.is one) in (
        made.0,
        made.1,
        taken,
        kept_frames taken _ _
            (hears_kept (g.N.Output.state) (g.R.Output.state) _ c.args.octets.now _ _ _ c.begin_piece.new.self
            c.receive_piece-received.new.observer _ _ (kept_at (g.R.Output.state) c.begin_piece.new.self
            c.args.self.now.report c.args.octets.now c.begin_piece.ensures.refused c.begin_piece.ensures.counts) refl
            (c.receive_piece-received.ensures.hears k first before at))
            (ended_none_lost c.receive_piece-received.result _ _ c.in-Memory.is),
        tt,
      ),
)

pub returns-else-frame_waits-clause-served : goal.returns-else-frame_waits-clause-served
returns-else-frame_waits-clause-served g c = (
  true,
  c.lose.ensures.closes,
  λ k first before at none.
      let made = c.receive_piece-received.ensures.received k first before at in
      let settled = c.receive_piece-received.ensures.settled k first before at none in
      let os = c.receive_piece-received.new.self.outcomes.items in
      let own = c.frame_waits.ensures.none c.if-frame_waits.false in
      let quiet = quiet_memory _ (history_of before) _ _ c.args.conn c.args.octets.now c.receive_piece-received.result os
      made.0 c.in-Memory.is none own made.2 in
      let lost = c.lose.ensures.served k first (before ++ made.0) made.1 quiet in
      let taken = accepted_closing (manner_of c.args.self.now.intake.collector) before c.args.conn c.args.octets.now
      c.receive_piece-received.result os made.0 lost.0 _
      (_, _, none, settled, made.2, c.receive_piece-received.ensures.room k first before at)
      (lost_memory c.receive_piece-received.result os _ c.in-Memory.is own) (subst (λ (w : Manner). Receives w
      (before ++ made.0) (Ended c.args.conn) lost.0 c.lose.result) c.receive_piece-received.ensures.manner lost.2)
      c.lose.ensures.turn in (
        made.0 ++ lost.0,
        subst (λ (es : List AcceptedEvent). StandsBy (g.S.Store.entries) (g.K.Keeping.stands) c.lose.new.self.intake k
            first es) (append_assoc before made.0 lost.0) lost.1,
        taken,
        kept_starved taken _ (kept_in (g.R.Output.state) c.receive_piece-received.new.observer) _ c.in-Memory.is
            (hears_kept (g.N.Output.state) (g.R.Output.state) _ c.args.octets.now _ _ _ c.begin_piece.new.self
            c.receive_piece-received.new.observer _ _ (kept_at (g.R.Output.state) c.begin_piece.new.self
            c.args.self.now.report c.args.octets.now c.begin_piece.ensures.refused c.begin_piece.ensures.counts) refl
            (c.receive_piece-received.ensures.hears k first before at))
            (one_lost c.receive_piece-received.result _ _ _ c.in-Memory.is c.lose.ensures.turn
            (rw c.lose.ensures.report c.lost.ensures.kept) (rw c.lose.ensures.report c.lost.ensures.counts)),
        rw c.lose.ensures.turn lost.3,
      ),
)

pub returns-in-Refused-clause-served : goal.returns-in-Refused-clause-served
returns-in-Refused-clause-served g c = (
  true,
  c.lose-in-Refused.ensures.closes,
  λ k first before at none.
      let made = c.receive_piece-received.ensures.received k first before at in
      let settled = c.receive_piece-received.ensures.settled k first before at none in
      let quiet = rw c.in-Refused.is at settled in
      let os = c.receive_piece-received.new.self.outcomes.items in
      let lost = c.lose-in-Refused.ensures.served k first (before ++ made.0) made.1 quiet in
      let taken = accepted_closing (manner_of c.args.self.now.intake.collector) before c.args.conn c.args.octets.now
      c.receive_piece-received.result os made.0 lost.0 _
      (_, _, none, settled, made.2, c.receive_piece-received.ensures.room k first before at)
      (lost_refused c.receive_piece-received.result os _ c.in-Refused.is) (subst (λ (w : Manner). Receives w (before ++ made.0)
      (Ended c.args.conn) lost.0 c.lose-in-Refused.result) c.receive_piece-received.ensures.manner lost.2)
      c.lose-in-Refused.ensures.turn in (
        made.0 ++ lost.0,
        subst (λ (es : List AcceptedEvent). StandsBy (g.S.Store.entries) (g.K.Keeping.stands)
            c.lose-in-Refused.new.self.intake k first es) (append_assoc before made.0 lost.0) lost.1,
        taken,
        kept_frames taken _ _
            (hears_kept (g.N.Output.state) (g.R.Output.state) _ c.args.octets.now _ _ _ c.begin_piece.new.self
            c.receive_piece-received.new.observer _ _ (kept_at (g.R.Output.state) c.begin_piece.new.self
            c.args.self.now.report c.args.octets.now c.begin_piece.ensures.refused c.begin_piece.ensures.counts)
            (ap (λ r. kept_in (g.R.Output.state) r) (sym c.lose-in-Refused.ensures.report))
            (c.receive_piece-received.ensures.hears k first before at))
            (refused_none_lost c.receive_piece-received.result _ _ c.in-Refused.is),
        rw c.lose-in-Refused.ensures.turn lost.3,
      ),
)

pub returns-then-ends_in_bad_count-clause-served : goal.returns-then-ends_in_bad_count-clause-served
returns-then-ends_in_bad_count-clause-served g c = (
  true,
  c.lose-then-ends_in_bad_count.ensures.closes,
  λ k first before at none.
      let made = c.receive_piece-received.ensures.received k first before at in
      let settled = c.receive_piece-received.ensures.settled k first before at none in
      let quiet = still_settled _ _ c.in-Accepted.is settled in
      let os = c.receive_piece-received.new.self.outcomes.items in
      let lost = c.lose-then-ends_in_bad_count.ensures.served k first (before ++ made.0) made.1 quiet in
      let taken = accepted_closing (manner_of c.args.self.now.intake.collector) before c.args.conn c.args.octets.now
      c.receive_piece-received.result os made.0 lost.0 _
      (_, _, none, settled, made.2, c.receive_piece-received.ensures.room k first before at)
      (lost_taken c.receive_piece-received.result os _ true c.in-Accepted.is
      (ap ends_in_bad_count (sym c.as_slice.ensures.value) ∙ sym c.ends_in_bad_count.ensures
      ∙ c.if-ends_in_bad_count.true)) (subst (λ (w : Manner). Receives w (before ++ made.0)
      (Ended c.args.conn) lost.0 c.lose-then-ends_in_bad_count.result)
      c.receive_piece-received.ensures.manner lost.2)
      c.lose-then-ends_in_bad_count.ensures.turn in (
        made.0 ++ lost.0,
        subst (λ (es : List AcceptedEvent). StandsBy (g.S.Store.entries) (g.K.Keeping.stands)
            c.lose-then-ends_in_bad_count.new.self.intake k first es) (append_assoc before made.0 lost.0) lost.1,
        taken,
        kept_frames taken _ _
            (hears_kept (g.N.Output.state) (g.R.Output.state) _ c.args.octets.now _ _ _ c.begin_piece.new.self
            c.receive_piece-received.new.observer _ _ (kept_at (g.R.Output.state) c.begin_piece.new.self
            c.args.self.now.report c.args.octets.now c.begin_piece.ensures.refused c.begin_piece.ensures.counts)
            (ap (λ r. kept_in (g.R.Output.state) r) (sym c.lose-then-ends_in_bad_count.ensures.report))
            (c.receive_piece-received.ensures.hears k first before at))
            (none_lost c.receive_piece-received.result _ _ c.in-Accepted.is),
        rw c.lose-then-ends_in_bad_count.ensures.turn lost.3,
      ),
)

pub returns-else-ends_in_bad_count-clause-served : goal.returns-else-ends_in_bad_count-clause-served
returns-else-ends_in_bad_count-clause-served g c = (
  false,
  refl,
  λ k first before at none.
      let made = c.receive_piece-received.ensures.received k first before at in
      let settled = c.receive_piece-received.ensures.settled k first before at none in
      let os = c.receive_piece-received.new.self.outcomes.items in
      let taken = accepted_own (manner_of c.args.self.now.intake.collector) before (Piece c.args.conn c.args.octets.now)
      c.receive_piece-received.result os made.0 _
      (_, _, none, settled, made.2, c.receive_piece-received.ensures.room k first before at)
      (lost_taken c.receive_piece-received.result os _ false c.in-Accepted.is
      (ap ends_in_bad_count (sym c.as_slice.ensures.value) ∙ sym c.ends_in_bad_count.ensures
      ∙ c.if-ends_in_bad_count.false)) (taken_on c.receive_piece-received.result _ c.in-Accepted.is) in (
        made.0,
        made.1,
        taken,
        kept_frames taken _ _
            (hears_kept (g.N.Output.state) (g.R.Output.state) _ c.args.octets.now _ _ _ c.begin_piece.new.self
            c.receive_piece-received.new.observer _ _ (kept_at (g.R.Output.state) c.begin_piece.new.self
            c.args.self.now.report c.args.octets.now c.begin_piece.ensures.refused c.begin_piece.ensures.counts) refl
            (c.receive_piece-received.ensures.hears k first before at))
            (none_lost c.receive_piece-received.result _ _ c.in-Accepted.is),
        still_settled _ _ c.in-Accepted.is settled,
      ),
)

pub returns-then-frame_waits-clause-notes : goal.returns-then-frame_waits-clause-notes
returns-then-frame_waits-clause-notes g c k first before at =
    piece_turn (peer_of c.begin_piece.new.self.way) (told_in (g.N.Output.state) c.args.self.now.report) (told_in
    (g.N.Output.state) c.begin_piece.new.self) (told_in (g.N.Output.state)
    c.receive_piece-received.new.observer) (told_in (g.N.Output.state) c.receive_piece-received.new.observer)
    c.begin_piece.ensures.told
    (piece_told (g.N.Output.state) (g.R.Output.state) _ c.args.octets.now _ _ _ c.begin_piece.new.self
    c.receive_piece-received.new.observer (c.receive_piece-received.ensures.hears k first before at)) refl

pub returns-else-frame_waits-clause-notes : goal.returns-else-frame_waits-clause-notes
returns-else-frame_waits-clause-notes g c k first before at =
    piece_lost (peer_of c.begin_piece.new.self.way) (peer_of c.get-way.result) (told_in
    (g.N.Output.state) c.args.self.now.report) (told_in (g.N.Output.state) c.begin_piece.new.self) (told_in
    (g.N.Output.state) c.receive_piece-received.new.observer) (told_in (g.N.Output.state) c.lost.new.self)
    (told_in (g.N.Output.state) c.lose.new.self.report) c.begin_piece.ensures.told
    (piece_told (g.N.Output.state) (g.R.Output.state) _ c.args.octets.now _ _ _ c.begin_piece.new.self
    c.receive_piece-received.new.observer (c.receive_piece-received.ensures.hears k first before at))
    (ap peer_of c.begin_piece.ensures.way) c.lost.ensures.told (ap (told_in
    (g.N.Output.state)) c.lose.ensures.report)

pub returns-in-Refused-clause-notes : goal.returns-in-Refused-clause-notes
returns-in-Refused-clause-notes g c k first before at =
    piece_turn (peer_of c.begin_piece.new.self.way) (told_in (g.N.Output.state) c.args.self.now.report) (told_in
    (g.N.Output.state) c.begin_piece.new.self) (told_in (g.N.Output.state)
    c.receive_piece-received.new.observer) (told_in (g.N.Output.state) c.lose-in-Refused.new.self.report)
    c.begin_piece.ensures.told
    (piece_told (g.N.Output.state) (g.R.Output.state) _ c.args.octets.now _ _ _ c.begin_piece.new.self
    c.receive_piece-received.new.observer (c.receive_piece-received.ensures.hears k first before at)) (ap (told_in
    (g.N.Output.state)) c.lose-in-Refused.ensures.report)

pub returns-then-ends_in_bad_count-clause-notes : goal.returns-then-ends_in_bad_count-clause-notes
returns-then-ends_in_bad_count-clause-notes g c k first before at =
    piece_turn (peer_of c.begin_piece.new.self.way) (told_in (g.N.Output.state) c.args.self.now.report) (told_in
    (g.N.Output.state) c.begin_piece.new.self) (told_in (g.N.Output.state)
    c.receive_piece-received.new.observer) (told_in (g.N.Output.state)
    c.lose-then-ends_in_bad_count.new.self.report) c.begin_piece.ensures.told
    (piece_told (g.N.Output.state) (g.R.Output.state) _ c.args.octets.now _ _ _ c.begin_piece.new.self
    c.receive_piece-received.new.observer (c.receive_piece-received.ensures.hears k first before at)) (ap (told_in
    (g.N.Output.state)) c.lose-then-ends_in_bad_count.ensures.report)

pub returns-else-ends_in_bad_count-clause-notes : goal.returns-else-ends_in_bad_count-clause-notes
returns-else-ends_in_bad_count-clause-notes g c k first before at =
    piece_turn (peer_of c.begin_piece.new.self.way) (told_in (g.N.Output.state) c.args.self.now.report) (told_in
    (g.N.Output.state) c.begin_piece.new.self) (told_in (g.N.Output.state)
    c.receive_piece-received.new.observer) (told_in (g.N.Output.state) c.receive_piece-received.new.observer)
    c.begin_piece.ensures.told
    (piece_told (g.N.Output.state) (g.R.Output.state) _ c.args.octets.now _ _ _ c.begin_piece.new.self
    c.receive_piece-received.new.observer (c.receive_piece-received.ensures.hears k first before at)) refl
