use Rattle.std.proofs.Common.{arith, inr, refl}
use Rattle.slab.specs.Slab.{with_value}
use Rattle.syslog_collect.specs.History.{history_of}
use Rattle.syslog_collect.specs.Logs.{waiting}
use Rattle.syslog_collect.specs.declared.fault.CollectFault.TheVariants.{NotOpen}
use Rattle.syslog_collect.proofs.Collecting.{stays}
use Rattle.syslog_collect.proofs.Found.{not_open, piece_logged, piece_refused, piece_taken}
use Rattle.syslog_collect.proofs.Hearing.{hears_none, hears_piece}
use Rattle.syslog_collect.proofs.Logging.{nothing_of_piece}
use Rattle.syslog_collect.proofs.Numbering.{become_of, held_at}
use Rattle.syslog_collect.proofs.Rooms.{reserved_changed}
use Rattle.syslog_collect.proofs.collector.Collector.observed_piece.Goals as goal

pub index_mut-requires : goal.index_mut-requires
index_mut-requires g c = rw c.in-Some.ensures.found.is refl

pub returns-in-None-clause-goes_on : goal.returns-in-None-clause-goes_on
returns-in-None-clause-goes_on g c = stays (g.S.Store.entries) c.args.self.now

pub returns-in-None-clause-logged : goal.returns-in-None-clause-logged
returns-in-None-clause-logged g c past first events was =
    nothing_of_piece c.args.self.now.reading (history_of events) (waiting c.args.self.now.connections) c.args.conn
    c.args.octets.now NotOpen _ _

pub returns-in-None-clause-cause : goal.returns-in-None-clause-cause
returns-in-None-clause-cause g c past first events was =
    inr (
      not_open c.args.self.now.reading c.args.conn c.args.self.now.connections _ first events c.in-None.ensures.none
          was,
      refl,
    )

pub returns-in-Some-clause-goes_on : goal.returns-in-Some-clause-goes_on
returns-in-Some-clause-goes_on g c =
    let cs = c.args.self.now.connections in
    let x = c.index_mut.result.now in
    let y = c.take_piece.new.connection in
    let holds = c.in-Some.ensures.found in
    let is = (held_at cs c.args.conn c.in-Some.place x holds c.index_mut.ensures.value).0 in
    record {
      stands = λ past first events was.
          piece_taken c.args.self.now.reading c.args.conn x y cs _ past _ _ first events c.args.octets.now c.take_piece.result
          _ _ is c.take_piece.ensures.number (become_of cs _ c.args.conn c.in-Some.place x y holds c.index_mut.ensures.value
          c.take_piece.ensures.number refl refl refl)
          c.take_piece.ensures.moves c.take_piece.ensures.accepted was;
      reading = refl;
      reserves = refl;
      whole = λ on all.
          reserved_changed cs (record cs { slots = with_value cs.slots c.in-Some.place y }) c.args.conn x y is
          (become_of cs (record cs { slots = with_value cs.slots c.in-Some.place y }) c.args.conn c.in-Some.place x y holds
          c.index_mut.ensures.value c.take_piece.ensures.number refl refl refl) c.take_piece.ensures.reserved all;
      limit = refl;
      room = omega arith;
    }

pub returns-in-Some-clause-logged : goal.returns-in-Some-clause-logged
returns-in-Some-clause-logged g c past first events was =
    let cs = c.args.self.now.connections in
    let x = c.index_mut.result.now in
    let y = c.take_piece.new.connection in
    let holds = c.in-Some.ensures.found in
    let is = (held_at cs c.args.conn c.in-Some.place x holds c.index_mut.ensures.value).0 in
    let b = become_of cs (record cs { slots = with_value cs.slots c.in-Some.place y }) c.args.conn c.in-Some.place x y
    holds c.index_mut.ensures.value c.take_piece.ensures.number refl refl refl in
    piece_logged c.args.self.now.reading c.args.conn x y cs _ past (g.S.Store.entries c.args.self.now.store)
    (g.S.Store.entries c.take_piece.new.store) first events c.args.octets.now c.take_piece.result c.args.log.now.items
    c.take_piece.new.log.items is c.take_piece.ensures.number b c.take_piece.ensures.moves
    c.take_piece.ensures.accepted c.take_piece.ensures.settled was

pub returns-in-Some-clause-cause : goal.returns-in-Some-clause-cause
returns-in-Some-clause-cause g c past first events was =
    let cs = c.args.self.now.connections in
    let x = c.index_mut.result.now in
    let y = c.take_piece.new.connection in
    let holds = c.in-Some.ensures.found in
    let is = (held_at cs c.args.conn c.in-Some.place x holds c.index_mut.ensures.value).0 in
    let b = become_of cs (record cs { slots = with_value cs.slots c.in-Some.place y }) c.args.conn c.in-Some.place x y
    holds c.index_mut.ensures.value c.take_piece.ensures.number refl refl refl in
    piece_refused c.args.self.now.reading c.args.conn x y cs _ past (g.S.Store.entries c.args.self.now.store)
    (g.S.Store.entries c.take_piece.new.store) first events c.args.octets.now c.take_piece.result c.args.log.now.items
    c.take_piece.new.log.items is c.take_piece.ensures.number b c.take_piece.ensures.moves c.take_piece.ensures.cause was

pub returns-in-None-clause-hears : goal.returns-in-None-clause-hears
returns-in-None-clause-hears g c past first events was =
    hears_none (g.O.Observer.observes) _ _ _ _ _ _
    (not_open c.args.self.now.reading c.args.conn c.args.self.now.connections _ first events c.in-None.ensures.none
    was)

pub returns-in-Some-clause-hears : goal.returns-in-Some-clause-hears
returns-in-Some-clause-hears g c past first events was =
    let cs = c.args.self.now.connections in
    let x = c.index_mut.result.now in
    let y = c.take_piece.new.connection in
    let holds = c.in-Some.ensures.found in
    let is = (held_at cs c.args.conn c.in-Some.place x holds c.index_mut.ensures.value).0 in
    let b = become_of cs (record cs { slots = with_value cs.slots c.in-Some.place y }) c.args.conn c.in-Some.place x y
    holds c.index_mut.ensures.value c.take_piece.ensures.number refl refl refl in
    hears_piece (g.O.Observer.observes) c.args.self.now.reading c.args.conn x y cs _ _ first events _ _ _ _ _ is b
    c.take_piece.ensures.hears was
