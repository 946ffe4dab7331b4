use Rattle.std.proofs.Common.{arith, inl, inr, refl}
use Rattle.slab.specs.Slab.{with_value}
use Rattle.syslog_collect.specs.Answers.{accepted_octets, answered, dropped_octets}
use Rattle.syslog_collect.proofs.Collecting.{stays}
use Rattle.syslog_collect.proofs.Found.{advanced, cause_of, keeps_all, not_open, reports, taken_of, unchanged}
use Rattle.syslog_collect.proofs.Found.{waits_advanced}
use Rattle.syslog_collect.proofs.Numbering.{become_of, held_at}
use Rattle.syslog_collect.proofs.Rooms.{grows_at, reserved_changed}
use Rattle.syslog_collect.proofs.Stopping.{unless_room}
use Rattle.syslog_collect.proofs.Taking.{taken_none}
use Rattle.syslog_collect.proofs.collector.Collector.advance.Goals as goal

pub index_mut-requires : goal.index_mut-requires
index_mut-requires g c = rw c.in-Some.ensures.found.is refl

pub returns-in-None-clause-goes_on : goal.returns-in-None-clause-goes_on
returns-in-None-clause-goes_on g c = stays (g.S.Store.entries) c.args.self.now

pub returns-in-None-clause-drops : goal.returns-in-None-clause-drops
returns-in-None-clause-drops g c = stays (g.S.Store.entries) c.args.self.now

pub returns-in-None-clause-cause : goal.returns-in-None-clause-cause
returns-in-None-clause-cause g c past first events was =
    inr (not_open c.args.self.now.reading c.args.conn c.args.self.now.connections _ first events c.in-None.ensures.none
    was)

pub returns-in-None-clause-taken : goal.returns-in-None-clause-taken
returns-in-None-clause-taken g c past first events was =
    inr (taken_none _ _ (not_open c.args.self.now.reading c.args.conn c.args.self.now.connections _ first events
    c.in-None.ensures.none was))

pub returns-in-None-clause-waits : goal.returns-in-None-clause-waits
returns-in-None-clause-waits g c = inr (λ d. refl)

pub returns-in-Some-clause-goes_on : goal.returns-in-Some-clause-goes_on
returns-in-Some-clause-goes_on g c =
    let cs = c.args.self.now.connections in
    let x = c.index_mut.result.now in
    let y = c.advance_connection.new.connection in
    let holds = c.in-Some.ensures.found in
    let is = (held_at cs c.args.conn c.in-Some.place x holds c.index_mut.ensures.value).0 in
    record {
      stands = λ past first events was.
          advanced c.args.self.now.reading c.args.conn x y cs _ past _ _ first events
          (accepted_octets c.args.piece.now c.advance_connection.result) (answered c.advance_connection.result) is
          c.advance_connection.ensures.number (become_of cs _ c.args.conn c.in-Some.place x y holds c.index_mut.ensures.value
          c.advance_connection.ensures.number refl refl refl)
          c.advance_connection.ensures.moves was;
      reading = refl;
      reserves = refl;
      whole = λ on all.
          reserved_changed cs (record cs { slots = with_value cs.slots c.in-Some.place y }) c.args.conn x y is
          (become_of cs (record cs { slots = with_value cs.slots c.in-Some.place y }) c.args.conn c.in-Some.place x y holds
          c.index_mut.ensures.value c.advance_connection.ensures.number refl refl refl) c.advance_connection.ensures.reserved all;
      limit = refl;
      room = omega arith;
    }

pub returns-in-Some-clause-drops : goal.returns-in-Some-clause-drops
returns-in-Some-clause-drops g c =
    let cs = c.args.self.now.connections in
    let x = c.index_mut.result.now in
    let y = c.advance_connection.new.connection in
    let holds = c.in-Some.ensures.found in
    let is = (held_at cs c.args.conn c.in-Some.place x holds c.index_mut.ensures.value).0 in
    record {
      stands = λ past first events was.
          advanced c.args.self.now.reading c.args.conn x y cs _ past _ _ first events
          (dropped_octets c.args.piece.now c.advance_connection.result) (answered c.advance_connection.result) is
          c.advance_connection.ensures.number (become_of cs _ c.args.conn c.in-Some.place x y holds c.index_mut.ensures.value
          c.advance_connection.ensures.number refl refl refl)
          c.advance_connection.ensures.drops was;
      reading = refl;
      reserves = refl;
      whole = λ on all.
          reserved_changed cs (record cs { slots = with_value cs.slots c.in-Some.place y }) c.args.conn x y is
          (become_of cs (record cs { slots = with_value cs.slots c.in-Some.place y }) c.args.conn c.in-Some.place x y holds
          c.index_mut.ensures.value c.advance_connection.ensures.number refl refl refl) c.advance_connection.ensures.reserved all;
      limit = refl;
      room = omega arith;
    }

pub returns-in-Some-clause-outcome : goal.returns-in-Some-clause-outcome
returns-in-Some-clause-outcome g c past first events was =
    let cs = c.args.self.now.connections in
    let x = c.index_mut.result.now in
    let y = c.advance_connection.new.connection in
    let holds = c.in-Some.ensures.found in
    let is = (held_at cs c.args.conn c.in-Some.place x holds c.index_mut.ensures.value).0 in
    reports c.args.self.now.reading c.args.conn x y cs past (g.S.Store.entries c.args.self.now.store)
    (g.S.Store.entries c.advance_connection.new.store) first events c.args.piece.now c.advance_connection.result is
    c.advance_connection.ensures.moves c.advance_connection.ensures.settled was

pub returns-in-Some-clause-cause : goal.returns-in-Some-clause-cause
returns-in-Some-clause-cause g c past first events was =
    let cs = c.args.self.now.connections in
    let x = c.index_mut.result.now in
    let y = c.advance_connection.new.connection in
    let holds = c.in-Some.ensures.found in
    let is = (held_at cs c.args.conn c.in-Some.place x holds c.index_mut.ensures.value).0 in
    elim c.advance_connection.ensures.waits [
      | inl room ↦ inl (record {
        fault_is = room.fault_is;
        same = keeps_all c.args.conn x y cs _ is (become_of cs _ c.args.conn c.in-Some.place x y holds c.index_mut.ensures.value
            c.advance_connection.ensures.number refl refl refl) room.same;
        grows = grows_at c.args.conn x cs is room.grows;
      })
      | inr waits ↦ inr (cause_of c.args.self.now.reading c.args.conn x cs _ first events c.args.piece.now
          c.advance_connection.result is
          (λ s d at. unless_room x y c.advance_connection.result waits (c.advance_connection.ensures.cause s d at)) was)
    ]

pub returns-in-Some-clause-taken : goal.returns-in-Some-clause-taken
returns-in-Some-clause-taken g c past first events was =
    let cs = c.args.self.now.connections in
    let x = c.index_mut.result.now in
    let y = c.advance_connection.new.connection in
    let holds = c.in-Some.ensures.found in
    let is = (held_at cs c.args.conn c.in-Some.place x holds c.index_mut.ensures.value).0 in
    elim c.advance_connection.ensures.waits [
      | inl room ↦ inl (record {
        fault_is = room.fault_is;
        same = keeps_all c.args.conn x y cs _ is (become_of cs _ c.args.conn c.in-Some.place x y holds c.index_mut.ensures.value
            c.advance_connection.ensures.number refl refl refl) room.same;
        grows = grows_at c.args.conn x cs is room.grows;
      })
      | inr waits ↦ inr (taken_of c.args.self.now.reading c.args.conn x cs _ first events c.args.piece.now
          c.advance_connection.result is
          (λ s d at. unless_room x y c.advance_connection.result waits (c.advance_connection.ensures.taken s d at)) was)
    ]

pub returns-in-Some-clause-unchanged : goal.returns-in-Some-clause-unchanged
returns-in-Some-clause-unchanged g c =
    let cs = c.args.self.now.connections in
    let x = c.index_mut.result.now in
    let y = c.advance_connection.new.connection in
    let holds = c.in-Some.ensures.found in
    let is = (held_at cs c.args.conn c.in-Some.place x holds c.index_mut.ensures.value).0 in
    unchanged c.advance_connection.result c.args.conn x y cs _ _ _ is
    (become_of cs _ c.args.conn c.in-Some.place x y holds c.index_mut.ensures.value
    c.advance_connection.ensures.number refl refl refl)
    c.advance_connection.ensures.unchanged

pub returns-in-Some-clause-waits : goal.returns-in-Some-clause-waits
returns-in-Some-clause-waits g c =
    let cs = c.args.self.now.connections in
    let x = c.index_mut.result.now in
    let y = c.advance_connection.new.connection in
    let holds = c.in-Some.ensures.found in
    let is = (held_at cs c.args.conn c.in-Some.place x holds c.index_mut.ensures.value).0 in
    let b = become_of cs (record cs { slots = with_value cs.slots c.in-Some.place y }) c.args.conn c.in-Some.place x y
    holds c.index_mut.ensures.value c.advance_connection.ensures.number refl refl refl in
    elim c.advance_connection.ensures.waits [
      | inl room ↦ inl (record {
        fault_is = room.fault_is;
        same = keeps_all c.args.conn x y cs _ is (become_of cs _ c.args.conn c.in-Some.place x y holds c.index_mut.ensures.value
            c.advance_connection.ensures.number refl refl refl) room.same;
        grows = grows_at c.args.conn x cs is room.grows;
      })
      | inr waits ↦ inr (waits_advanced c.args.piece.now c.advance_connection.result c.args.conn y cs _
          c.args.self.now.store c.advance_connection.new.store c.advance_connection.ensures.within b
          c.advance_connection.ensures.settled waits
          (unchanged c.advance_connection.result c.args.conn x y cs _ _ _ is b c.advance_connection.ensures.unchanged))
    ]
