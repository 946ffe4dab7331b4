use Rattle.std.proofs.Common.{◌≡◌, ℕ, ◌<◌, is_some, refl, sym, ◌∙◌, arith}
use Rattle.std.specs.Prelude.{Option, Some, None, true, false, IfNone, IfSome}
use Rattle.syslog_collect.specs.Numbers.{HoldsAt, connection_in, count_in}
use Rattle.syslog_collect.specs.declared.limits.TheConstants.{CONNECTIONS_LIMIT}
use Rattle.syslog_collect.proofs.Collecting.{stays}
use Rattle.syslog_collect.proofs.Found.{count_open, is_open, not_open, opened}
use Rattle.syslog_collect.proofs.Numbering.{held_at}
use Rattle.syslog_collect.proofs.Rooms.{reserved_opened}
use Rattle.syslog_collect.proofs.collector.Collector.open_conn.Goals as goal

is_held : (o : Option ℕ) (P : ℕ → Type 0) → is_some o ≡ true → IfSome o P → (n : ℕ) × P n
is_held None P e h = absurd (cc)
is_held (Some n) P e h = (n, h)

none_held : (o : Option ℕ) (P : Type 0) → is_some o ≡ false → IfNone o P → P
none_held None P e h = h
none_held (Some n) P e h = absurd (cc)

pub returns-then-is_some-clause-cause : goal.returns-then-is_some-clause-cause
returns-then-is_some-clause-cause g c past first events was =
    let cs = c.args.self.now.connections in
    let h = is_held c.find.result (HoldsAt cs c.args.conn) (sym c.is_some.ensures ∙ c.if-is_some.true)
    c.find.ensures.found in
    is_open c.args.self.now.reading c.args.conn h.1.connection cs _ first events
    (held_at cs c.args.conn h.0 h.1.connection h.1 h.1.is).0 was

pub returns-then-is_full-clause-cause : goal.returns-then-is_full-clause-cause
returns-then-is_full-clause-cause g c past first events was =
    let cs = c.args.self.now.connections in
    let none = none_held c.find.result (connection_in cs c.args.conn ≡ None) (sym c.is_some.ensures
    ∙ c.if-is_some.false) c.find.ensures.none in
    let full = c.is_full.ensures.full c.if-is_full.true in (
      not_open c.args.self.now.reading c.args.conn cs _ first events none was,
      omega (arith, full, count_open c.args.self.now.reading cs _ first events was),
    )

pub returns-in_default-clause-cause : goal.returns-in_default-clause-cause
returns-in_default-clause-cause g c past first events was =
    let cs = c.args.self.now.connections in
    let none = none_held c.find.result (connection_in cs c.args.conn ≡ None) (sym c.is_some.ensures
    ∙ c.if-is_some.false) c.find.ensures.none in
    let room = c.is_full.ensures.room c.if-is_full.false in (
      not_open c.args.self.now.reading c.args.conn cs _ first events none was,
      omega (arith, room, count_open c.args.self.now.reading cs _ first events was),
      refl,
    )

pub returns-in-Err-clause-cause : goal.returns-in-Err-clause-cause
returns-in-Err-clause-cause g c past first events was =
    let cs = c.args.self.now.connections in
    let none = none_held c.find.result (connection_in cs c.args.conn ≡ None) (sym c.is_some.ensures
    ∙ c.if-is_some.false) c.find.ensures.none in
    let room = c.is_full.ensures.room c.if-is_full.false in (
      not_open c.args.self.now.reading c.args.conn cs _ first events none was,
      omega (arith, room, count_open c.args.self.now.reading cs _ first events was),
      refl,
    )

pub returns-in-Ok-open-clause-cause : goal.returns-in-Ok-open-clause-cause
returns-in-Ok-open-clause-cause g c past first events was =
    let cs = c.args.self.now.connections in
    let none = none_held c.find.result (connection_in cs c.args.conn ≡ None) (sym c.is_some.ensures
    ∙ c.if-is_some.false) c.find.ensures.none in
    let room = c.is_full.ensures.room c.if-is_full.false in (
      not_open c.args.self.now.reading c.args.conn cs _ first events none was,
      omega (arith, room, count_open c.args.self.now.reading cs _ first events was),
    )

pub returns-then-is_some-clause-goes_on : goal.returns-then-is_some-clause-goes_on
returns-then-is_some-clause-goes_on g c = stays (g.S.Store.entries) c.args.self.now

pub returns-then-is_full-clause-goes_on : goal.returns-then-is_full-clause-goes_on
returns-then-is_full-clause-goes_on g c = stays (g.S.Store.entries) c.args.self.now

pub returns-in_default-clause-goes_on : goal.returns-in_default-clause-goes_on
returns-in_default-clause-goes_on g c = stays (g.S.Store.entries) c.args.self.now

pub returns-in-Ok-open-clause-goes_on : goal.returns-in-Ok-open-clause-goes_on
returns-in-Ok-open-clause-goes_on g c = record {
  stands = λ past first events was.
      let cs = c.args.self.now.connections in
      let none = none_held c.find.result (connection_in cs c.args.conn ≡ None) (sym c.is_some.ensures
      ∙ c.if-is_some.false) c.find.ensures.none in
      let room = c.is_full.ensures.room c.if-is_full.false in
      let few : count_in cs < CONNECTIONS_LIMIT = omega (arith, room, cs.few) in
      opened c.args.self.now.reading c.args.conn c.args.framing c.in-Ok.scanner cs _ _ first events none few
      c.in-Ok.ensures.reads c.in-Ok.ensures.stands.1 c.in-Ok-open.ensures.ok was;
  reading = refl;
  reserves = refl;
  whole = λ on all.
      reserved_opened c.args.self.now.connections _ _ c.in-Ok-open.ensures.ok (c.in-Ok.ensures.reserved ∙ on) all;
  limit = c.in-Ok-open.ensures.ok.limit;
  room = c.in-Ok-open.ensures.ok.room;
}
