use Rattle.std.proofs.Common.{[], inl, refl}
use Rattle.syslog_collect.proofs.Collecting.{stays}
use Rattle.syslog_collect.proofs.Found.{closed, ended, frame_waits, is_open, keeps_same, not_open, unfinished}
use Rattle.syslog_collect.proofs.Found.{waits_closed}
use Rattle.syslog_collect.proofs.Numbering.{held_at}
use Rattle.syslog_collect.proofs.Steps.{handled_by}
use Rattle.syslog_collect.proofs.Waiting.{ready_none}
use Rattle.syslog_collect.proofs.Rooms.{reserved_closed}
use Rattle.syslog_collect.proofs.collector.Collector.end_conn.Goals as goal

pub index-requires : goal.index-requires
index-requires g c = rw c.in-Some.ensures.found.is refl

pub returns-in-None-clause-goes_on : goal.returns-in-None-clause-goes_on
returns-in-None-clause-goes_on g c = stays (g.S.Store.entries) c.args.self.now

pub returns-in-None-clause-cause : goal.returns-in-None-clause-cause
returns-in-None-clause-cause g c past first events was =
    not_open c.args.self.now.reading c.args.conn c.args.self.now.connections _ first events c.in-None.ensures.none was

pub returns-in-None-clause-unchanged : goal.returns-in-None-clause-unchanged
returns-in-None-clause-unchanged g c = keeps_same c.args.self.now.connections

pub returns-in-Err-Unreleased-clause-goes_on : goal.returns-in-Err-Unreleased-clause-goes_on
returns-in-Err-Unreleased-clause-goes_on g c = stays (g.S.Store.entries) c.args.self.now

pub returns-in-Err-Unreleased-clause-unchanged : goal.returns-in-Err-Unreleased-clause-unchanged
returns-in-Err-Unreleased-clause-unchanged g c = keeps_same c.args.self.now.connections

pub returns-in-Err-Unreleased-clause-cause : goal.returns-in-Err-Unreleased-clause-cause
returns-in-Err-Unreleased-clause-cause g c past first events was =
    let cs = c.args.self.now.connections in
    let x = c.index.result.now in
    let is = (held_at cs c.args.conn c.in-Some.place x c.in-Some.ensures.found c.index.ensures).0 in
    is_open c.args.self.now.reading c.args.conn x cs _ first events is was

pub returns-in-Err-Unreleased-clause-ready : goal.returns-in-Err-Unreleased-clause-ready
returns-in-Err-Unreleased-clause-ready g c past first events was =
    let cs = c.args.self.now.connections in
    let x = c.index.result.now in
    let is = (held_at cs c.args.conn c.in-Some.place x c.in-Some.ensures.found c.index.ensures).0 in
    frame_waits c.args.self.now.reading c.args.conn x cs _ first events is
    (c.in-Err-Unreleased.ensures.unreleased.0 (rw c.in-Err-Unreleased.field-0-is refl)) was

pub close-requires : goal.close-requires
close-requires g c = c.in-Some.ensures.found

pub returns-in-Err-Unterminated-clause-goes_on : goal.returns-in-Err-Unterminated-clause-goes_on
returns-in-Err-Unterminated-clause-goes_on g c =
    let cs = c.args.self.now.connections in
    let x = c.index.result.now in
    let is = (held_at cs c.args.conn c.in-Some.place x c.in-Some.ensures.found c.index.ensures).0 in
    record {
      stands = λ past first events was.
          closed c.args.self.now.reading c.args.conn x cs _ _ first events is c.close.ensures
          (handled_by x (λ kind start octets frames rest r. (
            rest,
            (rw c.in-Err-Unterminated.field-0-is at
                (c.in-Err-Unterminated.ensures.reads kind start octets frames rest r)).0,
          ))) was;
      reading = refl;
      reserves = refl;
      whole = λ on all. reserved_closed cs _ c.args.conn c.close.ensures all;
      limit = c.close.ensures.limit;
      room = c.close.ensures.room;
    }

pub returns-in-Err-Unterminated-clause-cause : goal.returns-in-Err-Unterminated-clause-cause
returns-in-Err-Unterminated-clause-cause g c past first events was =
    let cs = c.args.self.now.connections in
    let x = c.index.result.now in
    let is = (held_at cs c.args.conn c.in-Some.place x c.in-Some.ensures.found c.index.ensures).0 in
    unfinished c.args.self.now.reading c.args.conn c.in-Err-Unterminated.start x cs _ first events is
    (λ f. let e = (rw c.in-Err-Unterminated.field-0-is at c.in-Err-Unterminated.ensures.failed).1 f in absurd (cc))
    (λ kind start octets frames rest r. let e =
    rw c.in-Err-Unterminated.field-0-is at (c.in-Err-Unterminated.ensures.reads kind start octets frames rest r) in
    (e.0, e.2, e.3)) was

pub returns-in-Err-Unterminated-clause-waits : goal.returns-in-Err-Unterminated-clause-waits
returns-in-Err-Unterminated-clause-waits g c past first events was d =
    let cs = c.args.self.now.connections in
    let x = c.index.result.now in
    let is = (held_at cs c.args.conn c.in-Some.place x c.in-Some.ensures.found c.index.ensures).0 in
    let none = ready_none x.scanner.phase (λ f. let e =
    (rw c.in-Err-Unterminated.field-0-is at c.in-Err-Unterminated.ensures.unreleased).1 (inl f) in absurd (cc)) in
    waits_closed c.args.conn x cs _ is c.close.ensures none d

pub close-requires-in-Err-Failed : goal.close-requires-in-Err-Failed
close-requires-in-Err-Failed g c = c.in-Some.ensures.found

pub returns-in-Err-Failed-clause-goes_on : goal.returns-in-Err-Failed-clause-goes_on
returns-in-Err-Failed-clause-goes_on g c =
    let cs = c.args.self.now.connections in
    let x = c.index.result.now in
    let is = (held_at cs c.args.conn c.in-Some.place x c.in-Some.ensures.found c.index.ensures).0 in
    record {
      stands = λ past first events was.
          closed c.args.self.now.reading c.args.conn x cs _ _ first events is c.close-in-Err-Failed.ensures
          (handled_by x (λ kind start octets frames rest r.
          absurd (rw c.in-Err-Failed.field-0-is at (c.in-Err-Failed.ensures.reads kind start octets frames rest r)))) was;
      reading = refl;
      reserves = refl;
      whole = λ on all. reserved_closed cs _ c.args.conn c.close-in-Err-Failed.ensures all;
      limit = c.close-in-Err-Failed.ensures.limit;
      room = c.close-in-Err-Failed.ensures.room;
    }

pub returns-in-Err-Failed-clause-cause : goal.returns-in-Err-Failed-clause-cause
returns-in-Err-Failed-clause-cause g c past first events was =
    let cs = c.args.self.now.connections in
    let x = c.index.result.now in
    let is = (held_at cs c.args.conn c.in-Some.place x c.in-Some.ensures.found c.index.ensures).0 in
    ended c.args.self.now.reading c.args.conn x cs _ first events is
    (λ kind start octets frames rest r. absurd
    (rw c.in-Err-Failed.field-0-is at (c.in-Err-Failed.ensures.reads kind start octets frames rest r))) was

pub returns-in-Err-Failed-clause-waits : goal.returns-in-Err-Failed-clause-waits
returns-in-Err-Failed-clause-waits g c past first events was d =
    let cs = c.args.self.now.connections in
    let x = c.index.result.now in
    let is = (held_at cs c.args.conn c.in-Some.place x c.in-Some.ensures.found c.index.ensures).0 in
    let none = ready_none x.scanner.phase (λ f. let e =
    (rw c.in-Err-Failed.field-0-is at c.in-Err-Failed.ensures.unreleased).1 (inl f) in absurd (cc)) in
    waits_closed c.args.conn x cs _ is c.close-in-Err-Failed.ensures none d

pub close-requires-in-Ok : goal.close-requires-in-Ok
close-requires-in-Ok g c = c.in-Some.ensures.found

pub returns-in-Ok-clause-goes_on : goal.returns-in-Ok-clause-goes_on
returns-in-Ok-clause-goes_on g c =
    let cs = c.args.self.now.connections in
    let x = c.index.result.now in
    let is = (held_at cs c.args.conn c.in-Some.place x c.in-Some.ensures.found c.index.ensures).0 in
    record {
      stands = λ past first events was.
          closed c.args.self.now.reading c.args.conn x cs _ _ first events is c.close-in-Ok.ensures
          (handled_by x (λ kind start octets frames rest r. ([], (c.in-Ok.ensures.reads kind start octets frames rest r).1))) was;
      reading = refl;
      reserves = refl;
      whole = λ on all. reserved_closed cs _ c.args.conn c.close-in-Ok.ensures all;
      limit = c.close-in-Ok.ensures.limit;
      room = c.close-in-Ok.ensures.room;
    }

pub returns-in-Ok-clause-cause : goal.returns-in-Ok-clause-cause
returns-in-Ok-clause-cause g c past first events was =
    let cs = c.args.self.now.connections in
    let x = c.index.result.now in
    let is = (held_at cs c.args.conn c.in-Some.place x c.in-Some.ensures.found c.index.ensures).0 in
    ended c.args.self.now.reading c.args.conn x cs _ first events is
    (λ kind start octets frames rest r. (c.in-Ok.ensures.reads kind start octets frames rest r).1) was

pub returns-in-Ok-clause-waits : goal.returns-in-Ok-clause-waits
returns-in-Ok-clause-waits g c past first events was d =
    let cs = c.args.self.now.connections in
    let x = c.index.result.now in
    let is = (held_at cs c.args.conn c.in-Some.place x c.in-Some.ensures.found c.index.ensures).0 in
    let none = ready_none x.scanner.phase (λ f. let e = (c.in-Ok.ensures.unreleased).1 (inl f) in absurd (cc)) in
    waits_closed c.args.conn x cs _ is c.close-in-Ok.ensures none d
