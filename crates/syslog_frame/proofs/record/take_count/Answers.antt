use Rattle.std.proofs.Common.{◌≡◌, ◌++◌, length, take, rules}
use Rattle.std.proofs.lemmas.List.{take_rest}
use Rattle.syslog_frame.proofs.Cuts.{taken_twice}
use Rattle.syslog_frame.proofs.Standing.{inside_empty}
use Rattle.syslog_frame.proofs.record.take_count.Goals as goal

pub returns-in_ok-record-in-Read-clause-holds : goal.returns-in_ok-record-in-Read-clause-holds
returns-in_ok-record-in-Read-clause-holds c = λ p h.
    let e = c.in-Read.ensures.counts p h in
    let s = c.in-Read.ensures.step in
    let empty : length c.args.kept.now.items ≡ 0 = search rules in
    let q = p ++ take c.in-Read.used c.args.piece.now in
    let begun = inside_empty _ c.in-Read.count c.args.kept.now.items q s.0 s.1 empty e in
    let k = c.in_ok-record-in-Read.ensures.holds q begun in
    rw (taken_twice p c.args.piece.now c.in-Read.used c.in_ok-record-in-Read.record.used)
    (rw (take_rest c.args.piece.now c.in-Read.used) at k)
