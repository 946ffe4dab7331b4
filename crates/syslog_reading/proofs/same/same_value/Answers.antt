use Rattle.octet_language.specs.Language.{AnyOf}
use Rattle.syslog_fields.specs.Values.{Piece, Spells}
use Rattle.syslog_fields.proofs.Loops.{takes_some}
use Rattle.syslog_reading.proofs.Meanings.{matches_stuck, matches_other, matches_more, matches_end, empty_test}
use Rattle.syslog_fields.proofs.Values.{piece_some}
use Rattle.syslog_reading.proofs.same.same_value.Goals as goal

pub returns-in_default-piece : goal.returns-in_default-piece
returns-in_default-piece c = matches_stuck c.args.raw.now c.args.text.now c.loop-first.spelling.now
    c.loop-first.meaning.now c.in-Some._after.now c.in-Some._first c.in_default-piece.field-0.remaining
    c.in-Some.ensures c.in_default-piece.ensures c.loop-first.invariant

pub returns-in_default-behind_prefix : goal.returns-in_default-behind_prefix
returns-in_default-behind_prefix c = matches_other c.args.raw.now c.args.text.now c.loop-first.spelling.now
    c.loop-first.meaning.now c.in-Ok.behind.now c.in-Some._after.now c.in-Ok.prefix.now c.in-Some._first
    c.in-Some.ensures c.in-Ok.ensures c.in_default-behind_prefix.ensures c.loop-first.invariant

pub loop-first-smaller : goal.loop-first-smaller
loop-first-smaller c = takes_some (AnyOf Piece) c.loop-first.spelling.now c.in-Ok.behind.now piece_some
    (c.in-Ok.ensures.0, c.in-Ok.ensures.1, (c.in-Ok.prefix.now, c.in-Ok.ensures.2))

pub loop-first-preserved : goal.loop-first-preserved
loop-first-preserved c = matches_more c.args.raw.now c.args.text.now c.loop-first.spelling.now c.loop-first.meaning.now
    c.in-Ok.behind.now c.in-Some._after.now c.in-Ok.prefix.now c.in-Some-behind_prefix.rest.now c.in-Some._first
    c.in-Some.ensures c.in-Ok.ensures c.in-Some-behind_prefix.ensures c.loop-first.invariant

pub returns : goal.returns
returns c = empty_test c.is_empty.result c.loop-first.meaning.now (Spells c.args.text.now c.args.raw.now)
    c.is_empty.ensures (matches_end c.args.raw.now c.args.text.now c.loop-first.spelling.now c.loop-first.meaning.now
    c.in_default.ensures c.loop-first.invariant)
