use Rattle.frame_engine.proofs.line.append_line.Goals as goal

pub returns-in-LegacyNotUtf8-clause-ok : goal.returns-in-LegacyNotUtf8-clause-ok
returns-in-LegacyNotUtf8-clause-ok c = rw c.in-LegacyNotUtf8.is c.append_at.ensures.ok

pub returns-in-CanonicalTooLong-clause-ok : goal.returns-in-CanonicalTooLong-clause-ok
returns-in-CanonicalTooLong-clause-ok c = rw c.in-CanonicalTooLong.is c.append_numbered-in-CanonicalTooLong.ensures.ok
