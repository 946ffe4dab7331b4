use Rattle.std.proofs.Common.{length}
use Rattle.std.specs.Prelude.{Some}
use Rattle.syslog_reading.proofs.DataTexts.{Goes}
use Rattle.syslog_reading.proofs.ReadData.{ElementsRead}
use Rattle.syslog_reading.proofs.structured_data.behind_elements.Given as goal

abbrev pub invariant-loop-first : goal.invariant-loop-first
invariant-loop-first l = record {
  goes : Goes l.octets l.rest;
  read : ElementsRead l.is_form l.ascends l.differ l.ids (Some l.greatest) l.octets l.rest;
}

abbrev pub decreases-loop-first : goal.decreases-loop-first
decreases-loop-first l = length l.rest
