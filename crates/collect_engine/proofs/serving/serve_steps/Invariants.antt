use Rattle.std.proofs.Common.{◌≡◌, ℕ, ◌+◌, ◌<◌, ◌^◌, List, ◌++◌, length}
use Rattle.std.specs.Prelude.{vec_len}
use Rattle.std.specs.Io.KnownBytes.{Appends}
use Rattle.archive_text.specs.Entries.{Entry}
use Rattle.syslog_frame.specs.declared.limits.TheConstants.{FRAME_MAX}
use Rattle.syslog_collect.specs.Headline.{IsSettled}
use Rattle.syslog_collect.specs.History.{AcceptedEvent, history_of}
use Rattle.syslog_collect.specs.Logs.{waiting}
use Rattle.syslog_collect.specs.Standing.{Stands}
use Rattle.collect_engine.specs.Lines.{has_some}
use Rattle.collect_engine.specs.Serving.{GaveSteps, ServesAll}
use Rattle.collect_engine.specs.Steps.{Given}
use Rattle.collect_engine.proofs.serving.serve_steps.Given as goal

-- so far each step was served
abbrev pub invariant-loop-turn : goal.invariant-loop-turn
invariant-loop-turn g l = record {
  steps : (g.R.Source.state l.fn.source).steps < 2 ^ 63
      → (g.R.Source.state l.source).steps ≡ (g.R.Source.state l.fn.source).steps + l._turn;
  finishes : (g.R.Source.state l.source).finishes ≡ (g.R.Source.state l.fn.source).finishes;
  reading : l.collector.reading ≡ l.fn.collector.reading;
  room : FRAME_MAX < vec_len l.buf;
  failures : (g.N.Output.state l.notes).failures ≡ (g.N.Output.state l.fn.notes).failures;
  settled : (first : List Entry) (before : List AcceptedEvent)
      → Stands l.fn.collector.reading l.fn.collector.connections (g.S.Store.entries l.fn.collector.store) first
      before
      → IsSettled l.fn.collector.connections → IsSettled l.collector.connections;
  served : (first : List Entry) (before : List AcceptedEvent)
      → Stands l.fn.collector.reading l.fn.collector.connections (g.S.Store.entries l.fn.collector.store) first
      before
      → (given : List Given) × (accepted : List AcceptedEvent) × (told : List ℕ)
      × GaveSteps (g.R.Source.state l.fn.source) (g.R.Source.state l.source) given
      × Stands l.collector.reading l.collector.connections (g.S.Store.entries l.collector.store) first
      (before ++ accepted)
      × Appends (g.N.Output.state l.fn.notes).taken (g.N.Output.state l.notes).taken told
      × ServesAll l.fn.collector.reading (history_of before) (waiting l.fn.collector.connections)
      (waiting l.collector.connections) 1 l.lines.number given accepted told
      × (length given ≡ l._turn) × (l.lines.refused ≡ has_some told);
}
