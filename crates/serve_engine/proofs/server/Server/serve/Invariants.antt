use Rattle.std.proofs.Common.{◌≡◌, List}
use Rattle.archive_text.specs.Entries.{Entry}
use Rattle.syslog_collect.specs.Collectors.{NoneWaits}
use Rattle.syslog_collect.specs.History.{AcceptedEvent}
use Rattle.serve_engine.specs.Events.{manner_of}
use Rattle.serve_engine.specs.Intakes.{StandsBy}
use Rattle.serve_engine.specs.Keepings.{Kept}
use Rattle.serve_engine.specs.Notes.{TellTurns, Telling}
use Rattle.serve_engine.specs.Servers.{LeadsFrom, SyncsFrom, counts_of, is_full, place_of, told_of}
use Rattle.serve_engine.proofs.Rounds.{SoFar}
use Rattle.serve_engine.proofs.Watched.{WatchedAfter}
use Rattle.serve_engine.proofs.server.Server.serve.Given as goal

-- so far the steps that came were served, and the run has not ended
abbrev pub invariant-loop-turn : goal.invariant-loop-turn
invariant-loop-turn g l = record {
  done : (k : Kept) (first : List Entry) (before : List AcceptedEvent) →
      StandsBy (g.S.Store.entries) (g.K.Keeping.stands) l.fn.self.intake k first before →
      NoneWaits l.fn.self.intake.collector →
      SoFar (g.S.Store.entries) (g.K.Keeping.stands)
      (place_of (g.R.Output.state) (g.K.Keeping.short) l.fn.self (g.Q.ServerSource.state l.fn.source))
      (place_of (g.R.Output.state) (g.K.Keeping.short) l.self (g.Q.ServerSource.state l.source)) l._turn k first before;
  manner : manner_of l.self.intake.collector ≡ manner_of l.fn.self.intake.collector;
  told : (k : Kept) (first : List Entry) (before : List AcceptedEvent) →
      StandsBy (g.S.Store.entries) (g.K.Keeping.stands) l.fn.self.intake k first before →
      NoneWaits l.fn.self.intake.collector →
      (turns : List Telling) × TellTurns turns (told_of (g.N.Output.state) l.fn.self) (told_of
      (g.N.Output.state) l.self);
  leads : LeadsFrom (g.S.Store.entries) (g.K.Keeping.stands)
      (place_of (g.R.Output.state) (g.K.Keeping.short) l.fn.self (g.Q.ServerSource.state l.fn.source))
      (place_of (g.R.Output.state) (g.K.Keeping.short) l.self (g.Q.ServerSource.state l.source));
  syncs : SyncsFrom (g.S.Store.entries) (g.K.Keeping.stands) (g.K.Keeping.syncs) (g.K.Keeping.most_syncs)
      (place_of (g.R.Output.state) (g.K.Keeping.short) l.fn.self (g.Q.ServerSource.state l.fn.source))
      (place_of (g.R.Output.state) (g.K.Keeping.short) l.self (g.Q.ServerSource.state l.source));
  watched : WatchedAfter (g.W.Watch.sees) l._turn l.fn.watch l.watch (counts_of l.self) (is_full l.self);
}
