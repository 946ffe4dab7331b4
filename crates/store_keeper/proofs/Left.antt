-- What a run of a server leaves.
use Rattle.std.proofs.Common.{◌≡◌, List, [], ◌∷◌, ◌++◌, inl, inr, sym, subst}
use Rattle.std.specs.Prelude.{◌⊎◌}
use Rattle.std.proofs.lemmas.List.{append-nil}
use Rattle.disk.specs.declared.calls.Disk.{Ghosts}
use Rattle.archive_text.specs.Entries.{Entry, Has}
use Rattle.archive_text.proofs.Members.{has_left}
use Rattle.syslog_legacy.specs.declared.frame_reading.FrameReading.{FrameReading}
use Rattle.syslog_collect.specs.Collectors.{Stands as CollectorStands, behind, reading_of, store_of}
use Rattle.syslog_collect.specs.Frames.{IsReceived, all_of}
use Rattle.syslog_collect.specs.History.{AcceptedEvent, history_of}
use Rattle.syslog_collect.specs.Standing.{Stands}
use Rattle.syslog_collect.specs.declared.collector.Collector.{Collector}
use Rattle.syslog_collect.specs.declared.connections.Connections.{Connections}
use Rattle.syslog_collect.proofs.Gains.{gains_behind}
use Rattle.serve_engine.specs.Events.{Manner, manner_of}
use Rattle.serve_engine.specs.Intakes.{StandsBy}
use Rattle.serve_engine.specs.Keepings.{Kept}
use Rattle.serve_engine.specs.Servers.{AreTurns, Around, DoneRun, Made, Place, events_of, intake_of, kept_after}
use Rattle.serve_engine.specs.Serving.{HoldsReceived, IfCommitted}
use Rattle.serve_engine.specs.declared.serve_end.ServeEnd.{ServeEnd}
use Rattle.serve_engine.specs.declared.server.Server.{Server}
use Rattle.serve_engine.specs.declared.serve_end.ServeEnd.TheVariants.{Finished, Source, Disk, Memory, Endless}
use Rattle.store_keeper.specs.Keepers.{KeepsOn, store_of as durable_of}
use Rattle.store_keeper.specs.Keeping.{kept_whole}
use Rattle.store_keeper.specs.Runs.{LeavesCommitted, LeavesNoOther, LeavesReceived, RunLeaves, WasCommitted, server_disk}
use Rattle.store_keeper.specs.Spares.{spared_entries}
use Rattle.store_keeper.specs.declared.keeper.DiskKeeper.{DiskKeeper}
use Rattle.store_keeper.specs.declared.spared.SparedSet.{SparedSet}
use Rattle.store_keeper.proofs.Kept.{kept_keeps}
use Rattle.store_keeper.proofs.Received.{nothing_else}

-- ---- a beginning

-- a collector stands behind what is kept elsewhere
stands_past : (way : FrameReading) (cs : Connections) (past kept first : List Entry) (events : List AcceptedEvent)
    → Stands way cs kept first events → Stands way cs (past ++ kept) (past ++ first) events
stands_past way cs past kept first events s = record {
  acceptable = s.acceptable;
  stands_at = record {
    order = s.stands_at.order;
    all = s.stands_at.all;
    count = s.stands_at.count;
    in_order = record {
      handled = s.stands_at.in_order.handled;
      ended_frames = s.stands_at.in_order.ended_frames;
      follow = s.stands_at.in_order.follow;
      ended_are = s.stands_at.in_order.ended_are;
      gains = gains_behind way past first kept
          (all_of s.stands_at.in_order.handled
          ++ (all_of s.stands_at.in_order.ended_frames ++ (history_of events).datagrams))
          s.stands_at.in_order.gains;
    };
  };
}

-- over a set that is empty
stands_new : (way : FrameReading) (cs : Connections) (es kept none : List Entry) → none ≡ []
    → Stands way cs kept none [] → Stands way cs (es ++ kept) es []
stands_new way cs es kept none empty s =
    subst (λ (first : List Entry). Stands way cs (es ++ kept) first [])
    (subst (λ (x : List Entry). es ++ x ≡ es) (sym empty) (append-nil es)) (stands_past way cs es kept none [] s)

pub begins : {D N R : Type 0} {row : Ghosts D} (server : Server SparedSet (DiskKeeper D row) N R)
    (collector : Collector SparedSet) (keeper : DiskKeeper D row) (es none : List Entry)
    → (intake_of server).collector ≡ collector → (intake_of server).keeper ≡ keeper → none ≡ []
    → CollectorStands spared_entries collector none [] → KeepsOn keeper (kept_whole es)
    → StandsBy spared_entries KeepsOn (intake_of server) (kept_whole es) es []
begins {D = D} {row = row} server collector keeper es none one other empty s on = record {
  keeper = subst (λ (x : DiskKeeper D row). KeepsOn x (kept_whole es)) (sym other) on;
  within = λ x h. h;
  collector = subst (λ (x : Collector SparedSet). CollectorStands (behind es spared_entries) x es []) (sym one)
      (stands_new collector.reading collector.connections es (spared_entries collector.store) none empty s);
}

-- ---- an end

if_committed : (end : ServeEnd) (P Q : Type 0) → IfCommitted end P → (P → Q) → IfCommitted end Q
if_committed Finished P Q h f = f h
if_committed (Source fault) P Q h f = f h
if_committed Disk P Q h f = tt
if_committed Memory P Q h f = tt
if_committed Endless P Q h f = tt

-- nothing is in the folder but what was there first and was received
only : {D : Type 0} {row : Ghosts D} (new : Place SparedSet (DiskKeeper D row)) (way : FrameReading) (k : Kept)
    (first : List Entry) (events : List AcceptedEvent) → reading_of new.intake.collector ≡ way
    → StandsBy spared_entries KeepsOn new.intake k first events → row.tells (server_disk new)
    → LeavesNoOther (row.state (server_disk new)) way first events
only {row = row} new way k first events same at tells files may e h =
    let collector = new.intake.collector in
    let fresh = spared_entries (store_of collector) in
    let keeps = kept_keeps (durable_of new.intake.keeper) (row.state (server_disk new)) k (at.keeper tells) in
    subst (λ (w : FrameReading). Has first e ⊎ IsReceived w events e) same
    (nothing_else collector.reading collector.connections (k.held ++ fresh) first events at.collector e
    (has_left k.held fresh e (keeps.nothing_forged files may e h)))

-- all of that is there
whole : {D : Type 0} {row : Ghosts D} (new : Place SparedSet (DiskKeeper D row)) (way : FrameReading) (k : Kept)
    (first : List Entry) (events : List AcceptedEvent) → HoldsReceived way k.committed first events
    → reading_of new.intake.collector ≡ way → StandsBy spared_entries KeepsOn new.intake k first events
    → row.tells (server_disk new) → LeavesReceived (row.state (server_disk new)) way first events
whole {row = row} new way k first events committed same at tells files may e =
    let keeps = kept_keeps (durable_of new.intake.keeper) (row.state (server_disk new)) k (at.keeper tells) in (
      λ h. only new way k first events same at tells files may e h,
      λ h. keeps.nothing_lost files may e ((committed e).1 h),
    )

-- what was committed after a turn still is
still : (way : Manner) (first : List Entry) (k : Kept) (before : List AcceptedEvent) (a : Around) (made : List Made)
    → AreTurns way first k before a made → (x : Entry) → Has k.committed x ⊎ WasCommitted made x
    → Has (kept_after k made).committed x
still way first k before a [] turns x (inl had) = had
still way first k before a [] turns x (inr none) = absurd none
still way first k before a (m ∷ ms) (turns, is) x (inl had) =
    is.stays x (still way first k before a ms turns x (inl had))
still way first k before a (m ∷ ms) (turns, is) x (inr (inl now)) = now
still way first k before a (m ∷ ms) (turns, is) x (inr (inr had)) =
    is.stays x (still way first k before a ms turns x (inr had))

-- so that a crash leaves it
left : {D : Type 0} {row : Ghosts D} (new : Place SparedSet (DiskKeeper D row)) (way : Manner) (k : Kept)
    (first : List Entry) (before events : List AcceptedEvent) (a : Around) (made : List Made)
    → AreTurns way first k before a made → StandsBy spared_entries KeepsOn new.intake (kept_after k made) first events
    → row.tells (server_disk new) → LeavesCommitted (row.state (server_disk new)) k made
left {row = row} new way k first before events a made turns at tells files may e had =
    (kept_keeps (durable_of new.intake.keeper) (row.state (server_disk new)) (kept_after k made)
    (at.keeper tells)).nothing_lost files may e (still way first k before a made turns e had)

pub run_leaves : {D : Type 0} {row : Ghosts D} (end : ServeEnd) (old new : Place SparedSet (DiskKeeper D row))
    (k : Kept) (first : List Entry) (before : List AcceptedEvent)
    → reading_of new.intake.collector ≡ reading_of old.intake.collector
    → DoneRun spared_entries KeepsOn end old new k first before → RunLeaves end old new k first before
run_leaves {row = row} end old new k first before same run =
    let way = reading_of old.intake.collector in
    let events = before ++ events_of run.made in
    let kept = kept_after k run.made in
    record {
      run = run;
      received = λ tells. if_committed end (HoldsReceived way kept.committed first events)
          (LeavesReceived (row.state (server_disk new)) way first events) run.committed
          (λ committed. whole new way kept first events committed same run.stands_by tells);
      committed = λ tells. left new (manner_of old.intake.collector) k first before events old.around run.made run.turns
          run.stands_by tells;
      no_other = λ tells. only new way kept first events same run.stands_by tells;
    }
