-- What calls do to a collector, one after the other.
use Rattle.std.proofs.Common.{◌≡◌, List, [], ◌++◌, ap, append_assoc, arith, refl, subst, ◌∙◌}
use Rattle.std.specs.Prelude.{◌↔◌}
use Rattle.archive_text.specs.Entries.{Entry, Has}
use Rattle.syslog_legacy.specs.declared.frame_reading.FrameReading.{FrameReading}
use Rattle.syslog_collect.specs.declared.collector.Collector.{Collector}
use Rattle.syslog_collect.specs.Collectors.{GoesOn, HaveSameConnections, Stands, behind, reading_of, reserves_of, store_of}
use Rattle.syslog_collect.specs.declared.connections.Connections.{Connections}
use Rattle.syslog_collect.specs.Frames.{all_of}
use Rattle.syslog_collect.specs.History.{AcceptedEvent, history_of}
use Rattle.syslog_collect.specs.Standing.{Stands as StandsWith}
use Rattle.syslog_collect.proofs.Gains.{gains_members}
use Rattle.syslog_collect.proofs.Found.{keeps_same, stays_with}
use Rattle.syslog_collect.proofs.Rooms.{reserved_kept}

-- nothing was accepted, and nothing has changed
pub kept : {S : Type 0} (entries : S → List Entry) (c d : Collector S) → HaveSameConnections c d
    → reading_of d ≡ reading_of c → reserves_of d ≡ reserves_of c → entries (store_of d) ≡ entries (store_of c)
    → GoesOn entries c d []
kept entries c d same reading reserves store = record {
  stands = λ past first events was.
      rw reading (stays_with c.reading c.connections d.connections (past ++ entries c.store) (past ++ entries d.store)
      first events same (ap (λ (z : List Entry). past ++ z) store) was);
  reading = reading;
  reserves = reserves;
  whole = λ on all. reserved_kept c.connections d.connections same all;
  limit = same.limit;
  room = same.room;
}

-- it is the same collector
pub stays : {S : Type 0} (entries : S → List Entry) (c : Collector S) → GoesOn entries c c []
stays entries c = kept entries c c (keeps_same c.connections) refl refl refl

-- over other entries that are the same
pub stands_members : (way : FrameReading) (cs : Connections) (kept now first : List Entry) (es : List AcceptedEvent)
    → ((x : Entry) → Has kept x ↔ Has now x) → StandsWith way cs kept first es → StandsWith way cs now first es
stands_members way cs kept now first es same was =
    let at = was.stands_at in
    let sa = at.in_order in
    record {
      acceptable = was.acceptable;
      stands_at = record {
        order = at.order;
        all = at.all;
        count = at.count;
        in_order = record {
          handled = sa.handled;
          ended_frames = sa.ended_frames;
          follow = sa.follow;
          ended_are = sa.ended_are;
          gains = gains_members way first kept now (all_of sa.handled ++ (all_of sa.ended_frames ++ (history_of es).datagrams))
              same sa.gains;
        };
      };
    }

-- one call after the other
pub goes_on_then : {S : Type 0} (entries : S → List Entry) (a b c : Collector S) (es fs : List AcceptedEvent)
    → GoesOn entries a b es → GoesOn entries b c fs → GoesOn entries a c (es ++ fs)
goes_on_then entries a b c es fs one two = record {
  stands = λ past first events was.
      subst (λ (ts : List AcceptedEvent). Stands (behind past entries) c first ts) (append_assoc events es fs)
      (two.stands past first (events ++ es) (one.stands past first events was));
  reading = two.reading ∙ one.reading;
  limit = two.limit ∙ one.limit;
  reserves = two.reserves ∙ one.reserves;
  whole = λ on all. two.whole (one.reserves ∙ on) (one.whole on all);
  room = omega (arith, one.room, two.room);
}
