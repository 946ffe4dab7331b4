-- What a store keeps through its calls.
use Rattle.std.proofs.Common.{⊎_elim, inl, List, ◌++◌}
use Rattle.disk.specs.States.{State}
use Rattle.archive_text.specs.Entries.{Entry, Has}
use Rattle.archive_text.proofs.Members.{has_left, has_right}
use Rattle.record_store.specs.Crashes.{Keeps}
use Rattle.record_store.specs.Stores.{Sets, all_committed, begun}
use Rattle.record_store.specs.Turns.{turned}
use Rattle.durable_store.specs.Durables.{Stands}
use Rattle.durable_store.specs.declared.store.DurableStore.{DurableStore}
use Rattle.serve_engine.specs.Keepings.{Kept, all_committed as all_kept}
use Rattle.store_keeper.specs.Keeping.{IsKept, kept_whole}

-- where a store stands with the same sets, it keeps the same
pub same_kept : (old new : DurableStore) (was is : State) (k : Kept)
    → ((sets : Sets) → Stands old was sets → Stands new is sets) → IsKept old was k → IsKept new is k
same_kept old new was is k on kept = record {
  sets = kept.sets;
  stands = on kept.sets kept.stands;
  held = kept.held;
  committed = kept.committed;
  waits = kept.waits;
}

-- where what waits is committed, all that is held is
pub commit_kept : (old new : DurableStore) (was is : State) (k : Kept)
    → ((sets : Sets) → Stands old was sets → Stands new is (all_committed sets)) → IsKept old was k
    → IsKept new is (all_kept k)
commit_kept old new was is k on kept = record {
  sets = all_committed kept.sets;
  stands = on kept.sets kept.stands;
  held = kept.held;
  committed = now;
  waits = λ x h. inl (now x h);
}
  where
    now : (x : Entry) → Has k.held x → Has (kept.sets.committed ++ kept.sets.waiting) x
    now x h = ⊎_elim
        (λ before. has_left kept.sets.committed kept.sets.waiting x before)
        (λ waits. has_right kept.sets.committed kept.sets.waiting x waits)
        (kept.waits x h)

-- where other files have what came since the last checkpoint
pub turn_kept : (old new : DurableStore) (was is : State) (k : Kept)
    → ((sets : Sets) → Stands old was sets → Stands new is (turned sets)) → IsKept old was k → IsKept new is k
turn_kept old new was is k on kept = record {
  sets = turned kept.sets;
  stands = on kept.sets kept.stands;
  held = kept.held;
  committed = λ x h. has_left kept.sets.committed kept.sets.since x (kept.committed x h);
  waits = λ x h. inl (⊎_elim
      (λ before. has_left kept.sets.committed kept.sets.since x before)
      (λ waits. has_right kept.sets.committed kept.sets.since x (kept.stands.journal.waits x waits))
      (kept.waits x h));
}

-- all that is held is committed then
pub turn_commits : (old new : DurableStore) (was is : State) (k : Kept)
    → ((sets : Sets) → Stands old was sets → Stands new is (turned sets)) → IsKept old was k
    → IsKept new is (all_kept k)
turn_commits old new was is k on kept = record {
  sets = turned kept.sets;
  stands = on kept.sets kept.stands;
  held = kept.held;
  committed = now;
  waits = λ x h. inl (now x h);
}
  where
    now : (x : Entry) → Has k.held x → Has (kept.sets.committed ++ kept.sets.since) x
    now x h = ⊎_elim
        (λ before. has_left kept.sets.committed kept.sets.since x before)
        (λ waits. has_right kept.sets.committed kept.sets.since x (kept.stands.journal.waits x waits))
        (kept.waits x h)

-- a store that was opened where every crash leaves the same
pub open_kept : (store : DurableStore) (state : State) (es since : List Entry)
    → Stands store state (begun es es since) → IsKept store state (kept_whole es)
open_kept store state es since stands = record {
  sets = begun es es since;
  stands = stands;
  held = λ x. (λ h. h, λ h. h);
  committed = λ x h. h;
  waits = λ x h. inl h;
}

-- whatever a crash leaves has all that is committed, and nothing that is not held
pub kept_keeps : (store : DurableStore) (state : State) (k : Kept) → IsKept store state k
    → Keeps state k.committed k.held
kept_keeps store state k kept = record {
  nothing_lost = λ files may e h. kept.stands.journal.keeps.nothing_lost files may e (kept.committed e h);
  nothing_forged = λ files may e h. (kept.held e).1 (kept.stands.journal.keeps.nothing_forged files may e h);
}
