use Rattle.std.proofs.Common.{◌≡◌, ◌≢◌, List, ℕ, take}
use Rattle.std.specs.Prelude.{Contains, None}
use Rattle.archive_text.specs.Entries.{Entry}
use Rattle.store_upkeep.specs.Compaction.{HasAll, KeepsSet, ShowsLess, shown}
use Rattle.store_upkeep.proofs.compaction.remove_joined.Given as goal

abbrev pub invariant-segments : goal.invariant-segments
invariant-segments g l =
    let before = g.D.Disk.state l.fn.disk in
    let now = g.D.Disk.state l.disk in
    record {
      told : g.D.Disk.tells l.disk → g.D.Disk.tells l.fn.disk;
      lost : g.D.Disk.tells l.disk → now.lost ≡ before.lost;
      set : g.D.Disk.tells l.disk → (day text : List ℕ) (es : List Entry)
          → HasAll before l.segments l.joined day text es → KeepsSet before now;
      all : g.D.Disk.tells l.disk → (day text : List ℕ) (es : List Entry)
          → HasAll before l.segments l.joined day text es → HasAll now l.segments l.joined day text es;
      gone : g.D.Disk.tells l.disk → (name : List ℕ) → Contains (take l.segment-index l.segments) name
          → name ≢ l.joined → shown now name ≡ None;
      less : g.D.Disk.tells l.disk → ShowsLess before now;
      others : g.D.Disk.tells l.disk → (name : List ℕ) → ¬ (Contains l.segments name)
          → shown now name ≡ shown before name;
    }
