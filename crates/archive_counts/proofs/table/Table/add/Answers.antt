use Rattle.std.proofs.Common.{◌≡◌, None, Some, refl, sym}
use Rattle.archive_text.specs.EntryViews.{entry_of}
use Rattle.archive_counts.specs.Tables.{tally_at}
use Rattle.archive_counts.specs.declared.table.Table.{Table}
use Rattle.archive_counts.proofs.Tables.{adds_to, grows_from_none, grows_from_some, some_here}
use Rattle.archive_counts.proofs.table.Table.add.Goals as goal

pub returns-in-Some : goal.returns-in-Some
returns-in-Some c =
    let s : Table = c.args.self.now in
    let t : Table = record { rows = c.get_mut.follows.lender c.add.new.self; alloc = c.args.self.now.alloc } in
    let here : tally_at s c.args.words.now ≡ Some c.in-Some.tally.now = sym c.in-Some.ensures.value in
    adds_to s t s c.args.words.now c.args.words.now (entry_of c.args.entry.now) c.add.new.self refl refl
    ((c.get_mut.follows.holds c.add.new.self).3 (some_here (tally_at s c.args.words.now) c.in-Some.tally.now here))
    (grows_from_some (tally_at s c.args.words.now) c.in-Some.tally.now c.add.new.self (entry_of c.args.entry.now) here
    c.add.ensures)

pub returns : goal.returns
returns c =
    let s : Table = c.args.self.now in
    let t : Table = record { rows = c.insert.new.self; alloc = c.args.self.now.alloc } in
    let m : Table = record { rows = c.get_mut.follows.lender-at-none; alloc = c.args.self.now.alloc } in
    let here : tally_at s c.args.words.now ≡ None = sym c.in_default.ensures.value in
    adds_to s t m c.in_ok-from_slice.field-0.items c.args.words.now (entry_of c.args.entry.now) c.add-2.new.self
    c.get_mut.follows.holds-at-none c.in_ok-from_slice.ensures.items c.in_ok-insert.ensures.updates
    (grows_from_none (tally_at s c.args.words.now) c.new-tally.result c.add-2.new.self (entry_of c.args.entry.now) here
    c.new-tally.ensures c.add-2.ensures)
