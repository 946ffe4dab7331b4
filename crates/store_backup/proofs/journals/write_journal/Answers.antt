use Rattle.std.proofs.Common.{[], inl}
use Rattle.store_backup.proofs.Becoming.{becomes_copy, journal_copy, journal_count, journal_text, open_free, open_place}
use Rattle.store_backup.proofs.Placing.{others_then, place_then}
use Rattle.store_backup.proofs.journals.write_journal.Goals as goal

pub returns-in_err-begin-clause-places : goal.returns-in_err-begin-clause-places
returns-in_err-begin-clause-places g c tells files opens at =
    open_place files (g.D.Disk.state c.args.target.now) (g.D.Disk.state c.begin.new.target) c.args.draft.now
    c.args.name.now opens (c.begin.ensures.others tells)

pub returns-in_err-push-clause-places : goal.returns-in_err-push-clause-places
returns-in_err-push-clause-places g c tells files opens at =
    let zero = g.D.Disk.state c.args.target.now in
    let one = g.D.Disk.state c.begin.new.target in
    let two = g.D.Disk.state c.push.new.target in
    let draft = c.args.draft.now in
    open_place files zero two draft c.args.name.now opens
    (others_then zero one two draft (c.begin.ensures.others (c.push.ensures.told tells)) (c.push.ensures.others tells))

pub returns-in_err-push-2-clause-places : goal.returns-in_err-push-2-clause-places
returns-in_err-push-2-clause-places g c tells files opens at =
    let zero = g.D.Disk.state c.args.target.now in
    let one = g.D.Disk.state c.begin.new.target in
    let two = g.D.Disk.state c.push.new.target in
    let three = g.D.Disk.state c.push-2.new.target in
    let draft = c.args.draft.now in
    let told = c.push-2.ensures.told tells in
    open_place files zero three draft c.args.name.now opens
    (others_then zero two three draft
    (others_then zero one two draft (c.begin.ensures.others (c.push.ensures.told told)) (c.push.ensures.others told))
    (c.push-2.ensures.others tells))

pub returns-in_err-place-clause-places : goal.returns-in_err-place-clause-places
returns-in_err-place-clause-places g c tells files opens at =
    let zero = g.D.Disk.state c.args.target.now in
    let one = g.D.Disk.state c.begin.new.target in
    let two = g.D.Disk.state c.push.new.target in
    let three = g.D.Disk.state c.push-2.new.target in
    let draft = c.args.draft.now in
    let name = c.args.name.now in
    let file = c.args.file.now in
    let end = c.end_of_batches-end.result in
    let ends = c.end_of_batches-end.ensures.ends in
    let third = c.place.ensures.told tells in
    let second = c.push-2.ensures.told third in
    let first = c.push.ensures.told second in
    let others = others_then zero two three draft
    (others_then zero one two draft (c.begin.ensures.others first) (c.push.ensures.others second))
    (c.push-2.ensures.others third) in
    let text = journal_text file end in
    let drafted = c.in_ok-push-2.ensures.pushed third _
    (c.in_ok-push.ensures.pushed second [] (c.in_ok-begin.ensures.begun first opens.backing.sound)) in
    place_then files zero three (g.D.Disk.state c.place.new.target) draft name others
    (c.place.ensures.placed tells files text drafted
    (open_free files zero three draft name text opens (inl at.journal) others
    (journal_copy files name file at end ends)))

pub returns-clause-places : goal.returns-clause-places
returns-clause-places g c tells files opens at =
    let zero = g.D.Disk.state c.args.target.now in
    let one = g.D.Disk.state c.begin.new.target in
    let two = g.D.Disk.state c.push.new.target in
    let three = g.D.Disk.state c.push-2.new.target in
    let draft = c.args.draft.now in
    let name = c.args.name.now in
    let file = c.args.file.now in
    let end = c.end_of_batches-end.result in
    let ends = c.end_of_batches-end.ensures.ends in
    let third = c.place.ensures.told tells in
    let second = c.push-2.ensures.told third in
    let first = c.push.ensures.told second in
    let others = others_then zero two three draft
    (others_then zero one two draft (c.begin.ensures.others first) (c.push.ensures.others second))
    (c.push-2.ensures.others third) in
    let text = journal_text file end in
    let drafted = c.in_ok-push-2.ensures.pushed third _
    (c.in_ok-push.ensures.pushed second [] (c.in_ok-begin.ensures.begun first opens.backing.sound)) in
    place_then files zero three (g.D.Disk.state c.place.new.target) draft name others
    (c.place.ensures.placed tells files text drafted
    (open_free files zero three draft name text opens (inl at.journal) others
    (journal_copy files name file at end ends)))

pub returns-clause-becomes : goal.returns-clause-becomes
returns-clause-becomes g c tells files opens at =
    let zero = g.D.Disk.state c.args.target.now in
    let one = g.D.Disk.state c.begin.new.target in
    let two = g.D.Disk.state c.push.new.target in
    let three = g.D.Disk.state c.push-2.new.target in
    let draft = c.args.draft.now in
    let name = c.args.name.now in
    let file = c.args.file.now in
    let end = c.end_of_batches-end.result in
    let ends = c.end_of_batches-end.ensures.ends in
    let third = c.place.ensures.told tells in
    let second = c.push-2.ensures.told third in
    let first = c.push.ensures.told second in
    let others = others_then zero two three draft
    (others_then zero one two draft (c.begin.ensures.others first) (c.push.ensures.others second))
    (c.push-2.ensures.others third) in
    let text = journal_text file end in
    let drafted = c.in_ok-push-2.ensures.pushed third _
    (c.in_ok-push.ensures.pushed second [] (c.in_ok-begin.ensures.begun first opens.backing.sound)) in
    becomes_copy (g.D.Disk.state c.place.new.target) name text c.saturating_add.result
    (c.in_ok-place.ensures.there tells files text drafted
    (open_free files zero three draft name text opens (inl at.journal) others
    (journal_copy files name file at end ends)))
    (journal_count files name file at end ends c.saturating_add.result c.saturating_add.ensures)
