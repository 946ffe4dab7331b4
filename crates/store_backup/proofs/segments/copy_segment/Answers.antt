use Rattle.std.proofs.Common.{◌≡◌, rules, sym, ◌∙◌}
use Rattle.std.specs.Prelude.{false}
use Rattle.std.proofs.lemmas.Bool.{false≢true}
use Rattle.store_backup.proofs.Becoming.{becomes_copy, open_place, segment_damage, segment_free}
use Rattle.store_backup.proofs.Placing.{others_then, place_then}
use Rattle.store_backup.proofs.segments.copy_segment.Goals as goal

pub returns-in_err-written-clause-places : goal.returns-in_err-written-clause-places
returns-in_err-written-clause-places g c source tells opens =
    open_place (g.F.Folder.files c.args.folder.now) (g.D.Disk.state c.args.target.now)
    (g.D.Disk.state c.draft_segment.new.target) c.args.draft.now c.args.name.now opens
    (c.draft_segment.ensures.others tells)

pub returns-in_default-clause-places : goal.returns-in_default-clause-places
returns-in_default-clause-places g c source tells opens =
    open_place (g.F.Folder.files c.args.folder.now) (g.D.Disk.state c.args.target.now)
    (g.D.Disk.state c.draft_segment.new.target) c.args.draft.now c.args.name.now opens
    (c.draft_segment.ensures.others tells)

pub returns-in_err-is_named_by-clause-places : goal.returns-in_err-is_named_by-clause-places
returns-in_err-is_named_by-clause-places g c source tells opens =
    open_place (g.F.Folder.files c.args.folder.now) (g.D.Disk.state c.args.target.now)
    (g.D.Disk.state c.draft_segment.new.target) c.args.draft.now c.args.name.now opens
    (c.draft_segment.ensures.others tells)

pub returns-in_err-discard-clause-places : goal.returns-in_err-discard-clause-places
returns-in_err-discard-clause-places g c source tells opens =
    let zero = g.D.Disk.state c.args.target.now in
    let one = g.D.Disk.state c.draft_segment.new.target in
    let two = g.D.Disk.state c.discard.new.target in
    let draft = c.args.draft.now in
    open_place (g.F.Folder.files c.args.folder.now) zero two draft c.args.name.now opens
    (others_then zero one two draft (c.draft_segment.ensures.others (c.discard.ensures.told tells))
    (c.discard.ensures.others tells))

pub returns-then-not-branch-clause-places : goal.returns-then-not-branch-clause-places
returns-then-not-branch-clause-places g c source tells opens =
    let zero = g.D.Disk.state c.args.target.now in
    let one = g.D.Disk.state c.draft_segment.new.target in
    let two = g.D.Disk.state c.discard.new.target in
    let draft = c.args.draft.now in
    open_place (g.F.Folder.files c.args.folder.now) zero two draft c.args.name.now opens
    (others_then zero one two draft (c.draft_segment.ensures.others (c.discard.ensures.told tells))
    (c.discard.ensures.others tells))

pub returns-then-not-branch-clause-becomes : goal.returns-then-not-branch-clause-becomes
returns-then-not-branch-clause-becomes g c source tells opens =
    let zero = g.D.Disk.state c.args.target.now in
    let one = g.D.Disk.state c.draft_segment.new.target in
    let two = g.D.Disk.state c.discard.new.target in
    let draft = c.args.draft.now in
    let told = c.discard.ensures.told tells in
    let others = c.draft_segment.ensures.others told in
    let is = (rw c.in-Some.is at c.in_ok-written.ensures.written) source told opens.backing.sound in
    let off : c.in_ok-is_named_by.field-0 ≡ false = search rules in (
      record {
        sound = c.in_ok-discard.ensures.sound tells is.drafted.sound;
        others = others_then zero one two draft others (c.discard.ensures.others tells);
      },
      segment_damage (g.F.Folder.files c.args.folder.now) zero one draft c.args.name.now c.args.period.now
          c.in-Some.written opens c.requires.text c.requires.segment others is
          (λ named. false≢true (sym off ∙ c.in_ok-is_named_by.ensures.1 named)),
    )

pub returns-in_err-place-clause-places : goal.returns-in_err-place-clause-places
returns-in_err-place-clause-places g c source tells opens =
    let files = g.F.Folder.files c.args.folder.now in
    let zero = g.D.Disk.state c.args.target.now in
    let one = g.D.Disk.state c.draft_segment.new.target in
    let draft = c.args.draft.now in
    let name = c.args.name.now in
    let told = c.place.ensures.told tells in
    let others = c.draft_segment.ensures.others told in
    let is = (rw c.in-Some.is at c.in_ok-written.ensures.written) source told opens.backing.sound in
    place_then files zero one (g.D.Disk.state c.place.new.target) draft name others
    (c.place.ensures.placed tells files is.text is.drafted
    (segment_free files zero one draft name c.args.period.now c.in-Some.written opens c.requires.text c.requires.segment
    others is (c.in_ok-is_named_by.ensures.0 (search rules))))

pub returns-clause-places : goal.returns-clause-places
returns-clause-places g c source tells opens =
    let files = g.F.Folder.files c.args.folder.now in
    let zero = g.D.Disk.state c.args.target.now in
    let one = g.D.Disk.state c.draft_segment.new.target in
    let draft = c.args.draft.now in
    let name = c.args.name.now in
    let told = c.place.ensures.told tells in
    let others = c.draft_segment.ensures.others told in
    let is = (rw c.in-Some.is at c.in_ok-written.ensures.written) source told opens.backing.sound in
    place_then files zero one (g.D.Disk.state c.place.new.target) draft name others
    (c.place.ensures.placed tells files is.text is.drafted
    (segment_free files zero one draft name c.args.period.now c.in-Some.written opens c.requires.text c.requires.segment
    others is (c.in_ok-is_named_by.ensures.0 (search rules))))

pub returns-clause-becomes : goal.returns-clause-becomes
returns-clause-becomes g c source tells opens =
    let files = g.F.Folder.files c.args.folder.now in
    let zero = g.D.Disk.state c.args.target.now in
    let one = g.D.Disk.state c.draft_segment.new.target in
    let draft = c.args.draft.now in
    let name = c.args.name.now in
    let told = c.place.ensures.told tells in
    let others = c.draft_segment.ensures.others told in
    let is = (rw c.in-Some.is at c.in_ok-written.ensures.written) source told opens.backing.sound in
    becomes_copy (g.D.Disk.state c.place.new.target) name is.text c.in-Some.written.octets
    (c.in_ok-place.ensures.there tells files is.text is.drafted
    (segment_free files zero one draft name c.args.period.now c.in-Some.written opens c.requires.text c.requires.segment
    others is (c.in_ok-is_named_by.ensures.0 (search rules))))
    is.transfer.octets
