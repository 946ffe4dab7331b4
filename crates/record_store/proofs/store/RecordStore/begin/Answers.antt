use Rattle.std.proofs.Common.{refl, arith}
use Rattle.record_store.proofs.Asides.{named_journal, others_files}
use Rattle.record_store.proofs.Apart.{no_journals}
use Rattle.record_store.proofs.Creating.{create_keeps, create_older, create_stands, create_within, none_named, none_within}
use Rattle.record_store.proofs.store.RecordStore.begin.Goals as goal

pub returns-in-Ok-clause-made : goal.returns-in-Ok-clause-made
returns-in-Ok-clause-made g c tells sound none committed received since keeps among =
    create_stands (g.D.Disk.state c.args.disk.now) (g.D.Disk.state c.create.new.disk) 1 c.in_ok-name.name (omega arith)
    c.in_ok-name.ensures (none 1 (omega arith)) (c.create.ensures.others tells) _ committed received since
    (c.create.ensures.any_moment tells sound) keeps among
    (no_journals (g.D.Disk.state c.args.disk.now) none since) (λ n above small. none n small) refl c.new.ensures.items
    c.in-Ok.ensures.name (c.in-Ok.ensures.settles tells sound) (c.in-Ok.ensures.created tells sound)

pub returns-in-Ok-clause-any_moment : goal.returns-in-Ok-clause-any_moment
returns-in-Ok-clause-any_moment g c tells sound none committed received keeps =
    create_keeps (g.D.Disk.state c.args.disk.now) (g.D.Disk.state c.create.new.disk) 1 c.in_ok-name.name (omega arith)
    c.in_ok-name.ensures (none 1 (omega arith)) (c.create.ensures.others tells)
    (c.create.ensures.any_moment tells sound) committed received keeps

pub returns-in-Err-clause-any_moment : goal.returns-in-Err-clause-any_moment
returns-in-Err-clause-any_moment g c tells sound none committed received keeps =
    create_keeps (g.D.Disk.state c.args.disk.now) (g.D.Disk.state c.create.new.disk) 1 c.in_ok-name.name (omega arith)
    c.in_ok-name.ensures (none 1 (omega arith)) (c.create.ensures.others tells)
    (c.create.ensures.any_moment tells sound) committed received keeps

pub returns-in-Ok-clause-shows : goal.returns-in-Ok-clause-shows
returns-in-Ok-clause-shows g c tells none since =
    create_within (g.D.Disk.state c.args.disk.now) (g.D.Disk.state c.create.new.disk) 1 c.in_ok-name.name (omega arith)
    c.in_ok-name.ensures (none 1 (omega arith)) (c.create.ensures.others tells) since
    (c.create.ensures.shows tells (none_named (g.D.Disk.state c.args.disk.now) c.in_ok-name.name c.in_ok-name.ensures none))
    (none_within (g.D.Disk.state c.args.disk.now) none since)

pub returns-in-Err-clause-shows : goal.returns-in-Err-clause-shows
returns-in-Err-clause-shows g c tells none since =
    create_within (g.D.Disk.state c.args.disk.now) (g.D.Disk.state c.create.new.disk) 1 c.in_ok-name.name (omega arith)
    c.in_ok-name.ensures (none 1 (omega arith)) (c.create.ensures.others tells) since
    (c.create.ensures.shows tells (none_named (g.D.Disk.state c.args.disk.now) c.in_ok-name.name c.in_ok-name.ensures none))
    (none_within (g.D.Disk.state c.args.disk.now) none since)

pub returns-in-Ok-clause-files : goal.returns-in-Ok-clause-files
returns-in-Ok-clause-files g c tells =
    others_files (g.D.Disk.state c.args.disk.now) (g.D.Disk.state c.create.new.disk) c.in_ok-name.name
    (named_journal 1 c.in_ok-name.name (omega arith) c.in_ok-name.ensures) (c.create.ensures.others tells)

pub returns-in-Err-clause-files : goal.returns-in-Err-clause-files
returns-in-Err-clause-files g c tells =
    others_files (g.D.Disk.state c.args.disk.now) (g.D.Disk.state c.create.new.disk) c.in_ok-name.name
    (named_journal 1 c.in_ok-name.name (omega arith) c.in_ok-name.ensures) (c.create.ensures.others tells)

pub returns-in-Ok-clause-sound : goal.returns-in-Ok-clause-sound
returns-in-Ok-clause-sound g c tells sound =
    let stands = c.in-Ok.ensures.created tells sound in
    stands.sound

pub returns-in-Ok-clause-older : goal.returns-in-Ok-clause-older
returns-in-Ok-clause-older g c tells none since =
    create_older (g.D.Disk.state c.args.disk.now) (g.D.Disk.state c.create.new.disk) 1 c.in_ok-name.name (omega arith)
    c.in_ok-name.ensures (none 1 (omega arith)) (c.create.ensures.others tells) since
    (c.create.ensures.shows tells (none_named (g.D.Disk.state c.args.disk.now) c.in_ok-name.name c.in_ok-name.ensures none))
    (no_journals (g.D.Disk.state c.args.disk.now) none since)

pub returns-in-Err-clause-older : goal.returns-in-Err-clause-older
returns-in-Err-clause-older g c tells none since =
    create_older (g.D.Disk.state c.args.disk.now) (g.D.Disk.state c.create.new.disk) 1 c.in_ok-name.name (omega arith)
    c.in_ok-name.ensures (none 1 (omega arith)) (c.create.ensures.others tells) since
    (c.create.ensures.shows tells (none_named (g.D.Disk.state c.args.disk.now) c.in_ok-name.name c.in_ok-name.ensures none))
    (no_journals (g.D.Disk.state c.args.disk.now) none since)
