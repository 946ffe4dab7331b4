use Rattle.std.proofs.Common.{◌∙◌}
use Rattle.ledger_disk.proofs.Gone.{apart, there_after, told_gone}
use Rattle.ledger_disk.proofs.keeper.LedgerKeeper.remove_segment.Goals as goal

pub returns-in_err-number-clause-gone : goal.returns-in_err-number-clause-gone
returns-in_err-number-clause-gone g c tells sound segment some none =
    let zero = g.D.Disk.state c.args.self.now.writer.disk in
    let one = g.D.Disk.state c.has_file.new.disk in
    let two = g.D.Disk.state c.size_of.new.disk in
    let name = c.args.name.now in
    let told = c.remove.ensures.told tells in
    let second = c.size_of.ensures.same told in
    let first = c.has_file.ensures.same (c.size_of.ensures.told told) in
    told_gone zero one two (g.D.Disk.state c.remove.new.self.disk) name c.as_octets.result.now c.in-Some.removal
    c.in_ok-count.count c.in_ok-count.octets c.as_octets.ensures.value first second
    (c.remove.ensures.gone tells (second.lost ∙ first.lost ∙ sound) (apart name segment)
    (there_after one two name second (there_after zero one name first some)) none)

pub returns-in_err-note-clause-gone : goal.returns-in_err-note-clause-gone
returns-in_err-note-clause-gone g c tells sound segment some none =
    let zero = g.D.Disk.state c.args.self.now.writer.disk in
    let one = g.D.Disk.state c.has_file.new.disk in
    let two = g.D.Disk.state c.size_of.new.disk in
    let name = c.args.name.now in
    let told = c.remove.ensures.told tells in
    let second = c.size_of.ensures.same told in
    let first = c.has_file.ensures.same (c.size_of.ensures.told told) in
    told_gone zero one two (g.D.Disk.state c.remove.new.self.disk) name c.as_octets.result.now c.in-Some.removal
    c.in_ok-count.count c.in_ok-count.octets c.as_octets.ensures.value first second
    (c.remove.ensures.gone tells (second.lost ∙ first.lost ∙ sound) (apart name segment)
    (there_after one two name second (there_after zero one name first some)) none)

pub returns-clause-gone : goal.returns-clause-gone
returns-clause-gone g c tells sound segment some none =
    let zero = g.D.Disk.state c.args.self.now.writer.disk in
    let one = g.D.Disk.state c.has_file.new.disk in
    let two = g.D.Disk.state c.size_of.new.disk in
    let name = c.args.name.now in
    let told = c.remove.ensures.told tells in
    let second = c.size_of.ensures.same told in
    let first = c.has_file.ensures.same (c.size_of.ensures.told told) in
    told_gone zero one two (g.D.Disk.state c.remove.new.self.disk) name c.as_octets.result.now c.in-Some.removal
    c.in_ok-count.count c.in_ok-count.octets c.as_octets.ensures.value first second
    (c.remove.ensures.gone tells (second.lost ∙ first.lost ∙ sound) (apart name segment)
    (there_after one two name second (there_after zero one name first some)) none)
