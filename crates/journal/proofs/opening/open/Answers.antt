use Rattle.std.proofs.Common.{◌≡◌, ℕ, List, [], ◌∷◌, ◌++◌, sym, ap, ◌∙◌, subst}
use Rattle.std.proofs.lemmas.Result.{err_from_is_err_and}
use Rattle.disk.specs.declared.fault.DiskFault.TheVariants.{Missing}
use Rattle.journal.specs.declared.fault.JournalFault.TheVariants.{Disk}
use Rattle.std.specs.Prelude.{Err, IsNone}
use Rattle.disk.specs.Files.{settled}
use Rattle.disk.specs.States.{Entry}
use Rattle.disk.specs.declared.fault.DiskFault.{DiskFault}
use Rattle.journal.specs.Batches.{batches_text}
use Rattle.journal.specs.Journals.{EndsAt, IsOnDisk, only_file}
use Rattle.journal.proofs.Repair.{ends_here, shown_there, still_there, unchanged_leaves}
use Rattle.journal.proofs.opening.open.Goals as goal

pub returns-in_err-file-clause-any_moment : goal.returns-in_err-file-clause-any_moment
returns-in_err-file-clause-any_moment g c tells file bodies at has =
    unchanged_leaves (g.D.Disk.state c.args.disk.now) (g.D.Disk.state c.read_octets.new.disk) c.args.name file bodies at
    (c.in_err-file.ensures.same tells) has

pub returns-in_err-shut-clause-any_moment : goal.returns-in_err-shut-clause-any_moment
returns-in_err-shut-clause-any_moment g c tells file bodies at has =
    let before = g.D.Disk.state c.args.disk.now in
    let read = g.D.Disk.state c.read_octets.new.disk in
    let name = c.args.name in
    let octets = c.deref-2.result.now in
    let end = c.end_of_batches-end.result in
    let tells_read = c.shut.ensures.told tells in
    let there = still_there before read name file at (c.in_ok-file.ensures.same tells_read) in
    let items = c.in_ok-file.ensures.octets tells_read at.sound file (shown_there before name file at) in
    let ends = ends_here file c.deref.result.now bodies end (c.deref.ensures.value ∙ items) has
    c.end_of_batches-end.ensures.ends in
    let is = c.deref-2.ensures.value ∙ items in
    let at_octets = subst (IsOnDisk read name) (sym is) there in
    let ends_octets = subst (λ (l : List ℕ). EndsAt l bodies end) (sym is) ends in
    c.in_err-shut.ensures.leaves tells bodies at_octets ends_octets

pub returns-in_err-cut_behind-clause-any_moment : goal.returns-in_err-cut_behind-clause-any_moment
returns-in_err-cut_behind-clause-any_moment g c tells file bodies at has =
    let before = g.D.Disk.state c.args.disk.now in
    let read = g.D.Disk.state c.read_octets.new.disk in
    let name = c.args.name in
    let octets = c.deref-2.result.now in
    let end = c.end_of_batches-end.result in
    let tells_shut = c.cut_behind.ensures.told tells in
    let tells_read = c.shut.ensures.told tells_shut in
    let there = still_there before read name file at (c.in_ok-file.ensures.same tells_read) in
    let items = c.in_ok-file.ensures.octets tells_read at.sound file (shown_there before name file at) in
    let ends = ends_here file c.deref.result.now bodies end (c.deref.ensures.value ∙ items) has
    c.end_of_batches-end.ensures.ends in
    let is = c.deref-2.ensures.value ∙ items in
    let at_octets = subst (IsOnDisk read name) (sym is) there in
    let ends_octets = subst (λ (l : List ℕ). EndsAt l bodies end) (sym is) ends in
    c.in_err-cut_behind.ensures.leaves tells bodies
    (c.in_ok-shut.ensures.closing tells_shut bodies at_octets ends_octets) ends.end_is

pub returns-in_err-renew-clause-any_moment : goal.returns-in_err-renew-clause-any_moment
returns-in_err-renew-clause-any_moment g c tells file bodies at has =
    let before = g.D.Disk.state c.args.disk.now in
    let read = g.D.Disk.state c.read_octets.new.disk in
    let name = c.args.name in
    let octets = c.deref-2.result.now in
    let end = c.end_of_batches-end.result in
    let tells_cut = c.renew.ensures.told tells in
    let tells_shut = c.cut_behind.ensures.told tells_cut in
    let tells_read = c.shut.ensures.told tells_shut in
    let there = still_there before read name file at (c.in_ok-file.ensures.same tells_read) in
    let items = c.in_ok-file.ensures.octets tells_read at.sound file (shown_there before name file at) in
    let ends = ends_here file c.deref.result.now bodies end (c.deref.ensures.value ∙ items) has
    c.end_of_batches-end.ensures.ends in
    let is = c.deref-2.ensures.value ∙ items in
    let at_octets = subst (IsOnDisk read name) (sym is) there in
    let ends_octets = subst (λ (l : List ℕ). EndsAt l bodies end) (sym is) ends in
    c.in_err-renew.ensures.leaves tells bodies
    (c.in_ok-cut_behind.ensures.at_rest tells_cut bodies
    (c.in_ok-shut.ensures.closing tells_shut bodies at_octets ends_octets) ends.end_is) ends.end_is

pub returns-clause-any_moment : goal.returns-clause-any_moment
returns-clause-any_moment g c tells file bodies at has =
    let before = g.D.Disk.state c.args.disk.now in
    let read = g.D.Disk.state c.read_octets.new.disk in
    let name = c.args.name in
    let octets = c.deref-2.result.now in
    let end = c.end_of_batches-end.result in
    let tells_cut = c.renew.ensures.told tells in
    let tells_shut = c.cut_behind.ensures.told tells_cut in
    let tells_read = c.shut.ensures.told tells_shut in
    let there = still_there before read name file at (c.in_ok-file.ensures.same tells_read) in
    let items = c.in_ok-file.ensures.octets tells_read at.sound file (shown_there before name file at) in
    let ends = ends_here file c.deref.result.now bodies end (c.deref.ensures.value ∙ items) has
    c.end_of_batches-end.ensures.ends in
    let is = c.deref-2.ensures.value ∙ items in
    let at_octets = subst (IsOnDisk read name) (sym is) there in
    let ends_octets = subst (λ (l : List ℕ). EndsAt l bodies end) (sym is) ends in
    c.in_ok-renew.ensures.leaves tells bodies
    (c.in_ok-cut_behind.ensures.at_rest tells_cut bodies
    (c.in_ok-shut.ensures.closing tells_shut bodies at_octets ends_octets) ends.end_is) ends.end_is

pub returns-in_err-cut_behind-clause-not_missing : goal.returns-in_err-cut_behind-clause-not_missing
returns-in_err-cut_behind-clause-not_missing g c tells file at missing =
    let before = g.D.Disk.state c.args.disk.now in
    let read = g.D.Disk.state c.read_octets.new.disk in
    let name = c.args.name in
    let octets = c.deref-2.result.now in
    let end = c.end_of_batches-end.result in
    let tells_shut = c.cut_behind.ensures.told tells in
    let tells_read = c.shut.ensures.told tells_shut in
    let there = still_there before read name file at (c.in_ok-file.ensures.same tells_read) in
    let items = c.in_ok-file.ensures.octets tells_read at.sound file (shown_there before name file at) in
    let found = c.end_of_batches-end.ensures.ends in
    let is = c.deref-2.ensures.value ∙ items in
    let same = c.deref-2.ensures.value ∙ sym c.deref.ensures.value in
    let at_octets = subst (IsOnDisk read name) (sym is) there in
    let ends_octets = subst (λ (l : List ℕ). EndsAt l found.0 end) (sym same) found.1 in
    let closing = c.in_ok-shut.ensures.closing tells_shut found.0 at_octets ends_octets in
    let fault = err_from_is_err_and c.from_residual-in_err-cut_behind.result
    c.from_residual-in_err-cut_behind.ensures.1 in
    let wrapped : fault.0 ≡ Disk Missing = cc (fault.1, missing) in
    let gone : c.in_err-cut_behind.field-0.0 ≡ Missing = cc (wrapped, fault.2) in
    let none = c.in_err-cut_behind.ensures.missing tells (ap (λ (f : DiskFault). Err f) gone) in
    let some : IsNone (only_file closing.file).now =
    subst (λ (e : Entry). IsNone e.now) closing.entry none in
    absurd (cc some)

pub returns-in_err-renew-clause-not_missing : goal.returns-in_err-renew-clause-not_missing
returns-in_err-renew-clause-not_missing g c tells file at missing =
    let before = g.D.Disk.state c.args.disk.now in
    let read = g.D.Disk.state c.read_octets.new.disk in
    let name = c.args.name in
    let octets = c.deref-2.result.now in
    let end = c.end_of_batches-end.result in
    let tells_cut = c.renew.ensures.told tells in
    let tells_shut = c.cut_behind.ensures.told tells_cut in
    let tells_read = c.shut.ensures.told tells_shut in
    let there = still_there before read name file at (c.in_ok-file.ensures.same tells_read) in
    let items = c.in_ok-file.ensures.octets tells_read at.sound file (shown_there before name file at) in
    let found = c.end_of_batches-end.ensures.ends in
    let is = c.deref-2.ensures.value ∙ items in
    let same = c.deref-2.ensures.value ∙ sym c.deref.ensures.value in
    let at_octets = subst (IsOnDisk read name) (sym is) there in
    let ends_octets = subst (λ (l : List ℕ). EndsAt l found.0 end) (sym same) found.1 in
    let closing = c.in_ok-shut.ensures.closing tells_shut found.0 at_octets ends_octets in
    let rest = c.in_ok-cut_behind.ensures.at_rest tells_cut found.0 closing found.1.end_is in
    let fault = err_from_is_err_and c.from_residual-in_err-renew.result
    c.from_residual-in_err-renew.ensures.1 in
    let wrapped : fault.0 ≡ Disk Missing = cc (fault.1, missing) in
    let gone : c.in_err-renew.field-0.0 ≡ Missing = cc (wrapped, fault.2) in
    let none = c.in_err-renew.ensures.missing tells (ap (λ (f : DiskFault). Err f) gone) in
    let some : IsNone (only_file (settled (batches_text found.0 ++ rest.gate ∷ []))).now =
    subst (λ (e : Entry). IsNone e.now) rest.file.entry none in
    absurd (cc some)
