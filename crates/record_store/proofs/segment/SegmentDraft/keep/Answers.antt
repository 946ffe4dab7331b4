use Rattle.std.proofs.Common.{◌≡◌, ◌≢◌, ◌∷◌, ◌++◌, List, ℕ, ap, subst, sym, ◌∙◌}
use Rattle.std.specs.Prelude.{Some, codes}
use Rattle.disk.specs.Memory.{shown_now}
use Rattle.journal.specs.Journals.{IsOnDisk}
use Rattle.record_store.specs.Keeping.{Brings}
use Rattle.record_store.specs.Segments.{segment_name}
use Rattle.record_store.proofs.Compared.{brought_others, brought_keeps, brought_still}
use Rattle.record_store.proofs.Differing.{taken_stays}
use Rattle.record_store.proofs.Drafted.{name_apart, segment_held, shows_of}
use Rattle.record_store.proofs.Remaining.{brought_beside}
use Rattle.record_store.proofs.segment.SegmentDraft.keep.Goals as goal

pub returns-in_err-bring-clause-any_moment : goal.returns-in_err-bring-clause-any_moment
returns-in_err-bring-clause-any_moment g c tells es committed received of keeps =
    let zero = g.D.Disk.state c.args.disk.now in
    let new = g.D.Disk.state c.bring.new.disk in
    let file = shows_of zero c.args.self.name of.text of.drafts.shown of.drafts.sound in
    let segment = rw c.in-Some.is at c.in_ok-name.ensures.segment in
    let differs = name_apart c.args.self.name c.args.day.now c.in-Some.name segment of.apart in
    let brings = subst (λ (t : List ℕ). Brings zero new c.args.self.name c.in-Some.name t) file.2
    (c.bring.ensures.any_moment tells file.0 file.1 differs) in
    brought_keeps zero new c.args.self.name c.in-Some.name c.args.day.now of.text es segment of.is of.apart brings
    committed received of.among keeps

pub returns-in_err-bring-clause-others : goal.returns-in_err-bring-clause-others
returns-in_err-bring-clause-others g c tells es received of =
    let zero = g.D.Disk.state c.args.disk.now in
    let new = g.D.Disk.state c.bring.new.disk in
    let file = shows_of zero c.args.self.name of.text of.drafts.shown of.drafts.sound in
    let segment = rw c.in-Some.is at c.in_ok-name.ensures.segment in
    let differs = name_apart c.args.self.name c.args.day.now c.in-Some.name segment of.apart in
    let brings = subst (λ (t : List ℕ). Brings zero new c.args.self.name c.in-Some.name t) file.2
    (c.bring.ensures.any_moment tells file.0 file.1 differs) in
    brought_others zero new c.args.self.name c.in-Some.name c.args.day.now of.text es segment of.is of.apart brings

pub returns-in_err-bring-clause-still_held : goal.returns-in_err-bring-clause-still_held
returns-in_err-bring-clause-still_held g c tells es received of others holds =
    let zero = g.D.Disk.state c.args.disk.now in
    let new = g.D.Disk.state c.bring.new.disk in
    let file = shows_of zero c.args.self.name of.text of.drafts.shown of.drafts.sound in
    let segment = rw c.in-Some.is at c.in_ok-name.ensures.segment in
    let differs = name_apart c.args.self.name c.args.day.now c.in-Some.name segment of.apart in
    let brings = subst (λ (t : List ℕ). Brings zero new c.args.self.name c.in-Some.name t) file.2
    (c.bring.ensures.any_moment tells file.0 file.1 differs) in
    brought_still zero new c.args.self.name c.in-Some.name c.args.day.now of.text es segment of.is of.apart brings
    others holds

pub returns-then-branch-clause-any_moment : goal.returns-then-branch-clause-any_moment
returns-then-branch-clause-any_moment g c tells es committed received of keeps =
    let zero = g.D.Disk.state c.args.disk.now in
    let new = g.D.Disk.state c.bring.new.disk in
    let file = shows_of zero c.args.self.name of.text of.drafts.shown of.drafts.sound in
    let segment = rw c.in-Some.is at c.in_ok-name.ensures.segment in
    let differs = name_apart c.args.self.name c.args.day.now c.in-Some.name segment of.apart in
    let brings = subst (λ (t : List ℕ). Brings zero new c.args.self.name c.in-Some.name t) file.2
    (c.bring.ensures.any_moment tells file.0 file.1 differs) in
    brought_keeps zero new c.args.self.name c.in-Some.name c.args.day.now of.text es segment of.is of.apart brings
    committed received of.among keeps

pub returns-then-branch-clause-others : goal.returns-then-branch-clause-others
returns-then-branch-clause-others g c tells es received of =
    let zero = g.D.Disk.state c.args.disk.now in
    let new = g.D.Disk.state c.bring.new.disk in
    let file = shows_of zero c.args.self.name of.text of.drafts.shown of.drafts.sound in
    let segment = rw c.in-Some.is at c.in_ok-name.ensures.segment in
    let differs = name_apart c.args.self.name c.args.day.now c.in-Some.name segment of.apart in
    let brings = subst (λ (t : List ℕ). Brings zero new c.args.self.name c.in-Some.name t) file.2
    (c.bring.ensures.any_moment tells file.0 file.1 differs) in
    brought_others zero new c.args.self.name c.in-Some.name c.args.day.now of.text es segment of.is of.apart brings

pub returns-then-branch-clause-still_held : goal.returns-then-branch-clause-still_held
returns-then-branch-clause-still_held g c tells es received of others holds =
    let zero = g.D.Disk.state c.args.disk.now in
    let new = g.D.Disk.state c.bring.new.disk in
    let file = shows_of zero c.args.self.name of.text of.drafts.shown of.drafts.sound in
    let segment = rw c.in-Some.is at c.in_ok-name.ensures.segment in
    let differs = name_apart c.args.self.name c.args.day.now c.in-Some.name segment of.apart in
    let brings = subst (λ (t : List ℕ). Brings zero new c.args.self.name c.in-Some.name t) file.2
    (c.bring.ensures.any_moment tells file.0 file.1 differs) in
    brought_still zero new c.args.self.name c.in-Some.name c.args.day.now of.text es segment of.is of.apart brings
    others holds

pub returns-clause-any_moment : goal.returns-clause-any_moment
returns-clause-any_moment g c tells es committed received of keeps =
    let zero = g.D.Disk.state c.args.disk.now in
    let new = g.D.Disk.state c.bring.new.disk in
    let file = shows_of zero c.args.self.name of.text of.drafts.shown of.drafts.sound in
    let segment = rw c.in-Some.is at c.in_ok-name.ensures.segment in
    let differs = name_apart c.args.self.name c.args.day.now c.in-Some.name segment of.apart in
    let brings = subst (λ (t : List ℕ). Brings zero new c.args.self.name c.in-Some.name t) file.2
    (c.bring.ensures.any_moment tells file.0 file.1 differs) in
    brought_keeps zero new c.args.self.name c.in-Some.name c.args.day.now of.text es segment of.is of.apart brings
    committed received of.among keeps

pub returns-clause-others : goal.returns-clause-others
returns-clause-others g c tells es received of =
    let zero = g.D.Disk.state c.args.disk.now in
    let new = g.D.Disk.state c.bring.new.disk in
    let file = shows_of zero c.args.self.name of.text of.drafts.shown of.drafts.sound in
    let segment = rw c.in-Some.is at c.in_ok-name.ensures.segment in
    let differs = name_apart c.args.self.name c.args.day.now c.in-Some.name segment of.apart in
    let brings = subst (λ (t : List ℕ). Brings zero new c.args.self.name c.in-Some.name t) file.2
    (c.bring.ensures.any_moment tells file.0 file.1 differs) in
    brought_others zero new c.args.self.name c.in-Some.name c.args.day.now of.text es segment of.is of.apart brings

pub returns-clause-still_held : goal.returns-clause-still_held
returns-clause-still_held g c tells es received of others holds =
    let zero = g.D.Disk.state c.args.disk.now in
    let new = g.D.Disk.state c.bring.new.disk in
    let file = shows_of zero c.args.self.name of.text of.drafts.shown of.drafts.sound in
    let segment = rw c.in-Some.is at c.in_ok-name.ensures.segment in
    let differs = name_apart c.args.self.name c.args.day.now c.in-Some.name segment of.apart in
    let brings = subst (λ (t : List ℕ). Brings zero new c.args.self.name c.in-Some.name t) file.2
    (c.bring.ensures.any_moment tells file.0 file.1 differs) in
    brought_still zero new c.args.self.name c.in-Some.name c.args.day.now of.text es segment of.is of.apart brings
    others holds

pub returns-then-branch-clause-held : goal.returns-then-branch-clause-held
returns-then-branch-clause-held g c tells es received of =
    let zero = g.D.Disk.state c.args.disk.now in
    let new = g.D.Disk.state c.bring.new.disk in
    let file = shows_of zero c.args.self.name of.text of.drafts.shown of.drafts.sound in
    let segment = rw c.in-Some.is at c.in_ok-name.ensures.segment in
    let differs = name_apart c.args.self.name c.args.day.now c.in-Some.name segment of.apart in
    segment_held c.in-Some.name c.args.day.now of.text es segment of.is new
    (subst (λ (t : List ℕ). IsOnDisk new c.in-Some.name t) file.2
    (c.in_ok-bring.ensures.brought c.if-branch.true tells file.0 file.1 differs))

pub returns-then-branch-clause-sound : goal.returns-then-branch-clause-sound
returns-then-branch-clause-sound g c tells text drafts apart =
    let zero = g.D.Disk.state c.args.disk.now in
    let new = g.D.Disk.state c.bring.new.disk in
    let file = shows_of zero c.args.self.name text drafts.shown drafts.sound in
    let segment = rw c.in-Some.is at c.in_ok-name.ensures.segment in
    let differs = name_apart c.args.self.name c.args.day.now c.in-Some.name segment apart in
    let named : c.in-Some.name ≡ segment_name c.args.day.now text =
    (rw c.in-Some.is at c.in_ok-name.ensures.name)
    ∙ ap (λ (h : List ℕ). c.args.day.now ++ 46 ∷ h ++ codes ".archive") (c.hexadecimal.ensures.digest text drafts.hashed) in
    subst (λ (n : List ℕ). IsOnDisk new n text) named
    (subst (λ (t : List ℕ). IsOnDisk new c.in-Some.name t) file.2
    (c.in_ok-bring.ensures.brought c.if-branch.true tells file.0 file.1 differs))

pub returns-then-branch-clause-stays : goal.returns-then-branch-clause-stays
returns-then-branch-clause-stays g c tells taken =
    let zero = g.D.Disk.state c.args.disk.now in
    let new = g.D.Disk.state c.bring.new.disk in
    let name = c.in-Some.name in
    let file = shows_of zero c.args.self.name taken.text taken.drafts.shown taken.drafts.sound in
    let named : name ≡ segment_name c.args.day.now taken.text =
    (rw c.in-Some.is at c.in_ok-name.ensures.name)
    ∙ ap (λ (h : List ℕ). c.args.day.now ++ 46 ∷ h ++ codes ".archive")
    (c.hexadecimal.ensures.digest taken.text taken.drafts.hashed) in
    let shown : shown_now (zero.entries name) ≡ Some taken.octets =
    ap (λ (n : List ℕ). shown_now (zero.entries n)) named ∙ taken.shown in
    let differs : name ≢ c.args.self.name = λ same.
    let some : Some taken.octets ≡ Some taken.text =
    sym shown ∙ ap (λ (n : List ℕ). shown_now (zero.entries n)) same ∙ taken.drafts.shown in
    taken.other (cc some) in
    let brings = subst (λ (t : List ℕ). Brings zero new c.args.self.name name t) file.2
    (c.bring.ensures.any_moment tells file.0 file.1 differs) in
    let same = taken_stays zero new c.args.self.name name taken.text taken.octets brings shown taken.other in
    let at = subst (λ (t : List ℕ). IsOnDisk new name t) file.2
    (c.in_ok-bring.ensures.brought c.if-branch.true tells file.0 file.1 differs) in
    let some : Some taken.octets ≡ Some taken.text =
    sym shown ∙ sym (ap shown_now (same.entries name)) ∙ ap shown_now at.entry in
    absurd (taken.other (cc some))

pub returns-in_err-bring-clause-segments : goal.returns-in_err-bring-clause-segments
returns-in_err-bring-clause-segments g c tells text drafts apart =
    let zero = g.D.Disk.state c.args.disk.now in
    let new = g.D.Disk.state c.bring.new.disk in
    let file = shows_of zero c.args.self.name text drafts.shown drafts.sound in
    let segment = rw c.in-Some.is at c.in_ok-name.ensures.segment in
    let differs = name_apart c.args.self.name c.args.day.now c.in-Some.name segment apart in
    let brings = subst (λ (t : List ℕ). Brings zero new c.args.self.name c.in-Some.name t) file.2
    (c.bring.ensures.any_moment tells file.0 file.1 differs) in
    brought_beside zero new c.args.self.name c.in-Some.name c.args.day.now text segment apart brings

pub returns-then-branch-clause-segments : goal.returns-then-branch-clause-segments
returns-then-branch-clause-segments g c tells text drafts apart =
    let zero = g.D.Disk.state c.args.disk.now in
    let new = g.D.Disk.state c.bring.new.disk in
    let file = shows_of zero c.args.self.name text drafts.shown drafts.sound in
    let segment = rw c.in-Some.is at c.in_ok-name.ensures.segment in
    let differs = name_apart c.args.self.name c.args.day.now c.in-Some.name segment apart in
    let brings = subst (λ (t : List ℕ). Brings zero new c.args.self.name c.in-Some.name t) file.2
    (c.bring.ensures.any_moment tells file.0 file.1 differs) in
    brought_beside zero new c.args.self.name c.in-Some.name c.args.day.now text segment apart brings

pub returns-clause-segments : goal.returns-clause-segments
returns-clause-segments g c tells text drafts apart =
    let zero = g.D.Disk.state c.args.disk.now in
    let new = g.D.Disk.state c.bring.new.disk in
    let file = shows_of zero c.args.self.name text drafts.shown drafts.sound in
    let segment = rw c.in-Some.is at c.in_ok-name.ensures.segment in
    let differs = name_apart c.args.self.name c.args.day.now c.in-Some.name segment apart in
    let brings = subst (λ (t : List ℕ). Brings zero new c.args.self.name c.in-Some.name t) file.2
    (c.bring.ensures.any_moment tells file.0 file.1 differs) in
    brought_beside zero new c.args.self.name c.in-Some.name c.args.day.now text segment apart brings
