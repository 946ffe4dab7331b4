use Rattle.std.proofs.Common.{◌≡◌, ◌∷◌, ◌++◌, List, ℕ, ap, subst, sym, ◌∙◌}
use Rattle.std.specs.Prelude.{codes}
use Rattle.journal.specs.Journals.{IsOnDisk}
use Rattle.record_store.specs.Puts.{LeavesOldOr}
use Rattle.record_store.specs.Segments.{HoldsNoMore, segment_name}
use Rattle.record_store.proofs.Drafted.{journals_settle, name_apart, segment_held, segment_keeps, segment_still}
use Rattle.record_store.proofs.Drafted.{shows_no_more, shows_of}
use Rattle.record_store.proofs.segment.SegmentDraft.finish.Goals as goal

pub returns-clause-finished : goal.returns-clause-finished
returns-clause-finished g c tells text drafts apart =
    let zero = g.D.Disk.state c.args.disk.now in
    let file = shows_of zero c.args.self.name text drafts.shown drafts.sound in
    let segment = rw c.in-Some.is at c.in_ok-name.ensures.segment in
    let differs = name_apart c.args.self.name c.args.day.now c.in-Some.name segment apart in
    subst (λ (t : List ℕ). IsOnDisk (g.D.Disk.state c.place.new.disk) c.in-Some.name t) file.2
    (c.in_ok-place.ensures.placed tells file.0 file.1 differs)

pub returns-clause-held : goal.returns-clause-held
returns-clause-held g c tells es received of =
    let zero = g.D.Disk.state c.args.disk.now in
    let new = g.D.Disk.state c.place.new.disk in
    let named : c.in-Some.name ≡ segment_name c.args.day.now of.text =
    (rw c.in-Some.is at c.in_ok-name.ensures.name)
    ∙ ap (λ (h : List ℕ). c.args.day.now ++ 46 ∷ h ++ codes ".archive") (c.hexadecimal.ensures.digest of.text of.drafts.hashed) in
    let file = shows_of zero c.args.self.name of.text of.drafts.shown of.drafts.sound in
    let segment = rw c.in-Some.is at c.in_ok-name.ensures.segment in
    let differs = name_apart c.args.self.name c.args.day.now c.in-Some.name segment of.apart in
    segment_held c.in-Some.name c.args.day.now of.text es segment of.is new
    (subst (λ (t : List ℕ). IsOnDisk new c.in-Some.name t) file.2
    (c.in_ok-place.ensures.placed tells file.0 file.1 differs))

pub returns-in_err-place-clause-any_moment : goal.returns-in_err-place-clause-any_moment
returns-in_err-place-clause-any_moment g c tells es committed received of keeps =
    let zero = g.D.Disk.state c.args.disk.now in
    let new = g.D.Disk.state c.place.new.disk in
    let named : c.in-Some.name ≡ segment_name c.args.day.now of.text =
    (rw c.in-Some.is at c.in_ok-name.ensures.name)
    ∙ ap (λ (h : List ℕ). c.args.day.now ++ 46 ∷ h ++ codes ".archive") (c.hexadecimal.ensures.digest of.text of.drafts.hashed) in
    let file = shows_of zero c.args.self.name of.text of.drafts.shown of.drafts.sound in
    let segment = rw c.in-Some.is at c.in_ok-name.ensures.segment in
    let differs = name_apart c.args.self.name c.args.day.now c.in-Some.name segment of.apart in
    segment_keeps zero new c.args.self.name c.in-Some.name c.args.day.now of.text es segment of.is
    (shows_no_more zero c.in-Some.name es
    (subst (λ (n : List ℕ). HoldsNoMore zero n es) (sym named) of.no_more)) of.apart
    (subst (λ (t : List ℕ). LeavesOldOr zero new c.in-Some.name t) file.2
    (c.place.ensures.any_moment tells file.0 file.1 differs)) (c.place.ensures.others tells) committed received of.among
    keeps

pub returns-in_err-place-clause-journals : goal.returns-in_err-place-clause-journals
returns-in_err-place-clause-journals g c tells apart =
    let segment = rw c.in-Some.is at c.in_ok-name.ensures.segment in
    journals_settle (g.D.Disk.state c.args.disk.now) (g.D.Disk.state c.place.new.disk) c.args.self.name c.in-Some.name
    c.args.day.now segment apart (c.place.ensures.others tells)

pub returns-in_err-place-clause-still_held : goal.returns-in_err-place-clause-still_held
returns-in_err-place-clause-still_held g c tells es received of others holds =
    let zero = g.D.Disk.state c.args.disk.now in
    let new = g.D.Disk.state c.place.new.disk in
    let named : c.in-Some.name ≡ segment_name c.args.day.now of.text =
    (rw c.in-Some.is at c.in_ok-name.ensures.name)
    ∙ ap (λ (h : List ℕ). c.args.day.now ++ 46 ∷ h ++ codes ".archive") (c.hexadecimal.ensures.digest of.text of.drafts.hashed) in
    let file = shows_of zero c.args.self.name of.text of.drafts.shown of.drafts.sound in
    let segment = rw c.in-Some.is at c.in_ok-name.ensures.segment in
    let differs = name_apart c.args.self.name c.args.day.now c.in-Some.name segment of.apart in
    segment_still zero new c.args.self.name c.in-Some.name c.args.day.now of.text es segment of.is
    (shows_no_more zero c.in-Some.name es
    (subst (λ (n : List ℕ). HoldsNoMore zero n es) (sym named) of.no_more)) of.apart
    (subst (λ (t : List ℕ). LeavesOldOr zero new c.in-Some.name t) file.2
    (c.place.ensures.any_moment tells file.0 file.1 differs)) (c.place.ensures.others tells) others
    holds

pub returns-clause-any_moment : goal.returns-clause-any_moment
returns-clause-any_moment g c tells es committed received of keeps =
    let zero = g.D.Disk.state c.args.disk.now in
    let new = g.D.Disk.state c.place.new.disk in
    let named : c.in-Some.name ≡ segment_name c.args.day.now of.text =
    (rw c.in-Some.is at c.in_ok-name.ensures.name)
    ∙ ap (λ (h : List ℕ). c.args.day.now ++ 46 ∷ h ++ codes ".archive") (c.hexadecimal.ensures.digest of.text of.drafts.hashed) in
    let file = shows_of zero c.args.self.name of.text of.drafts.shown of.drafts.sound in
    let segment = rw c.in-Some.is at c.in_ok-name.ensures.segment in
    let differs = name_apart c.args.self.name c.args.day.now c.in-Some.name segment of.apart in
    segment_keeps zero new c.args.self.name c.in-Some.name c.args.day.now of.text es segment of.is
    (shows_no_more zero c.in-Some.name es
    (subst (λ (n : List ℕ). HoldsNoMore zero n es) (sym named) of.no_more)) of.apart
    (subst (λ (t : List ℕ). LeavesOldOr zero new c.in-Some.name t) file.2
    (c.place.ensures.any_moment tells file.0 file.1 differs)) (c.place.ensures.others tells) committed received of.among
    keeps

pub returns-clause-journals : goal.returns-clause-journals
returns-clause-journals g c tells apart =
    let segment = rw c.in-Some.is at c.in_ok-name.ensures.segment in
    journals_settle (g.D.Disk.state c.args.disk.now) (g.D.Disk.state c.place.new.disk) c.args.self.name c.in-Some.name
    c.args.day.now segment apart (c.place.ensures.others tells)

pub returns-clause-still_held : goal.returns-clause-still_held
returns-clause-still_held g c tells es received of others holds =
    let zero = g.D.Disk.state c.args.disk.now in
    let new = g.D.Disk.state c.place.new.disk in
    let named : c.in-Some.name ≡ segment_name c.args.day.now of.text =
    (rw c.in-Some.is at c.in_ok-name.ensures.name)
    ∙ ap (λ (h : List ℕ). c.args.day.now ++ 46 ∷ h ++ codes ".archive") (c.hexadecimal.ensures.digest of.text of.drafts.hashed) in
    let file = shows_of zero c.args.self.name of.text of.drafts.shown of.drafts.sound in
    let segment = rw c.in-Some.is at c.in_ok-name.ensures.segment in
    let differs = name_apart c.args.self.name c.args.day.now c.in-Some.name segment of.apart in
    segment_still zero new c.args.self.name c.in-Some.name c.args.day.now of.text es segment of.is
    (shows_no_more zero c.in-Some.name es
    (subst (λ (n : List ℕ). HoldsNoMore zero n es) (sym named) of.no_more)) of.apart
    (subst (λ (t : List ℕ). LeavesOldOr zero new c.in-Some.name t) file.2
    (c.place.ensures.any_moment tells file.0 file.1 differs)) (c.place.ensures.others tells) others
    holds
