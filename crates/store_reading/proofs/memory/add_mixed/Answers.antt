use Rattle.std.proofs.Common.{List, ℕ, ◌≡◌, false, refl, rules, subst, sym, ◌∙◌}
use Rattle.std.specs.Prelude.{codes}
use Rattle.std.proofs.lemmas.Bool.{false≢true}
use Rattle.record_store.specs.Names.{IsSegment}
use Rattle.store_reading.specs.Damages.{IsDamagedSegment, OfLeft, Tells}
use Rattle.store_reading.specs.Sources.{set_entries}
use Rattle.store_reading.specs.Whole.{IsWholeSegment}
use Rattle.store_reading.proofs.Causing.{checked_cause}
use Rattle.store_reading.proofs.Mixed.{named_mixed, no_mixed}
use Rattle.store_reading.proofs.Whole.{opened_mixed}
use Rattle.store_reading.proofs.memory.add_mixed.Goals as goal

pub returns-then-not-is_mixed-clause-adds : goal.returns-then-not-is_mixed-clause-adds
returns-then-not-is_mixed-clause-adds g c t =
    no_mixed (g.F.Folder.files c.args.folder.now) c.args.range.now c.args.name.now (set_entries c.args.set.now)
    (λ segment. let off : c.is_mixed.result ≡ false = search rules in
    false≢true (sym off
    ∙ c.is_mixed.ensures.1 (subst (IsSegment (codes "mixed")) (sym c.as_octets.ensures.value) segment)))

pub returns-then-not-is_mixed-clause-whole : goal.returns-then-not-is_mixed-clause-whole
returns-then-not-is_mixed-clause-whole g c t segment =
    let off : c.is_mixed.result ≡ false = search rules in
    absurd (false≢true (sym off
    ∙ c.is_mixed.ensures.1 (subst (IsSegment (codes "mixed")) (sym c.as_octets.ensures.value) segment)))

pub returns-in-Ok-clause-adds : goal.returns-in-Ok-clause-adds
returns-in-Ok-clause-adds g c t =
    let segment = subst (IsSegment (codes "mixed")) c.as_octets.ensures.value (c.is_mixed.ensures.0 (search rules)) in
    named_mixed (g.F.Folder.files c.args.folder.now) c.args.range.now c.args.name.now
    (g.F.File.Input.state c.in_ok-file.file) (set_entries c.args.set.now) (set_entries c.add_segment.new.set) segment
    (c.in_ok-file.ensures.opened t) c.in-Ok.ensures.adds

pub returns-in-Ok-clause-whole : goal.returns-in-Ok-clause-whole
returns-in-Ok-clause-whole g c t =
    let d = g.F.File.Input.state c.in_ok-file.file in
    opened_mixed (g.F.Folder.files c.args.folder.now) c.args.name.now d (c.in_ok-file.ensures.opened t)
    (subst (λ (n : List ℕ). OfLeft d (IsWholeSegment (codes "mixed") n)) c.as_octets-2.ensures.value
    c.in-Ok.ensures.whole)

pub returns-clause-cause : goal.returns-clause-cause
returns-clause-cause g c =
    let segment = subst (IsSegment (codes "mixed")) c.as_octets.ensures.value (c.is_mixed.ensures.0 (search rules)) in
    checked_cause (g.F.Folder.tells c.open_file.new.folder) (g.F.Folder.has_failed c.open_file.new.folder)
    (g.F.Folder.files c.args.folder.now) (λ (n : List ℕ). (n ≡ c.args.name.now) × IsSegment (codes "mixed") n)
    (IsDamagedSegment (codes "mixed"))
    c.args.name.now c.in_ok-copy-in-Err.field-0 (g.F.File.Input.state c.in_ok-file.file) c.in-Err.fault c.of.result
    (refl, segment) c.in_ok-file.ensures.opened
    (subst (λ (n : List ℕ). OfLeft (g.F.File.Input.state c.in_ok-file.file) (λ file.
    Tells c.in-Err.fault (IsDamagedSegment (codes "mixed") n file))) c.as_octets-2.ensures.value
    c.in-Err.ensures.damaged) c.in_ok-copy-in-Err.ensures c.of.ensures
