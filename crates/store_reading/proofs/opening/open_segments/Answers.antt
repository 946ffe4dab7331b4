use Rattle.std.proofs.Common.{◌≡◌, List, ℕ, [], ◌∷◌, ◌++◌, map, take, sym, ap, subst, ◌∙◌}
use Rattle.std.specs.Prelude.{Contains}
use Rattle.std.proofs.lemmas.List.{take_all, take_more}
use Rattle.std.proofs.lemmas.List.Elements.{Contains-get_or}
use Rattle.disk.specs.States.{Files}
use Rattle.record_store.specs.Names.{IsSegment}
use Rattle.store_reading.specs.Causes.{IsCause, IsListedSegment, file_causes}
use Rattle.store_reading.specs.Damages.{IsDamagedSegment}
use Rattle.store_reading.specs.Segments.{AddsSegment, AreSegmentsOf}
use Rattle.store_reading.specs.Sources.{source_state}
use Rattle.store_reading.specs.Whole.{IsWholeSegmentAt, NamedSegmentsAreWhole}
use Rattle.store_reading.proofs.Causing.{at_err, file_cause}
use Rattle.store_reading.proofs.Whole.{more_whole}
use Rattle.store_reading.proofs.opening.open_segments.Goals as goal

pub names-preserved : goal.names-preserved
names-preserved g c =
    let first = take c.names.name-index c.args.names.now in
    let day = c.args.period.now in
    let state = source_state g.F.File.Input.state in
    let files = g.F.Folder.files c.args.folder.now in
    let more = take_more c.args.names.now c.names.name-index c.name-item.result c.names-test.true
    ∙ ap (λ (n : List ℕ). first ++ n ∷ []) (sym c.name-item.is) in
    record {
      told = λ t. c.names.invariant.told (c.open_named.ensures.told t);
      same = λ t. c.open_named.ensures.same t ∙ c.names.invariant.same (c.open_named.ensures.told t);
      opened = λ t. let before = c.open_named.ensures.told t in
          subst (λ (l : List (List ℕ)). AreSegmentsOf files l day (map state c.open_named.new.inputs.items)) (sym more)
          (subst (λ (f : Files). AddsSegment f c.name-item.result day (map state c.names.inputs.items)
          (map state c.open_named.new.inputs.items)) (c.names.invariant.same before)
          (c.in_ok-open_named.ensures.opened t) first
          (c.names.invariant.opened before));
      whole = λ t. let before = c.open_named.ensures.told t in
          subst (λ (l : List (List ℕ)). NamedSegmentsAreWhole files l day) (sym more)
          (more_whole (IsWholeSegmentAt files day) first c.name-item.result (c.names.invariant.whole before)
          (subst (λ (f : Files). IsWholeSegmentAt f day c.name-item.result) (c.names.invariant.same before)
          (c.in_ok-open_named.ensures.whole t)));
    }

pub returns-in_err-open_named-clause-cause : goal.returns-in_err-open_named-clause-cause
returns-in_err-open_named-clause-cause g c =
    let tells = g.F.Folder.tells c.open_named.new.folder in
    let failed = g.F.Folder.has_failed c.open_named.new.folder in
    let before = g.F.Folder.files c.args.folder.now in
    let day = c.args.period.now in
    let names = c.args.names.now in
    let name = c.name-item.result in
    let listed : Contains names name = subst (Contains names) (sym c.name-item.is)
    (Contains-get_or names c.names.name-index name c.names-test.true) in
    at_err c.from_residual.result c.in_err-open_named.field-0.0
    (IsCause (file_causes tells failed before (IsListedSegment names day) (IsDamagedSegment day)))
    c.from_residual.ensures.1
    (file_cause tells failed failed (g.F.Folder.files c.names.folder) before
    (λ (n : List ℕ). (n ≡ name) × IsSegment day n) (IsListedSegment names day) (IsDamagedSegment day) (λ same. same)
    (λ t. c.names.invariant.same (c.open_named.ensures.told t))
    (λ n is. (subst (Contains names) (sym is.0) listed, is.1)) c.in_err-open_named.field-0.0
    c.in_err-open_named.ensures.cause)

pub returns-clause-opened : goal.returns-clause-opened
returns-clause-opened g c t =
    subst (λ (l : List (List ℕ)). AreSegmentsOf (g.F.Folder.files c.args.folder.now) l c.args.period.now
    (map (source_state g.F.File.Input.state) c.names.inputs.items))
    (take_all c.names.name-index c.args.names.now c.names-test.false) (c.names.invariant.opened t)

pub returns-clause-whole : goal.returns-clause-whole
returns-clause-whole g c t =
    subst (λ (l : List (List ℕ)). NamedSegmentsAreWhole (g.F.Folder.files c.args.folder.now) l c.args.period.now)
    (take_all c.names.name-index c.args.names.now c.names-test.false) (c.names.invariant.whole t)
