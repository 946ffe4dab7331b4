use Rattle.std.proofs.Common.{List, ℕ, map, refl, subst}
use Rattle.std.specs.Prelude.{Contains}
use Rattle.record_store.specs.Names.{IsSegment}
use Rattle.store_reading.specs.Causes.{IsListedSegment}
use Rattle.store_reading.specs.Damages.{IsDamagedSegment}
use Rattle.store_reading.specs.Segments.{AreSegmentsOf}
use Rattle.store_reading.specs.Sources.{source_state}
use Rattle.store_reading.proofs.Causing.{file_result}
use Rattle.store_reading.proofs.Segments.{segments_among}
use Rattle.store_reading.proofs.Whole.{if_ok_more, on_ok_more}
use Rattle.store_reading.proofs.opening.open_listed.Goals as goal

pub returns-clause-opened : goal.returns-clause-opened
returns-clause-opened g c =
    let files = g.F.Folder.files c.args.folder.now in
    let told = g.F.Folder.tells c.open_segments.new.folder in
    let names = c.args.names.now in
    let some = c.of.result.now in
    let day = c.args.period.now in
    let state = source_state g.F.File.Input.state in
    let all = subst (λ (p : List ℕ). (name : List ℕ) → Contains names name → IsSegment p name → Contains some name)
    c.as_octets.ensures.name c.of.ensures.all in
    if_ok_more c.open_segments.result (λ v. told → AreSegmentsOf files some day (map state v.items))
    (λ v. told → AreSegmentsOf files names day (map state v.items))
    (λ v are t. segments_among files names some day (map state v.items) c.of.ensures.within all (are t))
    c.open_segments.ensures.opened

pub returns-clause-whole : goal.returns-clause-whole
returns-clause-whole g c =
    let names = c.args.names.now in
    let some = c.of.result.now in
    let all = subst (λ (p : List ℕ). (name : List ℕ) → Contains names name → IsSegment p name → Contains some name)
    c.as_octets.ensures.name c.of.ensures.all in
    on_ok_more c.open_segments.result (λ whole t name has segment. whole t name (all name has segment) segment)
    c.open_segments.ensures.whole

pub returns-clause-cause : goal.returns-clause-cause
returns-clause-cause g c =
    let files = g.F.Folder.files c.args.folder.now in
    let told = g.F.Folder.tells c.open_segments.new.folder in
    let failed = g.F.Folder.has_failed c.open_segments.new.folder in
    let day = c.args.period.now in
    file_result told failed failed files files (IsListedSegment c.of.result.now day)
    (IsListedSegment c.args.names.now day) (IsDamagedSegment day) (λ same. same) (λ t. refl)
    (λ name is. (c.of.ensures.within name is.0, is.1)) c.open_segments.result c.open_segments.ensures.cause
