use Rattle.std.proofs.Common.{◌≡◌, false, List, [], ◌∷◌, ◌++◌, map, rules, sym, ap, subst, ◌∙◌}
use Rattle.std.proofs.lemmas.Bool.{false≢true}
use Rattle.std.proofs.lemmas.List.{map-append}
use Rattle.octet_devices.specs.Device.{InputState}
use Rattle.record_store.specs.Names.{IsSegment}
use Rattle.store_reading.specs.Segments.{AreSegmentsOf}
use Rattle.store_reading.specs.Sources.{source_state}
use Rattle.store_reading.specs.declared.source.Source.TheVariants.{File}
use Rattle.store_reading.proofs.Segments.{segments_more, segments_other}
use Rattle.store_reading.proofs.Whole.{segment_whole}
use Rattle.store_reading.proofs.opening.open_named.Goals as goal

pub returns-then-not-is_segment_of-clause-opened : goal.returns-then-not-is_segment_of-clause-opened
returns-then-not-is_segment_of-clause-opened g c t names s =
    segments_other (g.F.Folder.files c.args.folder.now) names c.args.name.now c.args.period.now _ s
    (λ segment. let off : c.is_segment_of.result ≡ false = search rules in
    false≢true (sym off
    ∙ c.is_segment_of.ensures.1 (subst (IsSegment c.args.period.now) (sym c.as_octets.ensures.value) segment)))

pub returns-clause-opened : goal.returns-clause-opened
returns-clause-opened g c t names s =
    let state = source_state g.F.File.Input.state in
    let files = g.F.Folder.files c.args.folder.now in
    let name = c.args.name.now in
    let day = c.args.period.now in
    let segment = subst (IsSegment day) c.as_octets.ensures.value (c.is_segment_of.ensures.0 (search rules)) in
    subst (λ (ds : List InputState). AreSegmentsOf files (names ++ name ∷ []) day ds)
    (sym (ap (map state) c.in_ok-push.ensures.items
    ∙ map-append state c.args.inputs.now.items (File c.in_ok-file.file ∷ [])))
    (segments_more files names name day (map state c.args.inputs.now.items) (g.F.File.Input.state c.in_ok-file.file) s
    segment
    (c.in_ok-file.ensures.input t))

pub returns-clause-whole : goal.returns-clause-whole
returns-clause-whole g c t =
    segment_whole (g.F.Folder.files c.args.folder.now) c.args.name.now c.args.period.now
    (g.F.File.Input.state c.in_ok-file.file) (c.in_ok-file.ensures.input t)

pub returns-then-not-is_segment_of-clause-whole : goal.returns-then-not-is_segment_of-clause-whole
returns-then-not-is_segment_of-clause-whole g c t segment =
    let off : c.is_segment_of.result ≡ false = search rules in
    absurd (false≢true (sym off
    ∙ c.is_segment_of.ensures.1 (subst (IsSegment c.args.period.now) (sym c.as_octets.ensures.value) segment)))
