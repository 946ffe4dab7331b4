use Rattle.std.proofs.Common.{List, ℕ, [], ◌∷◌, ◌++◌, map, take, sym, ap, subst, ◌∙◌}
use Rattle.std.specs.Prelude.{Contains}
use Rattle.std.proofs.lemmas.List.{map-append, take_all, take_more}
use Rattle.std.proofs.lemmas.List.Elements.{Contains-get_or}
use Rattle.octet_devices.specs.Device.{InputState}
use Rattle.record_store.proofs.Compared.{same_state, same_then}
use Rattle.store_reading.specs.Segments.{AreSegmentsOf}
use Rattle.store_reading.proofs.Segments.{segments_more, segments_none}
use Rattle.store_reading.proofs.Held.{no_name}
use Rattle.store_upkeep.specs.Compaction.{AreWholeAt, shown}
use Rattle.store_upkeep.specs.Whole.{IsWholeAt}
use Rattle.store_upkeep.proofs.DayJoins.{input_still, whole_still}
use Rattle.store_upkeep.proofs.Verdicts.{names_more}
use Rattle.store_upkeep.proofs.segments.open_segments.Goals as goal

pub segments-init : goal.segments-init
segments-init g c = record {
  told = λ t. t;
  same = λ t. same_state (g.D.Disk.state c.args.disk.now);
  opened = λ t sound are.
      subst (λ (ds : List InputState). AreSegmentsOf (shown (g.D.Disk.state c.args.disk.now)) [] c.args.period.now ds)
      (sym (ap (map g.D.File.Input.state) c.new-inputs.ensures.items))
      (segments_none (shown (g.D.Disk.state c.args.disk.now)) c.args.period.now);
  whole = λ t sound are name has. absurd (no_name (λ (n : List ℕ). Unit {0}) (name, has, tt));
}

pub segments-preserved : goal.segments-preserved
segments-preserved g c =
    let all = c.args.segments.now in
    let first = take c.segments.segment-index all in
    let day = c.args.period.now in
    let state = g.D.File.Input.state in
    let zero = g.D.Disk.state c.args.disk.now in
    let then = g.D.Disk.state c.segments.disk in
    let one = g.D.Disk.state c.open_segment.new.disk in
    let item = c.segment-item.result in
    let here = subst (Contains all) (sym c.segment-item.is)
    (Contains-get_or all c.segments.segment-index item c.segments-test.true) in
    let more = take_more all c.segments.segment-index item c.segments-test.true
    ∙ ap (λ (n : List ℕ). first ++ n ∷ []) (sym c.segment-item.is) in
    record {
      told = λ t. c.segments.invariant.told (c.open_segment.ensures.told t);
      same = λ t. same_then zero then one (c.segments.invariant.same (c.open_segment.ensures.told t))
          (c.open_segment.ensures.same t);
      opened = λ t sound are.
          let before = c.open_segment.ensures.told t in
          let same = c.segments.invariant.same before in
          subst (λ (l : List (List ℕ)). AreSegmentsOf (shown zero) l day (map state c.push.new.self.items)) (sym more)
          (subst (λ (ds : List InputState). AreSegmentsOf (shown zero) (first ++ item ∷ []) day ds)
          (sym (ap (map state) c.in_ok-push.ensures.items
          ∙ map-append state c.segments.inputs.items (c.in_ok-file.file ∷ [])))
          (segments_more (shown zero) first item day (map state c.segments.inputs.items) (state c.in_ok-file.file)
          (c.segments.invariant.opened before sound are)
          (are item here)
          (input_still zero then item day (state c.in_ok-file.file) same
          (c.in_ok-file.ensures.input t (same.lost ∙ sound)))));
      whole = λ t sound are.
          let before = c.open_segment.ensures.told t in
          let same = c.segments.invariant.same before in
          subst (AreWholeAt (shown zero)) (sym more)
          (names_more (IsWholeAt (shown zero)) first item (c.segments.invariant.whole before sound are)
          (whole_still zero then item same (c.in_ok-file.ensures.whole t (same.lost ∙ sound) (are item here))));
    }

pub returns-clause-whole : goal.returns-clause-whole
returns-clause-whole g c t sound are =
    subst (AreWholeAt (shown (g.D.Disk.state c.args.disk.now)))
    (take_all c.segments.segment-index c.args.segments.now c.segments-test.false)
    (c.segments.invariant.whole t sound are)
