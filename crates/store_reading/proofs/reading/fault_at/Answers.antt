use Rattle.std.proofs.Common.{List, ℕ, ◌≡◌, ◌+◌, [], ◌∷◌, ◌++◌, take, inl, refl, sym, ap, subst, ◌∙◌, rules, arith}
use Rattle.std.proofs.lemmas.Bool.{false≢true}
use Rattle.std.proofs.lemmas.List.{take_all, take_more}
use Rattle.record_store.specs.Names.{IsSegment}
use Rattle.store_reading.specs.Faults.{HasSegments}
use Rattle.store_reading.proofs.Faulted.{count_more, count_other, input_named, no_input, told_at}
use Rattle.store_reading.proofs.reading.fault_at.Goals as goal
use Rattle.store_reading.proofs.reading.fault_at.Goals.{then-is_segment_of+else-at-input, else-is_segment_of}

pub returns-in-Ok : goal.returns-in-Ok
returns-in-Ok c =
    let first = take c.names.name-index c.args.names.now in
    let more = take_more c.args.names.now c.names.name-index c.name-item.result c.names-test.true
    ∙ ap (λ (n : List ℕ). first ++ n ∷ []) (sym c.name-item.is) in
    let segment = subst (IsSegment c.args.period.now) c.as_octets.ensures.value (c.is_segment_of.ensures.0 (search rules)) in
    told_at c.args.period.now c.args.names.now c.args.input c.name-item.result c.in-Ok.name c.args.fault c.of.result
    (input_named c.args.period.now c.args.names.now c.names.name-index c.args.input c.names.at c.name-item.result more
    c.names.invariant.counted (search rules) segment) c.in-Ok.ensures c.of.ensures

pub names-preserved : goal.names-preserved
names-preserved c =
    let day = c.args.period.now in
    let names = c.args.names.now in
    let first = take c.names.name-index names in
    let more = take_more names c.names.name-index c.name-item.result c.names-test.true
    ∙ ap (λ (n : List ℕ). first ++ n ∷ []) (sym c.name-item.is) in
    elim c.if-is_segment_of.branch [
      | then-is_segment_of+else-at-input w ↦
          let segment = subst (IsSegment day) c.as_octets.ensures.value
          (c.is_segment_of.ensures.0 w.if-is_segment_of.true) in
          let next : c.if-is_segment_of.at ≡ c.names.at + 1 = omega (arith, w.at-is, w.saturating_add-at.ensures) in
          record {
            counted = subst (λ (n : ℕ). HasSegments day (take (c.names.name-index + 1) names) n) (sym next)
                (subst (λ (l : List (List ℕ)). HasSegments day l (c.names.at + 1)) (sym more)
                (count_more day first c.name-item.result c.names.at c.names.invariant.counted segment));
            few = omega (arith, next, c.names.invariant.few);
            before = omega (arith, next, c.names.invariant.before, w.if-at-input.false);
          }
      | else-is_segment_of w ↦
          let next : c.if-is_segment_of.at ≡ c.names.at = omega (arith, w.at-is) in
          record {
            counted = subst (λ (n : ℕ). HasSegments day (take (c.names.name-index + 1) names) n) (sym next)
                (subst (λ (l : List (List ℕ)). HasSegments day l c.names.at) (sym more)
                (count_other day first c.name-item.result c.names.at c.names.invariant.counted
                (λ segment. false≢true (sym w.if-is_segment_of.false ∙ c.is_segment_of.ensures.1
                (subst (IsSegment day) (sym c.as_octets.ensures.value) segment)))));
            few = omega (arith, next, c.names.invariant.few);
            before = omega (arith, next, c.names.invariant.before);
          }
    ]

pub returns : goal.returns
returns c =
    inl (inl (
      refl,
      no_input c.args.period.now c.args.names.now c.args.input c.names.at
          (subst (λ (l : List (List ℕ)). HasSegments c.args.period.now l c.names.at)
          (take_all c.names.name-index c.args.names.now c.names-test.false) c.names.invariant.counted)
          c.names.invariant.before,
    ))
