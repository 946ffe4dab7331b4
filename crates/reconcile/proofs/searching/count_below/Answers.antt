use Rattle.std.proofs.Common.{◌+◌, ◌-◌, ◌/◌, ◌<◌, arith, length, refl, subst}
use Rattle.std.proofs.lemmas.Bool.{false≢true}
use Rattle.archive_text.specs.Entries.{Entry, IsBelow}
use Rattle.reconcile.proofs.Found.{above_from, below_up_to}
use Rattle.reconcile.proofs.searching.count_below.Goals as goal

pub halving-preserved-then-is_below : goal.halving-preserved-then-is_below
halving-preserved-then-is_below c =
    let places = c.args.places.now in
    let middle = c.halving.low + (c.halving.high - c.halving.low) / 2 in
    let entry = c.index-places-middle.result in
    let lt : middle < length places = omega arith in
    record {
      ordered = omega arith;
      within = c.halving.invariant.within;
      below = below_up_to places c.args.place.now entry middle c.requires lt
          (subst (λ (y : Entry). IsBelow y c.args.place.now) c.index-places-middle.is (c.if-is_below.ensures.0 refl));
      above = c.halving.invariant.above;
    }

pub halving-preserved : goal.halving-preserved
halving-preserved c =
    let places = c.args.places.now in
    let middle = c.halving.low + (c.halving.high - c.halving.low) / 2 in
    let entry = c.index-places-middle.result in
    let lt : middle < length places = omega arith in
    record {
      ordered = omega arith;
      within = omega arith;
      below = c.halving.invariant.below;
      above = above_from places c.args.place.now entry middle c.requires lt
          (subst (λ (y : Entry). ¬ (IsBelow y c.args.place.now)) c.index-places-middle.is
          (λ k. false≢true (c.if-is_below.ensures.1 k)));
    }
