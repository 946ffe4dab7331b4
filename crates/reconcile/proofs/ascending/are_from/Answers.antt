use Rattle.std.proofs.Common.{◌<◌, arith, length, refl, subst, sym}
use Rattle.std.specs.Prelude.{◌↔◌, Bool, IsTrue, false, not, true}
use Rattle.std.proofs.lemmas.Bool.{false≢true}
use Rattle.archive_text.specs.Entries.{Entry, IsBelow}
use Rattle.reconcile.proofs.Found.{above_from, at_index}
use Rattle.reconcile.proofs.ascending.are_from.Goals as goal

true_not : (P : Type 0) (b : Bool) → (IsTrue b ↔ P) → (IsTrue (not b) ↔ ¬ P)
true_not P true h = (λ e. absurd (false≢true e), λ n. absurd (n (h.0 refl)))
true_not P false h = (λ e p. false≢true (h.1 p), λ n. refl)

pub returns-in-len1-up : goal.returns-in-len1-up
returns-in-len1-up c =
    let places = c.args.places.now in
    let low = c.args.low.now in
    let first = c.first-item.result in
    let some : 0 < length places = omega arith in
    let h = true_not (IsBelow first low) c.is_below.result c.is_below.ensures in (
      λ yes.
          above_from places low first 0 c.requires some
          (subst (λ (y : Entry). ¬ (IsBelow y low)) c.first-item.is (h.0 yes)),
      λ all.
          h.1 (subst (λ (y : Entry). ¬ (IsBelow y low)) (sym c.first-item.is)
          (at_index (λ x. ¬ (IsBelow x low)) places 0 first all some)),
    )
