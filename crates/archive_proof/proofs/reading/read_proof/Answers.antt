use Rattle.std.proofs.Common.{◌≡◌, ◌++◌, List, ℕ, sym, ap, subst, ◌∙◌}
use Rattle.std.specs.Prelude.{None, Option, Some, MatchOption}
use Rattle.std.proofs.lemmas.Bool.Decides.{Decides-eqb}
use Rattle.std.proofs.lemmas.List.{append_cancel_left}
use Rattle.std.proofs.lemmas.Slice.Eq.{strip_prefix_is}
use Rattle.archive_proof.specs.Reading.{AreSame}
use Rattle.archive_proof.specs.Texts.{proof_text}
use Rattle.archive_proof.specs.declared.proof.Proof.{Proof}
use Rattle.archive_proof.proofs.Readings.{same_proof_text}
use Rattle.archive_proof.proofs.reading.read_proof.Goals as goal

pub returns-in-Some-strip_prefix-clause-begins : goal.returns-in-Some-strip_prefix-clause-begins
returns-in-Some-strip_prefix-clause-begins c =
    let rest = c.in-Some-strip_prefix.rest in
    let again : c.as_slice.result.now ≡ proof_text c.in-Some.proof =
    c.as_slice.ensures.value ∙ c.in_ok-put_proof.ensures
    ∙ ap (λ (l : List ℕ). l ++ proof_text c.in-Some.proof) c.new-again.ensures.items in
    strip_prefix_is Decides-eqb c.args.text.now c.as_slice.result.now (Some rest) c.in-Some-strip_prefix.ensures.cases
    ∙ ap (λ (l : List ℕ). l ++ rest.now) again

pub returns-in-Some-strip_prefix-clause-only : goal.returns-in-Some-strip_prefix-clause-only
returns-in-Some-strip_prefix-clause-only c =
    λ p behind valid is.
    let rest = c.in-Some-strip_prefix.rest in
    let again : c.as_slice.result.now ≡ proof_text c.in-Some.proof =
    c.as_slice.ensures.value ∙ c.in_ok-put_proof.ensures
    ∙ ap (λ (l : List ℕ). l ++ proof_text c.in-Some.proof) c.new-again.ensures.items in
    let begins : c.args.text.now ≡ proof_text c.in-Some.proof ++ rest.now =
    strip_prefix_is Decides-eqb c.args.text.now c.as_slice.result.now (Some rest) c.in-Some-strip_prefix.ensures.cases
    ∙ ap (λ (l : List ℕ). l ++ rest.now) again in
    let same : AreSame c.in-Some.proof p =
    subst (λ (found : Option Proof). MatchOption found ⊥ (λ q. AreSame q p)) c.in-Some.is
    (c.in_ok-proof.ensures p behind valid is) in (
      same,
      append_cancel_left (proof_text p) rest.now behind
          (ap (λ (l : List ℕ). l ++ rest.now) (sym (same_proof_text c.in-Some.proof p same)) ∙ sym begins ∙ is),
    )

pub returns-clause-begins : goal.returns-clause-begins
returns-clause-begins c =
    λ p rest valid is.
    let again : c.as_slice.result.now ≡ proof_text c.in-Some.proof =
    c.as_slice.ensures.value ∙ c.in_ok-put_proof.ensures
    ∙ ap (λ (l : List ℕ). l ++ proof_text c.in-Some.proof) c.new-again.ensures.items in
    let same : AreSame c.in-Some.proof p =
    subst (λ (found : Option Proof). MatchOption found ⊥ (λ q. AreSame q p)) c.in-Some.is
    (c.in_ok-proof.ensures p rest valid is) in
    strip_prefix_is Decides-eqb c.args.text.now c.as_slice.result.now None c.in-None.ensures.cases rest
    (is ∙ ap (λ (l : List ℕ). l ++ rest) (sym (again ∙ same_proof_text c.in-Some.proof p same)))
