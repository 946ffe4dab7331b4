-- Files of batches.
use Rattle.std.proofs.Common.{◌≡◌, ◌≢◌, inl, inr, ⊎_elim, ℕ, List, [], ◌∷◌, ◌++◌, refl, sym, ◌∙◌, ap, append_assoc}
use Rattle.std.specs.List.{AllByRecursion}
use Rattle.std.proofs.lemmas.Bool.{cases_eq}
use Rattle.std.proofs.lemmas.List.{append-nil}
use Rattle.journal.specs.Batches.{closed_batch, open_batch, batches_text, IsBody, IsClosed, HasBatches}
use Rattle.journal.specs.Journals.{WithOrWithout}

abbrev Bodies : Type 0
Bodies = List (List ℕ)

pub text-push : (bodies : Bodies) (body rest : List ℕ)
    → batches_text (bodies ++ body ∷ []) ++ rest ≡ batches_text bodies ++ open_batch body ++ rest
text-push [] body rest = ap (λ (l : List ℕ). l ++ rest) (append-nil (open_batch body))
text-push (b ∷ bodies) body rest =
    append_assoc (open_batch b) (batches_text (bodies ++ body ∷ [])) rest
    ∙ ap (λ (l : List ℕ). open_batch b ++ l) (text-push bodies body rest ∙ append_assoc (batches_text bodies)
    (open_batch body) rest)
    ∙ sym (append_assoc (open_batch b) (batches_text bodies) (open_batch body ++ rest))
    ∙ sym (append_assoc (open_batch b ++ batches_text bodies) (open_batch body) rest)

-- a closed octet ends them, whatever is behind it
pub closed_octet : (gate : ℕ) (behind : List ℕ) → gate ≢ 1 → IsClosed (gate ∷ behind)
closed_octet gate behind shut body rest sized is = shut (cc is)

pub sized_push : (bodies : Bodies) (body : List ℕ) → AllByRecursion IsBody bodies → IsBody body
    → AllByRecursion IsBody (bodies ++ body ∷ [])
sized_push [] body sized one = (one, tt)
sized_push (b ∷ bodies) body sized one = (sized.0, sized_push bodies body sized.1 one)

pub before_closed : (bodies : Bodies) (gate : ℕ) (behind : List ℕ) → gate ≢ 1 → AllByRecursion IsBody bodies
    → HasBatches (batches_text bodies ++ gate ∷ behind) bodies
before_closed bodies gate behind shut sized = record
    { tail = gate ∷ behind; text = refl; closed = closed_octet gate behind shut; sized = sized }

-- a whole batch behind any octet counts, or it does not
pub any_gate : (bodies : Bodies) (body : List ℕ) (gate : ℕ) → AllByRecursion IsBody bodies → IsBody body
    → (found : Bodies) × HasBatches (batches_text bodies ++ gate ∷ closed_batch body) found × WithOrWithout bodies body
    found
any_gate bodies body gate sized one = ⊎_elim
    (λ is_open. (
      bodies ++ body ∷ [],
      record {
        tail = 254 ∷ [];
        text =
            ap (λ (g : ℕ). batches_text bodies ++ g ∷ closed_batch body) is_open
            ∙ sym (append_assoc (batches_text bodies) (open_batch body) (254 ∷ []))
            ∙ sym (text-push bodies body (254 ∷ []));
        closed = closed_octet 254 [] (λ is. absurd (cc is));
        sized = sized_push bodies body sized one;
      },
      inr refl,
    ))
    (λ shut. (bodies, before_closed bodies gate (closed_batch body) shut sized, inl refl))
    (cases_eq gate 1)
