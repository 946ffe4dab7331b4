-- Batches that have their seals.
use Rattle.std.proofs.Common.{◌≡◌, ◌≢◌, ◌⊎◌, inl, inr, ℕ, List, [], ◌∷◌, ◌++◌, refl, sym, ap, subst, ◌∙◌, append_assoc}
use Rattle.std.proofs.lemmas.List.{append_cancel_left}
use Rattle.std.specs.List.{AllByRecursion}
use Rattle.journal.specs.Batches.{HasBatches, IsBody, batches_text, open_batch}
use Rattle.journal.proofs.Batches.{sized_push, text-push}
use Rattle.journal.proofs.Readings.{same_batch}
use Rattle.archive_text.specs.Entries.{Entry}
use Rattle.archive_text.specs.Text.{text_of}
use Rattle.record_store.specs.Holdings.{IsBatch, IsSealedBatch, SomeIsSealed, StaySealed}
use Rattle.record_store.proofs.Batches.{one_batch}

-- ---- one batch

-- a batch has its seal where something is behind its entries
pub seal_some : (es : List Entry) (body : List ℕ) (b : IsBatch es body) → IsSealedBatch body → b.behind ≢ []
seal_some es body b h none =
    let same : h.entries ≡ es = one_batch h.entries es body h.batch b in
    let both : text_of es ++ h.batch.behind ≡ text_of es ++ b.behind =
    ap (λ (l : List Entry). text_of l ++ h.batch.behind) (sym same) ∙ sym h.batch.text ∙ b.text in
    h.some (append_cancel_left (text_of es) h.batch.behind b.behind both ∙ none)

-- ---- one behind the other

pub sealed_before : (bodies : List (List ℕ)) (body : List ℕ) → SomeIsSealed bodies → SomeIsSealed (bodies ++ body ∷ [])
sealed_before [] body none = absurd none
sealed_before (b ∷ bodies) body (inl here) = inl here
sealed_before (b ∷ bodies) body (inr more) = inr (sealed_before bodies body more)

pub sealed_last : (bodies : List (List ℕ)) (body : List ℕ) → IsSealedBatch body → SomeIsSealed (bodies ++ body ∷ [])
sealed_last [] body sealed = inl sealed
sealed_last (b ∷ bodies) body sealed = inr (sealed_last bodies body sealed)

pub sealed_either : (bodies : List (List ℕ)) (body : List ℕ) → SomeIsSealed (bodies ++ body ∷ [])
    → SomeIsSealed bodies ⊎ IsSealedBatch body
sealed_either [] body (inl here) = inr here
sealed_either [] body (inr none) = absurd none
sealed_either (b ∷ bodies) body (inl here) = inl (inl here)
sealed_either (b ∷ bodies) body (inr more) =
    elim (sealed_either bodies body more) [ inl before ↦ inl (inr before) | inr last ↦ inr last ]

all_push : (bodies : List (List ℕ)) (body : List ℕ) → AllByRecursion IsSealedBatch bodies → IsSealedBatch body
    → AllByRecursion IsSealedBatch (bodies ++ body ∷ [])
all_push [] body all sealed = (sealed, tt)
all_push (b ∷ bodies) body all sealed = (all.0, all_push bodies body all.1 sealed)

-- one more, which has its seal where one before has
pub stay_push : (bodies : List (List ℕ)) (body : List ℕ) → StaySealed bodies → (SomeIsSealed bodies → IsSealedBatch body)
    → StaySealed (bodies ++ body ∷ [])
stay_push [] body stay last = (λ sealed. tt, tt)
stay_push (b ∷ bodies) body stay last = (
  λ sealed. all_push bodies body (stay.0 sealed) (last (inl sealed)),
  stay_push bodies body stay.1 (λ more. last (inr more)),
)

-- ---- in a journal

all_at : (bodies : List (List ℕ)) (body : List ℕ) (more : List (List ℕ))
    → AllByRecursion IsSealedBatch (bodies ++ body ∷ more) → IsSealedBatch body
all_at [] body more all = all.0
all_at (b ∷ bodies) body more all = all_at bodies body more all.1

stay_at : (bodies : List (List ℕ)) (body : List ℕ) (more : List (List ℕ)) → StaySealed (bodies ++ body ∷ more)
    → SomeIsSealed bodies → IsSealedBatch body
stay_at [] body more stay none = absurd none
stay_at (b ∷ bodies) body more stay (inl here) = all_at bodies body more (stay.0 here)
stay_at (b ∷ bodies) body more stay (inr there) = stay_at bodies body more stay.1 there

-- the batches of a file begin with those that its text begins with
first_bodies : (file : List ℕ) (xs ys : List (List ℕ)) (rest : List ℕ) → AllByRecursion IsBody xs → HasBatches file ys
    → file ≡ batches_text xs ++ rest → (more : List (List ℕ)) × (ys ≡ xs ++ more)
first_bodies file [] ys rest sized h is = (ys, refl)
first_bodies file (x ∷ xs) [] rest sized h is =
    absurd (h.closed x (batches_text xs ++ rest) sized.0
    (sym h.text ∙ is ∙ append_assoc (open_batch x) (batches_text xs) rest))
first_bodies file (x ∷ xs) (y ∷ ys) rest sized h is =
    let parts = is ∙ append_assoc (open_batch x) (batches_text xs) rest in
    let same = same_batch x y (batches_text xs ++ rest) (batches_text ys ++ h.tail) sized.0 h.sized.0
    (sym parts ∙ h.text ∙ append_assoc (open_batch y) (batches_text ys) h.tail) in
    let next = first_bodies (batches_text xs ++ rest) xs ys rest sized.1
    (record { tail = h.tail; text = same.1; closed = h.closed; sized = h.sized.1 }) refl in (
      next.0,
      ap (λ (l : List ℕ). l ∷ ys) (sym same.0) ∙ ap (λ (l : List (List ℕ)). x ∷ l) next.1,
    )

-- so one behind a sealed one has its seal
pub sealed_next : (file : List ℕ) (bodies found : List (List ℕ)) (body behind : List ℕ) → AllByRecursion IsBody bodies
    → IsBody body → file ≡ batches_text bodies ++ open_batch body ++ behind → HasBatches file found
    → StaySealed found → SomeIsSealed bodies → IsSealedBatch body
sealed_next file bodies found body behind sized fits parts has stay some =
    let first = first_bodies file (bodies ++ body ∷ []) found behind (sized_push bodies body sized fits) has
    (parts ∙ sym (text-push bodies body behind)) in
    let is : found ≡ bodies ++ body ∷ first.0 = first.1 ∙ append_assoc bodies (body ∷ []) first.0 in
    stay_at bodies body first.0 (subst StaySealed is stay) some
