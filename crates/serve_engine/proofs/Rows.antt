-- Rows of places, and buckets that are put in front.
use Rattle.std.proofs.Common.{◌≡◌, ◌⊎◌, ℕ, zero, suc, ◌-◌, ◌≤◌, List, [], ◌∷◌, cond, eqb, length}
use Rattle.std.proofs.Common.{◌<◌, inl, inr, ap, refl, sym, ◌∙◌, arith, take, drop, get_or, ◌++◌, set, replicate}
use Rattle.std.proofs.lemmas.List.{append-nil, drop_all, set_split, take_all}
use Rattle.std.proofs.Math.Seq.{drop-cons}
use Rattle.std.proofs.lemmas.Bool.{cases_eq, eq-eqb, ne_eqb}
use Rattle.serve_engine.specs.Rows.{StandsFirst, owed_in}
use Rattle.serve_engine.specs.declared.row.Bucket.{Bucket}

-- a row with a bucket in front, and each further one a place behind its own, up to the one of a peer
abbrev pub shifted : ℕ → Bucket → List Bucket → List Bucket
shifted p c [] = []
shifted p c (b ∷ bs) = c ∷ cond (eqb b.peer p) bs (shifted p b bs)

-- what is owed by the peer of the first bucket, and by another
owed_here : (b : Bucket) (bs : List Bucket) (clock q : ℕ) → b.peer ≡ q → owed_in (b ∷ bs) clock q ≡ b.clear_at - clock
owed_here b bs clock q is = ap (λ t. cond t (b.clear_at - clock) (owed_in bs clock q)) (eq-eqb b.peer q is)

owed_behind : (b : Bucket) (bs : List Bucket) (clock q : ℕ) → (b.peer ≡ q → ⊥) → owed_in (b ∷ bs) clock q ≡ owed_in bs clock q
owed_behind b bs clock q other = ap (λ t. cond t (b.clear_at - clock) (owed_in bs clock q)) (ne_eqb b.peer q other)

-- behind the first bucket
behind : (c : Bucket) (xs ys : List Bucket) (clock q : ℕ)
    → (owed_in xs clock q ≡ owed_in ys clock q) ⊎ (owed_in xs clock q ≡ 0)
    → (owed_in (c ∷ xs) clock q ≡ owed_in (c ∷ ys) clock q) ⊎ (owed_in (c ∷ xs) clock q ≡ 0)
behind c xs ys clock q owes = by (cases_eq c.peer q) owes
  where
    by : (c.peer ≡ q) ⊎ (c.peer ≡ q → ⊥) → (owed_in xs clock q ≡ owed_in ys clock q) ⊎ (owed_in xs clock q ≡ 0)
        → (owed_in (c ∷ xs) clock q ≡ owed_in (c ∷ ys) clock q) ⊎ (owed_in (c ∷ xs) clock q ≡ 0)
    by (inl is) owed = inl (owed_here c xs clock q is ∙ sym (owed_here c ys clock q is))
    by (inr other) (inl same) = inl (owed_behind c xs clock q other ∙ (same ∙ sym (owed_behind c ys clock q other)))
    by (inr other) (inr none) = inr (owed_behind c xs clock q other ∙ none)

-- another peer owes as if the bucket stood in front, or has lost its place
others_shifted : (p : ℕ) (c : Bucket) (bs : List Bucket) (clock q : ℕ) → (q ≡ p → ⊥)
    → (owed_in (shifted p c bs) clock q ≡ owed_in (c ∷ bs) clock q) ⊎ (owed_in (shifted p c bs) clock q ≡ 0)
others_shifted p c [] clock q apart = inr refl
others_shifted p c (b ∷ bs) clock q apart = behind c (cond (eqb b.peer p) bs (shifted p b bs)) (b ∷ bs) clock q
    (by (cases_eq b.peer p) (others_shifted p b bs clock q apart))
  where
    by : (b.peer ≡ p) ⊎ (b.peer ≡ p → ⊥)
        → (owed_in (shifted p b bs) clock q ≡ owed_in (b ∷ bs) clock q) ⊎ (owed_in (shifted p b bs) clock q ≡ 0)
        → (owed_in (cond (eqb b.peer p) bs (shifted p b bs)) clock q ≡ owed_in (b ∷ bs) clock q)
        ⊎ (owed_in (cond (eqb b.peer p) bs (shifted p b bs)) clock q ≡ 0)
    by (inl is) later = inl (ap (λ t. owed_in (cond t bs (shifted p b bs)) clock q) (eq-eqb b.peer p is)
        ∙ sym (owed_behind b bs clock q (λ same. apart (sym same ∙ is))))
    by (inr other) later = rw (ne_eqb b.peer p other) later

own_shifted : (c : Bucket) (b : Bucket) (bs : List Bucket) (clock : ℕ)
    → owed_in (shifted c.peer c (b ∷ bs)) clock c.peer ≡ c.clear_at - clock
own_shifted c b bs clock = owed_here c (cond (eqb b.peer c.peer) bs (shifted c.peer b bs)) clock c.peer refl

pub stands_first : (c : Bucket) (row new : List Bucket) → 0 < length row → new ≡ shifted c.peer c row → StandsFirst row new c
stands_first c [] new some is = absurd (omega (arith, some))
stands_first c (b ∷ bs) new some is = (
  λ clock. rw is (own_shifted c b bs clock),
  λ clock q apart. rw is (by clock q apart (others_shifted c.peer c (b ∷ bs) clock q apart)),
)
  where
    by : (clock q : ℕ) → (q ≡ c.peer → ⊥)
        → (owed_in (shifted c.peer c (b ∷ bs)) clock q ≡ owed_in (c ∷ (b ∷ bs)) clock q)
        ⊎ (owed_in (shifted c.peer c (b ∷ bs)) clock q ≡ 0)
        → (owed_in (shifted c.peer c (b ∷ bs)) clock q ≡ owed_in (b ∷ bs) clock q)
        ⊎ (owed_in (shifted c.peer c (b ∷ bs)) clock q ≡ 0)
    by clock q apart (inl same) = inl (same ∙ owed_behind c (b ∷ bs) clock q (λ is. apart (sym is)))
    by clock q apart (inr none) = inr none

-- where the place of the peer is found, and where the row is at its end
pub found : (p : ℕ) (next d : Bucket) (row all : List Bucket) (i : ℕ) → i < length row → (get_or row i d).peer ≡ p
    → take i row ++ shifted p next (drop i row) ≡ all → set row i next ≡ all
found p next d row all i within is done = set_split row i next within ∙ ap (λ u. take i row ++ u) (sym rest) ∙ done
  where
    rest : shifted p next (drop i row) ≡ next ∷ drop (suc i) row
    rest = ap (λ u. shifted p next u) (drop-cons row i d within)
        ∙ ap (λ t. next ∷ cond t (drop (suc i) row) (shifted p (get_or row i d) (drop (suc i) row))) (eq-eqb _ p is)

pub finished : (p : ℕ) (next : Bucket) (row all : List Bucket) (i : ℕ) → length row ≤ i
    → take i row ++ shifted p next (drop i row) ≡ all → row ≡ all
finished p next row all i end done = sym (append-nil row)
    ∙ (ap (λ u. u ++ []) (sym (take_all i row end)) ∙ (ap (λ u. take i row ++ shifted p next u) (sym (drop_all i row end)) ∙ done))

-- nobody owes anything in a row that is free
pub free_row : (b : Bucket) (n clock q : ℕ) → b.clear_at ≡ 0 → owed_in (replicate n b) clock q ≡ 0
free_row b zero clock q free = refl
free_row b (suc n) clock q free = by (cases_eq b.peer q) (free_row b n clock q free)
  where
    by : (b.peer ≡ q) ⊎ (b.peer ≡ q → ⊥) → owed_in (replicate n b) clock q ≡ 0
        → owed_in (b ∷ replicate n b) clock q ≡ 0
    by (inl is) later = owed_here b (replicate n b) clock q is ∙ omega (arith, free)
    by (inr other) later = owed_behind b (replicate n b) clock q other ∙ later

-- what is owed at a later time
pub paid_row : (bs : List Bucket) (clock later q : ℕ) → clock ≤ later
    → owed_in bs later q ≡ owed_in bs clock q - (later - clock)
paid_row [] clock later q after = omega arith
paid_row (b ∷ bs) clock later q after = by (cases_eq b.peer q) (paid_row bs clock later q after)
  where
    by : (b.peer ≡ q) ⊎ (b.peer ≡ q → ⊥) → owed_in bs later q ≡ owed_in bs clock q - (later - clock)
        → owed_in (b ∷ bs) later q ≡ owed_in (b ∷ bs) clock q - (later - clock)
    by (inl is) more = owed_here b bs later q is
        ∙ (omega (arith, after) ∙ ap (λ n. n - (later - clock)) (sym (owed_here b bs clock q is)))
    by (inr other) more = owed_behind b bs later q other
        ∙ (more ∙ ap (λ n. n - (later - clock)) (sym (owed_behind b bs clock q other)))
