-- The names of a store's files are apart.
use Rattle.std.proofs.Common.{◌≡◌, ◌≢◌, ◌⊎◌, inl, inr, ⊎_elim, ℕ, ◌<◌, ◌≤◌, ◌^◌, List, ◌++◌, ◌∷◌, length, get_or}
use Rattle.std.proofs.Common.{ap, ◌∙◌, arith}
use Rattle.std.proofs.Common.{length-append}
use Rattle.std.specs.Prelude.{bytes_eq, codes, decimal, true}
use Rattle.std.proofs.lemmas.Bool.{cases_Bool, cases_eq}
use Rattle.std.proofs.lemmas.Fmt.{decimal_injective, length-decimal-le}
use Rattle.std.proofs.lemmas.List.{append_cancel_left}
use Rattle.std.proofs.lemmas.Slice.Eq.{bytes_eq-Decides}
use Rattle.record_store.specs.Names.{Counts, IsJournal, IsSegment, draft_name, journal_name}

pub same_or_apart : (a b : List ℕ) → (a ≡ b) ⊎ (a ≢ b)
same_or_apart a b = ⊎_elim
    (λ yes. inl ((bytes_eq-Decides a b).0 yes))
    (λ no. inr (λ is. let yes : bytes_eq a b ≡ true = (bytes_eq-Decides a b).1 is in absurd (cc (yes, no))))
    (cases_Bool (bytes_eq a b))

pub number_same_or_apart : (m n : ℕ) → (m ≡ n) ⊎ (m ≢ n)
number_same_or_apart m n = cases_eq m n

pub journal_length : (n : ℕ) → n < 2 ^ 64 → length (journal_name n) ≤ 28
journal_length n small =
    omega (
      arith,
      length-append (codes "journal.") (decimal n),
      length-decimal-le 20 n (omega arith) (omega (arith, small)) small,
    )

journal_short : (name : List ℕ) → IsJournal name → length name ≤ 28
journal_short name is = omega (arith, ap length is.name_is, journal_length is.number is.small)

pub segment_long : (day name : List ℕ) → IsSegment day name → 73 ≤ length name
segment_long day name is =
    omega (
      arith,
      ap length is.name_is,
      length-append (day ++ 46 ∷ is.digest) (codes ".archive"),
      length-append day (46 ∷ is.digest),
      is.long,
    )

pub not_both : (day name : List ℕ) → IsJournal name → IsSegment day name → ⊥
not_both day name journal segment = omega (arith, journal_short name journal, segment_long day name segment)

pub other_number : (m n : ℕ) → m < 2 ^ 64 → n < 2 ^ 64 → journal_name m ≡ journal_name n → m ≡ n
other_number m n m_small n_small is =
    decimal_injective m n m_small n_small (append_cancel_left (codes "journal.") (decimal m) (decimal n) is)

-- the names of two journals differ
pub numbers_apart : (m n : ℕ) → m < 2 ^ 64 → m < n → n < 2 ^ 64 → (name : List ℕ) → name ≡ journal_name m
    → journal_name n ≢ name
numbers_apart m n m_small above n_small name named is =
    let same : n ≡ m = other_number n m n_small m_small (is ∙ named) in absurd (omega (arith, same))

-- a draft counts for nothing
pub draft_apart : ¬ (Counts draft_name)
draft_apart (inl journal) = omega (arith, ap (λ (l : List ℕ). get_or l 0 0) journal.name_is)
draft_apart (inr (day, segment)) = omega (arith, segment_long day draft_name segment)
