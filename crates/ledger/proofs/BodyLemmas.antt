-- The parts of a line are read.
use Rattle.std.proofs.Common.{◌≡◌, ◌≢◌, ℕ, List, codes, arith}
use Rattle.std.specs.Prelude.{decimal}
use Rattle.ledger.specs.Lines.{IsRemoval, Said, octets_text, removal_text, said_text, what_word}
use Rattle.ledger.specs.Words.{IsFree, IsWord, word_and}
use Rattle.ledger.specs.declared.entry.Event.{Event}
use Rattle.ledger.specs.declared.entry.Event.TheVariants.{Added, Joined, Gone, Sealed}
use Rattle.ledger.specs.declared.entry.Removal.{Removal}
use Rattle.ledger.specs.declared.entry.Removal.TheVariants.{Joined as JoinedInto, Expired}
use Rattle.ledger.proofs.WordLemmas.{first_is, word_free}

pub joined_free : IsFree (codes "joined")
joined_free = (
  (λ e. omega arith),
  (
    (λ e. omega arith),
    (
      (λ e. omega arith),
      (
        (λ e. omega arith),
        (
          (λ e. omega arith),
          ((λ e. omega arith), tt),
        ),
      ),
    ),
  ),
)

pub what_free : (event : Event) → IsFree (what_word event)
what_free Added = ((λ e. omega arith), ((λ e. omega arith), ((λ e. omega arith), tt)))
what_free Joined = ((λ e. omega arith), ((λ e. omega arith), ((λ e. omega arith), ((λ e. omega arith), tt))))
what_free (Gone removal) = ((λ e. omega arith), ((λ e. omega arith), ((λ e. omega arith), ((λ e. omega arith), tt))))
what_free (Sealed root) = ((λ e. omega arith), ((λ e. omega arith), ((λ e. omega arith), ((λ e. omega arith), tt))))

-- ---- why a segment is gone

pub no_removal : (text : List ℕ) → text ≢ codes "expired" → ((w rest : List ℕ) → text ≢ word_and w rest)
    → (why : Removal) → IsRemoval why → text ≢ removal_text why
no_removal text a b Expired h e = a e
no_removal text a b (JoinedInto m) h e = b (codes "joined") (decimal m) e

pub other_removal : (text w rest : List ℕ) → text ≢ codes "expired" → IsFree w → text ≡ word_and w rest
    → w ≢ codes "joined" → (why : Removal) → IsRemoval why → text ≢ removal_text why
other_removal text w rest a free is other Expired h e = a e
other_removal text w rest a free is other (JoinedInto m) h e =
    other ((first_is text w rest (codes "joined") (decimal m) free is joined_free e).0)

-- ---- what a line says

pub what_is : (text w rest : List ℕ) (s : Said) → IsFree w → text ≡ word_and w rest → text ≡ said_text s
    → (w ≡ what_word s.event) × (rest ≡ word_and s.name (word_and (decimal s.count) (octets_text s.event s.octets)))
what_is text w rest s free is e = first_is text w rest (what_word s.event) _ free is (what_free s.event) e

pub name_is : (most few : ℕ) (text w rest v r : List ℕ) → IsWord most w → text ≡ word_and w rest → IsWord few v
    → text ≡ word_and v r → (w ≡ v) × (rest ≡ r)
name_is most few text w rest v r h is k e = first_is text w rest v r (word_free most w h) is (word_free few v k) e
