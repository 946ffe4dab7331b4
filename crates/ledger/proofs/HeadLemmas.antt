-- A line continues a chain, or does not.
use Rattle.std.proofs.Common.{◌≡◌, ℕ, zero, suc, ◌+◌, ◌-◌, ◌^◌, ◌<◌, ◌/◌, ◌%◌, List, [], ◌∷◌, ◌++◌, length, take, drop, refl, subst, sym, ap, ◌∙◌, arith, append_assoc, inl, inr}
use Rattle.std.proofs.Math.Seq.{drop-append_seam}
use Rattle.std.proofs.lemmas.List.{length-drop, take_all}
use Rattle.std.specs.Prelude.{EachIndex, slice_index}
use Rattle.std.specs.List.{AllByRecursion}
use Rattle.hex.specs.Hex.{IsBytes, encode_lower, encode_with, lower_digits}
use Rattle.sha2.specs.Sha256.{sha256}
use Rattle.ledger.specs.Chains.{Continues, EndsAt, IsNextLine}
use Rattle.ledger.specs.Lines.{HasNumbers, IsEvent, IsLine, IsWorded, Said, HasLineNumber, IsRoot, body_text, chain_behind, line_text, said_text}
use Rattle.ledger.specs.Words.{IsHash, IsHexDigit, word_and}
use Rattle.ledger.specs.Writing.{PutsNext}
use Rattle.ledger.specs.declared.entry.Event.{Event}
use Rattle.ledger.specs.declared.entry.Event.TheVariants.{Added, Joined, Gone, Sealed}
use Rattle.ledger.specs.declared.head.ChainHead.{ChainHead}
use Rattle.ledger.proofs.LawLemmas.{chain_size, sha_octets}
use Rattle.ledger.proofs.WordLemmas.{end_is, number_is}

-- ---- a chain is a hash

all_at : (P : ℕ → Type 0) (l : List ℕ) → AllByRecursion P l → (k : ℕ) → k < length l → P (slice_index l k)
all_at P [] h k low = absurd (omega arith)
all_at P (x ∷ l) h zero low = h.0
all_at P (x ∷ l) h (suc k) low = all_at P l h.1 k (omega arith)

low : (x : ℕ) → 48 < suc x → x < 58 → IsHexDigit x
low x a b = inl (omega arith, omega arith)

high : (x : ℕ) → 97 < suc x → x < 103 → IsHexDigit x
high x a b = inr (omega arith, omega arith)

digits : AllByRecursion IsHexDigit lower_digits
digits = (
  low 48 (omega arith) (omega arith),
  (
    low 49 (omega arith) (omega arith),
    (
      low 50 (omega arith) (omega arith),
      (
        low 51 (omega arith) (omega arith),
        (
          low 52 (omega arith) (omega arith),
          (
            low 53 (omega arith) (omega arith),
            (
              low 54 (omega arith) (omega arith),
              (
                low 55 (omega arith) (omega arith),
                (
                  low 56 (omega arith) (omega arith),
                  (
                    low 57 (omega arith) (omega arith),
                    (
                      high 97 (omega arith) (omega arith),
                      (
                        high 98 (omega arith) (omega arith),
                        (
                          high 99 (omega arith) (omega arith),
                          (
                            high 100 (omega arith) (omega arith),
                            (
                              high 101 (omega arith) (omega arith),
                              (high 102 (omega arith) (omega arith), tt),
                            ),
                          ),
                        ),
                      ),
                    ),
                  ),
                ),
              ),
            ),
          ),
        ),
      ),
    ),
  ),
)

digit_at : (k : ℕ) → k < 16 → IsHexDigit (slice_index lower_digits k)
digit_at k small = all_at IsHexDigit lower_digits digits k small

hex_digits : (d : List ℕ) → IsBytes d → EachIndex (encode_lower d) (λ k. IsHexDigit (slice_index (encode_lower d) k))
unfolding encode_with
hex_digits [] h k low = absurd (omega arith)
hex_digits (b ∷ d) h zero low = let small : b < 256 = h zero in digit_at (b / 16) (omega arith)
hex_digits (b ∷ d) h (suc zero) low = digit_at (b % 16) (omega arith)
hex_digits (b ∷ d) h (suc (suc k)) low = hex_digits d (λ i. h (suc i)) k (omega arith)

pub chain_hash : (c body : List ℕ) → IsHash (chain_behind c body)
chain_hash c body = record {
  size = chain_size c body;
  digits = hex_digits (sha256 (word_and c body)) (sha_octets (word_and c body));
}

-- ---- the body and the chain of a line

pub parts_are : (b : ChainHead) (line body chain : List ℕ) (s : Said) (h : ChainHead) (k : Continues b line s h)
    → length chain ≡ 64 → line ≡ word_and body chain
    → (body ≡ body_text h.number k.time s) × (chain ≡ chain_behind b.chain body)
parts_are b line body chain s h k size is =
    let both = end_is body (body_text h.number k.time s) chain (chain_behind b.chain (body_text h.number k.time s)) size
    (chain_size b.chain (body_text h.number k.time s)) (sym is ∙ k.text) in
    (both.0, both.1 ∙ ap (chain_behind b.chain) (sym both.0))

pub one_number : (body t u : List ℕ) (m n : ℕ) (r s : Said) → IsLine m t r → body ≡ body_text m t r → IsLine n u s
    → body ≡ body_text n u s → m ≡ n
one_number body t u m n r s h is k e =
    (number_is body (word_and t (said_text r)) (word_and u (said_text s)) m n h.number_fits is k.number_fits e).0

pub not_first : (line body chain time : List ℕ) (s : Said) (h : ChainHead) → length chain ≡ 64
    → line ≡ word_and body chain → IsLine 0 time s → body ≡ body_text 0 time s → ¬ EndsAt h line
not_first line body chain time s h size is valid told k =
    let both = end_is body (body_text h.number k.time k.said) chain h.chain size k.hash.size (sym is ∙ k.text) in
    let none = one_number body time k.time 0 h.number s k.said valid told k.valid both.0 in
    omega (arith, none, k.first)

-- ---- the next line

pub event_is : (event : Event) → IsRoot event → HasLineNumber event → IsEvent event
event_is Added r n = tt
event_is Joined r n = tt
event_is (Gone removal) r n = n
event_is (Sealed root) r n = r

pub valid_line : (n : ℕ) (time : List ℕ) (s : Said) → n < 2 ^ 64 → IsWorded time s → HasNumbers s → IsLine n time s
valid_line n time s small worded numbers = record {
  number_fits = small;
  time_word = worded.time_word;
  said = record {
    event = event_is s.event worded.root numbers.event;
    name = worded.name_word;
    count = numbers.count;
    octets = numbers.octets;
  };
}

-- a piece behind others
behind_is : (old a body : List ℕ) (n : ℕ) → a ≡ old ++ body → n ≡ length old → drop n a ≡ body
behind_is old a body n is len =
    ap (λ (k : ℕ). drop k a) len ∙ ap (λ (l : List ℕ). drop (length old) l) is ∙ drop-append_seam old body

pub puts_next : (b : ChainHead) (time : List ℕ) (s : Said) (chain old a whole d e f : List ℕ) (n : ℕ)
    → IsLine (b.number + 1) time s → a ≡ old ++ body_text (b.number + 1) time s → n ≡ length old → whole ≡ a
    → chain ≡ chain_behind b.chain (take (length whole - n) (drop n whole))
    → d ≡ a ++ 32 ∷ [] → e ≡ d ++ chain → f ≡ e ++ 10 ∷ []
    → PutsNext b time s old f (record { number = b.number + 1; chain = chain })
puts_next b time s chain old a whole d e f n valid p len same made q r t =
    let body = body_text (b.number + 1) time s in
    let rest : take (length whole - n) (drop n whole) ≡ drop n whole =
    take_all (length whole - n) (drop n whole) (omega (arith, length-drop n whole)) in
    let piece : take (length whole - n) (drop n whole) ≡ body =
    rest ∙ ap (λ (l : List ℕ). drop n l) same ∙ behind_is old a body n p len in
    let right : chain ≡ chain_behind b.chain body = made ∙ ap (chain_behind b.chain) piece in
    record {
      line = line_text b.chain (b.number + 1) time s;
      next = record {
        time = time;
        next = refl;
        valid = valid;
        text = refl;
        chain = right;
      };
      timed = refl;
      text = t ∙ ap (λ (l : List ℕ). l ++ 10 ∷ []) (r ∙ ap (λ (l : List ℕ). l ++ chain) (q ∙ ap (λ (l : List ℕ). l ++ 32 ∷ []) p))
          ∙ ap (λ (l : List ℕ). l ++ 10 ∷ []) (append_assoc (old ++ body) (32 ∷ []) chain
          ∙ append_assoc old body (32 ∷ chain))
          ∙ append_assoc old (body ++ 32 ∷ chain) (10 ∷ [])
          ∙ ap (λ (l : List ℕ). old ++ ((body ++ 32 ∷ l) ++ 10 ∷ [])) right;
    }

-- what is put behind nothing is the line
pub next_is : (b : ChainHead) (time : List ℕ) (s : Said) (none text : List ℕ) (behind : ChainHead) → none ≡ []
    → PutsNext b time s none text behind → IsNextLine b time s text
next_is b time s none text behind empty p =
    let valid : IsLine (b.number + 1) time s =
    subst (λ (n : ℕ). IsLine n time s) p.next.next (subst (λ (t : List ℕ). IsLine behind.number t s) p.timed p.next.valid) in
    record {
      valid = valid;
      is = p.text ∙ ap (λ (l : List ℕ). l ++ (p.line ++ 10 ∷ [])) empty
          ∙ ap (λ (l : List ℕ). l ++ 10 ∷ []) (p.next.text
          ∙ ap (λ (t : List ℕ). line_text b.chain behind.number t s) p.timed
          ∙ ap (λ (n : ℕ). line_text b.chain n time s) p.next.next);
    }
