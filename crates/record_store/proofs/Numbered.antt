-- Octets that are not the name of a journal.
use Rattle.std.proofs.Common.{◌≡◌, ℕ, Bool, true, List, length, drop, refl, sym, ap, subst, ◌∙◌}
use Rattle.std.specs.Prelude.{Result, Ok, Err, bytes_eq, codes, decimal, not}
use Rattle.std.specs.Str.{IsUtf8}
use Rattle.std.specs.Str.Parse.{ParsesUnsigned}
use Rattle.std.proofs.lemmas.Fmt.{IsAscii-decimal, parse-decimal}
use Rattle.std.proofs.lemmas.List.{drop_at}
use Rattle.std.proofs.lemmas.Slice.Eq.{bytes_eq-Decides}
use Rattle.std.proofs.lemmas.Str.{IsUtf8-from_ascii}
use Rattle.record_store.specs.Names.{IsJournal}

module _ (name prefix digits : List ℕ) (prefix_is : prefix ≡ codes "journal.")
    (digits_are : digits ≡ drop (length prefix) name) (journal : IsJournal name) where
  written : digits ≡ decimal journal.number
  written =
      digits_are
      ∙ ap (λ (p : List ℕ). drop (length p) name) prefix_is
      ∙ ap (λ (l : List ℕ). drop 8 l) journal.name_is
      ∙ drop_at (codes "journal.") (decimal journal.number) 8 refl

  pub not_utf8 : ¬ (IsUtf8 digits) → ⊥
  not_utf8 none =
      none (subst IsUtf8 (sym written)
      (IsUtf8-from_ascii (decimal journal.number) (IsAscii-decimal journal.number journal.small)))

  parsed : {E : Type 0} (text : List ℕ) (r : Result ℕ E) → text ≡ digits → ParsesUnsigned 64 10 text r
      → r ≡ Ok journal.number
  parsed text r same parses = parse-decimal 64 journal.number text r journal.small journal.small (same ∙ written) parses

  pub not_parsed : {E : Type 0} (text : List ℕ) (r : Result ℕ E) (fault : E) → text ≡ digits
      → ParsesUnsigned 64 10 text r → r ≡ Err fault → ⊥
  not_parsed text r fault same parses is = let ok = parsed text r same parses in absurd (cc (ok, is))

  pub not_same : {E : Type 0} (text again : List ℕ) (r : Result ℕ E) (number : ℕ) (differs : Bool) → text ≡ digits
      → ParsesUnsigned 64 10 text r → r ≡ Ok number → again ≡ decimal number
      → differs ≡ not (bytes_eq again digits) → differs ≡ true → ⊥
  not_same text again r number differs same parses is printed test true_is =
      let ok = parsed text r same parses in
      let one : number ≡ journal.number = cc (ok, is) in
      let equal : bytes_eq again digits ≡ true =
      (bytes_eq-Decides again digits).1 (printed ∙ ap decimal one ∙ sym written) in
      let none : not true ≡ true = ap not (sym equal) ∙ sym test ∙ true_is in
      absurd (cc none)
