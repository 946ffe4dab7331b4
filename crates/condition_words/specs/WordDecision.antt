-- Whether a text is a word, or a name of structured data, is decided.
use Rattle.std.proofs.Common.{◌≢◌, ℕ, List, [], ◌∷◌, length, Option, Some, None, inl, inr}
use Rattle.std.specs.List.{AllByRecursion}
use Rattle.std.specs.Str.{bytes_eq}
use Rattle.std.proofs.lemmas.Bool.{cases_eq}
use Rattle.std.proofs.lemmas.Slice.Eq.{bytes_eq-Decides}
use Rattle.clap.specs.Walk.{Text}
use Rattle.syslog_value.specs.Parts.{IsName, IsNameOctet, IsPrintable, IsWord}
use Rattle.option_values.specs.TimeDecision.{Decided, at_most, both, mapped, tested}

other : {A : Type 0} → Decided A → Decided (¬ A)
other (inl a) = inr (λ n. n a)
other (inr n) = inl n

all : {P : ℕ → Type 0} → ((x : ℕ) → Decided (P x)) → (xs : List ℕ) → Decided (AllByRecursion P xs)
all d [] = inl tt
all d (x ∷ xs) = both (d x) (all d xs)

printable : (x : ℕ) → Decided (IsPrintable x)
printable x = both (at_most 33 x) (at_most x 126)

name_octet : (x : ℕ) → Decided (IsNameOctet x)
name_octet x =
    let parts : Decided ((IsPrintable x × (x ≢ 61)) × ((x ≢ 93) × (x ≢ 34))) =
    both (both (printable x) (other (cases_eq x 61))) (both (other (cases_eq x 93)) (other (cases_eq x 34))) in
    mapped (λ h. (h.0.0, h.0.1, h.1.0, h.1.1)) (λ h. ((h.0, h.1), (h.2, h.3))) parts

pub decided_word : (n : ℕ) (text : Text) → Decided (IsWord n text)
decided_word n text =
    mapped (λ h. record { some = h.0.0; fits = h.0.1; printable = h.1.0; not_nil = h.1.1 })
    (λ w. ((w.some, w.fits), (w.printable, w.not_nil)))
    (both (both (at_most 1 (length text)) (at_most (length text) n))
    (both (all printable text) (other (tested (bytes_eq text (45 ∷ [])) (bytes_eq-Decides text (45 ∷ []))))))

pub decided_name : (text : Text) → Decided (IsName text)
decided_name text =
    mapped (λ h. record { some = h.0.0; fits = h.0.1; octets = h.1 }) (λ w. ((w.some, w.fits), w.octets))
    (both (both (at_most 1 (length text)) (at_most (length text) 32)) (all name_octet text))

-- a value where something holds
abbrev pub where_holds : {P X : Type 0} → Decided P → X → Option X
where_holds (inl p) x = Some x
where_holds (inr n) x = None
