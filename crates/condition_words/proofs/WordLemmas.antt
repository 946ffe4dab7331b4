-- What is no word asks for no test.
use Rattle.std.proofs.Common.{◌≡◌, ◌≢◌, ◌∙◌, ℕ, ◌<◌, List, [], ◌∷◌, Bool, Some, None, ap, arith, codes, inl, inr}
use Rattle.std.proofs.Common.{if◌then◌else◌, length, refl, slice_index, suc, sym, zero}
use Rattle.std.specs.List.{AllByRecursion}
use Rattle.clap.specs.Walk.{Text}
use Rattle.archive_sets.specs.declared.word_field.WordField.{WordField}
use Rattle.syslog_value.specs.Parts.{IsPrintable, IsWord}
use Rattle.syslog_value.specs.Words.{IsWordFault}
use Rattle.syslog_value.specs.declared.word.WordFault.{WordFault}
use Rattle.syslog_value.specs.declared.word.WordFault.TheVariants.{Empty, Nil, TooLong, BadOctet, Memory}
use Rattle.option_values.specs.TimeDecision.{Decided}
use Rattle.condition_words.specs.Tests.{Word, word_test}
use Rattle.condition_words.specs.WordDecision.{decided_word, where_holds}
use Rattle.condition_words.proofs.NameLemmas.{differ}

where_not : {P X : Type 0} (d : Decided P) (x : X) → ¬ P → None ≡ where_holds d x
where_not (inl p) x n = absurd (n p)
where_not (inr m) x n = refl

all_at : (P : ℕ → Type 0) (xs : List ℕ) (i : ℕ) → AllByRecursion P xs → i < length xs → P (slice_index xs i)
all_at P [] i h less = absurd (omega (arith, less))
all_at P (x ∷ xs) zero h less = h.0
all_at P (x ∷ xs) (suc i) h less = all_at P xs i h.1 (omega (arith, less))

-- a text that is not "-"
no_dash : (n : ℕ) (field : WordField) (text : Text) → text ≢ 45 ∷ []
    → where_holds (decided_word n text) (Word field (Some text)) ≡ word_test n field text
no_dash n field text not =
    ap (λ (t : Bool). if t then Some (Word field None) else where_holds (decided_word n text) (Word field (Some text)))
    (sym (differ text (codes "-") not))

no_word : (n : ℕ) (field : WordField) (text : Text) → ¬ (IsWord n text) → text ≢ 45 ∷ [] → None ≡ word_test n field text
no_word n field text never not =
    where_not (decided_word n text) (Word field (Some text)) never ∙ no_dash n field text not

pub word_none : (n : ℕ) (field : WordField) (text : Text) (fault : WordFault) → IsWordFault n text fault
    → ¬ (fault ≡ Nil) → ¬ (fault ≡ Memory) → None ≡ word_test n field text
word_none n field text Empty e nil memory =
    let none : length text ≡ 0 = ap length e in
    no_word n field text (λ w. omega (arith, w.some, none)) (λ h. absurd cc)
word_none n field text Nil e nil memory = absurd (nil refl)
word_none n field text TooLong h nil memory = no_word n field text (λ w. omega (arith, w.fits, h.2)) h.1
word_none n field text (BadOctet at) h nil memory =
    no_word n field text (λ w. h.3.bad (all_at IsPrintable text at w.printable h.3.within)) h.1
word_none n field text Memory w nil memory = absurd (memory refl)
