-- What is behind the batches of a journal.
use Rattle.std.proofs.Common.{◌≡◌, ◌+◌, ◌-◌, ℕ, List, [], ◌∷◌, ◌++◌, Option, None, Some, length, refl, sym, ap, subst, ◌∙◌}
use Rattle.std.proofs.Common.{append_assoc, length-append, arith}
use Rattle.std.specs.Prelude.{IfNone, IfSome, IsSomeAnd, Vec}
use Rattle.std.specs.Global.{Global}
use Rattle.std.specs.List.{AllByRecursion}
use Rattle.std.proofs.lemmas.List.{append_cancel_left}
use Rattle.journal.specs.Batches.{HasBatches, IsBody, IsClosed, batches_text, open_batch}
use Rattle.journal.proofs.Batches.{sized_push, text-push}
use Rattle.journal.proofs.Readings.{one_reading}
use Rattle.record_store.specs.Holdings.{IsWholeJournal}
use Rattle.record_store.specs.Seals.{HidesBatches}
use Rattle.store_reading.specs.Damages.{AreReadable, HidesNothing, IsHiddenAt}
use Rattle.store_reading.specs.Journals.{IsJournalFile}
use Rattle.store_reading.specs.declared.journal_file.JournalFile.{JournalFile}
use Rattle.store_reading.specs.declared.journal_file.JournalFile.TheVariants.{Hidden, Octets}

-- ---- a file has one tail

same_tail : (file : List ℕ) (bs cs : List (List ℕ)) (b : HasBatches file bs) (c : HasBatches file cs) → b.tail ≡ c.tail
same_tail file bs cs b c =
    append_cancel_left (batches_text cs) b.tail c.tail
    (sym (ap (λ (l : List (List ℕ)). batches_text l ++ b.tail) (one_reading file bs cs b c)) ∙ sym b.text ∙ c.text)

pub whole_of : (file : List ℕ) → AreReadable file → HidesNothing file → IsWholeJournal file
whole_of file r n = record {
  bodies = r.bodies;
  batches = r.batches;
  readable = r.readable;
  stay_sealed = r.stay_sealed;
  nothing_hidden = λ h. n.hides_none
      (subst HidesBatches (same_tail file r.bodies n.bodies r.batches n.batches) h);
}

pub hidden_not_whole : (file : List ℕ) (at : ℕ) → IsHiddenAt file at → ¬ (IsWholeJournal file)
hidden_not_whole file at h w =
    w.nothing_hidden (subst HidesBatches (same_tail file h.bodies w.bodies h.batches w.batches) h.hides)

one_place : (file : List ℕ) (a b : ℕ) → IsHiddenAt file a → IsHiddenAt file b → a ≡ b
one_place file a b x y =
    x.place ∙ ap (λ (l : List (List ℕ)). length (batches_text l)) (one_reading file x.bodies y.bodies x.batches y.batches)
    ∙ sym y.place

-- ---- the loop over batches

-- what is behind the first batches
pub record IsTailOf (file rest : List ℕ) : Type 0 where
  pub bodies : List (List ℕ)
  pub sized : AllByRecursion IsBody bodies
  pub parts : file ≡ batches_text bodies ++ rest

pub tail_begun : (file : List ℕ) → IsTailOf file file
tail_begun file = record { bodies = []; sized = tt; parts = refl }

pub tail_more : (file rest body behind : List ℕ) → IsTailOf file rest → IsBody body × (rest ≡ open_batch body ++ behind)
    → IsTailOf file behind
tail_more file rest body behind t (sized, is) = record {
  bodies = t.bodies ++ body ∷ [];
  sized = sized_push t.bodies body t.sized sized;
  parts = t.parts ∙ ap (λ (l : List ℕ). batches_text t.bodies ++ l) is
      ∙ sym (append_assoc (batches_text t.bodies) (open_batch body) behind) ∙ sym (text-push t.bodies body behind);
}

pub tail_hidden : (file rest : List ℕ) (at : ℕ) → IsTailOf file rest → IsClosed rest → HidesBatches rest
    → at ≡ length file - length rest → IsHiddenAt file at
tail_hidden file rest at t closed hides is = record {
  bodies = t.bodies;
  batches = record { tail = rest; text = t.parts; closed = closed; sized = t.sized };
  hides = hides;
  place = omega (arith, is, ap length t.parts, length-append (batches_text t.bodies) rest);
}

pub tail_plain : (file rest : List ℕ) → IsTailOf file rest → IsClosed rest → ¬ (HidesBatches rest)
    → HidesNothing file
tail_plain file rest t closed none = record {
  bodies = t.bodies;
  batches = record { tail = rest; text = t.parts; closed = closed; sized = t.sized };
  hides_none = none;
}

-- ---- a journal that was read

pub given_file : (file left : Option (List ℕ)) (octets : List ℕ) → IsSomeAnd file (λ f. left ≡ Some f)
    → IfSome left (λ (input : List ℕ). octets ≡ input) → IsSomeAnd file (λ f. octets ≡ f)
given_file None left octets opens given = absurd opens
given_file (Some f) left octets opens given =
    subst (λ (l : Option (List ℕ)). IfSome l (λ (input : List ℕ). octets ≡ input)) opens given

pub octets_read : (octets : Vec ℕ Global) (file : Option (List ℕ)) → IsSomeAnd file (λ f. octets.items ≡ f)
    → HidesNothing octets.items → IsSomeAnd file (IsJournalFile (Octets octets))
octets_read octets None is none = absurd is
octets_read octets (Some f) is none = (is, subst HidesNothing is none)

pub hidden_read : (file : Option (List ℕ)) (octets : List ℕ) (at : ℕ) → IsSomeAnd file (λ f. octets ≡ f)
    → IsHiddenAt octets at → IsSomeAnd file (IsJournalFile (Hidden at))
hidden_read None octets at is h = absurd is
hidden_read (Some f) octets at is h = subst (λ (t : List ℕ). IsHiddenAt t at) is h

-- what is so of the octets that were read is so of the file
module _ (journal : JournalFile) (octets : Vec ℕ Global) (same : journal ≡ Octets octets) (given : List ℕ)
    (given_is : given ≡ octets.items) (file : List ℕ) (is : IsJournalFile journal file) where
  of_octets : (octets.items ≡ file) × HidesNothing file
  of_octets = subst (λ (j : JournalFile). IsJournalFile j file) same is

  pub file_is : given ≡ file
  file_is = given_is ∙ of_octets.0

  pub nothing_hidden : HidesNothing file
  nothing_hidden = of_octets.1

pub hidden_file : (journal : JournalFile) (at : ℕ) → journal ≡ Hidden at → (file : List ℕ)
    → IsJournalFile journal file → IsHiddenAt file at
hidden_file journal at same file is = subst (λ (j : JournalFile). IsJournalFile j file) same is

-- what was read again does not hide batches from the same place on, so it hides none
pub again_plain : (file : Option (List ℕ)) (first again : List ℕ) (at : ℕ) (found : Option ℕ)
    → IsSomeAnd file (λ f. first ≡ f) → IsSomeAnd file (λ f. again ≡ f) → IsHiddenAt first at
    → IfSome found (IsHiddenAt again) → IfNone found (HidesNothing again) → (found ≡ Some at → ⊥) → HidesNothing again
again_plain file first again at None one two h some none other = none
again_plain None first again at (Some x) one two h some none other = absurd one
again_plain (Some f) first again at (Some x) one two h some none other =
    absurd (other (ap Some (one_place again x at some (subst (λ (t : List ℕ). IsHiddenAt t at) (one ∙ sym two) h))))
