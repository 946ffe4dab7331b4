-- What becomes of a file that is to be copied.
use Rattle.std.proofs.Common.{◌≡◌, ◌⊎◌, inl, inr, ℕ, ◌+◌, ◌-◌, ◌^◌, min, List, [], ◌∷◌, ◌++◌, refl, sym, ap, subst, ◌∙◌}
use Rattle.std.proofs.Common.{arith, length, length-append, take}
use Rattle.std.specs.Prelude.{IsSomeAnd, Option, None, Some, Vec, codes}
use Rattle.std.specs.Global.{Global}
use Rattle.std.proofs.lemmas.List.{take_at}
use Rattle.disk.specs.Memory.{shown_now}
use Rattle.disk.specs.States.{Entry, Files, State}
use Rattle.journal.specs.Batches.{batches_text}
use Rattle.journal.specs.Journals.{EndsAt, KeepsOthers}
use Rattle.record_store.specs.Holdings.{IsWholeJournal}
use Rattle.record_store.specs.Names.{Counts, IsJournal, IsSegment}
use Rattle.store_reading.specs.Damages.{IsDamagedJournal, position}
use Rattle.store_reading.specs.Days.{IsPeriodText}
use Rattle.store_reading.specs.Journals.{IsJournalFile}
use Rattle.store_reading.specs.Segments.{IsNamedBy}
use Rattle.store_reading.specs.declared.fault.FileFault.{FileFault}
use Rattle.store_reading.specs.declared.fault.FileFault.TheVariants.{Digest}
use Rattle.store_reading.specs.declared.journal_file.JournalFile.{JournalFile}
use Rattle.store_reading.specs.declared.journal_file.JournalFile.TheVariants.{Octets}
use Rattle.store_reading.proofs.Tails.{file_is}
use Rattle.store_backup.specs.Backups.{BecomesCopy, BecomesNothing, IsDamageAt, IsJournalAt, IsOpenFor, IsReadAt}
use Rattle.store_backup.specs.Copies.{IsCopy, IsJournalCopy, IsSegmentCopy}
use Rattle.store_backup.specs.Drafts.{IsDrafted, IsFreeFor, IsWrittenOf, Places}
use Rattle.store_backup.specs.declared.transfer.Transfer.{Transfer}
use Rattle.store_backup.proofs.Noting.{counted_apart}
use Rattle.store_backup.proofs.Placing.{others_copies, others_place}

-- ---- of any file

pub opened_text : (o left : Option (List ℕ)) → IsSomeAnd o (λ octets. left ≡ Some octets)
    → (text : List ℕ) × (o ≡ Some text) × (left ≡ Some text)
opened_text None left opens = absurd opens
opened_text (Some text) left opens = (text, refl, opens)

some_at : (o : Option (List ℕ)) (text : List ℕ) (P : List ℕ → Type 0) → o ≡ Some text → P text → IsSomeAnd o P
some_at o text P is p = subst (λ (x : Option (List ℕ)). IsSomeAnd x P) (sym is) p

pub open_free : (files : Files) (zero one : State) (draft name text : List ℕ) → IsOpenFor files zero draft name
    → Counts name → KeepsOthers zero one draft → IsCopy files name text → IsFreeFor files one draft name text
open_free files zero one draft name text opens counts others copy =
    let apart = counted_apart draft name opens.backing.apart counts in
    record {
      copies = others_copies files zero one draft others opens.backing.copies;
      vacant = ap (λ (e : Entry). e.now) (others name apart) ∙ opens.vacant;
      apart = apart;
      copy = copy;
    }

pub open_place : (files : Files) (zero one : State) (draft name : List ℕ) → IsOpenFor files zero draft name
    → KeepsOthers zero one draft → Places files zero one draft name
open_place files zero one draft name opens others = others_place files zero one draft name others opens.backing.copies

pub same_place : (files : Files) (zero : State) (draft name : List ℕ) → IsOpenFor files zero draft name
    → Places files zero zero draft name
same_place files zero draft name opens = open_place files zero zero draft name opens (λ other apart. refl)

pub same_nothing : (files : Files) (zero : State) (draft name : List ℕ) → IsOpenFor files zero draft name
    → BecomesNothing zero zero draft
same_nothing files zero draft name opens = record { sound = opens.backing.sound; others = λ other apart. refl }

pub becomes_copy : (state : State) (name text : List ℕ) (octets : ℕ) → IsDrafted state name text
    → octets ≡ position (length text) → BecomesCopy state name octets
becomes_copy state name text octets drafted count = record {
  sound = drafted.sound;
  there = some_at (shown_now (state.entries name)) text (λ t. octets ≡ position (length t)) drafted.shown count;
}

-- ---- of a segment

module _ (files : Files) (zero one : State) (draft name period : List ℕ) (written : Transfer)
    (opens : IsOpenFor files zero draft name) (period_text : IsPeriodText period) (segment : IsSegment period name)
    (others : KeepsOthers zero one draft) (is : IsWrittenOf files one draft name written) where
  pub segment_free : IsNamedBy period name written.hex → IsFreeFor files one draft name is.text
  segment_free named =
      open_free files zero one draft name is.text opens (inr (period, segment)) others
      (some_at (files name) is.text
      (λ file. (IsJournal name × IsJournalCopy file is.text) ⊎ IsSegmentCopy name file is.text) is.file
      (inr (record {
        period = period;
        text = period_text;
        segment = segment;
        named = subst (λ (h : List ℕ). name ≡ period ++ 46 ∷ h ++ codes ".archive") is.transfer.hex named;
        copy_is = refl;
      })))

  pub segment_damage : ¬ (IsNamedBy period name written.hex) → IsDamageAt files name Digest
  segment_damage other =
      some_at (files name) is.text _ is.file
      (inr (
        refl,
        record {
          period = period;
          text = period_text;
          segment = segment;
          other = λ named. other
              (subst (λ (h : List ℕ). name ≡ period ++ 46 ∷ h ++ codes ".archive") (sym is.transfer.hex) named);
        },
      ))

-- ---- of a journal

-- the copy, as it is written
abbrev pub journal_text : List ℕ → ℕ → List ℕ
journal_text file end = ([] ++ take end file) ++ 254 ∷ []

module _ (files : Files) (name file : List ℕ) (at : IsJournalAt files name file) (end : ℕ)
    (ends : (bodies : List (List ℕ)) × EndsAt file bodies end) where
  front : take end file ≡ batches_text ends.0
  front = ap (take end) ends.1.text ∙ take_at (batches_text ends.0) ends.1.tail end (sym ends.1.end_is)

  pub journal_count : (octets : ℕ) → octets ≡ min (end + 1) (2 ^ 64 - 1)
      → octets ≡ position (length (journal_text file end))
  journal_count octets is =
      omega (arith, is, length-append (take end file) (254 ∷ []), ap length front, ends.1.end_is)

  pub journal_copy : IsCopy files name (journal_text file end)
  journal_copy =
      some_at (files name) file
      (λ f. (IsJournal name × IsJournalCopy f (journal_text file end)) ⊎ IsSegmentCopy name f (journal_text file end))
      at.there
      (inl (
        at.journal,
        record {
          whole = at.whole;
          bodies = ends.0;
          batches = record { tail = ends.1.tail; text = ends.1.text; closed = ends.1.closed; sized = ends.1.sized };
          copy_is = ap (λ (l : List ℕ). l ++ 254 ∷ []) front;
        },
      ))

-- what is so of a journal that was read is so of the file
pub read_file : (o : Option (List ℕ)) (journal : JournalFile) → IsSomeAnd o (IsJournalFile journal)
    → (file : List ℕ) × (o ≡ Some file) × IsJournalFile journal file
read_file None journal read = absurd read
read_file (Some file) journal read = (file, refl, read)

pub journal_damage : (files : Files) (name : List ℕ) (journal : JournalFile) (damage : FileFault)
    → IsReadAt files name journal
    → ((file : List ℕ) → IsJournalFile journal file → IsDamagedJournal file damage) → IsDamageAt files name damage
journal_damage files name journal damage at damaged =
    let file = read_file (files name) journal at.read in
    some_at (files name) file.0 _ file.1 (inl (at.journal_is, damaged file.0 file.2))

pub journal_at : (files : Files) (name : List ℕ) (journal : JournalFile) (octets : Vec ℕ Global) (given : List ℕ)
    → IsReadAt files name journal → journal ≡ Octets octets → given ≡ octets.items
    → ((file : List ℕ) → IsJournalFile journal file → IsWholeJournal file) → IsJournalAt files name given
journal_at files name journal octets given at same given_is whole =
    let file = read_file (files name) journal at.read in
    let is : given ≡ file.0 = file_is journal octets same given given_is file.0 file.2 in
    record {
      journal = at.journal_is;
      there = file.1 ∙ ap (λ (l : List ℕ). Some l) (sym is);
      whole = subst IsWholeJournal (sym is) (whole file.0 file.2);
    }
