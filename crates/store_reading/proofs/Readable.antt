-- Batches are read, or not.
use Rattle.std.proofs.Common.{◌≡◌, ℕ, ◌<◌, List, [], ◌∷◌, ◌++◌, length, refl, sym, ap, subst, ◌∙◌, arith}
use Rattle.std.proofs.Common.{◌+◌, ◌-◌, ◌≤◌, ◌^◌, suc, inl, inr, min, take, drop, append_assoc, length-append}
use Rattle.std.specs.Int.{w32, to_le_bytes}
use Rattle.std.specs.List.{AllByRecursion}
use Rattle.std.proofs.lemmas.List.{drop_at, take_at}
use Rattle.journal.specs.Batches.{batches_text, HasBatches, IsBody, IsClosed, open_batch}
use Rattle.journal.proofs.Batches.{text-push}
use Rattle.journal.proofs.Readings.{same_batch}
use Rattle.archive_text.specs.Entries.{Entry, IsEntry}
use Rattle.archive_text.specs.Faults.{IsFaultBefore}
use Rattle.archive_text.specs.Positions.{later, position_of}
use Rattle.archive_text.specs.Text.{BeginsWithEntry, entry_text, text_of}
use Rattle.archive_text.specs.declared.fault.ArchiveFault.{ArchiveFault}
use Rattle.archive_text.specs.declared.fault.ArchiveFault.TheVariants.{BadFrame, EntryTooLong, BadEntry}
use Rattle.archive_text.specs.declared.fault.ArchiveFault.TheVariants.{NotCanonical, NotAscending}
use Rattle.archive_text.specs.declared.limits.TheConstants.{ENTRY_MAX}
use Rattle.archive_text.proofs.FaultLaws.{fault_later}
use Rattle.archive_text.proofs.Prefixes.{fault_excludes}
use Rattle.archive_text.proofs.Members.{all_append}
use Rattle.archive_text.proofs.Texts.{entry_carries, one_beginning, text_goes_on, text_some}
use Rattle.record_store.specs.Holdings.{AreEntries, IsReadable, IsWholeJournal, StaySealed}
use Rattle.record_store.specs.Seals.{HasMore, HidesBatches, Seals}
use Rattle.record_store.proofs.Sealed.{begins_some, rest_of, rest_seals}
use Rattle.record_store.specs.declared.journal_damage.JournalDamage.{JournalDamage}
use Rattle.record_store.specs.declared.journal_damage.JournalDamage.TheVariants.{Checksum}
use Rattle.store_reading.specs.Damages.{IsBatchDamage, IsBatchFault, IsJournalFault, IsOtherSeal, position}
use Rattle.store_reading.specs.declared.fault.FileFault.TheVariants.{Journal}

module _ (entries : List Entry) (body rest : List ℕ) (are : AllByRecursion IsEntry entries)
    (fit : AllByRecursion (λ e. length e.octets ≤ ENTRY_MAX) entries) (parts : body ≡ text_of entries ++ rest) where
  -- a fault comes where an entry or the seal has to be
  pub fault_unreadable : (fault : ArchiveFault) → IsFaultBefore ENTRY_MAX rest fault → HasMore rest
      → ¬ (IsReadable body)
  fault_unreadable fault bad more readable =
      let next = begins_some entries rest more (rest_of entries rest body parts are fit readable) in
      fault_excludes ENTRY_MAX [] rest _ (fault_later ENTRY_MAX [] rest fault bad) next.0 next.1 next.2 (tt, tt)

  -- something else than the seal comes
  pub seal_unreadable : ¬ (HasMore rest) → ¬ (Seals (text_of entries) rest) → ¬ (IsReadable body)
  seal_unreadable over other readable =
      other (rest_seals entries rest over (rest_of entries rest body parts are fit readable))

-- ---- what is behind the entries of a batch

module _ (body rest text front behind : List ℕ) (n : ℕ) (n_is : n ≡ length body - length rest)
    (front_is : front ≡ take n body) (behind_is : behind ≡ drop n body) (parts : body ≡ text ++ rest) where
  size : length text ≡ n
  size = omega (arith, n_is, ap length parts, length-append text rest)

  first : front ≡ text
  first = front_is ∙ ap (take n) parts ∙ take_at text rest n size

  last : behind ≡ rest
  last = behind_is ∙ ap (drop n) parts ∙ drop_at text rest n size

  pub seal_is : Seals front behind → Seals text rest
  seal_is seals = subst (λ (t : List ℕ). Seals t rest) first (subst (Seals front) last seals)

  pub other_seal : (offset at : ℕ) → ¬ (Seals front behind) → at ≡ position (offset + length front)
      → IsOtherSeal text rest offset (Journal (Checksum at))
  other_seal offset at other place = record {
    other = λ seals. other (subst (λ (t : List ℕ). Seals t behind) (sym first) (subst (Seals text) (sym last) seals));
    told_is = ap (λ (k : ℕ). Journal (Checksum k)) (place ∙ ap (λ (t : List ℕ). position (offset + length t)) first);
  }

-- a batch was read up to here
pub record IsReadUpTo (body rest : List ℕ) : Type 0 where
  pub entries : List Entry
  pub parts : body ≡ text_of entries ++ rest
  pub before : AreEntries entries (text_of entries)

position_within : (rest : List ℕ) (fault : ArchiveFault) → IsFaultBefore ENTRY_MAX rest fault
    → position_of fault ≤ length rest
position_within rest (BadFrame at) (inl (none, offset)) = offset.within
position_within rest (BadFrame at) (inr (count, behind, follows, fits, short, cut)) = omega (arith, cut)
position_within rest (EntryTooLong at) (is, long) = omega (arith, is)
position_within rest (BadEntry at fault) (is, bad) = omega (arith, is)
position_within rest (NotCanonical at) (is, bad) = omega (arith, is)
position_within rest (NotAscending at) none = absurd none

pub batch_fault : (body rest : List ℕ) (offset octets : ℕ) (fault told : ArchiveFault) → IsReadUpTo body rest
    → IsFaultBefore ENTRY_MAX rest fault → octets ≡ min (offset + (length body - length rest)) (2 ^ 64 - 1)
    → (octets + position_of fault < 2 ^ 64 → told ≡ later octets fault) → offset + length body < 2 ^ 64
    → IsBatchFault body offset told
batch_fault body rest offset octets fault told r bad sum fits small =
    let whole : length body ≡ length (text_of r.entries) + length rest =
    ap length r.parts ∙ length-append (text_of r.entries) rest
    in
    let within = position_within rest fault bad in
    let is : octets ≡ offset + length (text_of r.entries) = omega arith in
    record {
      entries = r.entries;
      rest = rest;
      parts = r.parts;
      before = r.before;
      fault = fault;
      is = bad;
      place = fits (omega arith) ∙ ap (λ (n : ℕ). later n fault) is;
    }

-- ---- a journal

-- a journal was read up to here
pub record IsCheckedUpTo (file rest : List ℕ) : Type 0 where
  pub bodies : List (List ℕ)
  pub readable : AllByRecursion IsReadable bodies
  pub parts : file ≡ batches_text bodies ++ rest

pub journal_fault : (file rest body behind : List ℕ) (offset : ℕ) (told : JournalDamage) → IsCheckedUpTo file rest
    → IsBody body → rest ≡ open_batch body ++ behind
    → offset ≡ length file - length behind - length body → length file < 2 ^ 64
    → (offset + length body < 2 ^ 64 → IsBatchDamage body offset told) → IsJournalFault file told
journal_fault file rest body behind offset told c sized is place small fault =
    let number = to_le_bytes w32 (length body) in
    let size : length file ≡ length (batches_text c.bodies) + (suc (length number + length body) + length behind) =
    ap length c.parts ∙ length-append (batches_text c.bodies) rest
    ∙ ap (λ (n : ℕ). length (batches_text c.bodies) + n)
    (ap length is ∙ length-append (open_batch body) behind
    ∙ ap (λ (n : ℕ). n + length behind) (ap suc (length-append number body)))
    in
    record {
      bodies = c.bodies;
      readable = c.readable;
      body = body;
      behind = behind;
      fits = sized;
      parts = c.parts ∙ ap (λ (t : List ℕ). batches_text c.bodies ++ t) is
          ∙ sym (append_assoc (batches_text c.bodies) (open_batch body) behind);
      offset = offset;
      begins = omega arith;
      fault = fault (omega arith);
    }

-- the first batch of a whole journal, and what is behind it
pub whole_parts : (rest body behind : List ℕ) → IsBody body → rest ≡ open_batch body ++ behind → IsWholeJournal rest
    → IsReadable body × IsWholeJournal behind
whole_parts rest body behind sized is w = of w.bodies w.batches w.readable w.stay_sealed w.nothing_hidden
  where
    of : (bodies : List (List ℕ)) (h : HasBatches rest bodies) → AllByRecursion IsReadable bodies
        → StaySealed bodies → ¬ (HidesBatches h.tail) → IsReadable body × IsWholeJournal behind
    of [] h all stay none = absurd (h.closed body behind sized (sym h.text ∙ is))
    of (b ∷ bodies) h all stay none =
        let same = same_batch body b behind (batches_text bodies ++ h.tail) sized h.sized.0
        (sym is ∙ h.text ∙ append_assoc (open_batch b) (batches_text bodies) h.tail) in (
          subst IsReadable (sym same.0) all.0,
          record {
            bodies = bodies;
            batches = record { tail = h.tail; text = same.1; closed = h.closed; sized = h.sized.1 };
            readable = all.1;
            stay_sealed = stay.1;
            nothing_hidden = none;
          },
        )
