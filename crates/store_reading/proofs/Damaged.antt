-- Files that are damaged.
use Rattle.std.proofs.Common.{◌≡◌, ℕ, ◌+◌, ◌-◌, ◌<◌, ◌≤◌, ◌^◌, List, [], ◌∷◌, ◌++◌, Some, inl, inr}
use Rattle.std.proofs.Common.{length, min, refl, sym, ap, subst, ◌∙◌, append_assoc, append-nil, length-append, arith}
use Rattle.std.specs.Int.{to_le_bytes, w32}
use Rattle.std.specs.Prelude.{Err, IfErr, Ok, Result}
use Rattle.std.specs.List.{AllByRecursion}
use Rattle.std.proofs.lemmas.List.{take_all}
use Rattle.octet_language.specs.Language.{AnyOf, Begins}
use Rattle.syslog_frame.specs.Frames.{framed}
use Rattle.syslog_frame.specs.MsgLen.{MsgLen}
use Rattle.syslog_frame.specs.declared.framing.Framing.TheVariants.{Counted}
use Rattle.octet_devices.specs.Device.{InputState}
use Rattle.journal.specs.Batches.{IsBody, batches_text, open_batch}
use Rattle.archive_text.specs.Entries.{Entry, IsEntry}
use Rattle.archive_text.specs.Faults.{BeginsWithOctets, IsArchiveFault, IsFaultBehind}
use Rattle.archive_text.specs.Positions.{position_of}
use Rattle.archive_text.specs.Text.{BeginsWithEntry, entry_text, text_of}
use Rattle.archive_text.specs.declared.fault.ArchiveFault.{ArchiveFault}
use Rattle.archive_text.specs.declared.fault.ArchiveFault.TheVariants.{BadFrame, EntryTooLong, BadEntry}
use Rattle.archive_text.specs.declared.fault.ArchiveFault.TheVariants.{NotCanonical, NotAscending}
use Rattle.archive_text.specs.declared.limits.TheConstants.{ENTRY_MAX}
use Rattle.archive_text.proofs.Members.{all_append, all_left, all_right}
use Rattle.archive_text.proofs.Prefixes.{archive_fault, archive_has_no_fault}
use Rattle.archive_text.proofs.Texts.{entry_carries, no_text, one_begins, text_push}
use Rattle.archive_streams.specs.Entries.{current, Halts, Reads, ReadsOne}
use Rattle.archive_streams.specs.declared.entries.ArchiveEntries.{ArchiveEntries}
use Rattle.archive_streams.specs.declared.fault.SideFault.{SideFault}
use Rattle.archive_streams.specs.declared.fault.SideFault.TheVariants.{Archive as side_Archive, Input as side_Input}
use Rattle.archive_streams.proofs.Counting.{bad_count}
use Rattle.archive_streams.proofs.EntrySteps.{begun}
use Rattle.record_store.specs.Holdings.{IsOfPeriod, IsReadable, IsSealedBatch, IsWholeJournal, SomeIsSealed}
use Rattle.record_store.specs.Seals.{HasMore}
use Rattle.record_store.proofs.Unsealed.{sealed_next}
use Rattle.record_store.specs.declared.journal_damage.JournalDamage.TheVariants.{Archive as No_entry, Checksum, Hidden}
use Rattle.record_store.specs.Segments.{IsArchiveOfDay}
use Rattle.store_reading.specs.Damages.{IsBatchFileDamage, IsDamagedBatch, IsDamagedJournal, IsHiddenAt, IsOtherSeal}
use Rattle.store_reading.specs.Damages.{IsDamagedArchive, IsFirstFault, IsJournalDamage, IsOtherDayAt, OfLeft, Tells}
use Rattle.store_reading.specs.Damages.{position}
use Rattle.store_reading.specs.Faults.{check_fault_of}
use Rattle.store_reading.specs.Segments.{IsWholeOf, ReadsOf}
use Rattle.store_reading.specs.declared.fault.CheckFault.{CheckFault}
use Rattle.store_reading.specs.declared.fault.CheckFault.TheVariants.{Damaged, Input, Memory}
use Rattle.store_reading.specs.declared.fault.FileFault.{FileFault}
use Rattle.store_reading.specs.declared.fault.FileFault.TheVariants.{Archive, Digest, Journal, OtherDay}
use Rattle.store_reading.proofs.Batched.{BatchAdded, JournalAdded}
use Rattle.store_reading.proofs.Joined.{rest_of, whole_rest}
use Rattle.store_reading.proofs.Tails.{hidden_not_whole}
use Rattle.store_reading.proofs.Readable.{IsCheckedUpTo, IsReadUpTo, batch_fault, fault_unreadable, journal_fault}
use Rattle.store_reading.proofs.Readable.{seal_unreadable, whole_parts}

-- ---- what was read of a segment

-- its octets are the archive of its entries
pub file_is : (day : List ℕ) (d e : InputState) (file : List ℕ) (w : IsWholeOf day d e) → d.left ≡ Some file
    → file ≡ text_of w.entries
file_is day d e file w left =
    let r = rest_of d.left e.left (text_of w.entries) file w.whole.consumed left in
    let none = whole_rest e.left r.0 r.1 w.whole.none_left in
    r.2 ∙ ap (λ (t : List ℕ). text_of w.entries ++ t) none ∙ append-nil (text_of w.entries)

-- ---- an entry of another day

module _ (day : List ℕ) (d e : InputState) (file : List ℕ) (left : d.left ≡ Some file) where
  pub other_day : (s : ArchiveEntries) (es : List Entry) → Reads s d e (es ++ current s ∷ [])
      → ¬ (IsOfPeriod day (current s)) → ¬ (IsArchiveOfDay day file)
  other_day s es reads differs (fs, is) =
      let b = begun s d e (es ++ current s ∷ []) reads in
      let r = rest_of d.left e.left b.given file b.consumed left in
      let both : text_of (es ++ current s ∷ []) ++ (b.rest ++ r.0) ≡ text_of fs ++ [] =
      sym (append_assoc (text_of (es ++ current s ∷ [])) b.rest r.0)
      ∙ ap (λ (t : List ℕ). t ++ r.0) (sym b.parts) ∙ sym r.2 ∙ is.text_is ∙ sym (append-nil (text_of fs)) in
      elim (one_begins ENTRY_MAX ENTRY_MAX (es ++ current s ∷ []) fs (b.rest ++ r.0) [] (omega arith) (omega arith)
      b.archive is.archive both) [
        | inl (gs, same, more) ↦
            let all = subst (AllByRecursion (IsOfPeriod day)) same is.days in
            let last = all_right (IsOfPeriod day) es (current s ∷ [])
            (all_left (IsOfPeriod day) (es ++ current s ∷ []) gs all) in
            differs last.0
        | inr (gs, same, more) ↦
            let none : gs ≡ [] = no_text gs (b.rest ++ r.0) more in
            let all = subst (λ (l : List Entry). AllByRecursion (IsOfPeriod day) l)
            (sym (same ∙ ap (λ (l : List Entry). fs ++ l) none ∙ append-nil fs)) is.days in
            let last = all_right (IsOfPeriod day) es (current s ∷ []) all in
            differs last.0
      ]

  pub other_day_at : (s : ArchiveEntries) (es : List Entry) (at : ℕ)
      → Reads s d e (es ++ current s ∷ []) → AllByRecursion (IsOfPeriod day) es → at ≡ position (length (text_of es))
      → ¬ (IsOfPeriod day (current s)) → IsOtherDayAt day file at
  other_day_at s es at reads days place differs =
      let b = begun s d e (es ++ current s ∷ []) reads in
      let r = rest_of d.left e.left b.given file b.consumed left in
      record {
        before = es;
        entry = current s;
        behind = b.rest ++ r.0;
        parts = r.2 ∙ ap (λ (t : List ℕ). t ++ r.0) b.parts
            ∙ append_assoc (text_of (es ++ current s ∷ [])) b.rest r.0;
        days = days;
        other = differs;
        place = place;
      }

-- ---- a text that is no archive

begins_longer : (most : ℕ) (rest more b : List ℕ) → BeginsWithOctets most rest b
    → BeginsWithOctets most (rest ++ more) b
begins_longer most rest more b (carries, fits, (behind, e)) =
    (carries, fits, (behind ++ more, ap (λ (s : List ℕ). s ++ more) e ∙ append_assoc (framed Counted b) behind more))

-- a fault before the end of the octets
behind_longer : (es : List Entry) (rest more : List ℕ) (fault : ArchiveFault)
    → (position_of fault ≡ length (text_of es) + length rest → ⊥) → IsFaultBehind ENTRY_MAX es rest fault
    → IsFaultBehind ENTRY_MAX es (rest ++ more) fault
behind_longer es rest more (BadFrame at) inside (n, inl (none, offset), is) =
    (n, bad_count ENTRY_MAX rest more n (none, dead, offset), is)
  where
    dead : Begins (AnyOf MsgLen) rest → ⊥
    dead begins =
        let far : length rest ≤ n =
        offset.longest (length rest) (omega arith)
        (subst (Begins (AnyOf MsgLen)) (sym (take_all (length rest) rest (omega arith))) begins)
        in
        inside (omega (arith, is, far, offset.within))
behind_longer es rest more (BadFrame at) inside (n, inr (count, behind, follows, fits, short, cut), is) =
    absurd (inside (omega (arith, is, cut)))
behind_longer es rest more (EntryTooLong at) inside (is, (count, behind, (text, e, counted), high)) = (
  is,
  (
    count,
    behind ++ more,
    (text, ap (λ (s : List ℕ). s ++ more) e ∙ append_assoc text behind more, counted),
    high,
  ),
)
behind_longer es rest more (BadEntry at fault) inside (is, (start, (b, begins, bad))) =
    (is, (start, (b, begins_longer ENTRY_MAX rest more b begins, bad)))
behind_longer es rest more (NotCanonical at) inside (is, (start, (b, begins, bad))) =
    (is, (start, (b, begins_longer ENTRY_MAX rest more b begins, bad)))
behind_longer es rest more (NotAscending at) inside (is, (e, entry, begins, none)) =
    (is, (e, entry, begins_longer ENTRY_MAX rest more e.octets begins, none))

longer : (x more : List ℕ) (fault : ArchiveFault) → IsArchiveFault ENTRY_MAX x fault
    → (position_of fault ≡ length x → ⊥) → IsArchiveFault ENTRY_MAX (x ++ more) fault
longer x more fault (es, rest, longest, some, behind) inside =
    let place : length x ≡ length (text_of es) + length rest =
    ap length longest.parts ∙ length-append (text_of es) rest
    in
    let later = behind_longer es rest more fault (λ at. inside (at ∙ sym place)) behind in
    let parts : x ++ more ≡ text_of es ++ (rest ++ more) =
    ap (λ (s : List ℕ). s ++ more) longest.parts ∙ append_assoc (text_of es) rest more
    in
    archive_fault ENTRY_MAX (x ++ more) es (rest ++ more) fault (omega arith) longest.archive parts
    (omega (arith, some, length-append rest more)) later

-- where the octets end at their fault, the text ends there
pub goes_on : (x more : List ℕ) (fault : ArchiveFault) → IsArchiveFault ENTRY_MAX x fault
    → (position_of fault ≡ length x → more ≡ []) → IsArchiveFault ENTRY_MAX (x ++ more) fault
goes_on x [] fault is end = subst (λ (s : List ℕ). IsArchiveFault ENTRY_MAX s fault) (sym (append-nil x)) is
goes_on x (m ∷ more) fault is end = longer x (m ∷ more) fault is (λ at. more_than_none (end at))
  where
    more_than_none : m ∷ more ≡ [] → ⊥
    more_than_none e = absurd (omega (arith, ap length e))

pub no_archive : (day : List ℕ) (fault : ArchiveFault) (file : List ℕ) → IsArchiveFault ENTRY_MAX file fault
    → ¬ (IsArchiveOfDay day file)
no_archive day fault file bad (es, is) =
    archive_has_no_fault ENTRY_MAX es fault is.archive
    (subst (λ (t : List ℕ). IsArchiveFault ENTRY_MAX t fault) is.text_is bad)

-- the fault by which a reading stopped is that of the file
pub stopped_told : (day : List ℕ) (fault : SideFault) (s t : ArchiveEntries) (d e f : InputState) → ReadsOf day s d e
    → Halts fault s t e f → OfLeft d (λ file. Tells (check_fault_of fault) (IsDamagedArchive day file))
stopped_told day (side_Input fault) s t d e f r halts file left = tt
stopped_told day (side_Archive fault) s t d e f r halts file left =
    let c = halts.cut_short d r.entries r.reads in
    let l = rest_of d.left f.left c.given file c.consumed left in
    let bad : IsArchiveFault ENTRY_MAX file fault = subst (λ (x : List ℕ). IsArchiveFault ENTRY_MAX x fault) (sym l.2)
    (goes_on c.given l.0 fault c.cause.0 (λ at. whole_rest f.left l.0 l.1 (c.cause.1 at).1)) in
    record { not_archive = no_archive day fault file bad; told = bad }

-- ---- a batch

module _ (old new : List Entry) (body rest : List ℕ) (offset : ℕ) (b : BatchAdded old new body rest) where
  pub batch_damaged : (at : ℕ) (fault : CheckFault) → HasMore rest
      → at ≡ position (offset + (length body - length rest)) → Tells fault (IsFirstFault rest at)
      → Tells fault (IsDamagedBatch body offset)
  batch_damaged at (Damaged fault) more sum told = record {
    not_readable = fault_unreadable b.entries body rest b.are b.fit b.parts told.fault told.is more;
    told = λ small. subst (IsBatchFileDamage body offset) (sym told.told_is)
        (batch_fault body rest offset at told.fault told.later_fault up_to told.is sum told.place small);
  }
    where
      up_to : IsReadUpTo body rest
      up_to = record {
        entries = b.entries;
        parts = b.parts;
        before = record { entries = b.are; fits = b.fit; text_is = refl };
      }
  batch_damaged at (Input fault) more sum told = tt
  batch_damaged at Memory more sum told = tt

  seal_damaged : (fault : CheckFault) → ¬ (HasMore rest)
      → ((text : List ℕ) → body ≡ text ++ rest → Tells fault (IsOtherSeal text rest offset))
      → Tells fault (IsDamagedBatch body offset)
  seal_damaged (Damaged fault) over told =
      let other = told (text_of b.entries) b.parts in
      let size : length body ≡ length (text_of b.entries) + length rest =
      ap length b.parts ∙ length-append (text_of b.entries) rest in
      record {
        not_readable = seal_unreadable b.entries body rest b.are b.fit b.parts over other.other;
        told = λ small. subst (IsBatchFileDamage body offset) (sym other.told_is) (record {
          entries = b.entries;
          rest = rest;
          parts = b.parts;
          before = record { entries = b.are; fits = b.fit; text_is = refl };
          over = over;
          other = other.other;
          place = omega arith;
        });
      }
  seal_damaged (Input fault) over told = tt
  seal_damaged Memory over told = tt

  pub seal_result : {T : Type 0} (r : Result T CheckFault) → ¬ (HasMore rest)
      → IfErr r (λ fault. (text : List ℕ) → body ≡ text ++ rest → Tells fault (IsOtherSeal text rest offset))
      → IfErr r (λ fault. Tells fault (IsDamagedBatch body offset))
  seal_result (Ok x) over told = tt
  seal_result (Err fault) over told = seal_damaged fault over told

-- ---- a journal

-- what is behind the first batches of a whole journal
whole_behind : (bodies : List (List ℕ)) (rest : List ℕ) → AllByRecursion IsBody bodies
    → IsWholeJournal (batches_text bodies ++ rest) → IsWholeJournal rest
whole_behind [] rest sized w = w
whole_behind (body ∷ bodies) rest sized w =
    whole_behind bodies rest sized.1
    (whole_parts (batches_text (body ∷ bodies) ++ rest) body (batches_text bodies ++ rest) sized.0
    (append_assoc (open_batch body) (batches_text bodies) rest) w).1

-- the batch begins within the file
batch_fits : (old new : List Entry) (file rest body behind : List ℕ) (offset : ℕ) → JournalAdded old new file rest
    → rest ≡ open_batch body ++ behind → offset ≡ length file - length behind - length body
    → length file < 2 ^ 64 → offset + length body < 2 ^ 64
batch_fits old new file rest body behind offset j is place small =
    let size : length file ≡ length (batches_text j.bodies) + (length (open_batch body) + length behind) =
    ap length j.parts ∙ length-append (batches_text j.bodies) rest
    ∙ ap (λ (n : ℕ). length (batches_text j.bodies) + n) (ap length is ∙ length-append (open_batch body) behind) in
    let more : length (open_batch body) ≡ 1 + (length (to_le_bytes w32 (length body)) + length body) =
    omega (arith, length-append (to_le_bytes w32 (length body)) body) in
    omega arith

pub journal_damaged : (old new : List Entry) (file rest body behind : List ℕ) (offset : ℕ) (fault : CheckFault)
    → JournalAdded old new file rest → IsBody body × (rest ≡ open_batch body ++ behind)
    → offset ≡ length file - length behind - length body → length file < 2 ^ 64
    → Tells fault (IsDamagedBatch body offset) → Tells fault (IsDamagedJournal file)
journal_damaged old new file rest body behind offset (Damaged fault) j (sized, is) place small told = record {
  not_whole = λ w. told.not_readable
      (whole_parts rest body behind sized is (whole_behind j.bodies rest j.sized (subst IsWholeJournal j.parts w))).0;
  told = damage fault told.told;
}
  where
    up_to : IsCheckedUpTo file rest
    up_to = record { bodies = j.bodies; readable = j.readable; parts = j.parts }

    small_body : offset + length body < 2 ^ 64
    small_body = batch_fits old new file rest body behind offset j is place small

    damage : (f : FileFault) → (offset + length body < 2 ^ 64 → IsBatchFileDamage body offset f) → IsJournalDamage file f
    damage (Journal (No_entry f)) of =
        journal_fault file rest body behind offset (No_entry f) up_to sized is place small of
    damage (Journal (Checksum at)) of =
        inl (journal_fault file rest body behind offset (Checksum at) up_to sized is place small of)
    damage (Journal (Hidden at)) of = absurd (of small_body)
    damage (Archive f) of = absurd (of small_body)
    damage (OtherDay at) of = absurd (of small_body)
    damage Digest of = absurd (of small_body)
journal_damaged old new file rest body behind offset (Input fault) j first place small told = tt
journal_damaged old new file rest body behind offset Memory j first place small told = tt

-- a batch without its seal is behind one that has it
pub unsealed_damaged : (old new : List Entry) (file rest body behind : List ℕ) (at : ℕ) (j : JournalAdded old new file rest)
    → IsBody body × (rest ≡ open_batch body ++ behind) → SomeIsSealed j.bodies → IsReadable body
    → ¬ (IsSealedBatch body) → at ≡ length file - length behind → IsDamagedJournal file (Journal (Checksum at))
unsealed_damaged old new file rest body behind at j (sized, is) some plain unsealed place =
    let parts = j.parts ∙ ap (λ (t : List ℕ). batches_text j.bodies ++ t) is
    ∙ sym (append_assoc (batches_text j.bodies) (open_batch body) behind) in
    record {
      not_whole = λ w.
          unsealed (sealed_next file j.bodies w.bodies body behind j.sized sized parts w.batches w.stay_sealed some);
      told = inr (record {
        bodies = j.bodies;
        readable = j.readable;
        body = body;
        behind = behind;
        fits = sized;
        parts = parts;
        before = some;
        plain = plain;
        unsealed = unsealed;
        place = omega (
          arith,
          place,
          ap length parts,
          length-append (batches_text j.bodies ++ open_batch body) behind,
        );
      });
    }

-- batches are hidden
pub hidden_damaged : (file : List ℕ) (at : ℕ) → IsHiddenAt file at
    → IsDamagedJournal file (Journal (Hidden at))
hidden_damaged file at h = record { not_whole = hidden_not_whole file at h; told = h }
