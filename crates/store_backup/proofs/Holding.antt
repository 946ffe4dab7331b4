-- What a copy holds, and what a crash leaves of it.
use Rattle.std.proofs.Common.{◌≡◌, ◌≢◌, ◌⊎◌, inl, inr, ⊎_elim, ℕ, List, [], ◌∷◌, refl, sym, ap, subst, arith, length}
use Rattle.std.specs.Prelude.{Contains, IsSome, IsSomeAnd, Option, None, Some}
use Rattle.disk.specs.Memory.{no_entry, shown_now}
use Rattle.disk.specs.States.{Entry as DiskEntry, Files, NameMayLeave, State}
use Rattle.journal.specs.Batches.{HasBatches}
use Rattle.journal.proofs.Batches.{closed_octet}
use Rattle.archive_text.specs.Entries.{Entry}
use Rattle.archive_text.proofs.Members.{of_member}
use Rattle.record_store.specs.Holdings.{HeldAt, IsOfPeriod}
use Rattle.record_store.specs.Names.{Counts, IsJournal}
use Rattle.record_store.proofs.Batches.{held_in_journal, journal_holds}
use Rattle.record_store.proofs.Folders.{held_counts}
use Rattle.record_store.proofs.Leavings.{only_is, settled_is}
use Rattle.store_reading.specs.Days.{IsPeriodText}
use Rattle.store_reading.proofs.DayOrders.{day_text}
use Rattle.store_upkeep.specs.Causes.{IsCounted}
use Rattle.store_upkeep.specs.Compaction.{shown}
use Rattle.store_upkeep.specs.Damages.{names_of}
use Rattle.store_upkeep.specs.declared.damage.DamagedFile.{DamagedFile}
use Rattle.store_backup.specs.Backups.{HasNoEntries, HoldsAll, HoldsNoOther, IsBackup, IsDone}
use Rattle.store_backup.specs.Copies.{HasCopies, IsCopy, IsJournalCopy, IsNoneOrSettledCopy, IsSegmentCopy, IsVacantOrCopy}
use Rattle.store_backup.specs.Copies.{LeavesCopies, backup_draft, put_entry}
use Rattle.store_backup.specs.declared.outcome.Backup.{Backup}
use Rattle.store_backup.proofs.Noting.{counted_apart}

-- ---- a copy holds what its file holds

copy_batches : (file copy : List ℕ) (c : IsJournalCopy file copy) → HasBatches copy c.bodies
copy_batches file copy c = record {
  tail = 254 ∷ [];
  text = c.copy_is;
  closed = closed_octet 254 [] (λ is. omega (arith, is));
  sized = c.batches.sized;
}

held_copy : (name : List ℕ) (file : Option (List ℕ)) (copy : List ℕ) (e : Entry)
    → IsSomeAnd file (λ f. (IsJournal name × IsJournalCopy f copy) ⊎ IsSegmentCopy name f copy)
    → HeldAt name file e → HeldAt name (Some copy) e
held_copy name None copy e is held = absurd is
held_copy name (Some file) copy e (inl (journal, c)) held =
    held_in_journal name copy c.bodies e journal (copy_batches file copy c)
    (journal_holds name file c.bodies e journal c.batches held)
held_copy name (Some file) copy e (inr c) held =
    subst (λ (t : List ℕ). HeldAt name (Some t) e) (sym c.copy_is) held

held_file : (name : List ℕ) (file : Option (List ℕ)) (copy : List ℕ) (e : Entry)
    → IsSomeAnd file (λ f. (IsJournal name × IsJournalCopy f copy) ⊎ IsSegmentCopy name f copy)
    → HeldAt name (Some copy) e → HeldAt name file e
held_file name None copy e is held = absurd is
held_file name (Some file) copy e (inl (journal, c)) held =
    held_in_journal name file c.bodies e journal c.batches
    (journal_holds name copy c.bodies e journal (copy_batches file copy c) held)
held_file name (Some file) copy e (inr c) held =
    subst (λ (t : List ℕ). HeldAt name (Some t) e) c.copy_is held

-- a file that has an entry is a journal or a segment of a period
held_counted : (name : List ℕ) (file : Option (List ℕ)) (e : Entry) → HeldAt name file e → IsCounted name × IsSome file
held_counted name None e held = absurd held
held_counted name (Some file) e (inl (journal, has)) = (inl journal, refl)
held_counted name (Some file) e (inr (day, segment, has)) = (inr (day, text, segment), refl)
  where
    text : IsPeriodText day
    text =
        elim (of_member (IsOfPeriod day) has.entries e has.days has.has) [
          | inl of ↦ inl (day_text day e of)
          | inr mixed ↦ inr mixed
        ]

abbrev nothing : Option (List ℕ)
nothing = None

module _ (files : Files) (state : State) (backup : Backup) (is : IsBackup files state backup)
    (draft_apart : ¬ (Counts backup_draft)) where
  not_draft : (name : List ℕ) (file : Option (List ℕ)) (e : Entry) → HeldAt name file e → name ≢ backup_draft
  not_draft name file e held = counted_apart backup_draft name draft_apart (held_counts name file e held)

  pub holds_no_other : HoldsNoOther files state
  holds_no_other e held =
      record { name = held.name; at = go (is.only held.name (not_draft held.name (shown state held.name) e held.at)) }
    where
      go : IsNoneOrSettledCopy files held.name (state.entries held.name) → HeldAt held.name (files held.name) e
      go (inl none) =
          absurd (subst (λ (x : DiskEntry). HeldAt held.name (shown_now x) e) none held.at)
      go (inr (copy, of, entry)) =
          held_file held.name (files held.name) copy e of
          (subst (λ (x : DiskEntry). HeldAt held.name (shown_now x) e) entry held.at)

  pub holds_all : backup.damaged.items ≡ [] → HoldsAll files state
  holds_all none e held =
      record {
        name = held.name;
        at = go (is.only held.name (not_draft held.name (files held.name) e held.at))
            (is.all held.name counted.0 counted.1);
      }
    where
      counted : IsCounted held.name × IsSome (files held.name)
      counted = held_counted held.name (files held.name) e held.at

      listed : Contains (names_of backup.damaged.items) held.name → ⊥
      listed (k, below, same) =
          omega (arith, below, ap (λ (ds : List DamagedFile). length (names_of ds)) none)

      go : IsNoneOrSettledCopy files held.name (state.entries held.name)
          → IsDone state backup.damaged.items held.name → HeldAt held.name (shown state held.name) e
      go (inr (copy, of, entry)) done =
          subst (λ (x : DiskEntry). HeldAt held.name (shown_now x) e) (sym entry)
          (held_copy held.name (files held.name) copy e of held.at)
      go (inl vacant) (inl some) =
          let bad : IsSome nothing = subst (λ (x : DiskEntry). IsSome (shown_now x)) vacant some in absurd (cc bad)
      go (inl vacant) (inr damaged) = absurd (listed damaged)

-- ---- what a crash leaves

no_entry_is : (octets : Option (List ℕ)) → NameMayLeave no_entry octets → octets ≡ None
no_entry_is octets (inl now) = now
no_entry_is octets (inr (inl past)) = absurd past
no_entry_is octets (inr (inr moved)) = absurd (cc moved)

put_is : (copy : List ℕ) (octets : Option (List ℕ)) → NameMayLeave (put_entry copy) octets
    → (octets ≡ None) ⊎ (octets ≡ Some copy)
put_is copy octets (inl now) = inr (settled_is copy octets now)
put_is copy octets (inr (inl (inl none))) = inl none
put_is copy octets (inr (inl (inr past))) = absurd past
put_is copy octets (inr (inr moved)) = absurd (cc moved)

is_copy : (files : Files) (name copy : List ℕ) (octets : Option (List ℕ)) → IsCopy files name copy
    → octets ≡ Some copy → IsSomeAnd octets (IsCopy files name)
is_copy files name copy octets is same =
    subst (λ (o : Option (List ℕ)). IsSomeAnd o (IsCopy files name)) (sym same) is

leaves_one : (files : Files) (name : List ℕ) (entry : DiskEntry) → IsVacantOrCopy files name entry
    → (octets : Option (List ℕ)) → NameMayLeave entry octets
    → (octets ≡ None) ⊎ IsSomeAnd octets (IsCopy files name)
leaves_one files name entry (inl none) octets may =
    inl (no_entry_is octets (subst (λ (e : DiskEntry). NameMayLeave e octets) none may))
leaves_one files name entry (inr (copy, is, put)) octets may =
    ⊎_elim inl (λ same. inr (is_copy files name copy octets is same))
    (put_is copy octets (subst (λ (e : DiskEntry). NameMayLeave e octets) put may))

pub copies_leave : (files : Files) (state : State) → HasCopies files state backup_draft → LeavesCopies files state
copies_leave files state copies name apart octets may =
    leaves_one files name (state.entries name) (copies name apart) octets may

pub none_leave : (files : Files) (state : State) → HasNoEntries state → LeavesCopies files state
none_leave files state none name apart octets may =
    inl (no_entry_is octets (subst (λ (e : DiskEntry). NameMayLeave e octets) (none name) may))

pub settled_leave : (files : Files) (state : State)
    → ((name : List ℕ) → name ≢ backup_draft → IsNoneOrSettledCopy files name (state.entries name))
    → LeavesCopies files state
settled_leave files state only name apart octets may = go (only name apart)
  where
    go : IsNoneOrSettledCopy files name (state.entries name) → (octets ≡ None) ⊎ IsSomeAnd octets (IsCopy files name)
    go (inl none) = inl (no_entry_is octets (subst (λ (e : DiskEntry). NameMayLeave e octets) none may))
    go (inr (copy, is, entry)) =
        inr (is_copy files name copy octets is
        (only_is copy octets (subst (λ (e : DiskEntry). NameMayLeave e octets) entry may)))
