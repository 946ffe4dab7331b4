-- What comes of an old archive, and that it is one text at most.
use Rattle.std.proofs.Common.{◌≡◌, ◌⊎◌, inl, inr, ℕ, ◌≤◌, List, [], Option, None, Some, IfSome, codes, length, take, refl}
use Rattle.std.proofs.Common.{sym, ap, subst, ◌∙◌, arith}
use Rattle.std.specs.Io.KnownBytes.{Appends}
use Rattle.std.proofs.KnownBytes.{Appends-nil}
use Rattle.std.proofs.lemmas.List.{take_all}
use Rattle.syslog_frame.specs.declared.limits.TheConstants.{COUNT_MAX}
use Rattle.archive_text.specs.Entries.{Entry, Has}
use Rattle.archive_text.specs.Text.{IsArchive, text_of}
use Rattle.archive_text.specs.declared.fault.ArchiveFault.{ArchiveFault}
use Rattle.archive_text.specs.declared.limits.TheConstants.{ENTRY_MAX}
use Rattle.archive_text.proofs.Ascending.{same_members}
use Rattle.archive_migration.specs.Migration.{IsMigratedOf, Migrates}
use Rattle.archive_migration.specs.OldFaults.{IsOldArchiveFault}
use Rattle.archive_migration.proofs.OldPrefixes.{old_archive_has_no_fault}
use Rattle.archive_migration.proofs.OldTexts.{same_old_text}
use Rattle.frame_engine.specs.Converted.{goes_out}
use Rattle.octet_devices.specs.Device.{InputState, OutputState}
use Rattle.octet_devices.specs.Transfers.{IsReadCause, ReadsFew, WroteAll, WrotePart}
use Rattle.octet_devices.specs.declared.loops.ReadAllFault.{ReadAllFault}
use Rattle.octet_devices.specs.declared.loops.ReadAllFault.TheVariants as read
use Rattle.driver.specs.Devices.{IsLeft, Reports, devices}
use Rattle.driver.specs.declared.status.TheConstants.{DONE, FAULT, NO_MEMORY, REFUSED}
use Rattle.driver.specs.declared.stopped.Stopped.{Stopped}
use Rattle.driver.specs.declared.stopped.Stopped.TheVariants.{Diagnostics, Endless, Memory, Read, Write}
use Rattle.archive_engine.specs.Answered.{WritesPrefixOf}
use Rattle.archive_reports.specs.FaultLines.{fault_line}
use Rattle.archive_engine.specs.Migrated.{MigrateDone, MigrateEndsAs, RanMigrate, noted_fault}
use Rattle.archive_engine.proofs.WrittenLemmas.{nothing_written}

low : ENTRY_MAX ≤ COUNT_MAX
low = omega arith

has_migrated : (text : List ℕ) (es fs : List Entry) (x : Entry) → Migrates text [] es → Migrates text [] fs → Has es x
    → Has fs x
has_migrated text es fs x (olds, archive, is, adds) (more, other, was, also) has =
    let same : olds ≡ more = same_old_text ENTRY_MAX ENTRY_MAX olds more low low archive other (sym is ∙ was) in
    elim ((adds x).0 has) [
      | inl m ↦ (also x).1 (inl (subst (λ (os : List Entry). IsMigratedOf os x) same m))
      | inr none ↦ absurd none
    ]

-- an old archive is migrated into one archive
one_migrated : (text : List ℕ) (es fs : List Entry) → IsArchive ENTRY_MAX es → IsArchive ENTRY_MAX fs
    → Migrates text [] es → Migrates text [] fs → es ≡ fs
one_migrated text es fs a b h k =
    same_members es fs a.ascending b.ascending (λ x. has_migrated text es fs x h k) (λ x. has_migrated text fs es x k h)

no_fault : (text : List ℕ) (es : List Entry) (fault : ArchiveFault) → Migrates text [] es
    → ¬ (IsOldArchiveFault ENTRY_MAX text fault)
no_fault text es fault (olds, archive, is, adds) bad =
    old_archive_has_no_fault ENTRY_MAX olds fault archive
    (subst (λ (t : List ℕ). IsOldArchiveFault ENTRY_MAX t fault) is bad)

-- what comes of a text is known, where it is migrated
migrated_output : (text octets : List ℕ) (es : List Entry) → IsArchive ENTRY_MAX es → Migrates text [] es
    → octets ≡ text_of es
    → (output : List ℕ)
    → ((fs : List Entry) → IsArchive ENTRY_MAX fs → Migrates text [] fs → output ≡ text_of fs → output ≡ octets)
migrated_output text octets es a h e output = λ fs b k f. f ∙ ap text_of (sym (one_migrated text es fs a b h k)) ∙ sym e

pub migrated_prefix : (left t0 t1 : Option (List ℕ)) (text octets : List ℕ) (n : ℕ)
    → IfSome left (λ input. text ≡ input)
    → (es : List Entry) × IsArchive ENTRY_MAX es × Migrates text [] es × (octets ≡ text_of es)
    → Appends t0 t1 (take n octets) → WritesPrefixOf MigrateDone left t0 t1
migrated_prefix None t0 t1 text octets n is done w = tt
migrated_prefix (Some input) t0 t1 text octets n is (es, a, h, e) w = λ d came. elim came [
  | inl (fs, b, k, f) ↦
      let same =
      migrated_output text octets es a h e d.output fs b (subst (λ (t : List ℕ). Migrates t [] fs) (sym is) k)
      (ap (λ x. x.output) f)
      in
      (n, subst (λ (o : List ℕ). Appends t0 t1 (take n o)) (sym same) w)
  | inr (fault, bad, f) ↦ absurd (no_fault text es fault h
      (subst (λ (t : List ℕ). IsOldArchiveFault ENTRY_MAX t fault) (sym is) bad))
]

-- all of it was written
pub migrated_whole : (left t0 t1 : Option (List ℕ)) (text octets : List ℕ) → IfSome left (λ input. text ≡ input)
    → (es : List Entry) × IsArchive ENTRY_MAX es × Migrates text [] es × (octets ≡ text_of es) → Appends t0 t1 octets
    → WritesPrefixOf MigrateDone left t0 t1
migrated_whole left t0 t1 text octets is done w =
    migrated_prefix left t0 t1 text octets (length octets) is done
    (subst (Appends t0 t1) (sym (take_all (length octets) octets (omega arith))) w)

-- ---- a run

-- this is all that an input had left
abbrev pub IsRead : Option (List ℕ) → List ℕ → Type 0
IsRead left text = IfSome left (λ input. text ≡ input)

left_of : (left : Option (List ℕ)) (text : List ℕ) → IsRead left text → IsLeft left text
left_of None text is = tt
left_of (Some input) text is = is

nothing_read : (r r_new : InputState) (w n n_new : OutputState) (ending : Option Stopped) (status : ℕ)
    → MigrateEndsAs ending (devices r w n) (devices r_new w n_new) status → ReadsFew r r_new
    → RanMigrate (devices r w n) (devices r_new w n_new) status
nothing_read r r_new w n n_new ending status ends few = record {
  ending = ending;
  outcome = ends;
  begins = nothing_written MigrateDone r.left w.taken;
  few = few;
}

-- what is told of an input that was not read to its end
abbrev pub read_line : ReadAllFault → List ℕ
read_line read.Device = codes "old read fault\n"
read_line read.Endless = codes "old endless input\n"
read_line read.Memory = codes "want of memory\n"

abbrev pub read_status : ReadAllFault → ℕ
read_status read.Device = FAULT
read_status read.Endless = FAULT
read_status read.Memory = NO_MEMORY

pub ran_unread : (fault : ReadAllFault) (r r_new : InputState) (w n n_new : OutputState) (status : ℕ)
    → IsReadCause fault r r_new → ReadsFew r r_new → Reports (read_line fault) (read_status fault) n n_new status
    → RanMigrate (devices r w n) (devices r_new w n_new) status
ran_unread read.Device r r_new w n n_new status cause few told =
    nothing_read r r_new w n n_new (Some Read) status (told, cause.cause, refl) few
ran_unread read.Endless r r_new w n n_new status cause few told =
    nothing_read r r_new w n n_new (Some Endless) status
    (told, record { calls = cause.calls; no_failure = cause.no_failure; no_end = cause.no_end }, refl) few
ran_unread read.Memory r r_new w n n_new status cause few told =
    nothing_read r r_new w n n_new (Some Memory) status (told, cause.no_failure, refl) few

-- the text is no old archive
pub ran_refused : (text : List ℕ) (fault : ArchiveFault) (r r_new : InputState) (w n n_new : OutputState) (status : ℕ)
    → IsRead r.left text → ReadsFew r r_new → r_new.failures ≡ r.failures → IsOldArchiveFault ENTRY_MAX text fault
    → Reports (fault_line (codes "old") fault) REFUSED n n_new status
    ⊎ Reports (codes "want of memory\n") NO_MEMORY n n_new status
    → RanMigrate (devices r w n) (devices r_new w n_new) status
ran_refused text fault r r_new w n n_new status is few sound bad (inl (inl (one, wrote))) =
    nothing_read r r_new w n n_new None status
    (record {
      input = text;
      done = noted_fault (codes "old") fault;
      is_input = left_of r.left text is;
      comes = inr (fault, bad, refl);
      wrote = record { to_output = record { octets = Appends-nil w.taken; no_failure = refl }; to_diagnostics = wrote };
      no_failure = sound;
      status_is = one;
    }) few
ran_refused text fault r r_new w n n_new status is few sound bad (inl (inr (two, failed))) =
    nothing_read r r_new w n n_new (Some Diagnostics) status (two, failed, sound, refl) few
ran_refused text fault r r_new w n n_new status is few sound bad (inr told) =
    nothing_read r r_new w n n_new (Some Memory) status (told, sound, refl) few

-- memory ran out for the archive
pub ran_out : (r r_new : InputState) (w n n_new : OutputState) (status : ℕ) → ReadsFew r r_new
    → r_new.failures ≡ r.failures → Reports (codes "want of memory\n") NO_MEMORY n n_new status
    → RanMigrate (devices r w n) (devices r_new w n_new) status
ran_out r r_new w n n_new status few sound told =
    nothing_read r r_new w n n_new (Some Memory) status (told, sound, refl) few

-- the archive was written
pub ran_whole : (text octets : List ℕ) (r r_new : InputState) (w w_new n : OutputState) → IsRead r.left text
    → ReadsFew r r_new → r_new.failures ≡ r.failures
    → (es : List Entry) × IsArchive ENTRY_MAX es × Migrates text [] es × (octets ≡ text_of es)
    → WroteAll w w_new octets → RanMigrate (devices r w n) (devices r_new w_new n) DONE
ran_whole text octets r r_new w w_new n is few sound (es, a, h, e) wrote = record {
  ending = None;
  outcome = record {
    input = text;
    done = goes_out (text_of es);
    is_input = left_of r.left text is;
    comes = inl (es, a, h, refl);
    wrote = record {
      to_output = subst (WroteAll w w_new) e wrote;
      to_diagnostics = record { octets = Appends-nil n.taken; no_failure = refl };
    };
    no_failure = sound;
    status_is = refl;
  };
  begins = migrated_whole r.left w.taken w_new.taken text octets is (es, a, h, e) wrote.octets;
  few = few;
}

-- the output failed behind a part of it
pub ran_part : (text octets : List ℕ) (sent : ℕ) (r r_new : InputState) (w w_new n n_new : OutputState) (status : ℕ)
    → IsRead r.left text → ReadsFew r r_new → r_new.failures ≡ r.failures
    → (es : List Entry) × IsArchive ENTRY_MAX es × Migrates text [] es × (octets ≡ text_of es)
    → WrotePart w w_new octets sent → Reports (codes "write fault\n") FAULT n n_new status
    → RanMigrate (devices r w n) (devices r_new w_new n_new) status
ran_part text octets sent r r_new w w_new n n_new status is few sound (es, a, h, e) part told = record {
  ending = Some Write;
  outcome = (
    told,
    sound,
    (
      text,
      goes_out (text_of es),
      sent,
      left_of r.left text is,
      inl (es, a, h, refl),
      subst (λ (t : List ℕ). WrotePart w w_new t sent) e part,
    ),
  );
  begins = migrated_prefix r.left w.taken w_new.taken text octets sent is (es, a, h, e) part.octets;
  few = few;
}
