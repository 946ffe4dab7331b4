-- Why what is expired was not all removed.
use Rattle.std.proofs.Common.{◌≡◌, ℕ, List, Option, None, Some, refl, sym, ap, subst, ◌∙◌}
use Rattle.std.specs.Prelude.{IsErrAnd, IsSomeAnd, Result, Ok, Err}
use Rattle.disk.specs.Calls.{IsUnchanged}
use Rattle.disk.specs.Memory.{shown_now}
use Rattle.disk.specs.States.{Files, State}
use Rattle.journal.specs.Journals.{KeepsOthers}
use Rattle.octet_devices.specs.Device.{InputState}
use Rattle.archive_text.specs.Entries.{Entry}
use Rattle.archive_text.specs.Text.{text_of}
use Rattle.archive_sets.specs.Selections.{IsSelection}
use Rattle.record_store.specs.Names.{IsSegment}
use Rattle.record_store.specs.Segments.{segment_name}
use Rattle.store_reading.specs.Damages.{IsDamagedArchive, IsDamagedSegment, IsOtherDigest, OfLeft, Tells}
use Rattle.store_reading.specs.Folders.{Opens}
use Rattle.store_reading.specs.declared.fault.CheckFault.{CheckFault}
use Rattle.store_reading.specs.declared.fault.CheckFault.TheVariants.{Damaged as check_Damaged, Input, Memory}
use Rattle.store_reading.specs.declared.fault.FileFault.{FileFault}
use Rattle.store_reading.proofs.Hashed.{damaged_segment, other_digest}
use Rattle.store_upkeep.specs.Compaction.{shown}
use Rattle.store_expiry.specs.Causes.{HasOthers, IsDamagedFile, IsExpireCause, IsTaken, TellsCause}
use Rattle.store_expiry.specs.Expired.{IsExpired}
use Rattle.store_expiry.specs.Expiry.{expire_draft}
use Rattle.store_expiry.specs.Surveys.{HasExpired, IsLeftOver, IsSurveyed}
use Rattle.store_expiry.specs.declared.expired.Expired.{Expired}
use Rattle.store_expiry.specs.declared.fault.ExpireFault.{ExpireFault}
use Rattle.store_expiry.specs.declared.fault.ExpireFault.TheVariants.{Damaged, Store, Taken, Output}
use Rattle.store_expiry.specs.declared.survey.Survey.{Survey}
use Rattle.store_expiry.proofs.Changing.{expired_as, file_as, segment_apart}

-- ---- what a fault tells

-- behind a call at which the output did not fail
pub fault_later : (x : Expired) (files : Files) (a b c : ℕ) (fault : ExpireFault) → b ≡ a
    → IsExpireCause x files b c fault → IsExpireCause x files a c fault
fault_later x files a b c fault same cause = subst (λ (n : ℕ). IsExpireCause x files n c fault) same cause

-- a fault that is handed on
pub cause_on : {A : Type 0} (x : Expired) (files : Files) (a b c : ℕ) (r : Result A ExpireFault) (fault : ExpireFault)
    → IsErrAnd r (λ y. y ≡ fault) → b ≡ a → IsExpireCause x files b c fault → TellsCause x files a c r
cause_on x files a b c (Ok value) fault is same cause = absurd is
cause_on x files a b c (Err y) fault is same cause =
    subst (IsExpireCause x files a c) (sym is) (fault_later x files a b c fault same cause)

-- ---- a segment that is damaged

damaged_at : (files : Files) (name period : List ℕ) (d : InputState) (o : Option (List ℕ)) (fault : CheckFault)
    → files name ≡ o → IsSomeAnd o (λ octets. d.left ≡ Some octets) → IsSegment period name
    → OfLeft d (λ file. Tells fault (IsDamagedSegment period name file)) → Tells fault (IsDamagedFile files name)
damaged_at files name period d None fault there opened segment damaged = absurd opened
damaged_at files name period d (Some file) (check_Damaged damage) there opened segment damaged =
    record { period = period; segment = segment; file = file; there = there; damaged = damaged file opened }
damaged_at files name period d (Some file) (Input fault) there opened segment damaged = tt
damaged_at files name period d (Some file) Memory there opened segment damaged = tt

pub archive_damaged : (files : Files) (name period : List ℕ) (d : InputState) (fault : CheckFault)
    → Opens files name d → IsSegment period name
    → OfLeft d (λ file. Tells fault (IsDamagedArchive period file)) → Tells fault (IsDamagedFile files name)
archive_damaged files name period d fault opened segment damaged =
    damaged_at files name period d (files name) fault refl opened segment
    (λ file left. damaged_segment period name file fault (damaged file left))

pub digest_damaged : (x : Expired) (files : Files) (name period : List ℕ) (d e : InputState) (s : Survey)
    (fault : CheckFault) → Opens files name d → IsSegment period name → IsSurveyed x period d e s
    → Tells fault (IsOtherDigest period name s.hex) → Tells fault (IsDamagedFile files name)
digest_damaged x files name period d e s fault opened segment v told =
    damaged_at files name period d (files name) fault refl opened segment
    (λ file left. other_digest period name d e s.hex file
    (record { segment = v.segment; digest = v.is.digest }) left fault told)

-- ---- the segments are shown as they were

module _ (x : Expired) (old new : State)
    (same : (period name : List ℕ) → IsSegment period name → shown new name ≡ shown old name) where
  damaged_still : (name : List ℕ) (damage : FileFault) → IsDamagedFile (shown old) name damage
      → IsDamagedFile (shown new) name damage
  damaged_still name damage d = record {
    period = d.period;
    segment = d.segment;
    file = d.file;
    there = same d.period name d.segment ∙ d.there;
    damaged = d.damaged;
  }

  pub left_still : (period : List ℕ) (left : List Entry) → IsLeftOver x (shown old) period left
      → IsLeftOver x (shown new) period left
  left_still period left o = record {
    source = o.source;
    entries = o.entries;
    whole = expired_as x (shown old) (shown new) o.source period o.entries
        (same period o.source o.whole.is_file.segment) o.whole;
    selection = o.selection;
  }

  taken_still : (name : List ℕ) → IsTaken x (shown old) name → IsTaken x (shown new) name
  taken_still name t = record {
    period = t.period;
    left = t.left;
    over = left_still t.period t.left t.over;
    named = t.named;
    others = record {
      entries = t.others.entries;
      is_file = file_as (shown old) (shown new) name t.period t.others.entries
          (same t.period name t.others.is_file.segment) t.others.is_file;
      other = t.others.other;
      has = t.others.has;
      lacks = t.others.lacks;
    };
  }

  pub fault_still : (a b : ℕ) (fault : ExpireFault) → IsExpireCause x (shown old) a b fault
      → IsExpireCause x (shown new) a b fault
  fault_still a b (Damaged name damage) cause = (damaged_still name damage cause.0, cause.1)
  fault_still a b (Store fault) cause = cause
  fault_still a b (Taken name) cause = (taken_still name cause.0, cause.1)
  fault_still a b Output cause = cause

pub fault_same : (x : Expired) (old new : State) → IsUnchanged old new → (a b : ℕ) (fault : ExpireFault)
    → IsExpireCause x (shown old) a b fault → IsExpireCause x (shown new) a b fault
fault_same x old new same a b fault cause =
    fault_still x old new (λ period name segment. ap shown_now (same.entries name)) a b fault cause

pub fault_back : (x : Expired) (old new : State) → IsUnchanged old new → (a b : ℕ) (fault : ExpireFault)
    → IsExpireCause x (shown new) a b fault → IsExpireCause x (shown old) a b fault
fault_back x old new same a b fault cause =
    fault_still x new old (λ period name segment. sym (ap shown_now (same.entries name))) a b fault cause

pub aside_same : (old new : State) → KeepsOthers old new expire_draft → (period name : List ℕ) → IsSegment period name
    → shown new name ≡ shown old name
aside_same old new others period name segment = ap shown_now (others name (segment_apart period name segment))

pub fault_aside : (x : Expired) (old new : State) → KeepsOthers old new expire_draft → (a b : ℕ) (fault : ExpireFault)
    → IsExpireCause x (shown old) a b fault → IsExpireCause x (shown new) a b fault
fault_aside x old new others a b fault cause = fault_still x old new (aside_same old new others) a b fault cause

-- a name that is taken
pub taken_back : (x : Expired) (old new : State) → IsUnchanged old new → (name period : List ℕ) (left : List Entry)
    → IsLeftOver x (shown old) period left → name ≡ segment_name period (text_of left)
    → HasOthers (shown new) name period left → IsTaken x (shown old) name
taken_back x old new same name period left over named others = record {
  period = period;
  left = left;
  over = over;
  named = named;
  others = record {
    entries = others.entries;
    is_file = file_as (shown new) (shown old) name period others.entries
        (sym (ap shown_now (same.entries name))) others.is_file;
    other = others.other;
    has = others.has;
    lacks = others.lacks;
  };
}

-- what was drafted of a segment
pub left_over : (x : Expired) (old new : State) (source period : List ℕ) (es left : List Entry)
    → KeepsOthers old new expire_draft → HasExpired x (shown old) source period es
    → IsSelection (λ e. ¬ (IsExpired x e)) es left → IsLeftOver x (shown new) period left
left_over x old new source period es left others whole selection =
    left_still x old new (aside_same old new others) period left
    (record { source = source; entries = es; whole = whole; selection = selection })
