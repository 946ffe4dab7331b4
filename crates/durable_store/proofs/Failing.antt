-- Why a checkpoint fails.
use Rattle.std.proofs.Common.{◌≡◌, ◌≢◌, ℕ, ◌+◌, ◌≤◌, List, ap, arith, subst, sym, ◌∙◌, length, take}
use Rattle.std.specs.Prelude.{ℤ, None, Option, Some, codes}
use Rattle.std.specs.List.{AllByRecursion}
use Rattle.std.proofs.lemmas.List.Elements.{All-from_recursion}
use Rattle.disk.specs.Memory.{shown_now}
use Rattle.disk.specs.Names.{IsNameOctet}
use Rattle.disk.specs.States.{State}
use Rattle.disk.specs.declared.fault.DiskFault.{DiskFault}
use Rattle.disk.specs.declared.fault.DiskFault.TheVariants.{Missing, Exists, Full, Failed, Memory}
use Rattle.syslog_value.specs.declared.civil.Civil.{Civil}
use Rattle.syslog_fields.specs.Canonical.{civil_text}
use Rattle.archive_text.specs.Periods.{IsPeriodOf}
use Rattle.archive_text.specs.declared.period.Period.TheVariants.{Day as day_Period}
use Rattle.record_store.specs.Causes.{IsDraftCause}
use Rattle.record_store.specs.Keeping.{IsKeepCause}
use Rattle.record_store.specs.Names.{IsDayName}
use Rattle.record_store.specs.Segments.{Drafts, segment_name}
use Rattle.record_store.specs.declared.keeping.KeepFault.{KeepFault}
use Rattle.record_store.specs.declared.keeping.KeepFault.TheVariants.{Disk, Day, Differs}
use Rattle.record_store.specs.declared.segment.SegmentDraft.{SegmentDraft}
use Rattle.record_store.specs.declared.store.RecordStore.{RecordStore}
use Rattle.record_store.proofs.Causing.{cause_weaker}
use Rattle.record_store.proofs.Naming.{segment_not_short}
use Rattle.durable_store.specs.Causes.{IsCheckpointCause, IsKeepingCause, ShowsOtherSegment, turning_causes}
use Rattle.durable_store.specs.Segments.{KeepsAside, octets_of}
use Rattle.durable_store.specs.declared.draft.DraftName.{DraftName}
use Rattle.durable_store.specs.declared.draft.DraftName.TheVariants.{Checkpoint, Addition}
use Rattle.durable_store.specs.declared.fault.CheckpointFault.{CheckpointFault}
use Rattle.durable_store.specs.declared.fault.CheckpointFault.TheVariants.{Store, Segment}

-- ---- a day has a name

digit : (n : ℕ) → IsNameOctet (48 + n)
digit n = (λ is. omega (arith, is), λ is. omega (arith, is))

dash : IsNameOctet 45
dash = (λ is. omega (arith, is), λ is. omega (arith, is))

undated : AllByRecursion IsNameOctet (codes "undated")
undated = (digit 69, (digit 62, (digit 52, (digit 49, (digit 68, (digit 53, (digit 52, tt)))))))

dated : (c : Civil) → AllByRecursion IsNameOctet (take 10 (civil_text c))
unfolding civil_text
dated c = (
  digit _,
  (digit _, (digit _, (digit _, (dash, (digit _, (digit _, (dash, (digit _, (digit _, tt))))))))),
)

ten : (c : Civil) → length (take 10 (civil_text c)) ≤ 182
unfolding civil_text
ten c = omega arith

pub day_is_name : (i : Option ℤ) (day : List ℕ) → IsPeriodOf day_Period i day → IsDayName day
day_is_name None day is = subst IsDayName (sym is) (record {
  short = omega arith;
  each = All-from_recursion IsNameOctet (codes "undated") undated;
})
day_is_name (Some i) day (time, (c, exists, names, text), first) =
    let is : day ≡ take 10 (civil_text c) = first ∙ ap (take 10) text in
    subst IsDayName (sym is) (record {
      short = ten c;
      each = All-from_recursion IsNameOctet (take 10 (civil_text c)) (dated c);
    })

-- so has the segment that several days share
mixed : AllByRecursion IsNameOctet (codes "mixed")
mixed = (digit 61, (digit 57, (digit 72, (digit 53, (digit 52, tt)))))

pub mixed_is_name : IsDayName (codes "mixed")
mixed_is_name = record {
  short = omega arith;
  each = All-from_recursion IsNameOctet (codes "mixed") mixed;
}

-- ---- causes

-- where more is known
pub keeping_less : (tells failed stands known : Type 0) (new : State) (fault : KeepFault) → (tells → known → stands)
    → IsKeepingCause tells failed stands new fault → IsKeepingCause tells failed known new fault
keeping_less tells failed stands known new (Disk Missing) from is = λ tell k. is tell (from tell k)
keeping_less tells failed stands known new (Disk Exists) from is = is
keeping_less tells failed stands known new (Disk Full) from is = is
keeping_less tells failed stands known new (Disk Failed) from is = is
keeping_less tells failed stands known new (Disk Memory) from is = is
keeping_less tells failed stands known new Day from is = is
keeping_less tells failed stands known new (Differs name) from is = λ tell k. is tell (from tell k)

pub checkpoint_less : (tells failed stands known : Type 0) (store : RecordStore) (new : State)
    (fault : CheckpointFault) → (tells → known → stands) → IsCheckpointCause tells failed stands store new fault
    → IsCheckpointCause tells failed known store new fault
checkpoint_less tells failed stands known store new (Store fault) from is =
    cause_weaker (turning_causes tells failed stands store) (turning_causes tells failed known store)
    (λ failed. failed) (λ full. full) (λ other tell k. other tell (from tell k)) (λ long. long) (λ broken. broken) fault is
checkpoint_less tells failed stands known store new (Segment fault) from is =
    keeping_less tells failed stands known new fault from is

-- of a draft that is kept
pub kept_cause : (tells failed known : Type 0) (old new : State) (draft : SegmentDraft) (day : List ℕ)
    (fault : KeepFault) → IsDayName day → (tells → known → (text : List ℕ) × Drafts draft old text)
    → IsKeepCause tells failed old new draft day fault → IsKeepingCause tells failed known new fault
kept_cause tells failed known old new draft day (Disk Missing) named drafts is = λ tell k.
    let drafted = drafts tell k in
    absurd (cc (is tell drafted.1.sound, drafted.1.shown))
kept_cause tells failed known old new draft day (Disk Exists) named drafts is = is
kept_cause tells failed known old new draft day (Disk Full) named drafts is = is
kept_cause tells failed known old new draft day (Disk Failed) named drafts is = is
kept_cause tells failed known old new draft day (Disk Memory) named drafts is = is
kept_cause tells failed known old new draft day Day named drafts is = absurd (is named)
kept_cause tells failed known old new draft day (Differs name) named drafts is = λ tell k.
    let drafted = drafts tell k in
    let told = is tell in
    let other = told.1 drafted.0 drafted.1 in
    record {
      day = day;
      text = drafted.0;
      other = record {
        named = other.named;
        octets = other.octets;
        shown = ap shown_now (told.0.entries name) ∙ other.shown;
        other = other.other;
      };
    }

-- of a draft that is written
pub draft_cause : (tells failed stands : Type 0) (state new : State) (draft : SegmentDraft) (fault : DiskFault)
    → (tells → stands → (text : List ℕ) × Drafts draft state text)
    → IsDraftCause tells failed state draft.name fault → IsKeepingCause tells failed stands new (Disk fault)
draft_cause tells failed stands state new draft Missing drafts is = λ tell k.
    let drafted = drafts tell k in
    absurd (cc (is tell, drafted.1.shown))
draft_cause tells failed stands state new draft Exists drafts is = is
draft_cause tells failed stands state new draft Full drafts is = is
draft_cause tells failed stands state new draft Failed drafts is = is
draft_cause tells failed stands state new draft Memory drafts is = is

-- ---- once what is left of a draft is removed

segment_apart : (period text : List ℕ) (name : DraftName) → segment_name period text ≢ octets_of name
segment_apart period text Checkpoint = segment_not_short period text (octets_of Checkpoint) (omega arith)
segment_apart period text Addition = segment_not_short period text (octets_of Addition) (omega arith)

shows_aside : (old new : State) (draft : DraftName) (name : List ℕ) → KeepsAside old new (octets_of draft)
    → ShowsOtherSegment old name → ShowsOtherSegment new name
shows_aside old new draft name aside shows = record {
  day = shows.day;
  text = shows.text;
  other = record {
    named = shows.other.named;
    octets = shows.other.octets;
    shown = ap shown_now (aside.others name
        (λ is. segment_apart shows.day shows.text draft (sym shows.other.named ∙ is))) ∙ shows.other.shown;
    other = shows.other.other;
  };
}

pub keeping_then : (tells told failed before asked : Type 0) (old new : State) (draft : DraftName) → (tells → told)
    → (before → failed) → (tells → KeepsAside old new (octets_of draft)) → (fault : KeepFault)
    → IsKeepingCause told before asked old fault → IsKeepingCause tells failed asked new fault
keeping_then tells told failed before asked old new draft back stays aside (Disk Missing) is = λ tell. is (back tell)
keeping_then tells told failed before asked old new draft back stays aside (Disk Exists) is = λ tell. is (back tell)
keeping_then tells told failed before asked old new draft back stays aside (Disk Full) is = stays is
keeping_then tells told failed before asked old new draft back stays aside (Disk Failed) is = stays is
keeping_then tells told failed before asked old new draft back stays aside (Disk Memory) is = is
keeping_then tells told failed before asked old new draft back stays aside Day is = is
keeping_then tells told failed before asked old new draft back stays aside (Differs name) is =
    λ tell asked_for. shows_aside old new draft name (aside tell) (is (back tell) asked_for)
