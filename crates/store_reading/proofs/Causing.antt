-- Why a folder is not read.
use Rattle.std.proofs.Common.{◌≡◌, ◌≢◌, ◌⊎◌, ℕ, zero, suc, List, [], ◌∷◌, Option, None, Some, inl, inr, refl, sym, subst}
use Rattle.std.specs.Prelude.{Contains, Err, IfErr, IsErrAnd, IsSome, IsSomeAnd, Ok, Result}
use Rattle.std.proofs.lemmas.List.Elements.{Contains-append_left, Contains-append_right, Contains-push}
use Rattle.disk.specs.Calls.{HasCause}
use Rattle.disk.specs.States.{Files}
use Rattle.disk.specs.declared.fault.DiskFault.{DiskFault}
use Rattle.disk.specs.declared.fault.DiskFault.TheVariants.{Missing, Exists, Full, Failed, Memory}
use Rattle.octet_devices.specs.Device.{InputState}
use Rattle.archive_text.specs.Entries.{Entry}
use Rattle.archive_text.specs.Text.{text_of}
use Rattle.archive_text.specs.declared.fault.ArchiveFault.{ArchiveFault}
use Rattle.archive_text.specs.declared.limits.TheConstants.{ENTRY_MAX}
use Rattle.archive_text.specs.Faults.{IsArchiveFault}
use Rattle.archive_text.proofs.Prefixes.{archive_has_no_fault}
use Rattle.archive_streams.specs.declared.fault.InputFault.TheVariants.{Device, Endless as No_end}
use Rattle.archive_streams.specs.Entries.{IsCutShort}
use Rattle.archive_streams.specs.declared.fault.SideFault.TheVariants.{Archive as side_Archive}
use Rattle.archive_sets.specs.declared.range.InRange.{InRange}
use Rattle.archive_join.specs.Inputs.{IsCutAt}
use Rattle.archive_join.specs.Joined.{IsCauseIn}
use Rattle.archive_join.specs.declared.fault.JoinFault.{JoinFault}
use Rattle.archive_join.specs.declared.fault.JoinFault.TheVariants.{Archive, Read as join_Read, Endless}
use Rattle.archive_join.specs.declared.fault.JoinFault.TheVariants.{Write as join_Write, Memory as join_Memory}
use Rattle.store_reading.specs.Causes.{Causes, IsCause, IsDamagedIn, IsDamagedInMemory, IsDamagedOf, IsFolderCause}
use Rattle.store_reading.specs.Causes.{IsListedSegment, IsOfMemoryName, IsOpenCause, IsReadOf, WriterFailures, file_causes}
use Rattle.store_reading.specs.Causes.{list_causes, open_causes, reading_causes}
use Rattle.store_reading.specs.Damages.{IsDamagedSegment, OfLeft, Tells}
use Rattle.store_reading.specs.Faults.{IsFaultAt, IsFaultOfInput, IsInputNamed, IsJoinFault}
use Rattle.store_reading.specs.Folders.{AreNamesOf, Opens}
use Rattle.store_reading.specs.Ranges.{MayMeet}
use Rattle.store_reading.specs.Segments.{AreArchives, IsArchiveInput}
use Rattle.store_reading.specs.declared.fault.CheckFault.{CheckFault}
use Rattle.store_reading.specs.declared.fault.CheckFault.TheVariants.{Damaged as check_Damaged, Input, Memory as check_Memory}
use Rattle.store_reading.specs.declared.fault.FileFault.{FileFault}
use Rattle.store_reading.specs.declared.fault.FileFault.TheVariants.{Archive as No_archive}
use Rattle.store_reading.specs.declared.fault.ReadFault.{ReadFault}
use Rattle.store_reading.specs.declared.fault.ReadFault.TheVariants.{Folder, Open, Damaged, Read, Gone, TooManyDays}
use Rattle.store_reading.specs.declared.fault.ReadFault.TheVariants.{Write, Memory as No_memory}
use Rattle.store_reading.proofs.Damaged.{goes_on}
use Rattle.store_reading.proofs.Joined.{rest_of, whole_rest}

-- what is so of the fault that was handed on is so of the result's
pub at_err : {T E : Type 0} (r : Result T E) (fault : E) (P : E → Type 0) → IsErrAnd r (λ x. x ≡ fault) → P fault
    → IfErr r P
at_err (Ok x) fault P is p = tt
at_err (Err x) fault P is p = subst P (sym is) p

-- and what follows from what is so of it is so too
pub if_err_more : {T E : Type 0} (r : Result T E) (P Q : E → Type 0) → ((fault : E) → P fault → Q fault) → IfErr r P
    → IfErr r Q
if_err_more (Ok x) P Q more p = tt
if_err_more (Err fault) P Q more p = more fault p

-- where each cause is one of others
module _ (causes others : Causes) (failed : causes.failed → others.failed)
    (read : (name : List ℕ) → causes.read name → others.read name)
    (damaged : (name : List ℕ) (fault : FileFault) → causes.damaged name fault → others.damaged name fault)
    (writes : causes.writes → others.writes) where
  folder_weaker : (fault : DiskFault) → IsFolderCause causes.failed fault → IsFolderCause others.failed fault
  folder_weaker Missing is = tt
  folder_weaker Exists is = tt
  folder_weaker Full is = failed is
  folder_weaker Failed is = failed is
  folder_weaker Memory is = tt

  open_weaker : (fault : DiskFault) → IsOpenCause causes.failed fault → IsOpenCause others.failed fault
  open_weaker Missing is = is
  open_weaker Exists is = tt
  open_weaker Full is = failed is
  open_weaker Failed is = failed is
  open_weaker Memory is = tt

  pub cause_weaker : (fault : ReadFault) → IsCause causes fault → IsCause others fault
  cause_weaker (Folder fault) is = folder_weaker fault is
  cause_weaker (Open name fault) is = (read name is.0, open_weaker fault is.1)
  cause_weaker (Damaged name fault) is = damaged name fault is
  cause_weaker (Read name fault) is = read name is
  cause_weaker Gone is = tt
  cause_weaker TooManyDays is = writes is
  cause_weaker Write is = writes is
  cause_weaker No_memory is = tt

  pub result_weaker : {T : Type 0} (r : Result T ReadFault) → IfErr r (IsCause causes) → IfErr r (IsCause others)
  result_weaker (Ok x) is = tt
  result_weaker (Err fault) is = cause_weaker fault is

  -- a fault that was handed on
  pub handed_on : {T : Type 0} (r : Result T ReadFault) (fault : ReadFault) → IsErrAnd r (λ x. x ≡ fault)
      → IsCause causes fault → IfErr r (IsCause others)
  handed_on r fault is cause = at_err r fault (IsCause others) is (cause_weaker fault cause)

-- ---- the folder's own fault

pub listing_cause : {T : Type 0} (before now : Type 0) (r : Result T DiskFault) (fault : DiskFault) → r ≡ Err fault
    → HasCause before now r → IsFolderCause now fault
listing_cause before now r Missing is cause = tt
listing_cause before now r Exists is cause = tt
listing_cause before now r Full is cause = cause.full is
listing_cause before now r Failed is cause = cause.failed is
listing_cause before now r Memory is cause = tt

pub opening_cause : {T : Type 0} (before now : Type 0) (r : Result T DiskFault) (fault : DiskFault) → r ≡ Err fault
    → fault ≢ Missing → HasCause before now r → IsOpenCause now fault
opening_cause before now r Missing is there cause = there refl
opening_cause before now r Exists is there cause = tt
opening_cause before now r Full is there cause = cause.full is
opening_cause before now r Failed is there cause = cause.failed is
opening_cause before now r Memory is there cause = tt

-- a listing tells no file
pub listed_cause : (failed : Type 0) (others : Causes) → (failed → others.failed) → (fault : ReadFault)
    → IsCause (list_causes failed) fault → IsCause others fault
listed_cause failed others same fault is =
    cause_weaker (list_causes failed) others same (λ name none. absurd none) (λ name damage none. absurd none)
    (λ none. absurd none) fault is

pub opened_cause : (failed : Type 0) (others : Causes) (name : List ℕ) → (failed → others.failed) → others.read name
    → (fault : ReadFault) → IsCause (open_causes failed name) fault → IsCause others fault
opened_cause failed others name same read fault is =
    cause_weaker (open_causes failed name) others same (λ other of. subst others.read (sym of) read)
    (λ other damage none. absurd none) (λ none. absurd none) fault is

-- ---- a file that was checked

some_where : (o left : Option (List ℕ)) (P : List ℕ → Type 0) → IsSomeAnd o (λ octets. left ≡ Some octets)
    → ((file : List ℕ) → left ≡ Some file → P file) → IsSomeAnd o (λ file. P file)
some_where None left P opened of = absurd opened
some_where (Some file) left P opened of = of file opened

module _ (tells failed : Type 0) (files : Files) (IsRead : List ℕ → Type 0)
    (IsDamaged : List ℕ → List ℕ → FileFault → Type 0) (name copy : List ℕ) where
  pub found_cause : (fault : CheckFault) (found : ReadFault) → IsRead name
      → (tells → IsSomeAnd (files name) (λ file. Tells fault (IsDamaged name file))) → copy ≡ name
      → IsFaultAt copy fault found → IsCause (file_causes tells failed files IsRead IsDamaged) found
  found_cause (check_Damaged fault) found read told same is =
      subst (IsCause (file_causes tells failed files IsRead IsDamaged)) (sym is)
      (subst (λ (n : List ℕ). IsRead n × (tells → IsSomeAnd (files n) (λ file. IsDamaged n file fault))) (sym same)
      (read, told))
  found_cause (Input fault) found read told same is =
      subst (IsCause (file_causes tells failed files IsRead IsDamaged)) (sym is) (subst IsRead (sym same) read)
  found_cause check_Memory found read told same is =
      subst (IsCause (file_causes tells failed files IsRead IsDamaged)) (sym is) tt

  pub checked_cause : (d : InputState) (fault : CheckFault) (found : ReadFault) → IsRead name
      → (tells → Opens files name d) → OfLeft d (λ file. Tells fault (IsDamaged name file)) → copy ≡ name
      → IsFaultAt copy fault found → IsCause (file_causes tells failed files IsRead IsDamaged) found
  checked_cause d fault found read opened told same is =
      found_cause fault found read
      (λ t. some_where (files name) d.left (λ (file : List ℕ). Tells fault (IsDamaged name file)) (opened t) told) same is

-- a file that was read, and not checked
pub input_cause : (failed : Type 0) (name copy : List ℕ) (fault : CheckFault) (found : ReadFault)
    → Tells fault (λ damage. ⊥) → copy ≡ name → IsFaultAt copy fault found → IsCause (open_causes failed name) found
input_cause failed name copy (check_Damaged fault) found none same is = absurd none
input_cause failed name copy (Input fault) found none same is = subst (IsCause (open_causes failed name)) (sym is) same
input_cause failed name copy check_Memory found none same is = subst (IsCause (open_causes failed name)) (sym is) tt

-- ---- files that stayed the same

-- the files that are read are among others, and what is so of the files before is so of those since
module _ (tells failed now : Type 0) (one two : Files) (IsRead IsOther : List ℕ → Type 0)
    (IsDamaged : List ℕ → List ℕ → FileFault → Type 0) (still : failed → now) (same : tells → one ≡ two)
    (among : (name : List ℕ) → IsRead name → IsOther name) where
  pub file_cause : (fault : ReadFault) → IsCause (file_causes tells failed one IsRead IsDamaged) fault
      → IsCause (file_causes tells now two IsOther IsDamaged) fault
  file_cause fault is =
      cause_weaker (file_causes tells failed one IsRead IsDamaged) (file_causes tells now two IsOther IsDamaged) still
      among
      (λ name damage told. (
        among name told.0,
        λ t. subst (λ (f : Files). IsSomeAnd (f name) (λ file. IsDamaged name file damage)) (same t) (told.1 t),
      )) (λ none. none) fault is

  pub file_result : {T : Type 0} (r : Result T ReadFault)
      → IfErr r (IsCause (file_causes tells failed one IsRead IsDamaged))
      → IfErr r (IsCause (file_causes tells now two IsOther IsDamaged))
  file_result (Ok x) is = tt
  file_result (Err fault) is = file_cause fault is

some_more : (o : Option (List ℕ)) (P Q : List ℕ → Type 0) → ((file : List ℕ) → P file → Q file) → IsSomeAnd o (λ file. P file)
    → IsSomeAnd o (λ file. Q file)
some_more None P Q more some = some
some_more (Some file) P Q more some = more file some

-- and so is what is told as their damage
module _ (tells failed now : Type 0) (one two : Files) (IsRead IsOther : List ℕ → Type 0)
    (IsDamaged IsMore : List ℕ → List ℕ → FileFault → Type 0) (still : failed → now) (same : tells → one ≡ two)
    (among : (name : List ℕ) → IsRead name → IsOther name)
    (damaged : (name file : List ℕ) (fault : FileFault) → IsRead name → IsDamaged name file fault → IsMore name file fault)
  where
    pub wider_cause : (fault : ReadFault) → IsCause (file_causes tells failed one IsRead IsDamaged) fault
        → IsCause (file_causes tells now two IsOther IsMore) fault
    wider_cause fault is =
        cause_weaker (file_causes tells failed one IsRead IsDamaged) (file_causes tells now two IsOther IsMore) still
        among
        (λ name damage told. (
          among name told.0,
          λ t. subst (λ (f : Files). IsSomeAnd (f name) (λ file. IsMore name file damage)) (same t)
              (some_more (one name) (λ file. IsDamaged name file damage) (λ file. IsMore name file damage)
              (λ file so. damaged name file damage told.0 so) (told.1 t)),
        )) (λ none. none) fault is

    pub wider_result : {T : Type 0} (r : Result T ReadFault)
        → IfErr r (IsCause (file_causes tells failed one IsRead IsDamaged))
        → IfErr r (IsCause (file_causes tells now two IsOther IsMore))
    wider_result (Ok x) is = tt
    wider_result (Err fault) is = wider_cause fault is

-- ---- a range

-- the files stayed the same
pub reading_still : (tells before failed : Type 0) (one two : Files) (range : InRange) → (tells → before)
    → (tells → one ≡ two) → (fault : ReadFault) → IsCause (reading_causes before failed one range) fault
    → IsCause (reading_causes tells failed two range) fault
reading_still tells before failed one two range told same fault is =
    cause_weaker (reading_causes before failed one range) (reading_causes tells failed two range) (λ is. is)
    (λ name read. record {
      counts = read.counts;
      there = λ t. subst (λ (f : Files). IsSome (f name)) (same t) (read.there (told t));
    }) (λ name damage so t. subst (λ (f : Files). IsDamagedOf f range name damage) (same t) (so (told t))) (λ w. w) fault is

pub reading_result : {T : Type 0} (tells before failed : Type 0) (one two : Files) (range : InRange)
    (r : Result T ReadFault) → (tells → before) → (tells → one ≡ two)
    → IfErr r (IsCause (reading_causes before failed one range)) → IfErr r (IsCause (reading_causes tells failed two range))
reading_result tells before failed one two range (Ok x) told same is = tt
reading_result tells before failed one two range (Err fault) told same is =
    reading_still tells before failed one two range told same fault is

pub memory_cause : (tells failed : Type 0) (files : Files) (range : InRange) (fault : ReadFault)
    → IsCause (file_causes tells failed files (λ (n : List ℕ). IsOfMemoryName n × (tells → IsSome (files n)))
    IsDamagedInMemory) fault → IsCause (reading_causes tells failed files range) fault
memory_cause tells failed files range fault is =
    cause_weaker
    (file_causes tells failed files (λ (n : List ℕ). IsOfMemoryName n × (tells → IsSome (files n))) IsDamagedInMemory)
    (reading_causes tells failed files range) (λ same. same)
    (λ name read. record { counts = inl read.0; there = read.1 })
    (λ name damage told t. some_more (files name) (λ file. IsDamagedInMemory name file damage)
    (λ file. IsDamagedInMemory name file damage ⊎ IsDamagedIn range name file damage)
    (λ file damaged. inl damaged) (told.1 t)) (λ none. absurd none) fault is

-- a name that is listed has a file
module _ (tells failed : Type 0) (files : Files) (range : InRange) (day : List ℕ) (names : List (List ℕ))
    (meets : MayMeet range day) (listed : tells → AreNamesOf files names) where
  pub segment_read : (name : List ℕ) → IsListedSegment names day name → IsReadOf tells files range name
  segment_read name is = record {
    counts = inr (record { day = day; meets = meets; named = is.1 });
    there = λ t. (listed t name).0 is.0;
  }

  pub day_cause : (before : Type 0) → (tells → before) → (fault : ReadFault)
      → IsCause (file_causes before failed files (IsListedSegment names day) (IsDamagedSegment day)) fault
      → IsCause (reading_causes tells failed files range) fault
  day_cause before told fault is =
      cause_weaker (file_causes before failed files (IsListedSegment names day) (IsDamagedSegment day))
      (reading_causes tells failed files range) (λ same. same) segment_read
      (λ name damage so t. some_more (files name) (λ file. IsDamagedSegment day name file damage)
      (λ file. IsDamagedInMemory name file damage ⊎ IsDamagedIn range name file damage)
      (λ file damaged. inr (record {
        segment = record { day = day; meets = meets; named = so.0.1 };
        damaged = damaged;
      })) (so.1 (told t))) (λ none. absurd none) fault is

-- ---- a join of archives

-- no input is told as damaged that is an archive
whole_input : (d e : InputState) (xs front : List Entry) (fault : ArchiveFault) → IsArchiveInput d xs
    → IsCutShort (side_Archive fault) d e front → ⊥
whole_input d e xs front fault i cut =
    let r = rest_of d.left e.left cut.given (text_of xs) cut.consumed i.left in
    archive_has_no_fault ENTRY_MAX xs fault i.archive
    (subst (λ (t : List ℕ). IsArchiveFault ENTRY_MAX t fault) (sym r.2)
    (goes_on cut.given r.0 fault cut.cause.0 (λ at. whole_rest e.left r.0 r.1 (cut.cause.1 at).1)))

no_input_cut : (fault : ArchiveFault) (input : ℕ) (ds es : List InputState) (xss : List (List Entry)) (front : List Entry)
    → AreArchives ds xss → IsCutAt (side_Archive fault) input ds es front → ⊥
no_input_cut fault input [] es xss front are cut = cut_none input cut
  where
    cut_none : (n : ℕ) → IsCutAt (side_Archive fault) n [] es front → ⊥
    cut_none zero none = none
    cut_none (suc n) none = none
no_input_cut fault input (d ∷ ds) es [] front are cut = are
no_input_cut fault zero (d ∷ ds) [] (xs ∷ xss) front are cut = cut
no_input_cut fault (suc input) (d ∷ ds) [] (xs ∷ xss) front are cut = cut
no_input_cut fault zero (d ∷ ds) (e ∷ es) (xs ∷ xss) front are cut = whole_input d e xs front fault are.0 cut
no_input_cut fault (suc input) (d ∷ ds) (e ∷ es) (xs ∷ xss) front are cut =
    no_input_cut fault input ds es xss front are.1 cut

-- the fault of an input of a join, each of which is an archive
module _ (tells failed : Type 0) (files : Files) (range : InRange) (day : List ℕ) (names : List (List ℕ))
    (meets : MayMeet range day) (listed : tells → AreNamesOf files names) where
  input_read : (input : ℕ) (name : List ℕ) → IsInputNamed day names input name → IsReadOf tells files range name
  input_read input name named =
      segment_read tells failed files range day names meets listed name (
        subst (λ (l : List (List ℕ)). Contains l name) (sym named.parts)
            (Contains-append_right named.front (name ∷ named.back) name
            (Contains-append_left (name ∷ []) named.back name (Contains-push [] name))),
        named.segment,
      )

  input_fault : (input : ℕ) (fault : CheckFault) (found : ReadFault)
      → ((name : List ℕ) → IsReadOf tells files range name
      → Tells fault (λ damage. tells → IsDamagedOf files range name damage)) → IsFaultOfInput day names input fault found
      → IsCause (reading_causes tells failed files range) found
  input_fault input fault found told (inl (inl (gone, none))) =
      subst (IsCause (reading_causes tells failed files range)) (sym gone) tt
  input_fault input fault found told (inl (inr memory)) =
      subst (IsCause (reading_causes tells failed files range)) (sym memory) tt
  input_fault input (check_Damaged fault) found told (inr (name, named, is)) =
      subst (IsCause (reading_causes tells failed files range)) (sym is) (told name (input_read input name named))
  input_fault input (Input fault) found told (inr (name, named, is)) =
      subst (IsCause (reading_causes tells failed files range)) (sym is) (input_read input name named)
  input_fault input check_Memory found told (inr (name, named, is)) =
      subst (IsCause (reading_causes tells failed files range)) (sym is) tt

  pub join_cause : (fault : JoinFault) (found : ReadFault) (ds es : List InputState) (front : List Entry)
      → (tells → (xss : List (List Entry)) × AreArchives ds xss) → IsCauseIn fault ds es front
      → IsJoinFault day names fault found → IsCause (reading_causes tells failed files range) found
  join_cause (Archive input fault) found ds es front are cause is =
      input_fault input (check_Damaged (No_archive fault)) found
      (λ name read t. let a = are t in absurd (no_input_cut fault input ds es a.0 front a.1 cause)) is
  join_cause (join_Read input) found ds es front are cause is =
      input_fault input (Input Device) found (λ name read. tt) is
  join_cause (Endless input) found ds es front are cause is =
      input_fault input (Input No_end) found (λ name read. tt) is
  join_cause (join_Write sent) found ds es front are cause is =
      subst (IsCause (reading_causes tells failed files range)) (sym is) tt
  join_cause join_Memory found ds es front are cause is =
      subst (IsCause (reading_causes tells failed files range)) (sym is) tt

-- ---- the writer

pub writer_on : {T : Type 0} (r : Result T ReadFault) (fault : ReadFault) (old mid new : ℕ)
    → IsErrAnd r (λ x. x ≡ fault) → mid ≡ old → WriterFailures {T = T} (Err fault) mid new → WriterFailures r old new
writer_on (Ok x) fault old mid new is same failed = absurd is
writer_on {T} (Err x) fault old mid new is same failed =
    subst (λ (f : ReadFault). WriterFailures {T = T} (Err f) old new) (sym is)
    (subst (λ (n : ℕ). WriterFailures {T = T} (Err fault) n new) same failed)
