-- What is said of files.
use Rattle.std.proofs.Common.{◌≡◌, ℕ, ◌-◌, List, [], ◌∷◌, ◌++◌, length, take, Option, None, Some, inl, inr}
use Rattle.std.proofs.Common.{refl, sym, ap, subst, ◌∙◌, append-nil, append_assoc, length-append, arith}
use Rattle.std.specs.Prelude.{Contains, Err, IfOk, IfSome, IsNone, IsSome, IsSomeAnd, Ok, Result, codes}
use Rattle.std.proofs.lemmas.List.{map-append, take_at}
use Rattle.std.proofs.lemmas.List.Elements.{Contains-append_left, Contains-push, Contains-push_cases}
use Rattle.disk.specs.States.{Files}
use Rattle.octet_devices.specs.Device.{InputState}
use Rattle.archive_text.proofs.Members.{all_append}
use Rattle.record_store.specs.Names.{IsJournal, IsSegment}
use Rattle.record_store.proofs.Named.{not_both}
use Rattle.store_reading.specs.Days.{IsPeriodText}
use Rattle.store_reading.specs.Folders.{AreNamesOf, Opens}
use Rattle.store_reading.specs.Damages.{IsDamagedJournal, IsDamagedSegment, IsSegmentDamage, OfLeft, Tells}
use Rattle.store_reading.specs.Whole.{IsWholeSegment}
use Rattle.store_reading.specs.Journals.{IsJournalFile}
use Rattle.store_reading.specs.declared.fault.CheckFault.{CheckFault}
use Rattle.store_reading.specs.declared.fault.CheckFault.TheVariants.{Damaged, Input, Memory}
use Rattle.store_reading.specs.declared.fault.FileFault.{FileFault}
use Rattle.store_reading.specs.declared.journal_file.JournalFile.{JournalFile}
use Rattle.store_upkeep.specs.Damages.{AddsTo, AreAsTold, AreDamaged, IsDamageOf, IsFoundBy, IsToldAt, IsVerdict}
use Rattle.store_upkeep.specs.Damages.{IsWholeOrListed, names_of}
use Rattle.store_upkeep.specs.Whole.{IsDamagedAt, IsWholeAt, IsWholeFile}
use Rattle.record_store.specs.Holdings.{IsWholeJournal}
use Rattle.store_upkeep.specs.declared.damage.DamagedFile.{DamagedFile}

-- ---- a file that is not there

none_where : (o : Option (List ℕ)) → (IsSome o → ⊥) → IsNone o
none_where None h = refl
none_where (Some x) h = absurd (h refl)

pub not_listed : (files : Files) (names : List (List ℕ)) (name : List ℕ) → AreNamesOf files names
    → (Contains names name → ⊥) → IsNone (files name)
not_listed files names name listed not = none_where (files name) (λ some. not ((listed name).1 some))

none_some : (o : Option (List ℕ)) (file : List ℕ) → IsNone o → o ≡ Some file → ⊥
none_some None file none is = absurd (cc is)
none_some (Some x) file none is = absurd (cc none)

pub whole_none : (files : Files) (name : List ℕ) → IsNone (files name) → IsWholeAt files name
whole_none files name none file is = absurd (none_some (files name) file none is)

-- ---- a file that is opened

left_of : (o left : Option (List ℕ)) (file : List ℕ) → IsSomeAnd o (λ octets. left ≡ Some octets) → o ≡ Some file
    → left ≡ Some file
left_of None left file opened is = absurd opened
left_of (Some x) left file opened is = opened ∙ is

some_where : (o left : Option (List ℕ)) (P : List ℕ → Type 0) → IsSomeAnd o (λ octets. left ≡ Some octets)
    → ((file : List ℕ) → left ≡ Some file → P file) → IsSomeAnd o (λ file. P file)
some_where None left P opened of = absurd opened
some_where (Some file) left P opened of = of file opened

-- the day in a segment's name
day_at : (day name : List ℕ) (s : IsSegment day name) → take (length name - 73) name ≡ day
day_at day name s =
    let whole : name ≡ day ++ ((46 ∷ s.digest) ++ codes ".archive") =
    s.name_is ∙ append_assoc day (46 ∷ s.digest) (codes ".archive") in
    let size : length day ≡ length name - 73 =
    omega (
      arith,
      ap length whole,
      length-append day ((46 ∷ s.digest) ++ codes ".archive"),
      length-append (46 ∷ s.digest) (codes ".archive"),
      s.long,
    ) in
    ap (take (length name - 73)) whole ∙ take_at day ((46 ∷ s.digest) ++ codes ".archive") (length name - 73) size

pub day_named : (a b name : List ℕ) → IsSegment a name → IsSegment b name → a ≡ b
day_named a b name s t = sym (day_at a name s) ∙ day_at b name t

pub segment_whole_at : (files : Files) (name day : List ℕ) (d : InputState) → IsSegment day name → Opens files name d
    → OfLeft d (IsWholeSegment day name) → IsWholeAt files name
segment_whole_at files name day d segment opened whole file is = record {
  journal = λ journal. absurd (not_both day name journal segment);
  segment = λ other text named. subst (λ (x : List ℕ). IsWholeSegment x name file)
      (day_named day other name segment named) (whole file (left_of (files name) d.left file opened is));
}

some_is : (o : Option (List ℕ)) (P : List ℕ → Type 0) (file : List ℕ) → IsSomeAnd o P → o ≡ Some file → P file
some_is None P file some is = absurd some
some_is (Some x) P file some is = let same : x ≡ file = cc is in subst P same some

pub journal_whole_at : (files : Files) (name : List ℕ) (read : JournalFile) → IsJournal name
    → IsSomeAnd (files name) (IsJournalFile read) → ((file : List ℕ) → IsJournalFile read file → IsWholeJournal file)
    → IsWholeAt files name
journal_whole_at files name read journal given whole file is = record {
  journal = λ named. whole file (some_is (files name) (IsJournalFile read) file given is);
  segment = λ day text named. absurd (not_both day name journal named);
}

pub other_whole_at : (files : Files) (name : List ℕ) → (IsJournal name → ⊥)
    → ((day : List ℕ) → IsPeriodText day → IsSegment day name → ⊥) → IsWholeAt files name
other_whole_at files name no_journal no_segment file is = record {
  journal = λ journal. absurd (no_journal journal);
  segment = λ day text named. absurd (no_segment day text named);
}

-- what a check found of a file
found_verdict : (files : Files) (name : List ℕ) (fault : CheckFault) (found : Option FileFault)
    → IsSomeAnd (files name) (λ file. Tells fault (IsDamageOf name file)) → IsFoundBy fault found
    → IsVerdict found files name
found_verdict files name (Damaged damage) found told is =
    subst (λ (o : Option FileFault). IsVerdict o files name) (sym is) told
found_verdict files name (Input fault) found told is = absurd is
found_verdict files name Memory found told is = absurd is

result_verdict : {E : Type 0} (files : Files) (name : List ℕ) (fault : CheckFault) (r : Result (Option FileFault) E)
    → IsSomeAnd (files name) (λ file. Tells fault (IsDamageOf name file)) → IfOk r (IsFoundBy fault)
    → IfOk r (λ found. IsVerdict found files name)
result_verdict files name fault (Ok found) told is = found_verdict files name fault found told is
result_verdict files name fault (Err e) told is = tt

segment_told : (name day file : List ℕ) (fault : CheckFault) → IsPeriodText day → IsSegment day name
    → Tells fault (IsDamagedSegment day name file) → Tells fault (IsDamageOf name file)
segment_told name day file (Damaged damage) text segment told = record {
  not_whole = λ w. told.not_whole (w.segment day text segment);
  journal = λ journal. absurd (not_both day name journal segment);
  segment = λ other dated named. subst (λ (x : List ℕ). IsSegmentDamage x name file damage)
      (day_named day other name segment named) told.told;
}
segment_told name day file (Input fault) text segment told = tt
segment_told name day file Memory text segment told = tt

journal_told : (name file : List ℕ) (fault : CheckFault) → IsJournal name → Tells fault (IsDamagedJournal file)
    → Tells fault (IsDamageOf name file)
journal_told name file (Damaged damage) journal told = record {
  not_whole = λ w. told.not_whole (w.journal journal);
  journal = λ named. told.told;
  segment = λ day dated named. absurd (not_both day name journal named);
}
journal_told name file (Input fault) journal told = tt
journal_told name file Memory journal told = tt

pub segment_verdict : {E : Type 0} (files : Files) (name day : List ℕ) (d : InputState) (fault : CheckFault)
    (r : Result (Option FileFault) E) → IsPeriodText day → IsSegment day name → Opens files name d
    → OfLeft d (λ file. Tells fault (IsDamagedSegment day name file)) → IfOk r (IsFoundBy fault)
    → IfOk r (λ found. IsVerdict found files name)
segment_verdict files name day d fault r text segment opened told found =
    result_verdict files name fault r
    (some_where (files name) d.left (λ (file : List ℕ). Tells fault (IsDamageOf name file)) opened
    (λ file left. segment_told name day file fault text segment (told file left))) found

some_then : (o : Option (List ℕ)) (P Q : List ℕ → Type 0) → ((file : List ℕ) → P file → Q file) → IsSomeAnd o P
    → IsSomeAnd o Q
some_then None P Q then some = absurd some
some_then (Some file) P Q then some = then file some

pub journal_verdict : {E : Type 0} (files : Files) (name : List ℕ) (read : JournalFile) (fault : CheckFault)
    (r : Result (Option FileFault) E) → IsJournal name → IsSomeAnd (files name) (IsJournalFile read)
    → ((file : List ℕ) → IsJournalFile read file → Tells fault (IsDamagedJournal file)) → IfOk r (IsFoundBy fault)
    → IfOk r (λ found. IsVerdict found files name)
journal_verdict files name read fault r journal given told found =
    result_verdict files name fault r
    (some_then (files name) (IsJournalFile read) (λ file. Tells fault (IsDamageOf name file))
    (λ file is. journal_told name file fault journal (told file is)) given) found

told_damaged : (o : Option (List ℕ)) (name : List ℕ) (damage : FileFault)
    → IsSomeAnd o (λ file. IsDamageOf name file damage) → IsSomeAnd o (λ file. ¬ (IsWholeFile name file))
told_damaged None name damage told = absurd told
told_damaged (Some file) name damage told = told.not_whole

-- ---- those that are damaged

pub damaged_push : (files : Files) (ds : List DamagedFile) (d : DamagedFile) → AreDamaged files ds
    → IsToldAt files d.name d.damage → AreDamaged files (ds ++ d ∷ [])
damaged_push files ds d all told =
    all_append (λ (x : DamagedFile). IsDamagedAt files x.name) ds (d ∷ []) all
    (told_damaged (files d.name) d.name d.damage told, tt)

pub as_told_push : (files : Files) (ds : List DamagedFile) (d : DamagedFile) → AreAsTold files ds
    → IsToldAt files d.name d.damage → AreAsTold files (ds ++ d ∷ [])
as_told_push files ds d all told =
    all_append (λ (x : DamagedFile). IsToldAt files x.name x.damage) ds (d ∷ []) all (told, tt)

names_push : (ds : List DamagedFile) (d : DamagedFile) → names_of (ds ++ d ∷ []) ≡ names_of ds ++ d.name ∷ []
names_push ds d = map-append (λ (x : DamagedFile). x.name) ds (d ∷ [])

pub listed_push : (ds : List DamagedFile) (d : DamagedFile) → Contains (names_of (ds ++ d ∷ [])) d.name
listed_push ds d =
    subst (λ (l : List (List ℕ)). Contains l d.name) (sym (names_push ds d)) (Contains-push (names_of ds) d.name)

pub adds_none : (ds : List DamagedFile) → AddsTo ds ds
adds_none ds = ([], sym (append-nil ds))

pub adds_then : (a b c : List DamagedFile) → AddsTo a b → AddsTo b c → AddsTo a c
adds_then a b c (x, one) (y, two) =
    (x ++ y, two ∙ ap (λ (l : List DamagedFile). l ++ y) one ∙ append_assoc a x y)

pub adds_stays : (old new : List DamagedFile) → AddsTo old new → (name : List ℕ) → Contains (names_of old) name
    → Contains (names_of new) name
adds_stays old new (added, is) name has =
    subst (λ (l : List (List ℕ)). Contains l name)
    (sym (ap names_of is ∙ map-append (λ (x : DamagedFile). x.name) old added))
    (Contains-append_left (names_of old) (names_of added) name has)

pub listed_on : (files : Files) (old new : List DamagedFile) (name : List ℕ)
    → ((other : List ℕ) → Contains (names_of old) other → Contains (names_of new) other)
    → IsWholeOrListed files old name → IsWholeOrListed files new name
listed_on files old new name stays (inl whole) = inl whole
listed_on files old new name stays (inr listed) = inr (stays name listed)

-- each name that is listed, and each that is not
pub all_names : (files : Files) (names : List (List ℕ)) (ds : List DamagedFile) → AreNamesOf files names
    → ((name : List ℕ) → Contains names name → IsWholeOrListed files ds name) → (name : List ℕ)
    → IsWholeOrListed files ds name
all_names files names ds listed of name = at (files name) refl
  where
    at : (o : Option (List ℕ)) → files name ≡ o → IsWholeOrListed files ds name
    at None is = inl (λ file found. absurd (cc (sym is ∙ found)))
    at (Some file) is = of name ((listed name).1 (subst IsSome (sym is) refl))

pub names_more : (P : List ℕ → Type 0) (names : List (List ℕ)) (last : List ℕ)
    → ((name : List ℕ) → Contains names name → P name) → P last → (name : List ℕ)
    → Contains (names ++ last ∷ []) name → P name
names_more P names last before here name has =
    elim (Contains-push_cases names last name has) [ inl there ↦ before name there | inr is ↦ subst P is here ]
