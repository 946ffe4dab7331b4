-- The segments of a day are joined into a draft.
use Rattle.std.proofs.Common.{◌≡◌, ℕ, Bool, List, [], ◌∷◌, ◌++◌, inl, inr, refl, sym, ap, subst, ◌∙◌}
use Rattle.std.proofs.Common.{append-nil, arith, length}
use Rattle.std.specs.Prelude.{◌↔◌, ◌≤◌, Contains, Err, IfOk, IsSome, IsSomeAnd, Ok, OnOk, Option, None, Result, Some}
use Rattle.std.specs.Prelude.{codes}
use Rattle.std.specs.Io.KnownBytes.{Appends}
use Rattle.std.specs.Option.{option_map}
use Rattle.std.proofs.lemmas.List.Elements.{Contains-append_left, Contains-push, Contains-push_cases}
use Rattle.disk.specs.Calls.{IsUnchanged}
use Rattle.disk.specs.Files.{File, settled}
use Rattle.disk.specs.Memory.{shown_now}
use Rattle.disk.specs.States.{Entry as DiskEntry, Files, State}
use Rattle.hex.specs.Hex.{encode_lower}
use Rattle.sha2.specs.Sha256.{sha256}
use Rattle.journal.specs.Journals.{KeepsOthers, Shows}
use Rattle.octet_devices.specs.Device.{InputState}
use Rattle.archive_text.specs.Entries.{Entry, Has, IsEntry}
use Rattle.archive_text.specs.Text.{entry_text, text_of}
use Rattle.archive_text.specs.declared.limits.TheConstants.{ENTRY_MAX}
use Rattle.archive_text.proofs.Members.{of_all, of_member}
use Rattle.archive_text.proofs.Texts.{same_text}
use Rattle.archive_streams.specs.Entries.{IsWhole}
use Rattle.archive_join.specs.Inputs.{AreWhole}
use Rattle.archive_join.specs.Holders.{IsHeld, kept_text}
use Rattle.archive_join.specs.Joined.{Joined}
use Rattle.record_store.specs.Holdings.{HeldAt, IsOfPeriod, SegmentHas}
use Rattle.record_store.specs.Names.{Counts, IsSegment}
use Rattle.record_store.specs.Segments.{IsSegmentOf, segment_name}
use Rattle.record_store.proofs.Folders.{held_counts}
use Rattle.record_store.proofs.Named.{not_both}
use Rattle.store_reading.specs.Folders.{IsUnused, Opens}
use Rattle.store_reading.specs.Segments.{AreArchives, AreSegmentsOf, IsArchiveInput, IsHashed, IsSegmentInput, NamesHave}
use Rattle.store_reading.proofs.Held.{segment_held, no_name}
use Rattle.store_reading.proofs.Joined.{rest_of, whole_rest}
use Rattle.store_reading.specs.Damages.{OfLeft}
use Rattle.store_reading.proofs.Damaged.{file_is}
use Rattle.store_reading.proofs.Segments.{segment_input}
use Rattle.store_upkeep.specs.Compaction.{AreDayNames, AreListed, IsJoinOf, MayBePlaced, shown}
use Rattle.store_reading.specs.Whole.{IsWholeSegment}
use Rattle.store_upkeep.specs.Whole.{IsWholeAt}
use Rattle.store_upkeep.proofs.Verdicts.{day_named}

-- ---- names

pub some_now : (o : Option File) → IsSome (option_map (λ (f : File). f.shown) o) → IsSome o
some_now None some = some
some_now (Some file) some = refl

pub day_names_none : (day : List ℕ) → AreDayNames [] day []
day_names_none day = record {
  are = λ name has. absurd (no_name (λ (n : List ℕ). Unit {0}) (name, has, tt));
  all = λ name has segment. absurd (no_name (λ (n : List ℕ). Unit {0}) (name, has, tt));
}

pub day_names_other : (names found : List (List ℕ)) (last day : List ℕ) → AreDayNames names day found
    → ¬ (IsSegment day last) → AreDayNames (names ++ last ∷ []) day found
day_names_other names found last day a not = record {
  are = a.are;
  all = λ name has segment. elim (Contains-push_cases names last name has) [
    | inl before ↦ a.all name before segment
    | inr is ↦ absurd (not (subst (IsSegment day) (sym is) segment))
  ];
}

pub day_names_more : (names found : List (List ℕ)) (last day : List ℕ) → AreDayNames names day found
    → IsSegment day last → AreDayNames (names ++ last ∷ []) day (found ++ last ∷ [])
day_names_more names found last day a segment = record {
  are = λ name has. elim (Contains-push_cases found last name has) [
    | inl before ↦ a.are name before
    | inr is ↦ subst (IsSegment day) is segment
  ];
  all = λ name has named. elim (Contains-push_cases names last name has) [
    | inl before ↦ Contains-append_left found (last ∷ []) name (a.all name before named)
    | inr is ↦ subst (Contains (found ++ last ∷ [])) is (Contains-push found last)
  ];
}

-- ---- a segment is opened

-- what is opened of a file that is shown still
opens_at : (one two : Files) (name : List ℕ) (d : InputState) → two name ≡ one name → Opens two name d
    → Opens one name d
opens_at one two name d same opened =
    subst (λ (o : Option (List ℕ)). IsSomeAnd o (λ octets. d.left ≡ Some octets)) same opened

pub opens_still : (old new : State) (name : List ℕ) (d : InputState) → IsUnchanged old new
    → Opens (shown new) name d → Opens (shown old) name d
opens_still old new name d same opened =
    opens_at (shown old) (shown new) name d (ap shown_now (same.entries name)) opened

pub input_result : {F E : Type 0} (state : F → InputState) (old mid : State) (name day : List ℕ) (d : InputState)
    (r : Result F E) → IsUnchanged old mid → Opens (shown old) name d → OfLeft d (IsWholeSegment day name)
    → IfOk r (λ file. Opens (shown mid) name (state file)) → IfOk r (λ file. IsUnused (state file))
    → IfOk r (λ file. IsSegmentInput (shown old) name day (state file))
input_result state old mid name day d (Err e) same opened whole again unused = tt
input_result state old mid name day d (Ok file) same opened whole again unused =
    segment_input (shown old) name day d (state file) opened whole (opens_still old mid name (state file) same again) unused

pub input_still : (old new : State) (name day : List ℕ) (d : InputState) → IsUnchanged old new
    → IsSegmentInput (shown new) name day d → IsSegmentInput (shown old) name day d
input_still old new name day d same i = record {
  entries = i.entries;
  input = i.input;
  file = sym (ap shown_now (same.entries name)) ∙ i.file;
  days = i.days;
  named = i.named;
}

-- what is whole of a file that is shown still
pub whole_still : (old new : State) (name : List ℕ) → IsUnchanged old new → IsWholeAt (shown new) name
    → IsWholeAt (shown old) name
whole_still old new name same whole file is = whole file (ap shown_now (same.entries name) ∙ is)

-- what is so whatever a call gave
pub on_ok : {F E : Type 0} (r : Result F E) (P : Type 0) → P → OnOk r P
on_ok (Ok x) P p = p
on_ok (Err e) P p = tt

-- ---- what was written

whole_is : (d e : InputState) (xs ys : List Entry) → IsArchiveInput d xs → IsWhole d e ys → ys ≡ xs
whole_is d e xs ys i w =
    let r = rest_of d.left e.left (text_of ys) (text_of xs) w.consumed i.left in
    let none = whole_rest e.left r.0 r.1 w.none_left in
    same_text ENTRY_MAX ENTRY_MAX ys xs (omega arith) (omega arith) w.archive i.archive
    (sym (r.2 ∙ ap (λ (t : List ℕ). text_of ys ++ t) none ∙ append-nil (text_of ys)))

wholes_are : (ds es : List InputState) (xss yss : List (List Entry)) → AreArchives ds xss → AreWhole ds es yss
    → yss ≡ xss
wholes_are [] [] [] [] a w = refl
wholes_are [] [] [] (ys ∷ yss) a w = absurd w
wholes_are [] [] (xs ∷ xss) yss a w = absurd a
wholes_are [] (e ∷ es) xss yss a w = absurd w
wholes_are (d ∷ ds) [] xss yss a w = absurd w
wholes_are (d ∷ ds) (e ∷ es) [] yss a w = absurd a
wholes_are (d ∷ ds) (e ∷ es) (xs ∷ xss) [] a w = absurd w
wholes_are (d ∷ ds) (e ∷ es) (xs ∷ xss) (ys ∷ yss) a w =
    ap (λ (zs : List Entry). zs ∷ yss) (whole_is d e xs ys a.0 w.0)
    ∙ ap (λ (zss : List (List Entry)). xs ∷ zss) (wholes_are ds es xss yss a.1 w.1)

union_text : (xss : List (List Entry)) (ys : List Entry)
    → kept_text (λ (have : List Bool) (e : Entry). entry_text e) xss ys ≡ text_of ys
union_text xss [] = refl
union_text xss (y ∷ ys) = ap (λ (s : List ℕ). entry_text y ++ s) (union_text xss ys)

appended_is : (new : Option (List ℕ)) (text : List ℕ) → Appends (Some []) new text → new ≡ Some text
appended_is None text h = absurd h
appended_is (Some octets) text h = ap (λ (l : List ℕ). Some l) h

of_file : (o : Option (List ℕ)) (day : List ℕ) (e : Entry) → IsSomeAnd o (λ file. SegmentHas day file e)
    → (file : List ℕ) × SegmentHas day file e
of_file None day e h = absurd h
of_file (Some file) day e h = (file, h)

has_file : (files : Files) (names : List (List ℕ)) (day : List ℕ) (e : Entry) → NamesHave files names day e
    → (file : List ℕ) × SegmentHas day file e
has_file files names day e (name, there, (segment, some)) = of_file (files name) day e some

abbrev pub keeps_all : List Bool → Type 0
keeps_all have = Unit {0}

abbrev pub union_texts : List Bool → Entry → List ℕ
union_texts have e = entry_text e

pub record IsUnionText (files : Files) (names : List (List ℕ)) (day : List ℕ) (taken : Option (List ℕ)) : Type 0 where
  pub entries : List Entry
  pub archive : IsSegmentOf day (text_of entries) entries
  pub written : taken ≡ Some (text_of entries)
  pub have : (e : Entry) → Has entries e ↔ NamesHave files names day e

pub union_written : (files : Files) (names : List (List ℕ)) (day : List ℕ) (ds es : List InputState)
    (old new : Option (List ℕ)) (n : ℕ) → AreSegmentsOf files names day ds → old ≡ Some []
    → Joined keeps_all union_texts ds es old new n → IsUnionText files names day new
union_written files names day ds es old new n s empty j = record {
  entries = j.ys;
  archive = record {
    archive = record {
      ascending = j.kept.ascending;
      entries = of_all IsEntry j.ys
          (λ e h. let f = found e h in of_member IsEntry f.1.entries e f.1.archive.entries f.1.has);
      fits = of_all (λ (e : Entry). length e.octets ≤ ENTRY_MAX) j.ys
          (λ e h. let f = found e h in
          of_member (λ (x : Entry). length x.octets ≤ ENTRY_MAX) f.1.entries e f.1.archive.fits f.1.has);
    };
    text_is = refl;
    days = of_all (IsOfPeriod day) j.ys (λ e h. let f = found e h in of_member (IsOfPeriod day) f.1.entries e f.1.days f.1.has);
  };
  written = appended_is new (text_of j.ys)
      (subst (λ (o : Option (List ℕ)). Appends o new (text_of j.ys)) empty
      (subst (Appends old new) (union_text j.xss j.ys) j.written));
  have = have;
}
  where
    same : j.xss ≡ s.entries
    same = wholes_are ds es s.entries j.xss s.inputs j.whole

    have : (e : Entry) → Has j.ys e ↔ NamesHave files names day e
    have e = (
      λ h. (s.have e).0 (subst (λ (zss : List (List Entry)). IsHeld zss e) same ((j.kept.members e).0 h).0),
      λ h. (j.kept.members e).1
          (subst (λ (zss : List (List Entry)). IsHeld zss e) (sym same) ((s.have e).1 h), tt),
    )

    found : (e : Entry) → Has j.ys e → (file : List ℕ) × SegmentHas day file e
    found e h = has_file files names day e ((have e).0 h)

-- what was written is on the disk
pub is_join : (old new : State) (draft day : List ℕ) (names : List (List ℕ)) (taken : Option (List ℕ))
    → IsUnionText (shown old) names day taken
    → ((text : List ℕ) → taken ≡ Some text → Shows new draft (settled text))
    → IsJoinOf old new draft day names
is_join old new draft day names taken u settles = record {
  text = text_of u.entries;
  entries = u.entries;
  draft_is = settles (text_of u.entries) u.written;
  archive = u.archive;
  have = u.have;
}

-- only the draft has changed
pub others_then : (a b c d : State) (name : List ℕ) → IsUnchanged a b → KeepsOthers b c name → KeepsOthers c d name
    → KeepsOthers a d name
others_then a b c d name same one two other apart = two other apart ∙ one other apart ∙ same.entries other

-- nothing has changed since
pub join_still : (old mid new : State) (draft day : List ℕ) (names : List (List ℕ)) → IsJoinOf old mid draft day names
    → IsUnchanged mid new → IsJoinOf old new draft day names
join_still old mid new draft day names j same = record {
  text = j.text;
  entries = j.entries;
  draft_is = record {
    now = ap (λ (e : DiskEntry). e.now) (same.entries draft) ∙ j.draft_is.now;
    sound = same.lost ∙ j.draft_is.sound;
  };
  archive = j.archive;
  have = j.have;
}

-- ---- the draft's name

name_at : (files : Files) (draft day : List ℕ) (d e : InputState) (hex name text : List ℕ) (o : Option (List ℕ))
    → files draft ≡ o → IsSomeAnd o (λ octets. d.left ≡ Some octets) → IsHashed day d e hex
    → name ≡ day ++ 46 ∷ hex ++ codes ".archive" → files draft ≡ Some text → name ≡ segment_name day text
name_at files draft day d e hex name text None none opened h named is = absurd opened
name_at files draft day d e hex name text (Some file) there opened h named is =
    let both : Some file ≡ Some text = sym there ∙ is in
    let same : file ≡ text = cc both in
    let left : d.left ≡ Some text = opened ∙ ap (λ (l : List ℕ). Some l) same in
    named
    ∙ ap (λ (l : List ℕ). day ++ 46 ∷ l ++ codes ".archive")
    (h.digest ∙ ap (λ (t : List ℕ). encode_lower (sha256 t)) (sym (file_is day d e text h.segment left)))

pub name_of_text : (files : Files) (draft day : List ℕ) (d e : InputState) (hex name text : List ℕ)
    → Opens files draft d → IsHashed day d e hex → name ≡ day ++ 46 ∷ hex ++ codes ".archive"
    → files draft ≡ Some text → name ≡ segment_name day text
name_of_text files draft day d e hex name text opened h named is =
    name_at files draft day d e hex name text (files draft) refl opened h named is

-- ---- the joined segment may get its name

some_of : (o : Option (List ℕ)) (P : List ℕ → Type 0) → IsSomeAnd o P → IsSome o
some_of None P h = absurd h
some_of (Some x) P h = refl

segment_in : (name day : List ℕ) (o : Option (List ℕ)) (e : Entry) → IsSegment day name → HeldAt name o e
    → IsSomeAnd o (λ file. SegmentHas day file e)
segment_in name day None e segment held = absurd held
segment_in name day (Some file) e segment (inl journal) = absurd (not_both day name journal.0 segment)
segment_in name day (Some file) e segment (inr (other, named, has)) =
    subst (λ (d : List ℕ). SegmentHas d file e) (day_named other day name named segment) has

-- what a read shows under the name of a segment is of its day's segments
pub day_has : (state : State) (names segments : List (List ℕ)) (day name : List ℕ) (e : Entry)
    → AreListed state names → AreDayNames names day segments → IsSegment day name
    → HeldAt name (shown state name) e → NamesHave (shown state) segments day e
day_has state names segments day name e listed found segment held =
    let some = segment_in name day (shown state name) e segment held in (
      name,
      found.all name (listed name (some_of (shown state name) (λ file. SegmentHas day file e) some)) segment,
      (segment, some),
    )

pub may_place : (old mid : State) (draft name day : List ℕ) (names segments : List (List ℕ))
    (j : IsJoinOf old mid draft day segments) → ¬ (Counts draft) → KeepsOthers old mid draft → AreListed old names
    → AreDayNames names day segments → IsSegment day name → name ≡ segment_name day j.text
    → MayBePlaced mid draft name day j.text j.entries
may_place old mid draft name day names segments j apart others listed found segment named = record {
  draft_is = j.draft_is;
  apart = apart;
  segment = segment;
  named = named;
  archive = j.archive;
  no_more = λ e held. (j.have e).1
      (day_has old names segments day name e listed found segment
      (subst (λ (o : Option (List ℕ)). HeldAt name o e) (same name (inr (day, segment))) held));
  held = λ e has.
      let h = (j.have e).0 has in
      let old_held = segment_held (shown old) day e (h.0, h.2) in
      record {
        name = old_held.name;
        at = subst (λ (o : Option (List ℕ)). HeldAt old_held.name o e)
            (sym (same old_held.name (held_counts old_held.name (shown old old_held.name) e old_held.at)))
            old_held.at;
      };
}
  where
    same : (other : List ℕ) → Counts other → shown mid other ≡ shown old other
    same other counts = ap shown_now (others other (λ is. apart (subst Counts is counts)))
