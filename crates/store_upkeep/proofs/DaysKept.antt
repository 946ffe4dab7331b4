-- Days are compacted, one behind the other.
use Rattle.std.proofs.Common.{◌≡◌, ◌≢◌, ◌⊎◌, ℕ, ◌≤◌, List, [], ◌∷◌, ◌++◌, inl, inr, ⊎_elim, sym, ap, subst, ◌∙◌, refl}
use Rattle.std.proofs.Common.{length}
use Rattle.std.specs.Prelude.{Contains, IsSome, IsSomeAnd, Option, None, Some}
use Rattle.std.proofs.lemmas.Bool.{false≢true}
use Rattle.std.proofs.lemmas.List.Elements.{Contains-push, Contains-push_cases}
use Rattle.disk.specs.Calls.{IsUnchanged}
use Rattle.std.specs.Option.{option_map}
use Rattle.disk.specs.Files.{File}
use Rattle.disk.specs.Memory.{shown_now}
use Rattle.disk.specs.States.{State}
use Rattle.journal.specs.Journals.{IsOnDisk, IsSound, KeepsOthers}
use Rattle.archive_text.specs.Entries.{Entry}
use Rattle.record_store.specs.Holdings.{HeldAt}
use Rattle.record_store.specs.Names.{Counts, IsSegment}
use Rattle.record_store.specs.Puts.{KeepsOrSettlesApart}
use Rattle.record_store.specs.Segments.{segment_name}
use Rattle.record_store.proofs.Drafted.{segment_no_more}
use Rattle.record_store.proofs.Leavings.{settled_shown}
use Rattle.record_store.proofs.Named.{same_or_apart}
use Rattle.store_reading.specs.Days.{IsPeriodText}
use Rattle.store_upkeep.specs.Compaction.{AreDayNames, AreListed, AreWholeAt, DayIsListed, EachHasAtMost, GoesOn}
use Rattle.store_upkeep.specs.Compaction.{HasAll, HasAtMost, IsJoinOf, IsSameApart, IsWholeDay, KeepsDamagedDays}
use Rattle.store_upkeep.specs.Compaction.{KeepsOtherFiles, KeepsSet, KeepsUnlessDayIsWhole, MayBePlaced, ShowsLess}
use Rattle.store_upkeep.specs.Compaction.{compact_draft, shown}
use Rattle.store_upkeep.specs.Whole.{IsWholeFile}
use Rattle.store_upkeep.proofs.DayJoins.{day_has, join_still, may_place}
use Rattle.store_upkeep.proofs.SameSets.{aside_set, draft_apart_name, then_set}
use Rattle.store_upkeep.proofs.Verdicts.{day_named}

no_some : (o : Option (List ℕ)) → o ≡ None → IsSome o → ⊥
no_some o none some = false≢true (subst IsSome none some)

-- ---- what is the same apart from a day

segment_apart : (day name : List ℕ) → IsSegment day name → name ≢ compact_draft
segment_apart day name segment is = draft_apart_name (inr (day, subst (IsSegment day) is segment))

pub aside_apart : (old new : State) (draft day : List ℕ) → KeepsOthers old new draft → draft ≡ compact_draft
    → IsSameApart day old new
aside_apart old new draft day others named name differs not =
    ap shown_now (others name (λ is. differs (is ∙ named)))

pub unchanged_apart : (old new : State) (day : List ℕ) → IsUnchanged old new → IsSameApart day old new
unchanged_apart old new day same name differs not = ap shown_now (same.entries name)

pub then_apart : (a b c : State) (day : List ℕ) → IsSameApart day a b → IsSameApart day b c → IsSameApart day a c
then_apart a b c day one two name differs not = two name differs not ∙ one name differs not

pub placed_apart : (old new : State) (draft joined day : List ℕ) → KeepsOrSettlesApart old new draft joined
    → draft ≡ compact_draft → IsSegment day joined → IsSameApart day old new
placed_apart old new draft joined day others named segment name differs not =
    settled_shown (old.entries name) (new.entries name)
    (others name (λ is. differs (is ∙ named)) (λ is. not (subst (IsSegment day) (sym is) segment)))

pub removed_apart : (old new : State) (day : List ℕ) (names segments : List (List ℕ)) → AreDayNames names day segments
    → ((name : List ℕ) → ¬ (Contains segments name) → shown new name ≡ shown old name) → IsSameApart day old new
removed_apart old new day names segments found others name differs not = others name (λ has. not (found.are name has))

-- ---- the files of no day, and those of damaged days

pub unchanged_files : (old new : State) → IsUnchanged old new → KeepsOtherFiles old new
unchanged_files old new same name differs not = ap shown_now (same.entries name)

pub then_files : (a b c : State) → KeepsOtherFiles a b → KeepsOtherFiles b c → KeepsOtherFiles a c
then_files a b c one two name differs not = two name differs not ∙ one name differs not

pub day_files : (old new : State) (day : List ℕ) → IsPeriodText day → IsSameApart day old new → KeepsOtherFiles old new
day_files old new day text same name differs not = same name differs (not day text)

pub unchanged_damaged : (old new : State) → IsUnchanged old new → KeepsDamagedDays old new
unchanged_damaged old new same day damaged segment is_damaged name named = ap shown_now (same.entries name)

pub then_damaged : (a b c : State) → KeepsDamagedDays a b → KeepsDamagedDays b c → KeepsDamagedDays a c
then_damaged a b c one two day damaged segment is_damaged name named =
    two day damaged segment
    (subst (λ (o : Option (List ℕ)). IsSomeAnd o (λ file. ¬ (IsWholeFile damaged file)))
    (sym (one day damaged segment is_damaged damaged segment)) is_damaged)
    name named
    ∙ one day damaged segment is_damaged name named

not_whole : (o : Option (List ℕ)) (name : List ℕ) → IsSomeAnd o (λ file. ¬ (IsWholeFile name file))
    → ((file : List ℕ) → o ≡ Some file → IsWholeFile name file) → ⊥
not_whole None name damaged whole = damaged
not_whole (Some file) name damaged whole = damaged (whole file refl)

pub day_damaged : (old new : State) (day : List ℕ) → IsSameApart day old new → KeepsUnlessDayIsWhole day old new
    → KeepsDamagedDays old new
day_damaged old new day others unless other damaged segment is_damaged name named = ⊎_elim
    (λ (is : other ≡ day). ⊎_elim
    (λ same. same name (segment_apart other name named))
    (λ whole. absurd (not_whole (shown old damaged) damaged is_damaged
    (whole damaged (subst (λ (d : List ℕ). IsSegment d damaged) is segment))))
    unless)
    (λ (differs : other ≢ day).
    others name (segment_apart other name named) (λ mine. differs (day_named other day name named mine)))
    (same_or_apart other day)

pub aside_unless : (old new : State) (draft day : List ℕ) → KeepsOthers old new draft → draft ≡ compact_draft
    → KeepsUnlessDayIsWhole day old new
aside_unless old new draft day others named =
    inl (λ name differs. ap shown_now (others name (λ is. differs (is ∙ named))))

pub unchanged_unless : (old new : State) (day : List ℕ) → IsUnchanged old new → KeepsUnlessDayIsWhole day old new
unchanged_unless old new day same = inl (λ name differs. ap shown_now (same.entries name))

-- what was listed of an unchanged disk
pub unchanged_then_unless : (a b c : State) (day : List ℕ) → IsUnchanged a b → KeepsUnlessDayIsWhole day b c
    → KeepsUnlessDayIsWhole day a c
unchanged_then_unless a b c day same (inl still) =
    inl (λ name differs. still name differs ∙ ap shown_now (same.entries name))
unchanged_then_unless a b c day same (inr whole) =
    inr (λ name segment file is. whole name segment file (ap shown_now (same.entries name) ∙ is))

pub whole_day : (state : State) (names segments : List (List ℕ)) (day : List ℕ) → AreListed state names
    → AreDayNames names day segments → AreWholeAt (shown state) segments → IsWholeDay (shown state) day
whole_day state names segments day listed found whole name segment file is =
    whole name (found.all name (listed name (subst IsSome (sym is) refl)) segment) file is

-- ---- the day that is joined

module _ (zero two three : State) (draft joined day : List ℕ) (names segments : List (List ℕ))
    (j : IsJoinOf zero two draft day segments) (apart : ¬ (Counts draft)) (before : KeepsOthers zero two draft)
    (listed : AreListed zero names) (found : AreDayNames names day segments) (segment : IsSegment day joined)
    (others : KeepsOrSettlesApart two three draft joined) where
  shown_three : (other : List ℕ) → Counts other → other ≢ joined → shown three other ≡ shown zero other
  shown_three other counts differs =
      settled_shown (two.entries other) (three.entries other)
      (others other (λ is. apart (subst Counts is counts)) differs)
      ∙ ap shown_now (before other (λ is. apart (subst Counts is counts)))

  pub has_all : IsOnDisk three joined j.text → HasAll three segments joined day j.text j.entries
  has_all on_disk = record {
    on_disk = on_disk;
    segment = segment;
    archive = j.archive;
    are = found.are;
    no_more = λ name has e held. ⊎_elim
        (λ (is : name ≡ joined). segment_no_more joined day j.text j.entries segment j.archive e
        (subst (λ (o : Option (List ℕ)). HeldAt joined o e) (ap shown_now on_disk.entry)
        (subst (λ (n : List ℕ). HeldAt n (shown three n) e) is held)))
        (λ (differs : name ≢ joined). (j.have e).1
        (day_has zero names segments day name e listed found (found.are name has)
        (subst (λ (o : Option (List ℕ)). HeldAt name o e)
        (shown_three name (inr (day, found.are name has)) differs) held)))
        (same_or_apart name joined);
  }

  module _ (four : State) (less : ShowsLess three four)
      (gone : (name : List ℕ) → Contains segments name → name ≢ joined → shown four name ≡ None) where
    none_else : (name : List ℕ) → IsSegment day name → name ≢ joined → IsSome (shown four name) → ⊥
    none_else name named differs some = ⊎_elim
        (λ (same : shown four name ≡ shown three name).
        let was = subst IsSome (same ∙ shown_three name (inr (day, named)) differs) some in
        no_some (shown four name) (gone name (found.all name (listed name was) named) differs) some)
        (λ none. no_some (shown four name) none some)
        (less name)

    pub few_left : (most : ℕ) → 1 ≤ most → HasAtMost most four day
    few_left most one = record {
      names = joined ∷ [];
      few = one;
      listed = λ name named some. ⊎_elim
          (λ (is : name ≡ joined). subst (Contains (joined ∷ [])) (sym is) (Contains-push [] joined))
          (λ differs. absurd (none_else name named differs some))
          (same_or_apart name joined);
    }

module _ (zero one two three : State) (draft joined day : List ℕ) (names segments : List (List ℕ))
    (j : IsJoinOf zero one draft day segments) (apart : ¬ (Counts draft)) (before : KeepsOthers zero one draft)
    (same : IsUnchanged one two) (listed : AreListed zero names) (found : AreDayNames names day segments)
    (segment : IsSegment day joined)
    (named : (text : List ℕ) → shown one draft ≡ Some text → joined ≡ segment_name day text) where
  before_two : KeepsOthers zero two draft
  before_two other differs = same.entries other ∙ before other differs

  now : IsJoinOf zero two draft day segments
  now = join_still zero one two draft day segments j same

  placing : MayBePlaced two draft joined day now.text now.entries
  placing =
      may_place zero two draft joined day names segments now apart before_two listed found segment
      (named now.text (ap shown_now (sym (same.entries draft))
      ∙ ap (λ (o : Option File). option_map (λ (f : File). f.shown) o) now.draft_is.now))

  module _ (set : (d text : List ℕ) (es : List Entry) → MayBePlaced two draft joined d text es → KeepsSet two three)
    where
      pub placed_three : KeepsSet zero three
      placed_three =
          then_set zero two three (aside_set zero two draft before_two apart) (set day now.text now.entries placing)

      module _ (others : KeepsOrSettlesApart two three draft joined)
          (on_disk : (d text : List ℕ) (es : List Entry) → MayBePlaced two draft joined d text es
          → IsOnDisk three joined text) where
        pub sound_three : IsSound three
        sound_three = (on_disk day now.text now.entries placing).sound

        pub removed_four : (four : State)
            → ((d text : List ℕ) (es : List Entry) → HasAll three segments joined d text es → KeepsSet three four)
            → KeepsSet zero four
        removed_four four removes =
            then_set zero three four placed_three
            (removes day now.text now.entries
            (has_all zero two three draft joined day names segments now apart before_two listed found segment others
            (on_disk day now.text now.entries placing)))

        pub few_four : (four : State) → ShowsLess three four
            → ((name : List ℕ) → Contains segments name → name ≢ joined → shown four name ≡ None) → (most : ℕ)
            → 1 ≤ most → HasAtMost most four day
        few_four four less gone most enough =
            few_left zero two three draft joined day names segments now apart before_two listed found segment others four
            less gone most enough

-- ---- the days so far

pub listed_day : (state : State) (names : List (List ℕ)) (day : List ℕ) → AreListed state names
    → DayIsListed state names day
listed_day state names day listed name named some = listed name some

pub few_listed : (most : ℕ) (state : State) (names segments : List (List ℕ)) (day : List ℕ)
    → DayIsListed state names day → AreDayNames names day segments → length segments ≤ most
    → HasAtMost most state day
few_listed most state names segments day listed found few = record {
  names = segments;
  few = few;
  listed = λ name named some. found.all name (listed name named some) named;
}

pub few_or_listed : (most : ℕ) (state : State) (names segments : List (List ℕ)) (day : List ℕ)
    → DayIsListed state names day ⊎ HasAtMost most state day → AreDayNames names day segments
    → length segments ≤ most → HasAtMost most state day
few_or_listed most state names segments day (inl listed) found few =
    few_listed most state names segments day listed found few
few_or_listed most state names segments day (inr h) found few = h

pub begins : (most : ℕ) (state : State) (names : List (List ℕ)) → IsSound state → AreListed state names
    → GoesOn most state names None
begins most state names sound listed =
    record { sound = sound; days = λ day. inl (listed_day state names day listed); last_few = tt }

pub on_with : (most : ℕ) (state : State) (names : List (List ℕ)) (last : Option (List ℕ)) (day : List ℕ)
    → GoesOn most state names last → HasAtMost most state day → GoesOn most state names (Some day)
on_with most state names last day g few = record { sound = g.sound; days = g.days; last_few = few }

module _ (most : ℕ) (old new : State) (day : List ℕ) (few : HasAtMost most new day) (others : IsSameApart day old new) where
  was_shown : (other name : List ℕ) → other ≢ day → IsSegment other name → IsSome (shown new name)
      → IsSome (shown old name)
  was_shown other name differs named some =
      subst IsSome
      (others name (segment_apart other name named) (λ mine. differs (day_named other day name named mine))) some

  pub few_still : (other : List ℕ) → HasAtMost most old other → HasAtMost most new other
  few_still other h = ⊎_elim
      (λ (is : other ≡ day). subst (HasAtMost most new) (sym is) few)
      (λ (differs : other ≢ day). record {
        names = h.names;
        few = h.few;
        listed = λ name named some. h.listed name named (was_shown other name differs named some);
      })
      (same_or_apart other day)

  pub goes_on : (names : List (List ℕ)) (last : Option (List ℕ)) → GoesOn most old names last → IsSound new
      → GoesOn most new names (Some day)
  goes_on names last g sound = record {
    sound = sound;
    days = λ other. ⊎_elim
        (λ (is : other ≡ day). inr (subst (HasAtMost most new) (sym is) few))
        (λ (differs : other ≢ day). ⊎_elim
        (λ listed. inl (λ name named some. listed name named (was_shown other name differs named some)))
        (λ h. inr (few_still other h))
        (g.days other))
        (same_or_apart other day);
    last_few = few;
  }

pub few_last : (most : ℕ) (state : State) (names : List (List ℕ)) (last : Option (List ℕ)) (day : List ℕ)
    → GoesOn most state names last → last ≡ Some day → HasAtMost most state day
few_last most state names last day g is = (subst (GoesOn most state names) is g).last_few

pub few_named : (most : ℕ) (state : State) (day other name : List ℕ) → HasAtMost most state day → IsSegment day name
    → IsSegment other name → HasAtMost most state other
few_named most state day other name few segment named =
    subst (HasAtMost most state) (day_named day other name segment named) few

pub few_more : (most : ℕ) (state : State) (names : List (List ℕ)) (last : List ℕ)
    → ((day name : List ℕ) → Contains names name → IsPeriodText day → IsSegment day name → HasAtMost most state day)
    → ((day : List ℕ) → IsPeriodText day → IsSegment day last → HasAtMost most state day)
    → (day name : List ℕ) → Contains (names ++ last ∷ []) name → IsPeriodText day → IsSegment day name
    → HasAtMost most state day
few_more most state names last before here day name has text segment = ⊎_elim
    (λ there. before day name there text segment)
    (λ is. here day text (subst (IsSegment day) (sym is) segment))
    (Contains-push_cases names last name has)

pub each_few : (most : ℕ) (state : State) (names : List (List ℕ)) (last : Option (List ℕ)) → GoesOn most state names last
    → ((day name : List ℕ) → Contains names name → IsPeriodText day → IsSegment day name → HasAtMost most state day)
    → EachHasAtMost most state
each_few most state names last g few day name text segment some = ⊎_elim
    (λ listed. few day name (listed name segment some) text segment)
    (λ h. h)
    (g.days day)
