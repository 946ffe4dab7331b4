-- A folder is read day by day.
use Rattle.std.proofs.Common.{◌≡◌, ℕ, List, [], ◌∷◌, ◌++◌, Option, None, Some, take, drop, inl, inr, refl, sym}
use Rattle.std.proofs.Common.{ap, subst, ◌∙◌}
use Rattle.std.proofs.Common.{append_assoc, append-nil}
use Rattle.std.specs.List.{AllByRecursion}
use Rattle.std.specs.Prelude.{◌↔◌, IfSome, IsSomeAnd}
use denote.Bor.{Bor}
use Rattle.std.specs.Option.{option_copied, option_map}
use Rattle.std.proofs.KnownBytes.{Appends-nil}
use Rattle.disk.specs.States.{Files}
use Rattle.archive_text.specs.Entries.{Entry, Has}
use Rattle.archive_text.specs.Text.{IsArchive, text_of}
use Rattle.archive_text.specs.declared.limits.TheConstants.{ENTRY_MAX}
use Rattle.archive_text.proofs.Ascending.{archive_left, archive_right}
use Rattle.archive_sets.specs.declared.range.InRange.{InRange}
use Rattle.store_reading.specs.Days.{IsAfter, IsDayBelow, IsOf}
use Rattle.store_reading.specs.Folders.{AreNamesOf}
use Rattle.store_reading.specs.Journals.{IsOfMemory, MemoryHas}
use Rattle.store_reading.specs.Names.{IsFirstDay, IsNextDay}
use Rattle.store_reading.specs.Parts.{IsParted, PartsAt}
use Rattle.store_reading.specs.Sets.{IsArchiveText, WritesDay, WritesDays, WritesPart, WritesPartOfDay, WritesSet}
use Rattle.store_reading.proofs.DayOrders.{day_text, some_day}
use Rattle.store_reading.proofs.NextDays.{HeadAfter, head_after}
use Rattle.store_reading.proofs.Written.{NoneBefore, all_written, day_stopped, day_written, days_cut, nothing_written}

-- the days up to the last one were written, and this is the text of the journals' entries behind them
pub record AreRead (files : Files) (range : InRange) (last : Option (List ℕ)) (rest : List ℕ)
    (old new : Option (List ℕ)) : Type 0 where
  pub js : List Entry
  pub more : List Entry
  pub archive : IsArchive ENTRY_MAX (js ++ more)
  pub have : (e : Entry) → Has (js ++ more) e ↔ MemoryHas files range e
  pub rest_is : rest ≡ text_of more
  pub head : HeadAfter last more
  pub writes : WritesDays files range last js old new

head_first : (es : List Entry) → HeadAfter None es
head_first [] = tt
head_first (e ∷ es) = λ day of. tt

pub begun : (files : Files) (range : InRange) (text : List ℕ) (old : Option (List ℕ)) → IsOfMemory files range text
    → AreRead files range None text old old
begun files range text old j = record {
  js = [];
  more = j.entries;
  archive = j.archive;
  have = j.have;
  rest_is = j.text_is;
  head = head_first j.entries;
  writes = nothing_written files range old;
}

pub some_not : (found : Option (List ℕ)) (d day : List ℕ) → found ≡ Some day
    → IsSomeAnd found (λ (x : List ℕ). ¬ (IsDayBelow d x))
    → ¬ (IsDayBelow d day)
some_not found d day is h = subst (λ (o : Option (List ℕ)). IsSomeAnd o (λ (x : List ℕ). ¬ (IsDayBelow d x))) is h

module _ (files : Files) (range : InRange) (last : Option (List ℕ)) (names : List (List ℕ)) (rest : List ℕ)
    (old mid : Option (List ℕ)) (r : AreRead files range last rest old mid) (listed : AreNamesOf files names)
    (found : Option (List ℕ)) (n : IsNextDay last names rest found) where
  behind_archive : IsArchive ENTRY_MAX r.more
  behind_archive = archive_right ENTRY_MAX r.js r.more r.archive

  no_more : (more : List Entry) → more ≡ r.more → found ≡ None → more ≡ []
  no_more [] is none = refl
  no_more (e ∷ more) is none = absurd (go (some_day e archive.entries.0))
    where
      archive : IsArchive ENTRY_MAX (e ∷ more)
      archive = subst (IsArchive ENTRY_MAX) (sym is) behind_archive

      heads : HeadAfter last (e ∷ more)
      heads = subst (HeadAfter last) (sym is) r.head

      go : (d : List ℕ) × IsOf d e → ⊥
      go (d, of) =
          subst (λ (o : Option (List ℕ)). IsSomeAnd o (λ (x : List ℕ). ¬ (IsDayBelow d x))) none
          (n.none_before d (day_text d e of) (inr (e, more, archive, r.rest_is ∙ ap text_of (sym is), of)) (heads d of))

  -- all was written where there is no further day
  pub read_all : found ≡ None → WritesSet files range old mid
  read_all none =
      let whole : r.js ++ r.more ≡ r.js =
      ap (λ (l : List Entry). r.js ++ l) (no_more r.more refl none) ∙ append-nil r.js in
      all_written files range last names r.js old mid r.writes
      (λ e. subst (λ (l : List Entry). Has l e ↔ MemoryHas files range e) whole (r.have e)) listed
      (λ d text have behind. subst (λ (o : Option (List ℕ)). IsSomeAnd o (λ (x : List ℕ). ¬ (IsDayBelow d x))) none
      (n.none_before d text (inl have) behind))

  module _ (day : List ℕ) (found_is : found ≡ Some day) (at : ℕ) (parts : PartsAt day rest at) where
    after : IsAfter last day
    after = subst (λ (o : Option (List ℕ)). IfSome o (IsAfter last)) found_is n.behind

    none_before : NoneBefore last names day
    none_before d text have behind = some_not found d day found_is (n.none_before d text (inl have) behind)

    p : IsParted day rest r.more at
    p = parts r.more behind_archive r.rest_is

    whole : r.js ++ r.more ≡ r.js ++ (p.front ++ p.back)
    whole = ap (λ (l : List Entry). r.js ++ l) p.parts

    archive : IsArchive ENTRY_MAX (r.js ++ (p.front ++ p.back))
    archive = subst (IsArchive ENTRY_MAX) whole r.archive

    have : (e : Entry) → Has (r.js ++ (p.front ++ p.back)) e ↔ MemoryHas files range e
    have e = subst (λ (l : List Entry). Has l e ↔ MemoryHas files range e) whole (r.have e)

    not_first : (d : List ℕ) → IsFirstDay rest d → IsAfter last d → ¬ (IsDayBelow d day)
    not_first d (e, es, up, is, of) behind =
        some_not found d day found_is (n.none_before d (day_text d e of) (inr (e, es, up, is, of)) behind)

    head : HeadAfter (Some day) p.back
    head = head_after last day rest p.front p.back (archive_right ENTRY_MAX r.js (p.front ++ p.back) archive)
        (r.rest_is ∙ ap text_of p.parts) p.days p.elsewhere (subst (HeadAfter last) p.parts r.head) not_first

    -- the entries of the journals that are of the day
    front_archive : IsArchive ENTRY_MAX p.front
    front_archive = archive_left ENTRY_MAX p.front p.back (archive_right ENTRY_MAX r.js (p.front ++ p.back) archive)

    -- one day more was written
    pub read_more : (text behind : List ℕ) (new : Option (List ℕ)) → text ≡ take at rest → behind ≡ drop at rest
        → ((xs : List Entry) → IsArchive ENTRY_MAX xs → text ≡ text_of xs
        → AllByRecursion (IsOf day) xs → WritesDay files range day xs mid new)
        → AreRead files range (Some day) behind old new
    read_more text behind new text_is behind_is writes =
        let joined : r.js ++ (p.front ++ p.back) ≡ (r.js ++ p.front) ++ p.back = sym
        (append_assoc r.js p.front p.back) in
        record {
          js = r.js ++ p.front;
          more = p.back;
          archive = subst (IsArchive ENTRY_MAX) joined archive;
          have = λ e. subst (λ (l : List Entry). Has l e ↔ MemoryHas files range e) joined (have e);
          rest_is = behind_is ∙ p.rest;
          head = head;
          writes = day_written files range last names day r.js p.front old mid r.writes p.days after none_before
              listed new
              (writes p.front front_archive (text_is ∙ p.first) p.days);
        }

    -- or not all of it was
    pub read_part : (text : List ℕ) (new : Option (List ℕ)) → text ≡ take at rest
        → ((xs : List Entry) → IsArchive ENTRY_MAX xs → text ≡ text_of xs
        → AllByRecursion (IsOf day) xs → WritesPartOfDay files range day xs mid new)
        → WritesPart files range old new
    read_part text new text_is writes =
        day_stopped files range last names day r.js p.front old mid r.writes p.days after none_before listed p.back
        archive
        have head new (writes p.front front_archive (text_is ∙ p.first) p.days)

-- the days do not end
pub read_cut : (files : Files) (range : InRange) (last : Option (List ℕ)) (rest : List ℕ) (old new : Option (List ℕ))
    → AreRead files range last rest old new → WritesPart files range old new
read_cut files range last rest old new r =
    days_cut files range last r.js r.more old new r.writes r.archive r.have r.head

-- the day's part of the journals' entries
pub part_archive : (files : Files) (range : InRange) (last : Option (List ℕ)) (rest : List ℕ) (old new : Option (List ℕ))
    → AreRead files range last rest old new → (day : List ℕ) (at : ℕ) (text : List ℕ) → PartsAt day rest at
    → text ≡ take at rest → IsArchiveText text
part_archive files range last rest old new r day at text parts is =
    let archive = archive_right ENTRY_MAX r.js r.more r.archive in
    let p = parts r.more archive r.rest_is in
    (p.front, archive_left ENTRY_MAX p.front p.back (subst (IsArchive ENTRY_MAX) p.parts archive), is ∙ p.first)

-- before anything was written
pub nothing_part : (files : Files) (range : InRange) (old : Option (List ℕ)) → WritesPart files range old old
nothing_part files range old = record { part = []; written = Appends-nil old; begins = λ es set. (text_of es, refl) }

-- a day that is lent
pub copied_is : {T : Type 0} (o : Option (Bor T)) → option_map (λ d. d.now) o ≡ option_copied o
copied_is None = refl
copied_is (Some d) = refl
