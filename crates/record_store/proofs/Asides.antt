-- Octets are set aside.
use Rattle.std.proofs.Common.{◌≡◌, ◌≢◌, ◌⊎◌, inl, inr, ⊎_elim, ℕ, ◌<◌, ◌≤◌, ◌^◌, List, [], ◌++◌, length, get_or}
use Rattle.std.proofs.Common.{refl, sym, ap, subst, ◌∙◌, arith, length-append}
use Rattle.std.specs.Prelude.{IsNone, IsSome, None, Option, Some, codes}
use Rattle.std.specs.Option.{option_map}
use Rattle.disk.specs.Calls.{ChangesFile, CreatesFile, IsUnchanged}
use Rattle.disk.specs.Files.{File, appended, settled}
use Rattle.disk.specs.Memory.{shown_now}
use Rattle.disk.specs.States.{Entry as DiskEntry, NameMayLeave, State, kept}
use Rattle.journal.specs.Journals.{IsOnDisk, IsSound, KeepsOrSettlesOthers, KeepsOthers, Shows, only_file}
use Rattle.archive_text.specs.Entries.{Entry, Has}
use Rattle.record_store.specs.Asides.{IsAside, KeepsOrSettlesCounted, KeepsOrSettlesFiles, ShowsOrNone, WritesBehind}
use Rattle.record_store.specs.Asides.{aside_name}
use Rattle.record_store.specs.Causes.{ShowsTooLong}
use Rattle.record_store.specs.Crashes.{Keeps}
use Rattle.record_store.specs.Names.{Counts, IsJournal, IsSegment, journal_name}
use Rattle.record_store.specs.Shown.{GivesNewest, IsNewestShown, journal_shown}
use Rattle.record_store.proofs.Anew.{append_shown}
use Rattle.record_store.proofs.Covering.{covers_keeps, less_covers}
use Rattle.record_store.proofs.Drafted.{shows_of}
use Rattle.record_store.proofs.Folders.{nothing}
use Rattle.record_store.proofs.Leavings.{settled_may, settled_shown}
use Rattle.record_store.proofs.Named.{journal_length, segment_long}
use Rattle.record_store.proofs.Showing.{newest_on}

-- ---- the name counts for nothing

pub aside_no_journal : (n : ℕ) → ¬ (IsJournal (aside_name n))
aside_no_journal n journal = omega (arith, ap (λ (l : List ℕ). get_or l 0 0) journal.name_is)

aside_no_segment : (n : ℕ) → n < 2 ^ 64 → (day : List ℕ) → ¬ (IsSegment day (aside_name n))
aside_no_segment n small day segment =
    omega (
      arith,
      segment_long day (aside_name n) segment,
      journal_length n small,
      length-append (codes "damaged.") (journal_name n),
    )

pub aside_apart : (n : ℕ) → n < 2 ^ 64 → ¬ (Counts (aside_name n))
aside_apart n small (inl journal) = aside_no_journal n journal
aside_apart n small (inr (day, segment)) = aside_no_segment n small day segment

pub others_counted : (old new : State) (n : ℕ) → n < 2 ^ 64 → KeepsOrSettlesOthers old new (aside_name n)
    → KeepsOrSettlesCounted old new
others_counted old new n small others name counts =
    others name (λ is. aside_apart n small (subst Counts is counts))

-- ---- there is a file

some_file : (now : Option File) → IsSome now → (file : File) × (now ≡ Some file)
some_file None some = absurd (cc some)
some_file (Some file) some = (file, refl)

abbrev pub HasOrMakes : State → State → List ℕ → Type 0
HasOrMakes old new name =
    (before : List ℕ) × ShowsOrNone old name before × (shown_now (new.entries name) ≡ Some before)

pub made_shows : (old new : State) (name : List ℕ) → CreatesFile old new name → HasOrMakes old new name
made_shows old new name made =
    ([], inr (ap (option_map (λ (f : File). f.shown)) made.none, refl), ap shown_now made.entry.here)

pub there_shows : (old new : State) (name : List ℕ) → IsUnchanged old new ⊎ CreatesFile old new name
    → IsSome (old.entries name).now → HasOrMakes old new name
there_shows old new name (inl same) some =
    let file = some_file (old.entries name).now some in
    let shown : shown_now (old.entries name) ≡ Some file.0.shown =
    ap (option_map (λ (f : File). f.shown)) file.1 in
    (file.0.shown, inl shown, ap shown_now (same.entries name) ∙ shown)
there_shows old new name (inr made) some =
    let file = some_file (old.entries name).now some in absurd (cc (made.none, file.1))

-- a file that is shown is not missing
pub shown_there : (state : State) (name before : List ℕ) → shown_now (state.entries name) ≡ Some before
    → ¬ (IsNone (state.entries name).now)
shown_there state name before shown none = of (state.entries name).now shown none
  where
    of : (now : Option File) → option_map (λ (f : File). f.shown) now ≡ Some before → IsNone now → ⊥
    of None is none = absurd (cc is)
    of (Some file) is none = absurd (cc none)

-- ---- octets are written behind what is shown

pub written_behind : (zero one two : State) (name octets : List ℕ) → HasOrMakes zero one name → ChangesFile one two name (appended octets)
    → WritesBehind zero two name octets
written_behind zero one two name octets (before, was, shown) changes = record {
  before = before;
  was = was;
  now = append_shown one two name before octets shown changes;
}

pub behind_aside : (zero one two : State) (name octets : List ℕ) → WritesBehind zero one name octets → IsSound one
    → ((file : File) → Shows one name file → IsOnDisk two name file.shown) → IsAside zero two name octets
behind_aside zero one two name octets w sound on_disk =
    let file = shows_of one name (w.before ++ octets) w.now sound in
    record { before = w.before; was = w.was; now = subst (IsOnDisk two name) file.2 (on_disk file.0 file.1) }

-- ---- what counts is as it was

module _ (old new : State) (counted : KeepsOrSettlesCounted old new) where
  pub counted_keeps : (committed received : List Entry) → Keeps old committed received → Keeps new committed received
  counted_keeps committed received keeps =
      covers_keeps old new nothing
      (less_covers old new nothing
      (λ name counts octets may. settled_may (old.entries name) (new.entries name) octets (counted name counts) may))
      committed received (λ e none. absurd none) keeps

  pub counted_shown : (n : ℕ) → n < 2 ^ 64 → journal_shown new n ≡ journal_shown old n
  counted_shown n small =
      settled_shown (old.entries (journal_name n)) (new.entries (journal_name n))
      (counted (journal_name n) (inl (record { number = n; small = small; name_is = refl })))

-- ---- the same journals are shown

module _ (old new : State) (same : (n : ℕ) → n < 2 ^ 64 → journal_shown new n ≡ journal_shown old n) where
  pub newest_before : (number : ℕ) (octets : List ℕ) → IsNewestShown new number octets → IsNewestShown old number octets
  newest_before number octets newest = newest_on new old number octets (λ n small. sym (same n small)) newest

  pub gives_shown_before : (number : ℕ) (text : List ℕ) → GivesNewest new number text → GivesNewest old number text
  gives_shown_before number text (inl gives) = inl (record {
    octets = gives.octets;
    newest = newest_before number gives.octets gives.newest;
    bodies = gives.bodies;
    has = gives.has;
    text_is = gives.text_is;
  })
  gives_shown_before number text (inr none) = inr ((λ n small. sym (same n small) ∙ none.0 n small), none.1, none.2)

  pub too_long_before : ShowsTooLong new → ShowsTooLong old
  too_long_before long = record {
    number = long.number;
    octets = long.octets;
    small = long.small;
    shown = sym (same long.number long.small) ∙ long.shown;
    long = long.long;
  }

-- ---- files that are no journals

pub others_then : (zero one two : State) (name : List ℕ) → KeepsOrSettlesOthers zero one name → KeepsOthers one two name
    → KeepsOrSettlesOthers zero two name
others_then zero one two name settles others other apart = ⊎_elim
    (λ same. inl (others other apart ∙ same))
    (λ on_disk. inr (others other apart ∙ on_disk))
    (settles other apart)

pub others_files : (old new : State) (name : List ℕ) → IsJournal name → KeepsOrSettlesOthers old new name
    → KeepsOrSettlesFiles old new
others_files old new name journal others other apart =
    others other (λ is. apart (subst IsJournal (sym is) journal))

pub named_journal : (n : ℕ) (name : List ℕ) → n < 2 ^ 64 → name ≡ journal_name n → IsJournal name
named_journal n name small is = record { number = n; small = small; name_is = is }

pub files_unchanged : (old new : State) → IsUnchanged old new → KeepsOrSettlesFiles old new
files_unchanged old new same name apart = inl (same.entries name)

pub files_after : (zero one two : State) → IsUnchanged zero one → KeepsOrSettlesFiles one two
    → KeepsOrSettlesFiles zero two
files_after zero one two same files name apart = ⊎_elim
    (λ as_was. inl (as_was ∙ same.entries name))
    (λ on_disk. inr (on_disk ∙ ap kept (same.entries name)))
    (files name apart)

-- ---- an opening leaves it

pub still_aside : (zero one two : State) (n : ℕ) (octets : List ℕ) → IsAside zero one (aside_name n) octets
    → KeepsOrSettlesFiles one two → IsSound two → IsAside zero two (aside_name n) octets
still_aside zero one two n octets aside files sound = record {
  before = aside.before;
  was = aside.was;
  now = record {
    entry = ⊎_elim
        (λ same. same ∙ aside.now.entry)
        (λ (on_disk : two.entries (aside_name n) ≡ kept (one.entries (aside_name n))). on_disk ∙ ap kept aside.now.entry)
        (files (aside_name n) (aside_no_journal n));
    sound = sound;
  };
}

-- it is said of a state that shows the same
pub aside_from : (zero one two : State) (name octets : List ℕ) → IsUnchanged zero one → IsAside one two name octets
    → IsAside zero two name octets
aside_from zero one two name octets same aside = record {
  before = aside.before;
  was = subst (λ (e : DiskEntry). (shown_now e ≡ Some aside.before) ⊎ ((shown_now e ≡ None) × (aside.before ≡ [])))
      (same.entries name) aside.was;
  now = aside.now;
}
