-- The segments of a checkpoint, day by day.
use Rattle.std.proofs.Common.{◌≡◌, ◌≢◌, ◌⊎◌, inl, inr, ⊎_elim, ℕ, ◌+◌, ◌<◌, ◌^◌, List, [], ◌∷◌, ◌++◌, length, refl, sym}
use Rattle.std.proofs.Common.{ap, append_assoc, arith, get_or, length-append, subst, ◌∙◌}
use Rattle.std.specs.Prelude.{◌↔◌, Bool, Err, IfErr, IfOk, IsTrue, Ok, OnErr, OnOk, Result, false, true}
use Rattle.std.proofs.lemmas.Bool.{cases_Bool}
use Rattle.std.proofs.lemmas.List.{append-nil}
use Rattle.std.specs.List.{AllByRecursion}
use Rattle.disk.specs.Calls.{Removes}
use Rattle.disk.specs.States.{Entry as DiskEntry, NameMayLeave, State, kept}
use Rattle.disk.specs.declared.fault.DiskFault.{DiskFault}
use Rattle.journal.specs.Journals.{IsOnDisk, IsSound, KeepsOthers}
use Rattle.archive_text.specs.Periods.{IsIn}
use Rattle.archive_text.specs.declared.period.Period.TheVariants.{Day}
use Rattle.archive_text.specs.Entries.{Entry, Has}
use Rattle.archive_text.specs.Text.{IsArchive, entry_text, text_of}
use Rattle.archive_text.specs.declared.limits.TheConstants.{ENTRY_MAX}
use Rattle.archive_text.proofs.Ascending.{archive_left, archive_right}
use Rattle.archive_text.proofs.Members.{all_append, all_weaker, has_either, has_left, has_right}
use Rattle.archive_text.proofs.Texts.{text_length, text_push, text_some}
use Rattle.record_store.specs.Crashes.{HeldApart, Keeps}
use Rattle.record_store.specs.Holdings.{IsOfPeriod}
use Rattle.record_store.specs.Keeping.{IsDraftOf}
use Rattle.record_store.specs.Names.{Counts}
use Rattle.record_store.specs.Segments.{Drafts, GrowsBeside, OthersSettle, segment_name}
use Rattle.record_store.specs.Stores.{AreAmong, IsBroken, IsWhole, Sets, Stands as JournalStands}
use Rattle.record_store.specs.declared.segment.SegmentDraft.{SegmentDraft}
use Rattle.record_store.specs.declared.store.RecordStore.{RecordStore}
use Rattle.record_store.proofs.Apart.{segments_less}
use Rattle.record_store.proofs.Covering.{covers_keeps, less_covers}
use Rattle.record_store.proofs.Drafted.{beside_stands, others_journals}
use Rattle.record_store.proofs.Named.{draft_apart, segment_long}
use Rattle.record_store.proofs.Remaining.{beside_then}
use Rattle.durable_store.specs.Causes.{StandsWith}
use Rattle.durable_store.specs.Segments.{DraftsDay, DraftsOf, GainsAmong, GainsOnly, HoldsApart, IsWritten, KeepsAside}
use Rattle.durable_store.specs.Segments.{Mixes, MixesDay, Puts, PutsDay, PutsEntries, StaysSound, WritesDay, WritesDays}
use Rattle.durable_store.specs.Segments.{WritesMixed, WritesShare, octets_of}
use Rattle.durable_store.specs.Shares.{AreDays, CountsDay, GrowsBy, HasShare, IsDay, IsShare, Leaves}
use Rattle.durable_store.specs.declared.draft.DraftName.{DraftName}
use Rattle.durable_store.specs.declared.draft.DraftName.TheVariants.{Checkpoint, Addition}
use Rattle.durable_store.proofs.Growth.{aside_grow, grows_less, grows_one, grows_then, nothing_grows, share_part, share_whole}
use Rattle.durable_store.proofs.Runs.{counted_day, day_cut_once, days_once, days_push}

-- ---- drafts count for nothing

addition_apart : ¬ (Counts (octets_of Addition))
addition_apart (inl journal) = omega (arith, ap (λ (l : List ℕ). get_or l 0 0) journal.name_is)
addition_apart (inr (day, segment)) = omega (arith, segment_long day (octets_of Addition) segment)

pub name_apart : (name : DraftName) → ¬ (Counts (octets_of name))
name_apart Checkpoint = draft_apart
name_apart Addition = addition_apart

-- ---- beside a draft

pub aside_none : (a : State) (name : List ℕ) → KeepsAside a a name
aside_none a name = record { others = λ other apart. refl; lost = refl }

pub aside_then : (a b c : State) (name : List ℕ) → KeepsAside a b name → KeepsAside b c name → KeepsAside a c name
aside_then a b c name one other = record {
  others = λ n apart. other.others n apart ∙ one.others n apart;
  lost = other.lost ∙ one.lost;
}

-- a draft is begun, and written
pub begun_aside : (a b c : State) (file named name : List ℕ) → file ≡ name → named ≡ file → KeepsOthers a b file
    → b.lost ≡ a.lost → KeepsAside b c named → KeepsAside a c name
begun_aside a b c file named name is same others lost more =
    subst (KeepsAside a c) is
    (aside_then a b c file (record { others = others; lost = lost }) (subst (KeepsAside b c) same more))

-- what files of names that count hold apart they hold still
pub aside_apart : (old new : State) (draft : List ℕ) (es : List Entry) → KeepsAside old new draft
    → ¬ (Counts draft) → HeldApart old es → HeldApart new es
aside_apart old new draft es aside apart held e has =
    segments_less old new (λ day name segment octets may. subst (λ (x : DiskEntry). NameMayLeave x octets)
    (aside.others name (λ (is : name ≡ draft). apart (subst Counts is (inr (day, segment))))) may) e (held e has)

counts_apart : (draft name : List ℕ) → ¬ (Counts draft) → Counts name → name ≢ draft
counts_apart draft name apart counts is = apart (subst Counts is counts)

pub aside_gains : (old new : State) (draft : List ℕ) (es : List Entry) → KeepsAside old new draft → ¬ (Counts draft)
    → GainsOnly old new draft es
aside_gains old new draft es aside apart = record {
  keeps = λ committed received among keeps.
      covers_keeps old new (λ e. ⊥)
      (less_covers old new (λ e. ⊥)
      (λ name counts octets may. subst (λ (x : DiskEntry). NameMayLeave x octets)
      (aside.others name (counts_apart draft name apart counts)) may))
      committed received (λ e none. absurd none) keeps;
  apart = λ other differs none. inl (aside.others other differs);
  still = λ others held. aside_apart old new draft others aside apart held;
}

-- a draft is removed, or not
pub removed_aside : {T : Type 0} (old new : State) (name : List ℕ) (result : Result T DiskFault)
    → Removes old new name result → KeepsAside old new name
removed_aside old new name (Ok done) removes = record { others = removes.entry.others; lost = removes.entry.lost }
removed_aside old new name (Err fault) fails = ⊎_elim
    (λ same. record { others = λ n apart. same.entries n; lost = same.lost })
    (λ removes. record { others = removes.entry.others; lost = removes.entry.lost })
    fails.done

-- ---- a day is drafted

-- so far
pub record EntriesPut (tells : Type 0) (before : SegmentDraft) (old : State) (held : List ℕ) (after : SegmentDraft)
    (new : State) (held_then day : List ℕ) (first : Entry) (behind rest : List Entry) : Type 0 where
  pub front : List Entry
  pub parts : behind ≡ front ++ rest
  pub days : AllByRecursion (IsIn Day day) front
  pub puts : Puts tells before old held after new held_then (text_of (first ∷ front))

-- the first entry
pub entries_first : (tells : Type 0) (before : SegmentDraft) (old : State) (held : List ℕ) (after : SegmentDraft)
    (new : State) (held_then day : List ℕ) (first : Entry) (behind : List Entry)
    → Puts tells before old held after new held_then (entry_text first)
    → EntriesPut tells before old held after new held_then day first behind behind
entries_first tells before old held after new held_then day first behind put = record {
  front = [];
  parts = refl;
  days = tt;
  puts = λ tell text written.
      subst (λ (t : List ℕ). IsWritten after new held_then (text ++ t)) (sym (append-nil (entry_text first)))
      (put tell text written);
}

pub entries_more : (tells told : Type 0) (before : SegmentDraft) (old : State) (held : List ℕ) (mid : SegmentDraft)
    (state : State) (then : List ℕ) (after : SegmentDraft) (new : State) (last day : List ℕ) (first : Entry)
    (behind rest next : List Entry) (e : Entry) → (tells → told)
    → EntriesPut told before old held mid state then day first behind rest → (rest ≡ e ∷ next) × IsIn Day day e
    → Puts tells mid state then after new last (entry_text e)
    → EntriesPut tells before old held after new last day first behind next
entries_more tells told before old held mid state then after new last day first behind rest next e back put (is, of)
    more = record {
      front = put.front ++ e ∷ [];
      parts = put.parts ∙ ap (λ (l : List Entry). put.front ++ l) is ∙ sym (append_assoc put.front (e ∷ []) next);
      days = all_append (IsIn Day day) put.front (e ∷ []) put.days (of, tt);
      puts = λ tells text written.
          subst (IsWritten after new last)
          (append_assoc text (text_of (first ∷ put.front)) (entry_text e)
          ∙ ap (λ (t : List ℕ). text ++ t) (sym (text_push (first ∷ put.front) e)))
          (more tells (text ++ text_of (first ∷ put.front)) (put.puts (back tells) text written));
    }

-- all of them
pub entries_all : (tells : Type 0) (before : SegmentDraft) (old : State) (held : List ℕ) (after : SegmentDraft)
    (new : State) (held_then day : List ℕ) (first : Entry) (behind rest : List Entry)
    → EntriesPut tells before old held after new held_then day first behind rest → Leaves day rest
    → PutsEntries tells before old held after new held_then day first behind rest
entries_all tells before old held after new held_then day first behind rest put ends = record {
  front = put.front;
  parts = put.parts;
  days = put.days;
  ends = ends;
  puts = put.puts;
}

-- what a draft has where something is held back
pub written_drafts : (tells : Type 0) (before : SegmentDraft) (old : State) (held : List ℕ) (after : SegmentDraft)
    (new : State) (held_then more : List ℕ) → Puts tells before old held after new held_then more → tells
    → (text : List ℕ) × Drafts before old text → (text : List ℕ) × Drafts after new text
written_drafts tells before old held after new held_then more puts tell (text, drafts) =
    let written = puts tell (text ++ held) (record { front = text; drafts = drafts; text_is = refl }) in
    (written.front, written.drafts)

-- the rest is pushed
pub all_pushed : (tells told : Type 0) (before : SegmentDraft) (old : State) (none : List ℕ) (mid : SegmentDraft)
    (state : State) (held piece : List ℕ) (after : SegmentDraft) (new : State) (more : List ℕ) → (tells → told)
    → none ≡ [] → piece ≡ held → Puts told before old none mid state held more
    → (tells → (text : List ℕ) → Drafts mid state text → Drafts after new (text ++ piece))
    → tells → Drafts before old [] → Drafts after new more
all_pushed tells told before old none mid state held piece after new more back empty same puts pushed tell drafts =
    let w = puts (back tell) [] (record { front = []; drafts = drafts; text_is = sym empty }) in
    subst (Drafts after new) (ap (λ (l : List ℕ). w.front ++ l) same ∙ sym w.text_is) (pushed tell w.front w.drafts)

pub day_pushed : (tells told : Type 0) (before : SegmentDraft) (old : State) (none : List ℕ) (mid : SegmentDraft)
    (state : State) (held piece : List ℕ) (after : SegmentDraft) (new : State) (day : List ℕ) (first : Entry)
    (behind rest : List Entry) → (tells → told) → none ≡ [] → piece ≡ held
    → PutsEntries told before old none mid state held day first behind rest
    → (tells → (text : List ℕ) → Drafts mid state text → Drafts after new (text ++ piece))
    → PutsDay tells before old after new day first behind rest
day_pushed tells told before old none mid state held piece after new day first behind rest back empty same put pushed =
    record {
      front = put.front;
      parts = put.parts;
      days = put.days;
      ends = put.ends;
      drafts = all_pushed tells told before old none mid state held piece after new (text_of (first ∷ put.front)) back
          empty same put.puts pushed;
    }

-- ---- what a folder gains

pub gains_none : (state : State) (draft : List ℕ) (es : List Entry) → GainsOnly state state draft es
gains_none state draft es = record {
  keeps = λ committed received among keeps. keeps;
  apart = λ other differs none. inl refl;
  still = λ others held. held;
}

settles_then : (a b c : DiskEntry) → (b ≡ a) ⊎ (b ≡ kept a) → (c ≡ b) ⊎ (c ≡ kept b) → (c ≡ a) ⊎ (c ≡ kept a)
settles_then a b c (inl one) (inl other) = inl (other ∙ one)
settles_then a b c (inl one) (inr other) = inr (other ∙ ap kept one)
settles_then a b c (inr one) (inl other) = inr (other ∙ one)
settles_then a b c (inr one) (inr other) = inr (other ∙ ap kept one)

pub gains_then : (a b c : State) (draft : List ℕ) (es : List Entry) → GainsOnly a b draft es → GainsOnly b c draft es
    → GainsOnly a c draft es
gains_then a b c draft es one other = record {
  keeps = λ committed received among keeps.
      other.keeps committed received among (one.keeps committed received among keeps);
  apart = λ name differs none.
      settles_then (a.entries name) (b.entries name) (c.entries name) (one.apart name differs none)
      (other.apart name differs none);
  still = λ others held. other.still others (one.still others held);
}

pub gains_more : (a b : State) (draft : List ℕ) (es fs : List Entry) → AreAmong es fs → GainsOnly a b draft es
    → GainsOnly a b draft fs
gains_more a b draft es fs within gains = record {
  keeps = λ committed received among. gains.keeps committed received (λ e has. among e (within e has));
  apart = gains.apart;
  still = gains.still;
}

-- ---- a draft is kept

module _ (zero two three : State) (tells told : Type 0) (name : List ℕ) (draft : SegmentDraft) (period : List ℕ)
    (es those : List Entry) (back : tells → told) (apart : ¬ (Counts name))
    (drafted : DraftsOf told zero two name draft period es those) where
  outside : ¬ (Counts draft.name)
  outside = subst (λ (n : List ℕ). ¬ (Counts n)) (sym drafted.named) apart

  is_draft : tells → IsSound zero → IsArchive ENTRY_MAX those → (received : List Entry) → AreAmong es received
      → IsDraftOf draft two period es received
  is_draft tell sound archive received among = record {
    text = text_of es;
    drafts = drafted.drafts (back tell) sound;
    is = record { archive = drafted.archive archive; text_is = refl; days = drafted.days };
    apart = outside;
    among = among;
  }

  pub kept_held : (tells → (fs received : List Entry) → IsDraftOf draft two period fs received → HeldApart three fs)
      → HoldsApart tells zero three those es
  kept_held held tell sound archive =
      held tell es es (is_draft tell sound archive es (λ e has. has))

  pub kept_sound : (tells → (text : List ℕ) → Drafts draft two text → ¬ (Counts draft.name)
      → IsOnDisk three (segment_name period text) text) → StaysSound tells zero three those
  kept_sound on_disk tell sound archive =
      (on_disk tell (text_of es) (drafted.drafts (back tell) sound) outside).sound

  pub kept_gains : (tells → (fs committed received : List Entry) → IsDraftOf draft two period fs received
      → Keeps two committed received → Keeps three committed received)
      → (tells → (fs received : List Entry) → IsDraftOf draft two period fs received
      → OthersSettle two three draft.name)
      → (tells → (fs received : List Entry) → IsDraftOf draft two period fs received
      → (others : List Entry) → HeldApart two others → HeldApart three others)
      → GainsAmong tells zero three name those
  kept_gains keeps settles still tell sound archive =
      gains_then zero two three name those (aside_gains zero two name those (drafted.aside (back tell)) apart) (record {
        keeps = λ committed received among kept.
            keeps tell es committed received
            (is_draft tell sound archive received (λ e has. among e (drafted.among e has))) kept;
        apart = subst (OthersSettle two three) drafted.named
            (settles tell es es (is_draft tell sound archive es (λ e has. has)));
        still = still tell es es (is_draft tell sound archive es (λ e has. has));
      })

  pub kept_grow : (tells → (text : List ℕ) → Drafts draft two text → ¬ (Counts draft.name) → GrowsBeside 1 two three)
      → tells → IsSound zero → GrowsBeside 1 zero three
  kept_grow grows tell sound =
      beside_then 0 1 zero two three (aside_grow zero two name (drafted.aside (back tell)) apart)
      (grows tell (text_of es) (drafted.drafts (back tell) sound) outside)

-- ---- a day

-- the day of a first entry
pub put_day_is : (tells : Type 0) (before : SegmentDraft) (old : State) (after : SegmentDraft) (new : State)
    (day : List ℕ) (first : Entry) (behind rest : List Entry) → IsIn Day day first
    → (put : PutsDay tells before old after new day first behind rest)
    → IsDay (first ∷ behind) (first ∷ put.front) rest
put_day_is tells before old after new day first behind rest of put = record {
  day = day;
  parts = ap (λ (l : List Entry). first ∷ l) put.parts;
  some = omega arith;
  days = (of, put.days);
  ends = put.ends;
}

pub run_archive : (these run rest : List Entry) → these ≡ run ++ rest → IsArchive ENTRY_MAX these
    → IsArchive ENTRY_MAX run
run_archive these run rest parts archive = archive_left ENTRY_MAX run rest (subst (IsArchive ENTRY_MAX) parts archive)

pub run_among : (these run rest : List Entry) → these ≡ run ++ rest → (received : List Entry)
    → AreAmong these received → AreAmong run received
run_among these run rest parts received among e has =
    among e (subst (λ (l : List Entry). Has l e) (sym parts) (has_left run rest e has))

pub day_drafted : (zero one two : State) (tells : Type 0) (begun draft : SegmentDraft) (name day : List ℕ)
    (first : Entry) (behind rest : List Entry) → IsIn Day day first → (tells → IsSound zero → Drafts begun one [])
    → (tells → KeepsAside zero two name) → PutsDay tells begun one draft two day first behind rest
    → begun.name ≡ name → draft.name ≡ begun.name → DraftsDay tells zero two name draft day (first ∷ behind) rest
day_drafted zero one two tells begun draft name day first behind rest of begins aside put named kept =
    let run = first ∷ put.front in
    let parts = ap (λ (l : List Entry). first ∷ l) put.parts in
    record {
      run = run;
      is = put_day_is tells begun one draft two day first behind rest of put;
      drafts = record {
        named = kept ∙ named;
        aside = aside;
        drafts = λ tell sound. put.drafts tell (begins tell sound);
        archive = run_archive (first ∷ behind) run rest parts;
        among = run_among (first ∷ behind) run rest parts (first ∷ behind) (λ e has. has);
        days = all_weaker (IsIn Day day) (IsOfPeriod day) (λ e is. inl is) run (of, put.days);
      };
    }

-- ---- all days

pub held_none : (state : State) → HeldApart state []
held_none state e has = absurd has

pub held_both : (state : State) (a b : List Entry) → HeldApart state a → HeldApart state b → HeldApart state (a ++ b)
held_both state a b one other e has =
    ⊎_elim (λ left. one e left) (λ right. other e right) (has_either a b e has)

-- where each day is held all are
days_held : (state : State) (these : List Entry) (runs : List (List Entry)) → AreDays these runs []
    → AllByRecursion (λ run. HeldApart state run) runs → HeldApart state these
days_held state these [] is all = subst (λ (l : List Entry). HeldApart state l) (sym is) (held_none state)
days_held state these (run ∷ runs) (behind, day, more) all =
    subst (λ (l : List Entry). HeldApart state l) (sym day.parts)
    (held_both state run behind all.0 (days_held state behind runs more all.1))

rest_among : (all done rest : List Entry) → all ≡ done ++ rest → AreAmong rest all
rest_among all done rest parts e has = subst (λ (l : List Entry). Has l e) (sym parts) (has_right done rest e has)

-- so far: no sync has failed, each day that has its share is held, nothing else came, and few segments
pub record DaysWritten (tells : Type 0) (total : ℕ) (draft : List ℕ) (old new : State) (skipped : Bool)
    (all rest : List Entry) : Type 0 where
  pub done : List Entry
  pub parts : all ≡ done ++ rest
  pub writes : WritesDays tells total old new skipped all rest
  pub gains : tells → IsSound old → GainsOnly old new draft all
  pub grows : tells → IsSound old → GrowsBy total (length (text_of done)) old new

pub none_written : (tells : Type 0) (total : ℕ) (draft : List ℕ) (state : State) (all : List Entry)
    → DaysWritten tells total draft state state false all all
none_written tells total draft state all = record {
  done = [];
  parts = refl;
  writes = record {
    runs = [];
    are = refl;
    shares = inr tt;
    held = λ tell sound. tt;
    sound = λ tell sound. sound;
  };
  gains = λ tell sound. gains_none state draft all;
  grows = λ tell sound. nothing_grows total 0 state;
}

-- one day more
module _ (tells told : Type 0) (total : ℕ) (draft : List ℕ) (old state new : State) (skipped : Bool)
    (all rest behind : List Entry) (first : Entry) (back : tells → told)
    (written : DaysWritten told total draft old state skipped all rest)
    (is : rest ≡ first ∷ behind) (archive : IsArchive ENTRY_MAX all) where
  these : all ≡ written.done ++ (first ∷ behind)
  these = written.parts ∙ ap (λ (l : List Entry). written.done ++ l) is

  last : IsArchive ENTRY_MAX (first ∷ behind)
  last = archive_right ENTRY_MAX written.done (first ∷ behind) (subst (IsArchive ENTRY_MAX) these archive)

  pub days_gain : GainsAmong tells state new draft (first ∷ behind) → tells → IsSound old → GainsOnly old new draft all
  days_gain gains tell sound =
      gains_then old state new draft all (written.gains (back tell) sound)
      (gains_more state new draft (first ∷ behind) all (rest_among all written.done (first ∷ behind) these)
      (gains tell (written.writes.sound (back tell) sound) last))

  pub days_grow : (tells → IsSound state → GrowsBy total (length (text_of (first ∷ behind))) state new)
      → tells → IsSound old → GrowsBy total (length (text_of all)) old new
  days_grow grows tell sound =
      grows_less total (length (text_of written.done) + length (text_of (first ∷ behind))) (length (text_of all)) old new
      (omega (arith, ap (λ (l : List Entry). length (text_of l)) these, text_length written.done (first ∷ behind)))
      (grows_then total (length (text_of written.done)) (length (text_of (first ∷ behind))) old state new
      (written.grows (back tell) sound)
      (grows tell (written.writes.sound (back tell) sound)))

  module _ (wrote : Bool) (next : List Entry) (share : WritesShare tells total state new wrote (first ∷ behind) next)
      (gains : GainsAmong tells state new draft (first ∷ behind)) where
    pub days_left : all ≡ (written.done ++ share.run) ++ next
    days_left = these ∙ ap (λ (l : List Entry). written.done ++ l) share.is.parts
        ∙ sym (append_assoc written.done share.run next)

    pub share_grows : tells → IsSound old → GrowsBy total (length (text_of (written.done ++ share.run))) old new
    share_grows tell sound =
        subst (λ (n : ℕ). GrowsBy total n old new) (sym (text_length written.done share.run))
        (grows_then total (length (text_of written.done)) (length (text_of share.run)) old state new
        (written.grows (back tell) sound)
        (share.grows tell (written.writes.sound (back tell) sound)))

    still_held : tells → IsSound old
        → AllByRecursion (λ run. HasShare total run → HeldApart new run) (written.writes.runs ++ share.run ∷ [])
    still_held tell sound =
        let mid = written.writes.sound (back tell) sound in
        let gained = gains tell mid last in
        all_append (λ run. HasShare total run → HeldApart new run) written.writes.runs
        (share.run ∷ [])
        (all_weaker (λ run. HasShare total run → HeldApart state run)
        (λ run. HasShare total run → HeldApart new run)
        (λ run held has. gained.still run (held has))
        written.writes.runs (written.writes.held (back tell) sound))
        ((λ has. share.held has tell mid last), tt)

    pub share_writes : (skips : Bool) → (IsTrue skipped → IsTrue skips) → (wrote ≡ false → IsTrue skips)
        → WritesDays tells total old new skips all next
    share_writes skips from none = record {
      runs = written.writes.runs ++ share.run ∷ [];
      are = days_push all written.writes.runs share.run rest next written.writes.are
          (subst (λ (l : List Entry). IsDay l share.run next) (sym is) share.is);
      shares = ⊎_elim (λ yes. inl (from yes))
          (λ all_have. ⊎_elim
          (λ has. inr (all_append (HasShare total) written.writes.runs (share.run ∷ []) all_have (has, tt)))
          (λ not. inl (none not)) share.share) written.writes.shares;
      held = still_held;
      sound = λ tell sound. share.sound tell (written.writes.sound (back tell) sound) last;
    }

    pub days_more : (skips : Bool) → (IsTrue skipped → IsTrue skips) → (wrote ≡ false → IsTrue skips)
        → DaysWritten tells total draft old new skips all next
    days_more skips from none = record {
      done = written.done ++ share.run;
      parts = days_left;
      writes = share_writes skips from none;
      gains = days_gain gains;
      grows = share_grows;
    }

pub days_shorter : (first : Entry) (rest behind run next : List Entry) → rest ≡ first ∷ behind
    → IsDay (first ∷ behind) run next → length next < length rest
days_shorter first rest behind run next is day =
    omega (arith, ap length is, ap length day.parts, length-append run next, day.some)

-- no day is left
pub days_grown : (tells : Type 0) (total : ℕ) (draft : List ℕ) (old new : State) (skipped : Bool)
    (all rest : List Entry) → DaysWritten tells total draft old new skipped all rest → rest ≡ [] → tells → IsSound old
    → GrowsBy total (length (text_of all)) old new
days_grown tells total draft old new skipped all rest written none tell sound =
    let same : written.done ≡ all =
    sym (written.parts ∙ ap (λ (l : List Entry). written.done ++ l) none ∙ append-nil written.done) in
    subst (λ (l : List Entry). GrowsBy total (length (text_of l)) old new) same (written.grows tell sound)

pub days_written : (tells : Type 0) (total : ℕ) (draft : List ℕ) (old new : State) (skipped : Bool)
    (all rest : List Entry) → DaysWritten tells total draft old new skipped all rest → rest ≡ [] → WritesDays tells total old new skipped all []
days_written tells total draft old new skipped all rest written none =
    subst (λ (l : List Entry). WritesDays tells total old new skipped all l) none written.writes

-- ---- a day that has its share

pub run_some : (run : List Entry) → 0 < length run → 0 < length (text_of run)
run_some [] some = some
run_some (e ∷ es) some = omega (arith, text_some e, length-append (entry_text e) (text_of es))

pub share_of : (total len : ℕ) (day : List ℕ) (first : Entry) (behind rest run left : List Entry) → IsIn Day day first
    → CountsDay len day first behind rest → IsShare total len → IsDay (first ∷ behind) run left → HasShare total run
share_of total len day first behind rest run left of counts share is =
    let same = day_cut_once (first ∷ behind) (first ∷ counts.front) rest run left
    (counted_day len day first behind rest of counts) is in
    subst (HasShare total) same.0
    (share_whole total (length (text_of (first ∷ counts.front))) (subst (IsShare total) counts.len_is share))

-- all that is left has one too
pub share_of_all : (total len : ℕ) (day : List ℕ) (first : Entry) (behind rest : List Entry)
    → CountsDay len day first behind rest → IsShare total len → HasShare total (first ∷ behind)
share_of_all total len day first behind rest counts share =
    omega (
      arith,
      share_whole total (length (text_of (first ∷ counts.front))) (subst (IsShare total) counts.len_is share),
      text_length (first ∷ counts.front) rest,
      ap (λ (l : List Entry). length (text_of (first ∷ l))) counts.parts,
    )

pub share_grows_all : (total len : ℕ) (day : List ℕ) (first : Entry) (behind rest : List Entry) (old new : State)
    → CountsDay len day first behind rest → IsShare total len → GrowsBeside 1 old new
    → GrowsBy total (length (text_of (first ∷ behind))) old new
share_grows_all total len day first behind rest old new counts share grow =
    grows_one total (length (text_of (first ∷ behind))) old new grow
    (share_of_all total len day first behind rest counts share) (run_some (first ∷ behind) (omega arith))

pub share_kept : (tells : Type 0) (total : ℕ) (old new : State) (these rest : List Entry)
    (writes : WritesDay tells old new these rest) → HasShare total writes.run
    → (tells → IsSound old → GrowsBeside 1 old new) → WritesShare tells total old new true these rest
share_kept tells total old new those rest writes has grow = record {
  run = writes.run;
  is = writes.is;
  share = inl has;
  held = λ share. writes.held;
  sound = writes.sound;
  grows = λ tell sound.
      grows_one total (length (text_of writes.run)) old new (grow tell sound) has (run_some writes.run writes.is.some);
}

pub share_skipped : (tells : Type 0) (total len : ℕ) (state : State) (day : List ℕ) (first : Entry)
    (behind rest : List Entry) → total < 2 ^ 64 → IsIn Day day first → CountsDay len day first behind rest
    → ¬ (IsShare total len) → WritesShare tells total state state false (first ∷ behind) rest
share_skipped tells total len state day first behind rest small of counts none = record {
  run = first ∷ counts.front;
  is = counted_day len day first behind rest of counts;
  share = inr refl;
  held = λ has. absurd (none (subst (IsShare total) (sym counts.len_is)
      (share_part total (length (text_of (first ∷ counts.front))) small has)));
  sound = λ tell sound archive. sound;
  grows = λ tell sound. nothing_grows total (length (text_of (first ∷ counts.front))) state;
}

-- ---- a day that has none

pub share_left_out : (tells : Type 0) (total len : ℕ) (draft : SegmentDraft) (state : State) (held day : List ℕ)
    (first : Entry) (behind rest : List Entry) → IsIn Day day first → CountsDay len day first behind rest
    → IsShare total len → MixesDay tells total draft state held draft state held (first ∷ behind) rest
share_left_out tells total len draft state held day first behind rest of counts share =
    let is = counted_day len day first behind rest of counts in
    record {
      run = first ∷ counts.front;
      is = is;
      mixed = [];
      which = inl (share_of total len day first behind rest (first ∷ counts.front) rest of counts share is, refl);
      puts = λ tell text written. subst (IsWritten draft state held) (sym (append-nil text)) written;
    }

pub day_mixed : (tells : Type 0) (total : ℕ) (before : SegmentDraft) (old : State) (held : List ℕ)
    (after : SegmentDraft) (new : State) (held_then day : List ℕ) (first : Entry) (behind rest : List Entry)
    → IsIn Day day first → PutsEntries tells before old held after new held_then day first behind rest
    → MixesDay tells total before old held after new held_then (first ∷ behind) rest
day_mixed tells total before old held after new held_then day first behind rest of put = record {
  run = first ∷ put.front;
  is = record {
    day = day;
    parts = ap (λ (l : List Entry). first ∷ l) put.parts;
    some = omega arith;
    days = (of, put.days);
    ends = put.ends;
  };
  mixed = first ∷ put.front;
  which = inr refl;
  puts = put.puts;
}

-- ---- with the other days

-- two things that are so of each
all_with : {X : Type 0} (P Q R : X → Type 0) → ((x : X) → P x → Q x → R x) → (xs : List X) → AllByRecursion P xs
    → AllByRecursion Q xs → AllByRecursion R xs
all_with P Q R both [] ps qs = tt
all_with P Q R both (x ∷ xs) ps qs = (both x ps.0 qs.0, all_with P Q R both xs ps.1 qs.1)

module _ (tells told : Type 0) (total : ℕ) (draft : List ℕ) (old state new : State) (skipped : Bool) (all : List Entry)
    (back : tells → told) (writes : WritesDays told total old state skipped all []) where
  -- where no day was skipped
  pub all_held : skipped ≡ false → told → IsSound old → HeldApart state all
  all_held none tell sound =
      days_held state all writes.runs writes.are
      (all_with (HasShare total) (λ run. HasShare total run → HeldApart state run)
      (λ run. HeldApart state run) (λ run has held. held has) writes.runs
      (⊎_elim (λ yes. absurd (cc (yes, none))) (λ have. have) writes.shares)
      (writes.held tell sound))

  pub both_held : WritesMixed tells total state new all → (tells → IsSound state → GainsOnly state new draft all) → tells
      → IsSound old → HeldApart new all
  both_held others gains tell sound =
      let mid = writes.sound (back tell) sound in
      let gained = gains tell mid in
      let same = days_once all others.runs writes.runs others.are writes.are in
      let mixed = others.held tell mid in
      days_held new all writes.runs writes.are
      (all_with (λ run. HasShare total run → HeldApart state run)
      (λ run. HasShare total run ⊎ AreAmong run others.mixed) (λ run. HeldApart new run)
      (λ run held either. ⊎_elim
      (λ has. gained.still run (held has))
      (λ (these : AreAmong run others.mixed) e has. mixed e (these e has)) either)
      writes.runs (writes.held (back tell) sound)
      (subst (λ (runs : List (List Entry)). Mixes total runs others.mixed) same others.mixes))

-- ---- a checkpoint

pub ok_weaker : {T E : Type 0} (P Q : T → Type 0) → ((x : T) → P x → Q x) → (r : Result T E) → IfOk r P → IfOk r Q
ok_weaker P Q weaker (Ok x) p = weaker x p
ok_weaker P Q weaker (Err e) p = tt

pub on_ok_weaker : {T E : Type 0} (P Q : Type 0) → (P → Q) → (r : Result T E) → OnOk r P → OnOk r Q
on_ok_weaker P Q weaker (Ok x) p = weaker p
on_ok_weaker P Q weaker (Err e) p = tt

pub both_ok : {T E : Type 0} (r : Result T E) (P Q R : Type 0) → (P → Q → R) → OnOk r P → OnOk r Q → OnOk r R
both_ok (Ok x) P Q R both p q = both p q
both_ok (Err e) P Q R both p q = tt

pub err_weaker : {T E : Type 0} (P Q : E → Type 0) → ((e : E) → P e → Q e) → (r : Result T E) → IfErr r P → IfErr r Q
err_weaker P Q weaker (Ok x) p = tt
err_weaker P Q weaker (Err e) p = weaker e p

pub on_err : {T E P : Type 0} (r : Result T E) → P → OnErr r P
on_err (Ok x) p = tt
on_err (Err e) p = p

pub since_held : (state : State) (set since : List Entry) → HeldApart state set → AreAmong since set
    → HeldApart state since
since_held state set since held among e has = held e (among e has)

pub not_broken : (store : RecordStore) (told : Bool) → IsTrue told ↔ IsBroken store → told ≡ false → IsWhole store
not_broken store told same none = ⊎_elim
    (λ (broken : store.broken ≡ true). absurd (cc (same.1 broken, none)))
    (λ whole. whole)
    (cases_Bool store.broken)

-- a store stands on beside what its folder gains
pub stands_beside : (old new : State) (store : RecordStore) (sets : Sets) (draft : DraftName) (es : List Entry)
    → GainsOnly old new (octets_of draft) es → AreAmong es sets.received → JournalStands store old sets → IsSound old → (store.broken ≡ false → IsSound new)
    → JournalStands store new sets
stands_beside old new store sets draft es gains among stands sound whole =
    beside_stands old new store store sets stands
    (others_journals old new (octets_of draft) (name_apart draft) gains.apart) gains.still
    (gains.keeps sets.committed sets.received among stands.keeps) refl refl refl (λ is. (is, whole is)) (λ now. sound)

pub stood_sound : (store : RecordStore) (state : State) (es : List Entry) → IsWhole store → StandsWith store state es
    → IsSound state
stood_sound store state es whole with = (with.1.ready whole).stands.sound
