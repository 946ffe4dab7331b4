-- Steps after which a disk holds less.
use Rattle.std.proofs.Common.{◌≡◌, ◌≢◌, ◌⊎◌, inl, inr, ⊎_elim, ℕ, List, refl, sym, ap, subst, ◌∙◌}
use Rattle.std.proofs.Common.{Bool, false, if◌then◌else◌}
use Rattle.std.specs.Prelude.{Option, None, Some, IsSome, Result, Ok, Err}
use Rattle.disk.specs.Calls.{IsUnchanged, Removes, RemovesFile, SettlesNames, SyncsNames}
use Rattle.disk.specs.Memory.{shown_now}
use Rattle.disk.specs.States.{Entry as DiskEntry, Files, NameMayLeave, State, kept}
use Rattle.disk.specs.declared.fault.DiskFault.{DiskFault}
use Rattle.journal.specs.Journals.{IsOnDisk, KeepsOthers}
use Rattle.archive_text.specs.Entries.{Entry, Has}
use Rattle.archive_text.specs.Text.{text_of}
use Rattle.record_store.specs.Crashes.{Keeps, MayLeaveCounted}
use Rattle.record_store.specs.Holdings.{Held, HeldAt}
use Rattle.record_store.specs.Names.{Counts, IsSegment}
use Rattle.record_store.specs.Segments.{IsSegmentOf}
use Rattle.record_store.proofs.Covering.{with-here, with-other, with_file}
use Rattle.record_store.proofs.Drafted.{segment_has, segment_no_more}
use Rattle.record_store.proofs.Leavings.{none_kept, only_is, resting_is, settled_may, settled_shown, shown_left}
use Rattle.record_store.proofs.Named.{same_or_apart}
use Rattle.record_store.proofs.Placed.{settled_either}
use Rattle.store_reading.specs.Days.{IsPeriodText}
use Rattle.store_upkeep.specs.Compaction.{shown}
use Rattle.store_upkeep.proofs.SameSets.{aside_set, retired_leaves}
use Rattle.store_expiry.specs.Expired.{IsExpired}
use Rattle.store_expiry.specs.Expiry.{AreLeft, ChangesAt, InSegments, IsBeside, IsClear, IsGone, IsReadyRest}
use Rattle.store_expiry.specs.Expiry.{IsRestAt, IsSpared, KeepsOrSettles, NoneIsGone, Places, Sheds, StaysAt}
use Rattle.store_expiry.specs.Expiry.{expire_draft}
use Rattle.store_expiry.specs.Surveys.{HasExpired, IsSegmentFile, IsWholeOrUnexpired, SomeExpired}
use Rattle.store_expiry.specs.declared.expired.Expired.{Expired}
use Rattle.store_expiry.proofs.Changing.{changed_clear, clear_as, draft_apart, file_as, segment_apart, then_changes}
use Rattle.store_expiry.proofs.Changing.{whole_before}

-- ---- steps behind one another

fewer : (x : Expired) (state : State) (committed received left : List Entry) → AreLeft x committed left
    → Keeps state committed received → Keeps state left received
fewer x state committed received left are keeps = record {
  nothing_lost = λ files may e has. keeps.nothing_lost files may e (are e has).0;
  nothing_forged = keeps.nothing_forged;
}

pub then_sheds : (x : Expired) (a b c : State) → Sheds x a b → Sheds x b c → Sheds x a c
then_sheds x a b c one two = record {
  kept = λ committed received left are keeps. two.kept left received left (λ e has. (has, (are e has).1))
      (one.kept committed received left are keeps);
  stays = λ e not held. two.stays e not (one.stays e not held);
  no_more = λ e held. one.no_more e (two.no_more e held);
  changes = λ name apart. then_changes x (shown a) (shown b) (shown c) one.changes name (one.changes name apart)
      (two.changes name apart);
  others = λ name differs not. two.others name differs not ∙ one.others name differs not;
}

-- what is another now is clear
pub sheds_clear : (x : Expired) (old new : State) → Sheds x old new → (name : List ℕ)
    → (shown new name ≡ shown old name) ⊎ IsClear x (shown new) name
sheds_clear x old new sheds name = ⊎_elim
    (λ is. inr (λ period e segment held. absurd (segment_apart period name segment is)))
    (λ apart. changed_clear x (shown old) (shown new) name (sheds.changes name apart))
    (same_or_apart name expire_draft)

-- what is clear stays so
pub clear_still : (x : Expired) (old new : State) (name : List ℕ) → Sheds x old new → IsClear x (shown old) name
    → IsClear x (shown new) name
clear_still x old new name sheds clear =
    ⊎_elim (λ same. clear_as x (shown old) (shown new) name same clear) (λ now. now) (sheds_clear x old new sheds name)

-- what is whole was whole before
pub whole_then : (x : Expired) (old new : State) (name : List ℕ) → Sheds x old new
    → IsWholeOrUnexpired x (shown new) name → IsWholeOrUnexpired x (shown old) name
whole_then x old new name sheds whole period dated segment =
    whole_before x (shown old) (shown new) name (sheds.changes name (segment_apart period name segment)) whole period
    dated segment

-- ---- the draft changes alone

module _ (x : Expired) (old new : State) (others : KeepsOthers old new expire_draft) where
  same_segment : (period name : List ℕ) → IsSegment period name → shown new name ≡ shown old name
  same_segment period name segment = ap shown_now (others name (segment_apart period name segment))

  pub aside_sheds : Sheds x old new
  aside_sheds = record {
    kept = λ committed received left are keeps. fewer x new committed received left are
        ((aside_set old new expire_draft others draft_apart).kept committed received keeps);
    stays = λ e not h. record {
      name = h.name;
      period = h.period;
      segment = h.segment;
      at = subst (λ (o : Option (List ℕ)). HeldAt h.name o e) (sym (same_segment h.period h.name h.segment)) h.at;
    };
    no_more = λ e h. record {
      name = h.name;
      period = h.period;
      segment = h.segment;
      at = subst (λ (o : Option (List ℕ)). HeldAt h.name o e) (same_segment h.period h.name h.segment) h.at;
    };
    changes = λ name apart. inl (ap shown_now (others name apart));
    others = λ name differs not. ap shown_now (others name differs);
  }

  pub aside_stays : NoneIsGone x old new
  aside_stays period name segment = inl (same_segment period name segment)

pub same_sheds : (x : Expired) (a : State) → Sheds x a a
same_sheds x a = aside_sheds x a a (λ other apart. refl)

pub unchanged_sheds : (x : Expired) (old new : State) → IsUnchanged old new → Sheds x old new
unchanged_sheds x old new same = aside_sheds x old new (λ other apart. same.entries other)

pub unchanged_stays : (x : Expired) (old new : State) → IsUnchanged old new → NoneIsGone x old new
unchanged_stays x old new same period name segment = inl (ap shown_now (same.entries name))

-- ---- names are brought to the disk

module _ (x : Expired) (old new : State) (settles : KeepsOrSettles old new) where
  pub settled_same : (name : List ℕ) → shown new name ≡ shown old name
  settled_same name = settled_shown (old.entries name) (new.entries name) (settles name)

  left_before : (after : Files) → MayLeaveCounted new after → MayLeaveCounted old after
  left_before after may name counts =
      settled_may (old.entries name) (new.entries name) (after name) (settles name) (may name counts)

  pub settled_sheds : Sheds x old new
  settled_sheds = record {
    kept = λ committed received left are keeps. fewer x new committed received left are (record {
      nothing_lost = λ after may e has. keeps.nothing_lost after (left_before after may) e has;
      nothing_forged = λ after may e held. keeps.nothing_forged after (left_before after may) e held;
    });
    stays = λ e not h. record {
      name = h.name;
      period = h.period;
      segment = h.segment;
      at = subst (λ (o : Option (List ℕ)). HeldAt h.name o e) (sym (settled_same h.name)) h.at;
    };
    no_more = λ e h. record {
      name = h.name;
      period = h.period;
      segment = h.segment;
      at = subst (λ (o : Option (List ℕ)). HeldAt h.name o e) (settled_same h.name) h.at;
    };
    changes = λ name apart. inl (settled_same name);
    others = λ name differs not. settled_same name;
  }

-- the folder was synced, or that failed
pub sync_settles : {T : Type 0} (old new : State) (r : Result T DiskFault) → SyncsNames old new r
    → KeepsOrSettles old new
sync_settles old new (Ok done) settles name = settled_either old new name settles
sync_settles old new (Err fault) (inl same) name = inl (same.entries name)
sync_settles old new (Err fault) (inr loses) name = inl (loses.entries name)

-- once it is synced nothing is left under a name that shows no file
pub settled_gone : (old new : State) (name : List ℕ) → SettlesNames old new → old.lost ≡ false
    → shown new name ≡ None → IsGone new name
settled_gone old new name settles sound none octets may =
    let is : new.entries name ≡ kept (old.entries name) = settles.entries name
    ∙ ap (λ (b : Bool). if b then old.entries name else kept (old.entries name)) sound in
    let was : shown old name ≡ None = sym (ap shown_now is) ∙ none in
    resting_is None octets
    (subst (λ (e : DiskEntry). NameMayLeave e octets) (is ∙ none_kept (old.entries name) was) may)

pub stays_then : (x : Expired) (a b c : State) (name : List ℕ) → StaysAt x a b name → StaysAt x b c name
    → StaysAt x a c name
stays_then x a b c name (inl was) (inl same) = inl (same ∙ was)
stays_then x a b c name (inr was) (inl same) = inr (was.0, subst IsSome (sym same) was.1)
stays_then x a b c name (inl was) (inr now) = inr (clear_as x (shown b) (shown a) name (sym was) now.0, now.1)
stays_then x a b c name (inr was) (inr now) = inr (was.0, now.1)

-- ---- what is left gets its name

module _ (x : Expired) (zero old new : State) (source draft name period : List ℕ) (es : List Entry)
    (file : IsSegmentFile (shown zero) source period es) (expired : SomeExpired x es) (dated : IsPeriodText period)
    (aside : KeepsOthers zero old expire_draft) (ready : IsReadyRest x old draft name period es)
    (archive : IsSegmentOf period (text_of ready.rest.left) ready.rest.left)
    (places : Places old new draft name (text_of ready.rest.left)) where
  abbrev left : List Entry
  left = ready.rest.left

  source_was : shown old source ≡ Some (text_of es)
  source_was = ap shown_now (aside source (segment_apart period source file.segment)) ∙ file.file

  still : (other : List ℕ) → other ≢ expire_draft → other ≢ name → shown new other ≡ shown old other
  still other from to =
      settled_shown (old.entries other) (new.entries other)
      (places.others other (λ is. from (is ∙ ready.is_draft)) to)

  stays_at : (e : Entry) (other : List ℕ) → IsSegment period other → other ≡ name
      → HeldAt other (shown old other) e → HeldAt name (shown new name) e
  stays_at e other segment is held =
      let here = subst (λ (n : List ℕ). HeldAt n (shown old n) e) is held in
      ⊎_elim
      (λ (same : shown new name ≡ shown old name). subst (λ (o : Option (List ℕ)). HeldAt name o e) (sym same) here)
      (λ (text : shown new name ≡ Some (text_of left)).
      subst (λ (o : Option (List ℕ)). HeldAt name o e) (sym text)
      (segment_has name period (text_of left) left ready.free.segment archive e (ready.free.no_more e here)))
      places.shows

  placed_stays : (e : Entry) → InSegments (shown old) e → InSegments (shown new) e
  placed_stays e h = ⊎_elim
      (λ (is : h.name ≡ name). record {
        name = name;
        period = period;
        segment = ready.free.segment;
        at = stays_at e h.name (subst (IsSegment period) (sym is) ready.free.segment) is h.at;
      })
      (λ (apart : h.name ≢ name). record {
        name = h.name;
        period = h.period;
        segment = h.segment;
        at = subst (λ (o : Option (List ℕ)). HeldAt h.name o e)
            (sym (still h.name (segment_apart h.period h.name h.segment) apart)) h.at;
      })
      (same_or_apart h.name name)

  has_left : (e : Entry) → shown new name ≡ Some (text_of left) → HeldAt name (shown new name) e → Has left e
  has_left e text held =
      segment_no_more name period (text_of left) left ready.free.segment archive e
      (subst (λ (o : Option (List ℕ)). HeldAt name o e) text held)

  from_source : (e : Entry) → Has left e → InSegments (shown old) e
  from_source e has = record {
    name = source;
    period = period;
    segment = file.segment;
    at = subst (λ (o : Option (List ℕ)). HeldAt source o e) (sym source_was)
        (segment_has source period (text_of es) es file.segment file.archive e
        ((ready.rest.selection.members e).0 has).0);
  }

  placed_no_more : (e : Entry) → InSegments (shown new) e → InSegments (shown old) e
  placed_no_more e h = ⊎_elim
      (λ (is : h.name ≡ name).
      let here = subst (λ (n : List ℕ). HeldAt n (shown new n) e) is h.at in
      ⊎_elim
      (λ (same : shown new name ≡ shown old name). record {
        name = name;
        period = period;
        segment = ready.free.segment;
        at = subst (λ (o : Option (List ℕ)). HeldAt name o e) same here;
      })
      (λ (text : shown new name ≡ Some (text_of left)). from_source e (has_left e text here))
      places.shows)
      (λ (apart : h.name ≢ name). record {
        name = h.name;
        period = h.period;
        segment = h.segment;
        at = subst (λ (o : Option (List ℕ)). HeldAt h.name o e)
            (still h.name (segment_apart h.period h.name h.segment) apart) h.at;
      })
      (same_or_apart h.name name)

  source_whole : HasExpired x (shown old) source period es
  source_whole = record {
    is_file = file_as (shown zero) (shown old) source period es (source_was ∙ sym file.file) file;
    some = expired;
  }

  rest_at : shown new name ≡ Some (text_of left) → IsRestAt x (shown old) (shown new) name
  rest_at text = record {
    period = period;
    left = left;
    over = record { source = source; entries = es; whole = source_whole; selection = ready.rest.selection };
    segment = ready.free.segment;
    named = ready.free.named;
    file = text;
  }

  placed_changes : (other : List ℕ) → other ≢ expire_draft → ChangesAt x (shown old) (shown new) other
  placed_changes other from = ⊎_elim
      (λ (is : other ≡ name). subst (ChangesAt x (shown old) (shown new)) (sym is) (⊎_elim
      (λ (same : shown new name ≡ shown old name). inl same)
      (λ (text : shown new name ≡ Some (text_of left)). inr (inr (ready.free.whole, rest_at text)))
      places.shows))
      (λ (to : other ≢ name). inl (still other from to))
      (same_or_apart other name)

  placed_sheds_here : Sheds x old new
  placed_sheds_here = record {
    kept = λ committed received some are keeps. fewer x new committed received some are
        (places.set.kept committed received keeps);
    stays = λ e not h. placed_stays e h;
    no_more = placed_no_more;
    changes = placed_changes;
    others = λ other differs not. still other differs (λ is. not period dated (subst (IsSegment period) (sym is) ready.free.segment));
  }

  pub placed_sheds : Sheds x zero new
  placed_sheds = then_sheds x zero old new (aside_sheds x zero old aside) placed_sheds_here

  was_clear : IsClear x (shown old) name
  was_clear p e segment held = ((ready.rest.selection.members e).0 (ready.free.no_more e held)).1

  stays_named : StaysAt x old new name
  stays_named = ⊎_elim
      (λ same. inl same)
      (λ (text : shown new name ≡ Some (text_of left)). inr (was_clear, subst IsSome (sym text) refl))
      places.shows

  pub placed_none_gone : NoneIsGone x zero new
  placed_none_gone p other segment =
      stays_then x zero old new other (aside_stays x zero old aside p other segment)
      (⊎_elim
      (λ (is : other ≡ name). subst (StaysAt x old new) (sym is) stays_named)
      (λ apart. inl (still other (segment_apart p other segment) apart))
      (same_or_apart other name))

  module _ (on_disk : IsOnDisk new name (text_of ready.rest.left)) where
    -- the old one has an entry that is not left
    name_apart : name ≢ source
    name_apart is =
        let held : HeldAt name (shown old name) expired.some =
        subst (λ (n : List ℕ). HeldAt n (shown old n) expired.some) (sym is)
        (subst (λ (o : Option (List ℕ)). HeldAt source o expired.some) (sym source_was)
        (segment_has source period (text_of es) es file.segment file.archive expired.some expired.has)) in
        ((ready.rest.selection.members expired.some).0 (ready.free.no_more expired.some held)).1 expired.expired

    source_now : shown new source ≡ Some (text_of es)
    source_now = still source (segment_apart period source file.segment) (λ is. name_apart (sym is)) ∙ source_was

    pub placed_spared : IsSpared x new source
    placed_spared = record {
      period = period;
      dated = dated;
      entries = es;
      whole = record {
        is_file = file_as (shown zero) (shown new) source period es (source_now ∙ sym file.file) file;
        some = expired;
      };
      segment = file.segment;
      beside = λ e held not.
          let was = segment_no_more source period (text_of es) es file.segment file.archive e
          (subst (λ (o : Option (List ℕ)). HeldAt source o e) source_now held) in
          record {
            other = name;
            apart = name_apart;
            period = period;
            segment = ready.free.segment;
            text = text_of left;
            on_disk = on_disk;
            at = segment_has name period (text_of left) left ready.free.segment archive e
                ((ready.rest.selection.members e).1 (was, not));
          };
    }

-- all of it is expired
pub expired_spared : (x : Expired) (state : State) (source period : List ℕ) (es : List Entry)
    → IsSegmentFile (shown state) source period es → SomeExpired x es → IsPeriodText period
    → ((e : Entry) → Has es e → IsExpired x e) → IsSpared x state source
expired_spared x state source period es file some dated all = record {
  period = period;
  dated = dated;
  entries = es;
  whole = record { is_file = file; some = some };
  segment = file.segment;
  beside = λ e held not. absurd (not (all e (segment_no_more source period (text_of es) es file.segment file.archive e
      (subst (λ (o : Option (List ℕ)). HeldAt source o e) file.file held))));
}

-- ---- a segment is removed

module _ (x : Expired) (old new : State) (name : List ℕ) (s : IsSpared x old name) (removes : RemovesFile old new name) where
  gone : shown new name ≡ None
  gone = ap shown_now removes.entry.here

  others_still : (other : List ℕ) → other ≢ name → shown new other ≡ shown old other
  others_still other apart = ap shown_now (removes.entry.others other apart)

  beside_shown : (e : Entry) (b : IsBeside old name e) → HeldAt b.other (shown new b.other) e
  beside_shown e b =
      subst (λ (o : Option (List ℕ)). HeldAt b.other o e)
      (sym (others_still b.other b.apart ∙ ap shown_now b.on_disk.entry)) b.at

  module _ (after : Files) (may : MayLeaveCounted new after) where
    other_may : (other : List ℕ) → Counts other → other ≢ name → NameMayLeave (old.entries other) (after other)
    other_may other counts apart =
        subst (λ (e : DiskEntry). NameMayLeave e (after other)) (removes.entry.others other apart) (may other counts)

    as_before : NameMayLeave (old.entries name) (after name) → MayLeaveCounted old after
    as_before here other counts = ⊎_elim
        (λ (is : other ≡ name). subst (λ (n : List ℕ). NameMayLeave (old.entries n) (after n)) (sym is) here)
        (λ apart. other_may other counts apart)
        (same_or_apart other name)

    -- with the file that is shown
    abbrev before : Files
    before = with_file after name (shown old name)

    with_it : MayLeaveCounted old before
    with_it other counts = ⊎_elim
        (λ (is : other ≡ name). subst (λ (n : List ℕ). NameMayLeave (old.entries n) (before other)) (sym is)
        (subst (λ (o : Option (List ℕ)). NameMayLeave (old.entries name) o)
        (sym (with-here after name other (shown old name) is)) (shown_left (old.entries name))))
        (λ (apart : other ≢ name). subst (λ (o : Option (List ℕ)). NameMayLeave (old.entries other) o)
        (sym (with-other after name other (shown old name) apart)) (other_may other counts apart))
        (same_or_apart other name)

    beside_held : (e : Entry) → IsBeside old name e → Held after e
    beside_held e b = record {
      name = b.other;
      at = subst (λ (o : Option (List ℕ)). HeldAt b.other o e)
          (sym (only_is b.text (after b.other)
          (subst (λ (d : DiskEntry). NameMayLeave d (after b.other)) b.on_disk.entry
          (other_may b.other (inr (b.period, b.segment)) b.apart)))) b.at;
    }

    held_without : (e : Entry) → ¬ (IsExpired x e) → Held before e → Held after e
    held_without e not h = ⊎_elim
        (λ (is : h.name ≡ name). beside_held e (s.beside e
        (subst (λ (o : Option (List ℕ)). HeldAt name o e) (with-here after name name (shown old name) refl)
        (subst (λ (n : List ℕ). HeldAt n (before n) e) is h.at)) not))
        (λ (apart : h.name ≢ name). record {
          name = h.name;
          at = subst (λ (o : Option (List ℕ)). HeldAt h.name o e) (with-other after name h.name (shown old name) apart)
              h.at;
        })
        (same_or_apart h.name name)

    held_with : (e : Entry) → after name ≡ None → Held after e → Held before e
    held_with e none h = ⊎_elim
        (λ (is : h.name ≡ name). absurd (subst (λ (o : Option (List ℕ)). HeldAt name o e) none
        (subst (λ (n : List ℕ). HeldAt n (after n) e) is h.at)))
        (λ (apart : h.name ≢ name). record {
          name = h.name;
          at = subst (λ (o : Option (List ℕ)). HeldAt h.name o e)
              (sym (with-other after name h.name (shown old name) apart)) h.at;
        })
        (same_or_apart h.name name)

    left_either : NameMayLeave (old.entries name) (after name) ⊎ (after name ≡ None)
    left_either =
        retired_leaves (old.entries name) (after name)
        (subst (λ (e : DiskEntry). NameMayLeave e (after name)) removes.entry.here
        (may name (inr (s.period, s.segment))))

    module _ (committed received some : List Entry) (are : AreLeft x committed some)
        (keeps : Keeps old committed received) where
      removed_lost : (e : Entry) → Has some e → Held after e
      removed_lost e has = ⊎_elim
          (λ here. keeps.nothing_lost after (as_before here) e (are e has).0)
          (λ none. held_without e (are e has).1 (keeps.nothing_lost before with_it e (are e has).0))
          left_either

      removed_forged : (e : Entry) → Held after e → Has received e
      removed_forged e held = ⊎_elim
          (λ here. keeps.nothing_forged after (as_before here) e held)
          (λ none. keeps.nothing_forged before with_it e (held_with e none held))
          left_either

  pub removed_sheds : Sheds x old new
  removed_sheds = record {
    kept = λ committed received some are keeps. record {
      nothing_lost = λ after may e has. removed_lost after may committed received some are keeps e has;
      nothing_forged = λ after may e held. removed_forged after may committed received some are keeps e held;
    };
    stays = λ e not h. ⊎_elim
        (λ (is : h.name ≡ name).
        let b = s.beside e (subst (λ (n : List ℕ). HeldAt n (shown old n) e) is h.at) not in
        record { name = b.other; period = b.period; segment = b.segment; at = beside_shown e b })
        (λ (apart : h.name ≢ name). record {
          name = h.name;
          period = h.period;
          segment = h.segment;
          at = subst (λ (o : Option (List ℕ)). HeldAt h.name o e) (sym (others_still h.name apart)) h.at;
        })
        (same_or_apart h.name name);
    no_more = λ e h. ⊎_elim
        (λ (is : h.name ≡ name). absurd (subst (λ (o : Option (List ℕ)). HeldAt name o e) gone
        (subst (λ (n : List ℕ). HeldAt n (shown new n) e) is h.at)))
        (λ (apart : h.name ≢ name). record {
          name = h.name;
          period = h.period;
          segment = h.segment;
          at = subst (λ (o : Option (List ℕ)). HeldAt h.name o e) (others_still h.name apart) h.at;
        })
        (same_or_apart h.name name);
    changes = λ other differs. ⊎_elim
        (λ (is : other ≡ name). subst (ChangesAt x (shown old) (shown new)) (sym is)
        (inr (inl ((s.period, s.entries, s.whole), gone))))
        (λ apart. inl (others_still other apart))
        (same_or_apart other name);
    others = λ other differs not. others_still other (λ is. not s.period s.dated (subst (IsSegment s.period) (sym is) s.segment));
  }

pub remove_sheds : {T : Type 0} (x : Expired) (old new : State) (name : List ℕ) (r : Result T DiskFault)
    → Removes old new name r → IsSpared x old name → Sheds x old new
remove_sheds x old new name (Ok done) removes s = removed_sheds x old new name s removes
remove_sheds x old new name (Err fault) fails s =
    ⊎_elim (λ same. unchanged_sheds x old new same) (λ removes. removed_sheds x old new name s removes) fails.done

pub remove_others : {T : Type 0} (old new : State) (name : List ℕ) (r : Result T DiskFault) → Removes old new name r
    → (other : List ℕ) → other ≢ name → shown new other ≡ shown old other
remove_others old new name (Ok done) removes other apart = ap shown_now (removes.entry.others other apart)
remove_others old new name (Err fault) fails other apart = ⊎_elim
    (λ same. ap shown_now (same.entries other))
    (λ removes. ap shown_now (removes.entry.others other apart))
    fails.done

pub remove_lost : {T : Type 0} (old new : State) (name : List ℕ) (r : Result T DiskFault) → Removes old new name r
    → new.lost ≡ old.lost
remove_lost old new name (Ok done) removes = removes.entry.lost
remove_lost old new name (Err fault) fails = ⊎_elim (λ same. same.lost) (λ removes. removes.entry.lost) fails.done
