-- Steps after which a disk holds the same set.
use Rattle.std.proofs.Common.{◌≡◌, ◌≢◌, ◌⊎◌, inl, inr, ⊎_elim, ℕ, Bool, if◌then◌else◌, List, [], ◌∷◌, ◌++◌, refl, sym}
use Rattle.std.proofs.Common.{ap, subst, ◌∙◌, arith, get_or, length, length-append}
use Rattle.std.specs.Prelude.{Contains, codes, IsNone, Option, None, Some, OnOk, Result, Ok, Err}
use Rattle.std.proofs.lemmas.List.Elements.{Contains-push_cases}
use Rattle.std.specs.Option.{option_map}
use Rattle.std.proofs.lemmas.Bool.{cases_Bool}
use Rattle.disk.specs.Calls.{FailsAt, IsUnchanged, Removes, RemovesFile, RenamesFile, SettlesNames, SyncsNames}
use Rattle.disk.specs.Files.{File, settled}
use Rattle.disk.specs.Memory.{shown_now}
use Rattle.disk.specs.States.{AnyMayBe, Entry as DiskEntry, Files, MayBe, NameMayLeave, State, kept, retired}
use Rattle.disk.specs.declared.fault.DiskFault.{DiskFault}
use Rattle.disk.specs.declared.fault.DiskFault.TheVariants.{Missing}
use Rattle.journal.specs.Journals.{IsOnDisk, KeepsOthers}
use Rattle.archive_text.specs.Entries.{Entry}
use Rattle.record_store.specs.Crashes.{MayLeaveCounted}
use Rattle.record_store.specs.Holdings.{Held, HeldAt}
use Rattle.record_store.specs.Names.{Counts, IsSegment}
use Rattle.record_store.specs.Puts.{KeepsOrSettlesApart, LeavesOldOr}
use Rattle.record_store.specs.Segments.{IsSegmentOf, ShowsNoMore}
use Rattle.record_store.proofs.Covering.{Covered, Covers, covers_keeps, less_covers, with-here, with-other, with_file}
use Rattle.record_store.proofs.Drafted.{name_apart, segment_has, segment_keeps, segment_no_more}
use Rattle.record_store.proofs.Folders.{gone_holds, held_counts, nothing}
use Rattle.record_store.proofs.Leavings.{only_is, replaced_leaves, settled_may, settled_shown, shown_left}
use Rattle.record_store.proofs.Named.{not_both, same_or_apart}
use Rattle.record_store.proofs.Placed.{is_put}
use Rattle.store_upkeep.specs.Compaction.{HasAll, KeepsSet, MayBePlaced, RemovesOther, ShowsLess, shown}
use Rattle.store_reading.specs.Whole.{IsWholeSegment}
use Rattle.store_upkeep.specs.Whole.{IsWholeAt, IsWholeFile}
use Rattle.store_upkeep.proofs.Verdicts.{day_named}

-- ---- steps behind one another

pub same_set : (a : State) → KeepsSet a a
same_set a = record {
  kept = λ committed received keeps. keeps;
  held = λ e. (λ h. h, λ h. h);
  whole = λ name counts. inl refl;
}

pub then_set : (a b c : State) → KeepsSet a b → KeepsSet b c → KeepsSet a c
then_set a b c one two = record {
  kept = λ committed received keeps. two.kept committed received (one.kept committed received keeps);
  held = λ e. (λ h. (one.held e).0 ((two.held e).0 h), λ h. (two.held e).1 ((one.held e).1 h));
  whole = λ name counts. both name (two.whole name counts) (one.whole name counts);
}
  where
    both : (name : List ℕ) → (shown c name ≡ shown b name) ⊎ IsWholeAt (shown c) name
        → (shown b name ≡ shown a name) ⊎ IsWholeAt (shown b) name
        → (shown c name ≡ shown a name) ⊎ IsWholeAt (shown c) name
    both name (inr whole) before = inr whole
    both name (inl same) (inl was) = inl (same ∙ was)
    both name (inl same) (inr whole) = inr (λ file is. whole file (sym same ∙ is))

-- ---- names that are settled, and others that do not count

held_on : (one other : Files) → ((name : List ℕ) → Counts name → other name ≡ one name) → (e : Entry) → Held one e
    → Held other e
held_on one other same e h = record {
  name = h.name;
  at = subst (λ (o : Option (List ℕ)). HeldAt h.name o e)
      (sym (same h.name (held_counts h.name (one h.name) e h.at))) h.at;
}

module _ (old new : State)
    (settles : (name : List ℕ) → Counts name
    → (new.entries name ≡ old.entries name) ⊎ (new.entries name ≡ kept (old.entries name))) where
  shows_same : (name : List ℕ) → Counts name → shown new name ≡ shown old name
  shows_same name counts = settled_shown (old.entries name) (new.entries name) (settles name counts)

  pub settled_set : KeepsSet old new
  settled_set = record {
    kept = λ committed received keeps. covers_keeps old new nothing
        (less_covers old new nothing
        (λ name counts octets may. settled_may (old.entries name) (new.entries name) octets (settles name counts) may))
        committed received (λ e none. absurd none) keeps;
    held = λ e. (
      held_on (shown new) (shown old) (λ name counts. sym (shows_same name counts)) e,
      held_on (shown old) (shown new) shows_same e,
    );
    whole = λ name counts. inl (shows_same name counts);
  }

pub unchanged_set : (old new : State) → IsUnchanged old new → KeepsSet old new
unchanged_set old new same = settled_set old new (λ name counts. inl (same.entries name))

pub aside_set : (old new : State) (draft : List ℕ) → KeepsOthers old new draft → ¬ (Counts draft) → KeepsSet old new
aside_set old new draft others apart =
    settled_set old new (λ name counts. inl (others name (λ is. apart (subst Counts is counts))))

settled_either : (old new : State) (name : List ℕ) → SettlesNames old new
    → (new.entries name ≡ old.entries name) ⊎ (new.entries name ≡ kept (old.entries name))
settled_either old new name settles =
    ⊎_elim
    (λ lost. inl (settles.entries name
    ∙ ap (λ (b : Bool). if b then old.entries name else kept (old.entries name)) lost))
    (λ sound. inr (settles.entries name
    ∙ ap (λ (b : Bool). if b then old.entries name else kept (old.entries name)) sound))
    (cases_Bool old.lost)

pub names_set : {T : Type 0} (old new : State) (synced : Result T DiskFault) → SyncsNames old new synced
    → KeepsSet old new
names_set old new (Ok done) settles = settled_set old new (λ name counts. settled_either old new name settles)
names_set old new (Err fault) fails =
    settled_set old new
    (λ name counts. inl (⊎_elim (λ still. still.entries name) (λ loses. loses.entries name) fails))

-- ---- a draft gets its name

module _ (old new : State) (draft name day text : List ℕ) (es : List Entry)
    (p : MayBePlaced old draft name day text es) (renames : RenamesFile old new draft name) where
  target : new.entries name ≡ record (retired (old.entries name)) { now = Some (settled text) }
  target =
      renames.target
      ∙ ap (λ (f : Option File). record (retired (old.entries name)) { now = f }) p.draft_is.now

  leaves : LeavesOldOr old new name text
  leaves octets may =
      replaced_leaves (old.entries name) text octets (subst (λ (e : DiskEntry). NameMayLeave e octets) target may)

  others : KeepsOrSettlesApart old new draft name
  others other from to = inl (renames.others other from to)

  shown_is : shown new name ≡ Some text
  shown_is = ap shown_now target

  still : (other : List ℕ) → Counts other → other ≢ name → shown new other ≡ shown old other
  still other counts differs =
      ap shown_now (renames.others other (λ is. p.apart (subst Counts is counts)) differs)

  there : (e : Entry) → Held (shown new) e → Held (shown old) e
  there e h = ⊎_elim
      (λ (is : h.name ≡ name). p.held e (segment_no_more name day text es p.segment p.archive e
      (subst (λ (o : Option (List ℕ)). HeldAt name o e) shown_is
      (subst (λ (n : List ℕ). HeldAt n (shown new n) e) is h.at))))
      (λ (differs : h.name ≢ name). record {
        name = h.name;
        at = subst (λ (o : Option (List ℕ)). HeldAt h.name o e)
            (still h.name (held_counts h.name (shown new h.name) e h.at) differs) h.at;
      })
      (same_or_apart h.name name)

  back : (e : Entry) → Held (shown old) e → Held (shown new) e
  back e h = ⊎_elim
      (λ (is : h.name ≡ name). record {
        name = name;
        at = subst (λ (o : Option (List ℕ)). HeldAt name o e) (sym shown_is)
            (segment_has name day text es p.segment p.archive e
            (p.no_more e (subst (λ (n : List ℕ). HeldAt n (shown old n) e) is h.at)));
      })
      (λ (differs : h.name ≢ name). record {
        name = h.name;
        at = subst (λ (o : Option (List ℕ)). HeldAt h.name o e)
            (sym (still h.name (held_counts h.name (shown old h.name) e h.at) differs)) h.at;
      })
      (same_or_apart h.name name)

  placed_whole : IsWholeFile name text
  placed_whole = record {
    journal = λ journal. absurd (not_both day name journal p.segment);
    segment = λ other dated segment. subst (λ (d : List ℕ). IsWholeSegment d name text)
        (day_named day other name p.segment segment)
        (record { entries = es; archive = p.archive; named = p.named });
  }

  placed_whole_at : IsWholeAt (shown new) name
  placed_whole_at file is =
      let same : Some text ≡ Some file = sym shown_is ∙ is in
      let text_is : text ≡ file = cc same in
      subst (IsWholeFile name) text_is placed_whole

  pub placed_set : KeepsSet old new
  placed_set = record {
    kept = λ committed received keeps.
        segment_keeps old new draft name day text es p.segment p.archive p.no_more p.apart leaves others committed
        received
        (λ e has. keeps.nothing_forged (shown old) (λ n counts. shown_left (old.entries n)) e (p.held e has))
        keeps;
    held = λ e. (there e, back e);
    whole = λ n counts. ⊎_elim
        (λ (is : n ≡ name). inr (subst (IsWholeAt (shown new)) (sym is) placed_whole_at))
        (λ differs. inl (still n counts differs))
        (same_or_apart n name);
  }

-- ---- a segment is removed that another has

past_or_last : (past : List (Option File)) (last : Option File) (octets : Option (List ℕ))
    → AnyMayBe (past ++ last ∷ []) octets → MayBe last octets ⊎ AnyMayBe past octets
past_or_last [] last octets (inl here) = inl here
past_or_last [] last octets (inr none) = absurd none
past_or_last (file ∷ past) last octets (inl here) = inr (inl here)
past_or_last (file ∷ past) last octets (inr more) =
    elim (past_or_last past last octets more) [ inl here ↦ inl here | inr before ↦ inr (inr before) ]

-- what a crash leaves of it is what it might have left before, or nothing
pub retired_leaves : (entry : DiskEntry) (octets : Option (List ℕ)) → NameMayLeave (retired entry) octets
    → NameMayLeave entry octets ⊎ (octets ≡ None)
retired_leaves entry octets (inl now) = inr now
retired_leaves entry octets (inr (inl past)) =
    elim (past_or_last entry.past entry.now octets past) [
      | inl here ↦ inl (inl here)
      | inr before ↦ inl (inr (inl before))
    ]
retired_leaves entry octets (inr (inr moved)) = inl (inr (inr moved))

module _ (old new : State) (name joined day text : List ℕ) (es : List Entry) (on_disk : IsOnDisk old joined text)
    (segment : IsSegment day joined) (archive : IsSegmentOf day text es) (named : IsSegment day name)
    (no_more : ShowsNoMore old name es) (differs : name ≢ joined) (removes : RemovesFile old new name) where
  gone : shown new name ≡ None
  gone = ap shown_now removes.entry.here

  stays : (other : List ℕ) → other ≢ name → shown new other ≡ shown old other
  stays other apart = ap shown_now (removes.entry.others other apart)

  joined_apart : joined ≢ name
  joined_apart is = differs (sym is)

  joined_shown : shown new joined ≡ Some text
  joined_shown = stays joined joined_apart ∙ ap shown_now on_disk.entry

  -- where a crash leaves the file as it might have before
  as_before : (after : Files) → MayLeaveCounted new after → NameMayLeave (old.entries name) (after name)
      → Covered old after nothing
  as_before after may here = record {
    before = after;
    may = λ other counts. ⊎_elim
        (λ (is : other ≡ name). subst (λ (n : List ℕ). NameMayLeave (old.entries n) (after n)) (sym is) here)
        (λ (apart : other ≢ name). subst (λ (e : DiskEntry). NameMayLeave e (after other))
        (removes.entry.others other apart) (may other counts))
        (same_or_apart other name);
    holds = record { kept = λ e held. held; only = λ e held. inl held };
  }

  -- where it leaves none
  without : (after : Files) → MayLeaveCounted new after → after name ≡ None → Covered old after nothing
  without after may none = record {
    before = before;
    may = λ other counts. ⊎_elim
        (λ (is : other ≡ name). subst (λ (n : List ℕ). NameMayLeave (old.entries n) (before other)) (sym is)
        (subst (λ (o : Option (List ℕ)). NameMayLeave (old.entries name) o)
        (sym (with-here after name other (shown old name) is)) (shown_left (old.entries name))))
        (λ (apart : other ≢ name). subst (λ (o : Option (List ℕ)). NameMayLeave (old.entries other) o)
        (sym (with-other after name other (shown old name) apart))
        (subst (λ (e : DiskEntry). NameMayLeave e (after other)) (removes.entry.others other apart)
        (may other counts)))
        (same_or_apart other name);
    holds = gone_holds before after name
        (λ other counts apart. sym (with-other after name other (shown old name) apart))
        (inr none)
        (λ e held. (
          joined,
          joined_apart,
          subst (λ (o : Option (List ℕ)). HeldAt joined o e) (sym there)
              (segment_has joined day text es segment archive e
              (no_more e (subst (λ (o : Option (List ℕ)). HeldAt name o e)
              (with-here after name name (shown old name) refl) held))),
        ));
  }
    where
      before : Files
      before = with_file after name (shown old name)

      there : before joined ≡ Some text
      there =
          with-other after name joined (shown old name) joined_apart
          ∙ only_is text (after joined)
          (subst (λ (e : DiskEntry). NameMayLeave e (after joined))
          (removes.entry.others joined joined_apart ∙ on_disk.entry) (may joined (inr (day, segment))))

  removed_covers : Covers old new nothing
  removed_covers after may =
      ⊎_elim
      (as_before after may)
      (without after may)
      (retired_leaves (old.entries name) (after name)
      (subst (λ (e : DiskEntry). NameMayLeave e (after name)) removes.entry.here (may name (inr (day, named)))))

  forth : (e : Entry) → Held (shown new) e → Held (shown old) e
  forth e h = ⊎_elim
      (λ (is : h.name ≡ name). absurd (subst (λ (o : Option (List ℕ)). HeldAt name o e) gone
      (subst (λ (n : List ℕ). HeldAt n (shown new n) e) is h.at)))
      (λ (apart : h.name ≢ name). record {
        name = h.name;
        at = subst (λ (o : Option (List ℕ)). HeldAt h.name o e) (stays h.name apart) h.at;
      })
      (same_or_apart h.name name)

  over : (e : Entry) → Held (shown old) e → Held (shown new) e
  over e h = ⊎_elim
      (λ (is : h.name ≡ name). record {
        name = joined;
        at = subst (λ (o : Option (List ℕ)). HeldAt joined o e) (sym joined_shown)
            (segment_has joined day text es segment archive e
            (no_more e (subst (λ (n : List ℕ). HeldAt n (shown old n) e) is h.at)));
      })
      (λ (apart : h.name ≢ name). record {
        name = h.name;
        at = subst (λ (o : Option (List ℕ)). HeldAt h.name o e) (sym (stays h.name apart)) h.at;
      })
      (same_or_apart h.name name)

  pub removed_set : KeepsSet old new
  removed_set = record {
    kept = λ committed received keeps.
        covers_keeps old new nothing removed_covers committed received (λ e none. absurd none) keeps;
    held = λ e. (forth e, over e);
    whole = λ n counts. ⊎_elim
        (λ (is : n ≡ name). inr (λ file there.
        let none : None ≡ Some file = sym gone ∙ ap (shown new) (sym is) ∙ there in absurd (cc none)))
        (λ apart. inl (stays n apart))
        (same_or_apart n name);
  }

-- what was joined stays so, whatever is removed beside it
module _ (old new : State) (name joined : List ℕ) (done : RemovesOther old new name joined) where
  pub step_less : ShowsLess old new
  step_less other = ⊎_elim
      (λ same. inl (ap shown_now (same.entries other)))
      (λ removes. ⊎_elim
      (λ (is : other ≡ name). inr (ap (shown new) is ∙ ap shown_now removes.1.entry.here))
      (λ apart. inl (ap shown_now (removes.1.entry.others other apart)))
      (same_or_apart other name))
      done

  pub step_other : (other : List ℕ) → other ≢ name → shown new other ≡ shown old other
  step_other other apart = ⊎_elim
      (λ same. ap shown_now (same.entries other))
      (λ removes. ap shown_now (removes.1.entry.others other apart))
      done

  pub step_lost : new.lost ≡ old.lost
  step_lost = ⊎_elim (λ same. same.lost) (λ removes. removes.1.entry.lost) done

  module _ (segments : List (List ℕ)) (day text : List ℕ) (es : List Entry)
      (all : HasAll old segments joined day text es) where
    pub step_set : Contains segments name → KeepsSet old new
    step_set listed = ⊎_elim
        (unchanged_set old new)
        (λ removes. removed_set old new name joined day text es all.on_disk all.segment all.archive
        (all.are name listed) (all.no_more name listed) removes.0 removes.1)
        done

    pub step_all : HasAll new segments joined day text es
    step_all = record {
      on_disk = record {
        entry = ⊎_elim (λ same. same.entries joined)
            (λ removes. removes.1.entry.others joined (λ is. removes.0 (sym is))) done ∙ all.on_disk.entry;
        sound = step_lost ∙ all.on_disk.sound;
      };
      segment = all.segment;
      archive = all.archive;
      are = all.are;
      no_more = λ other there e held. ⊎_elim
          (λ same. all.no_more other there e (subst (λ (o : Option (List ℕ)). HeldAt other o e) same held))
          (λ none. absurd (subst (λ (o : Option (List ℕ)). HeldAt other o e) none held))
          (step_less other);
    }

pub less_then : (a b c : State) → ShowsLess a b → ShowsLess b c → ShowsLess a c
less_then a b c one two name = both (two name) (one name)
  where
    both : (shown c name ≡ shown b name) ⊎ (shown c name ≡ None) → (shown b name ≡ shown a name) ⊎ (shown b name ≡ None)
        → (shown c name ≡ shown a name) ⊎ (shown c name ≡ None)
    both (inr none) before = inr none
    both (inl same) (inl was) = inl (same ∙ was)
    both (inl same) (inr none) = inr (same ∙ none)

pub gone_more : (old new : State) (names : List (List ℕ)) (last kept : List ℕ) → ShowsLess old new
    → ((name : List ℕ) → Contains names name → name ≢ kept → shown old name ≡ None)
    → (last ≢ kept → shown new last ≡ None) → (name : List ℕ) → Contains (names ++ last ∷ []) name → name ≢ kept
    → shown new name ≡ None
gone_more old new names last kept less before here name has differs = ⊎_elim
    (λ there. ⊎_elim (λ same. same ∙ before name there differs) (λ none. none) (less name))
    (λ (is : last ≡ name). subst (λ (n : List ℕ). shown new n ≡ None) is (here (λ same. differs (sym is ∙ same))))
    (Contains-push_cases names last name has)

-- a call that removes
pub removes_other : {T : Type 0} (old new : State) (name kept : List ℕ) (result : Result T DiskFault) → name ≢ kept
    → Removes old new name result → RemovesOther old new name kept
removes_other old new name kept (Ok done) differs removes = inr (differs, removes)
removes_other old new name kept (Err fault) differs fails =
    ⊎_elim (λ same. inl same) (λ removes. inr (differs, removes)) fails.done

pub removes_gone : {T : Type 0} (old new : State) (name : List ℕ) (result : Result T DiskFault)
    → Removes old new name result → OnOk result (shown new name ≡ None)
removes_gone old new name (Ok done) removes = ap shown_now removes.entry.here
removes_gone old new name (Err fault) fails = tt

-- no file is shown where there was none to remove, or it was removed
pub gone_missing : (old new : State) (name : List ℕ) (fault : DiskFault)
    → FailsAt old new name fault (RemovesFile old new name) → fault ≡ Missing → shown new name ≡ None
gone_missing old new name fault fails is = ⊎_elim
    (λ same. ap shown_now (same.entries name) ∙ none_now (old.entries name).now (fails.missing is))
    (λ removes. ap shown_now removes.entry.here)
    fails.done
  where
    none_now : (o : Option File) → IsNone o → option_map (λ (f : File). f.shown) o ≡ None
    none_now None none = refl
    none_now (Some file) none = absurd (cc none)

-- ---- a draft is renamed, and the folder synced

module _ (old : State) (draft name day text : List ℕ) (es : List Entry)
    (p : MayBePlaced old draft name day text es) where
  draft_apart : name ≢ draft
  draft_apart = name_apart draft day name p.segment p.apart

  pub rename_fails_set : (new : State) (fault : DiskFault)
      → FailsAt old new draft fault ((draft ≢ name) × RenamesFile old new draft name) → KeepsSet old new
  rename_fails_set new fault fails =
      ⊎_elim (unchanged_set old new) (λ part. placed_set old new draft name day text es p part.1) fails.done

  pub renamed : (mid : State)
      → (draft ≡ name → IsUnchanged old mid) × (draft ≢ name → RenamesFile old mid draft name)
      → RenamesFile old mid draft name
  renamed mid renames = renames.1 (λ is. draft_apart (sym is))

  pub place_set : {T : Type 0} (mid new : State)
      → (draft ≡ name → IsUnchanged old mid) × (draft ≢ name → RenamesFile old mid draft name)
      → (synced : Result T DiskFault) → SyncsNames mid new synced → KeepsSet old new
  place_set mid new renames synced syncs =
      then_set old mid new (placed_set old mid draft name day text es p (renamed mid renames))
      (names_set mid new synced syncs)

  pub place_on_disk : (mid new : State)
      → (draft ≡ name → IsUnchanged old mid) × (draft ≢ name → RenamesFile old mid draft name)
      → SettlesNames mid new → IsOnDisk new name text
  place_on_disk mid new renames settles =
      is_put old old mid new draft name text draft_apart (λ other apart. refl) p.draft_is (renamed mid renames) settles

pub rename_fails_others : (old new : State) (draft name : List ℕ) (fault : DiskFault)
    → FailsAt old new draft fault ((draft ≢ name) × RenamesFile old new draft name)
    → KeepsOrSettlesApart old new draft name
rename_fails_others old new draft name fault fails other from to = inl (⊎_elim
    (λ same. same.entries other)
    (λ part. part.1.others other from to)
    fails.done)

-- what a joined segment is called before counts for nothing
pub draft_apart_name : ¬ (Counts (codes "compact.archive"))
draft_apart_name (inl journal) = omega (arith, ap (λ (l : List ℕ). get_or l 0 0) journal.name_is)
draft_apart_name (inr (day, segment)) =
    omega (
      arith,
      ap length segment.name_is,
      length-append (day ++ 46 ∷ segment.digest) (codes ".archive"),
      length-append day (46 ∷ segment.digest),
      segment.long,
    )
