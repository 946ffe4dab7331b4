-- What is left of a segment is written, and gets its name.
use Rattle.std.proofs.Common.{◌≡◌, ◌≢◌, ℕ, List, [], ◌++◌, refl, sym, ap, subst, ◌∙◌, append-nil, arith}
use Rattle.std.specs.Prelude.{Option, None, Some, IsSomeAnd, Result}
use Rattle.std.specs.Io.KnownBytes.{Appends}
use Rattle.std.specs.Option.{option_map}
use Rattle.disk.specs.Calls.{FailsAt, IsUnchanged, RenamesFile, SyncsNames}
use Rattle.disk.specs.Files.{File, settled}
use Rattle.disk.specs.Memory.{shown_now}
use Rattle.disk.specs.States.{Entry as DiskEntry, Files, State}
use Rattle.disk.specs.declared.fault.DiskFault.{DiskFault}
use Rattle.journal.specs.Journals.{KeepsOthers, Shows}
use Rattle.octet_devices.specs.Device.{InputState}
use Rattle.archive_text.specs.Entries.{Entry}
use Rattle.archive_text.specs.Text.{IsArchive, text_of}
use Rattle.archive_text.specs.declared.limits.TheConstants.{ENTRY_MAX}
use Rattle.archive_text.proofs.Texts.{same_text}
use Rattle.archive_streams.specs.Entries.{IsWhole}
use Rattle.archive_sets.specs.Selected.{Selected}
use Rattle.archive_sets.specs.Selections.{IsSelection}
use Rattle.archive_sets.proofs.SelectionLaws.{selection_archive}
use Rattle.record_store.specs.Holdings.{HeldAt}
use Rattle.record_store.specs.Names.{Counts, IsSegment}
use Rattle.record_store.specs.Segments.{ShowsNoMore, segment_name}
use Rattle.record_store.proofs.Drafted.{segment_has}
use Rattle.record_store.proofs.Placed.{put_others}
use Rattle.record_store.proofs.Remaining.{put_shows, rename_shows}
use Rattle.store_reading.specs.Folders.{Opens}
use Rattle.store_reading.proofs.Joined.{rest_of, whole_rest}
use Rattle.store_upkeep.specs.Compaction.{MayBePlaced, shown}
use Rattle.store_upkeep.proofs.SameSets.{place_set, rename_fails_others, rename_fails_set, renamed}
use Rattle.store_expiry.specs.Expired.{IsExpired}
use Rattle.store_expiry.specs.Expiry.{IsFree, IsReadyRest, IsRestOf, Places, expire_draft}
use Rattle.store_expiry.specs.Surveys.{IsArchiveAt, IsNoneOrWhole, IsSegmentFile}
use Rattle.store_expiry.specs.declared.expired.Expired.{Expired}
use Rattle.store_expiry.proofs.Changing.{draft_apart, free_as, rest_archive, segment_apart}

-- ---- what was selected

left_of : (o left : Option (List ℕ)) (file : List ℕ) → IsSomeAnd o (λ octets. left ≡ Some octets) → o ≡ Some file
    → left ≡ Some file
left_of None left file opened is = absurd opened
left_of (Some x) left file opened is = opened ∙ is

pub whole_of : (d e : InputState) (xs ys : List Entry) → d.left ≡ Some (text_of xs) → IsArchive ENTRY_MAX xs
    → IsWhole d e ys → ys ≡ xs
whole_of d e xs ys left archive w =
    let r = rest_of d.left e.left (text_of ys) (text_of xs) w.consumed left in
    let none = whole_rest e.left r.0 r.1 w.none_left in
    same_text ENTRY_MAX ENTRY_MAX ys xs (omega arith) (omega arith) w.archive archive
    (sym (r.2 ∙ ap (λ (t : List ℕ). text_of ys ++ t) none ∙ append-nil (text_of ys)))

appended_is : (new : Option (List ℕ)) (text : List ℕ) → Appends (Some []) new text → new ≡ Some text
appended_is None text h = absurd h
appended_is (Some octets) text h = ap (λ (l : List ℕ). Some l) h

pub rest_written : (x : Expired) (new : State) (files : Files) (name draft : List ℕ) (es : List Entry) (d e : InputState)
    (before after : Option (List ℕ)) (n : ℕ) → Opens files name d → files name ≡ Some (text_of es)
    → IsArchive ENTRY_MAX es → before ≡ Some [] → Selected (λ y. ¬ (IsExpired x y)) d e before after n
    → ((text : List ℕ) → after ≡ Some text → Shows new draft (settled text)) → IsRestOf x new draft es
rest_written x new files name draft es d e before after n opened file archive empty s settles =
    let same = whole_of d e es s.xs (left_of (files name) d.left (text_of es) opened file) archive s.whole in
    record {
      left = s.ys;
      draft_is = settles (text_of s.ys) (appended_is after (text_of s.ys)
          (subst (λ (o : Option (List ℕ)). Appends o after (text_of s.ys)) empty s.written));
      selection = subst (λ (l : List Entry). IsSelection (λ y. ¬ (IsExpired x y)) l s.ys) same s.selection;
    }

-- only the draft has changed
pub others_on : (a b c d : State) (draft : List ℕ) → IsUnchanged a b → KeepsOthers b c draft → KeepsOthers c d draft
    → KeepsOthers a d draft
others_on a b c d draft same one two other apart = two other apart ∙ one other apart ∙ same.entries other

pub others_still : (a b c : State) (draft name : List ℕ) → draft ≡ name → KeepsOthers a b draft → IsUnchanged b c
    → KeepsOthers a c name
others_still a b c draft name is others same other apart =
    same.entries other ∙ others other (λ to. apart (to ∙ is))

pub others_named : (a b : State) (draft name : List ℕ) → draft ≡ name → KeepsOthers a b draft → KeepsOthers a b name
others_named a b draft name is others other apart = others other (λ to. apart (to ∙ is))

pub shows_still : (old new : State) (name : List ℕ) (file : File) → IsUnchanged old new → Shows old name file
    → Shows new name file
shows_still old new name file same shows = record {
  now = ap (λ (e : DiskEntry). e.now) (same.entries name) ∙ shows.now;
  sound = same.lost ∙ shows.sound;
}

pub shown_of : (state : State) (name text : List ℕ) → Shows state name (settled text) → shown state name ≡ Some text
shown_of state name text shows = ap (λ (f : Option File). option_map (λ (g : File). g.shown) f) shows.now

pub unchanged_then : (a b c : State) → IsUnchanged a b → IsUnchanged b c → IsUnchanged a c
unchanged_then a b c one two = record {
  entries = λ name. two.entries name ∙ one.entries name;
  lost = two.lost ∙ one.lost;
}

-- then it was removed
pub others_dropped : (a b c d : State) (draft name : List ℕ) → draft ≡ name → KeepsOthers a b draft → IsUnchanged b c
    → KeepsOthers c d draft → KeepsOthers a d name
others_dropped a b c d draft name is first same last other apart =
    last other (λ to. apart (to ∙ is)) ∙ same.entries other ∙ first other (λ to. apart (to ∙ is))

pub others_after : (b c d : State) (draft name : List ℕ) → draft ≡ name → IsUnchanged b c → KeepsOthers c d draft
    → KeepsOthers b d name
others_after b c d draft name is same last other apart =
    last other (λ to. apart (to ∙ is)) ∙ same.entries other

-- ---- its name

module _ (x : Expired) (one two : State) (draft name period : List ℕ) (es : List Entry)
    (rest : IsRestOf x one draft es) (is_draft : draft ≡ expire_draft) (same : IsUnchanged one two)
    (archive : IsArchive ENTRY_MAX es) where
  -- what was drafted is an archive
  pub rest_there : IsArchiveAt (shown one) draft rest.left
  rest_there = record {
    archive = selection_archive (λ y. ¬ (IsExpired x y)) ENTRY_MAX es rest.left archive rest.selection;
    file = shown_of one draft (text_of rest.left) rest.draft_is;
  }

  pub ready_rest : IsFree one name period rest.left → IsReadyRest x two draft name period es
  ready_rest free = record {
    rest = record {
      left = rest.left;
      draft_is = shows_still one two draft (settled (text_of rest.left)) same rest.draft_is;
      selection = rest.selection;
    };
    is_draft = is_draft;
    free = record {
      segment = free.segment;
      named = free.named;
      no_more = λ e held. free.no_more e (subst (λ (o : Option (List ℕ)). HeldAt name o e)
          (ap shown_now (same.entries name)) held);
      whole = free_as (shown one) (shown two) name (ap shown_now (same.entries name)) free.whole;
    };
  }

-- a name that is free
pub name_free : (zero one : State) (name period : List ℕ) (left : List Entry) → IsUnchanged zero one
    → IsSegment period name → name ≡ segment_name period (text_of left)
    → ShowsNoMore one name left × IsNoneOrWhole (shown one) name → IsFree zero name period left
name_free zero one name period left same segment named free = record {
  segment = segment;
  named = named;
  no_more = λ e held. free.0 e (subst (λ (o : Option (List ℕ)). HeldAt name o e)
      (sym (ap shown_now (same.entries name))) held);
  whole = free_as (shown one) (shown zero) name (sym (ap shown_now (same.entries name))) free.1;
}

-- ---- it may be given

pub rest_may_be_placed : (x : Expired) (zero one : State) (source draft name period : List ℕ) (es : List Entry)
    (file : IsSegmentFile (shown zero) source period es) → KeepsOthers zero one expire_draft
    → (ready : IsReadyRest x one draft name period es)
    → MayBePlaced one draft name period (text_of ready.rest.left) ready.rest.left
rest_may_be_placed x zero one source draft name period es file aside ready = record {
  draft_is = ready.rest.draft_is;
  apart = λ counts. draft_apart (subst Counts ready.is_draft counts);
  segment = ready.free.segment;
  named = ready.free.named;
  archive = rest_archive x period es ready.rest.left file.archive ready.rest.selection;
  no_more = ready.free.no_more;
  held = λ e has. record {
    name = source;
    at = subst (λ (o : Option (List ℕ)). HeldAt source o e)
        (sym (ap shown_now (aside source (segment_apart period source file.segment)) ∙ file.file))
        (segment_has source period (text_of es) es file.segment file.archive e
        ((ready.rest.selection.members e).0 has).0);
  };
}

module _ (old : State) (draft name period text : List ℕ) (es : List Entry)
    (p : MayBePlaced old draft name period text es) where
  pub rename_fails_places : (new : State) (fault : DiskFault)
      → FailsAt old new draft fault ((draft ≢ name) × RenamesFile old new draft name) → Places old new draft name text
  rename_fails_places new fault fails = record {
    set = rename_fails_set old draft name period text es p new fault fails;
    shows = rename_shows old old new draft name text refl p.draft_is fault fails;
    others = rename_fails_others old new draft name fault fails;
  }

  pub sync_places : {T : Type 0} (mid new : State)
      → (draft ≡ name → IsUnchanged old mid) × (draft ≢ name → RenamesFile old mid draft name)
      → (synced : Result T DiskFault) → SyncsNames mid new synced → Places old new draft name text
  sync_places mid new renames synced syncs = record {
    set = place_set old draft name period text es p mid new renames synced syncs;
    shows = put_shows old old mid draft name text refl p.draft_is new synced
        (renamed old draft name period text es p mid renames) syncs;
    others = put_others old old mid new draft name (λ other apart. refl) renames synced syncs;
  }
