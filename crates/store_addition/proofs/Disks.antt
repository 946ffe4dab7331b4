-- Pieces are brought to the disk.
use Rattle.std.proofs.Common.{◌≡◌, inr, ⊎_elim, ℕ, ◌+◌, ◌*◌, ◌≤◌, List, [], ◌++◌, length, refl, sym, ap, subst}
use Rattle.std.proofs.Common.{append-nil, append_assoc, arith, ◌∙◌}
use Rattle.disk.specs.States.{Files, State}
use Rattle.octet_devices.specs.Device.{InputState}
use Rattle.archive_pages.specs.Paged.{entries_in}
use Rattle.archive_streams.specs.Entries.{IsBegun, Reads}
use Rattle.archive_streams.specs.declared.entries.ArchiveEntries.{ArchiveEntries}
use Rattle.archive_text.specs.Entries.{Entry}
use Rattle.archive_text.specs.Text.{text_of}
use Rattle.archive_text.proofs.Members.{has_either, has_left, has_right}
use Rattle.archive_text.proofs.Texts.{text_length}
use Rattle.journal.specs.Journals.{IsSound}
use Rattle.record_store.specs.Crashes.{HeldApart, InSegment, Keeps, MayLeaveCounted}
use Rattle.record_store.specs.Holdings.{Held}
use Rattle.record_store.specs.Segments.{GrowsBeside}
use Rattle.record_store.specs.declared.keeping.KeepFault.{KeepFault}
use Rattle.record_store.proofs.Remaining.{beside_less, beside_then, none_beside}
use Rattle.durable_store.specs.Causes.{IsKeepingCause}
use Rattle.durable_store.specs.Segments.{GainsOnly, octets_of}
use Rattle.durable_store.specs.declared.draft.DraftName.TheVariants.{Addition as Addition_draft}
use Rattle.durable_store.proofs.Daily.{gains_more, gains_none, gains_then, held_both, held_none}
use Rattle.durable_store.proofs.Failing.{keeping_less}
use Rattle.store_addition.specs.Additions.{AddsPart, AddsWhole, Counts, GrowsByPieces, IsAddingCause, TakesIn}
use Rattle.store_addition.specs.Adding.{Began, Gathering, Halted, IsNoSegment, IsPieceOf, OnDisk, UnderWay}
use Rattle.store_addition.specs.Adding.{WholeRead, Writes}
use Rattle.store_addition.specs.declared.adding.Adding.{Adding}
use Rattle.store_addition.specs.declared.adding.TheConstants.{PIECE_OCTETS}
use Rattle.store_addition.specs.declared.addition.Addition.{Addition}
use Rattle.store_addition.specs.declared.fault.AddFault.{AddFault}
use Rattle.store_addition.specs.declared.fault.AddFault.TheVariants.{Input, Segment, Memory}

-- the octets of the draft's name
abbrev draft : List ℕ
draft = octets_of Addition_draft

-- ---- what a folder takes in

in_segment_held : (state : State) (e : Entry) → InSegment state e → (files : Files) → MayLeaveCounted state files
    → Held files e
in_segment_held state e s files may = record {
  name = s.name;
  at = s.holds (files s.name) (may s.name (inr (s.day, s.segment)));
}

pub takes_in : (old new : State) (done read : List Entry) → HeldApart new done → GainsOnly old new draft read
    → TakesIn old new done read
takes_in old new done read held gains = record {
  held = held;
  keeps = λ committed received kept.
      let more : Keeps old committed (received ++ read) = record {
        nothing_lost = kept.nothing_lost;
        nothing_forged = λ files may e has. has_left received read e (kept.nothing_forged files may e has);
      } in
      let now = gains.keeps committed (received ++ read) (λ e has. has_right received read e has) more in
      record {
        nothing_lost = λ files may e has. ⊎_elim
            (λ before. now.nothing_lost files may e before)
            (λ one. in_segment_held new e (held e one) files may)
            (has_either committed done e has);
        nothing_forged = now.nothing_forged;
      };
  apart = gains.apart;
  still = gains.still;
}

-- ---- pieces

pub none_on_disk : (tells : Type 0) (state : State) → OnDisk tells state state []
none_on_disk tells state = record {
  sound = λ tell sound. sound;
  held = λ tell sound. held_none state;
  gains = λ tell sound. gains_none state draft [];
  pieces = 0;
  grow = λ tell sound. none_beside state state (λ name counts. refl);
  whole = omega arith;
}

-- a piece is written, or that fails
module _ (tells told : Type 0) (start mid new : State) (done piece : List Entry) (back : tells → told)
    (disk : OnDisk told start mid done) (gains : tells → IsSound mid → GainsOnly mid new draft piece)
    (segments : tells → IsSound mid → GrowsBeside 65 mid new) where
  pub piece_gains : tells → IsSound start → GainsOnly start new draft (done ++ piece)
  piece_gains tell sound =
      gains_then start mid new draft (done ++ piece)
      (gains_more start mid draft done (done ++ piece) (λ e has. has_left done piece e has) (disk.gains (back tell) sound))
      (gains_more mid new draft piece (done ++ piece) (λ e has. has_right done piece e has)
      (gains tell (disk.sound (back tell) sound)))

  pub still_held : tells → IsSound start → HeldApart new done
  still_held tell sound =
      let gained = gains tell (disk.sound (back tell) sound) in
      gained.still done (disk.held (back tell) sound)

  pub piece_grow : tells → IsSound start → GrowsBeside (65 * (disk.pieces + 1)) start new
  piece_grow tell sound =
      beside_less (65 * disk.pieces + 65) (65 * (disk.pieces + 1)) start new (omega arith)
      (beside_then (65 * disk.pieces) 65 start mid new (disk.grow (back tell) sound)
      (segments tell (disk.sound (back tell) sound)))

  pub piece_few : (behind : List Entry)
      → (disk.pieces + 1) * PIECE_OCTETS ≤ length (text_of ((done ++ piece) ++ behind)) + PIECE_OCTETS
  piece_few behind =
      omega (arith, disk.whole, text_length (done ++ piece) behind, text_length done piece)

  pub part_grows : (behind : List Entry) → tells → IsSound start
      → GrowsByPieces (length (text_of ((done ++ piece) ++ behind))) start new
  part_grows behind tell sound =
      record { pieces = disk.pieces + 1; grow = piece_grow tell sound; few = piece_few behind }

  -- it was
  module _ (held : tells → IsSound mid → HeldApart new piece) where
    pub both_held : tells → IsSound start → HeldApart new (done ++ piece)
    both_held tell sound =
        held_both new done piece (still_held tell sound) (held tell (disk.sound (back tell) sound))

    pub piece_on_disk : (tells → IsSound mid → IsSound new) → PIECE_OCTETS ≤ length (text_of piece)
        → OnDisk tells start new (done ++ piece)
    piece_on_disk stays full = record {
      sound = λ tell sound. stays tell (disk.sound (back tell) sound);
      held = both_held;
      gains = piece_gains;
      pieces = disk.pieces + 1;
      grow = piece_grow;
      whole = omega (arith, disk.whole, full, text_length done piece);
    }

    pub all_taken : (behind : List Entry) → tells → IsSound start → TakesIn start new (done ++ piece) ((done ++ piece) ++ behind)
    all_taken behind tell sound =
        takes_in start new (done ++ piece) ((done ++ piece) ++ behind) (both_held tell sound)
        (gains_more start new draft (done ++ piece) ((done ++ piece) ++ behind)
        (λ e has. has_left (done ++ piece) behind e has) (piece_gains tell sound))

  -- or not
  pub some_taken : (behind : List Entry) → tells → IsSound start → TakesIn start new done ((done ++ piece) ++ behind)
  some_taken behind tell sound =
      takes_in start new done ((done ++ piece) ++ behind) (still_held tell sound)
      (gains_more start new draft (done ++ piece) ((done ++ piece) ++ behind)
      (λ e has. has_left (done ++ piece) behind e has) (piece_gains tell sound))

-- ---- the next piece may follow

next_piece : (s t : Adding) (d e : InputState) (done : List Entry) → Writes s t → Gathering s d e done
    → Gathering t d e (done ++ entries_in s.piece)
next_piece s t d e done writes g =
    let all = done ++ entries_in s.piece in
    let same : all ≡ all ++ entries_in t.piece =
    sym (ap (λ (l : List Entry). all ++ l) writes.none_waits ∙ append-nil all) in
    record {
      reads =
          subst (λ (n : ArchiveEntries). Reads n d e (all ++ entries_in t.piece)) (sym writes.same_entries)
          (subst (Reads s.entries d e) same g.reads);
      counted = record {
        adds = subst (λ (a : Addition). Counts a all) (sym writes.all_added) g.counted.gathers;
        gathers = subst (Counts t.gathered) same
            (subst (λ (a : Addition). Counts a all) (sym writes.same_gathered) g.counted.gathers);
        size = writes.no_octets ∙ ap (λ (l : List Entry). length (text_of l)) (sym writes.none_waits);
      };
    }

-- a piece is full, and written
module _ (tells told failed : Type 0) (m t : Adding) (d e : InputState) (start mid new : State) (done : List Entry)
    (back : tells → told) (disk : OnDisk told start mid done)
    (gains : tells → IsSound mid → GainsOnly mid new draft (entries_in m.piece))
    (segments : tells → IsSound mid → GrowsBeside 65 mid new) where
  module _ (writes : Writes m t) (held : tells → IsSound mid → HeldApart new (entries_in m.piece)) where
    pub goes_on : (tells → IsSound mid → IsSound new) → IsPieceOf m d e done → UnderWay tells t d e start new
    goes_on stays is = record {
      done = done ++ entries_in m.piece;
      gathering = next_piece m t d e done writes is.gathering;
      disk = piece_on_disk tells told start mid new done (entries_in m.piece) back disk gains segments held stays
          (subst (λ (n : ℕ). PIECE_OCTETS ≤ n) is.gathering.counted.size is.full);
    }

    -- the archive has ended
    pub ends : WholeRead m d e done → AddsWhole tells d e start new t.added
    ends w = record {
      entries = done ++ entries_in m.piece;
      whole = w.whole;
      counts = subst (λ (a : Addition). Counts a (done ++ entries_in m.piece)) (sym writes.all_added) w.counted.gathers;
      takes = λ tell sound.
          subst (TakesIn start new (done ++ entries_in m.piece)) (append-nil (done ++ entries_in m.piece))
          (all_taken tells told start mid new done (entries_in m.piece) back disk gains segments held [] tell sound);
      grows = λ tell sound.
          subst (λ (l : List Entry). GrowsByPieces (length (text_of l)) start new)
          (append-nil (done ++ entries_in m.piece))
          (part_grows tells told start mid new done (entries_in m.piece) back disk gains segments [] tell sound);
    }

    -- something stopped the reading
    pub stops : (fault : AddFault) → Halted fault m d e done → AddsPart tells failed d e start new t.added fault
    stops fault h = record {
      done = done ++ entries_in m.piece;
      behind = h.behind;
      read = h.read;
      all = h.all;
      counts = subst (λ (a : Addition). Counts a (done ++ entries_in m.piece)) (sym writes.all_added) h.counted.gathers;
      takes = all_taken tells told start mid new done (entries_in m.piece) back disk gains segments held h.behind;
      grows = part_grows tells told start mid new done (entries_in m.piece) back disk gains segments h.behind;
      cause = no_cause fault h.kind;
    }
      where
        no_cause : (f : AddFault) → IsNoSegment f → IsAddingCause tells failed start new f
        no_cause (Input f) kind = tt
        no_cause (Segment f) kind = absurd kind
        no_cause Memory kind = tt

  -- the piece was not written
  pub fails : (fault : KeepFault) → t ≡ m → Began m d e done
      → IsKeepingCause tells failed (IsSound mid) new fault
      → AddsPart tells failed d e start new t.added (Segment fault)
  fails fault same w cause = record {
    done = done;
    behind = entries_in m.piece ++ w.behind;
    read = subst (IsBegun d e) (append_assoc done (entries_in m.piece) w.behind) w.read;
    all = λ of. absurd of;
    counts = subst (λ (a : Adding). Counts a.added done) (sym same) w.counted.adds;
    takes = λ tell sound.
        subst (TakesIn start new done) (append_assoc done (entries_in m.piece) w.behind)
        (some_taken tells told start mid new done (entries_in m.piece) back disk gains segments w.behind tell sound);
    grows = λ tell sound.
        subst (λ (l : List Entry). GrowsByPieces (length (text_of l)) start new)
        (append_assoc done (entries_in m.piece) w.behind)
        (part_grows tells told start mid new done (entries_in m.piece) back disk gains segments w.behind tell sound);
    cause = keeping_less tells failed (IsSound mid) (IsSound start) new fault
        (λ tell sound. disk.sound (back tell) sound) cause;
  }

-- ---- there was no memory to begin with

pub nothing_added : (tells failed : Type 0) (d : InputState) (state : State) (added : Addition) → Counts added []
    → IsBegun d d [] → AddsPart tells failed d d state state added Memory
nothing_added tells failed d state added counts read = record {
  done = [];
  behind = [];
  read = read;
  all = λ of. refl;
  counts = counts;
  takes = λ tell sound. takes_in state state [] [] (held_none state) (gains_none state draft []);
  grows = λ tell sound.
      record { pieces = 0; grow = none_beside state state (λ name counts_it. refl); few = omega arith };
  cause = tt;
}
