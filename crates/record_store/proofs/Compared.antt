-- Two files are compared, and a segment is brought beside what is there.
use Rattle.std.proofs.Common.{◌≡◌, ◌⊎◌, inl, inr, ⊎_elim, ℕ, ◌+◌, ◌<◌, ◌≤◌, List, ◌++◌, length, take, drop, min}
use Rattle.std.proofs.Common.{refl, sym, ap, subst, ◌∙◌, arith}
use Rattle.std.specs.Prelude.{Option, None, Some, IsSomeAnd, false}
use Rattle.std.specs.Option.{option_map}
use Rattle.std.proofs.lemmas.List.{take-take, take_all}
use Rattle.syslog_frame.proofs.Cuts.{take_add}
use Rattle.disk.specs.Calls.{Gives, IsUnchanged}
use Rattle.disk.specs.Files.{File}
use Rattle.disk.specs.Memory.{shown_now}
use Rattle.disk.specs.States.{Entry as DiskEntry, NameMayLeave, State, kept}
use Rattle.journal.specs.Journals.{IsOnDisk, KeepsOrSettlesOthers, Shows, ShowsTheSame}
use Rattle.archive_text.specs.Entries.{Entry}
use Rattle.record_store.specs.Crashes.{HeldApart, Keeps}
use Rattle.record_store.specs.Holdings.{HeldAt}
use Rattle.record_store.specs.Keeping.{AgreeAt, AgreeFrom, AreSame, Brings, Puts, ShowsAtMost}
use Rattle.record_store.specs.Names.{Counts, IsSegment}
use Rattle.record_store.specs.Puts.{KeepsOrSettlesApart, LeavesOldOr, ShowsOldOr}
use Rattle.record_store.specs.Segments.{IsSegmentOf, OthersSettle, ShowsNoMore}
use Rattle.record_store.specs.Stores.{AreAmong}
use Rattle.record_store.proofs.Apart.{segments_less}
use Rattle.record_store.proofs.Covering.{unchanged_keeps}
use Rattle.record_store.proofs.Drafted.{segment_keeps, segment_no_more, segment_still}
use Rattle.record_store.proofs.Leavings.{shown_file}

-- ---- states that are one

pub same_then : (a b c : State) → IsUnchanged a b → IsUnchanged b c → IsUnchanged a c
same_then a b c one other = record {
  entries = λ name. other.entries name ∙ one.entries name;
  lost = other.lost ∙ one.lost;
}

pub same_state : (a : State) → IsUnchanged a a
same_state a = record { entries = λ name. refl; lost = refl }

pub same_shows : (a b : State) (name : List ℕ) (file : File) → IsUnchanged a b → Shows a name file → Shows b name file
same_shows a b name file same shows = record {
  now = ap (λ (e : DiskEntry). e.now) (same.entries name) ∙ shows.now;
  sound = same.lost ∙ shows.sound;
}

pub alike_then : (a b : State) (one other : List ℕ) → IsUnchanged a b → AreSame b one other → AreSame a one other
alike_then a b one other same alike sound =
    ap shown_now (sym (same.entries one)) ∙ alike (same.lost ∙ sound) ∙ ap shown_now (same.entries other)

-- ---- octets that agree

-- what a read gives of a text
pub record GivesText (text : List ℕ) (at : ℕ) (buf : List ℕ) (n : ℕ) : Type 0 where
  pub octets : take n buf ≡ take n (drop at text)
  pub within : n ≤ length (drop at text)
  pub ends : n ≡ 0 → 0 < length buf → length text ≤ at

pub gives_text : (now : Option File) (at : ℕ) (buf : List ℕ) (n : ℕ)
    → IsSomeAnd now (λ file. Gives file at buf n)
    → (text : List ℕ) × (option_map (λ (f : File). f.shown) now ≡ Some text) × GivesText text at buf n
gives_text None at buf n gives = absurd gives
gives_text (Some file) at buf n gives =
    (file.shown, refl, record { octets = gives.octets; within = gives.within; ends = gives.ends })

pub agree : (a b one other : List ℕ) (at n m k : ℕ) → k ≡ min n m → (k ≡ 0 → n ≡ m) → 0 < length one
    → 0 < length other → take k one ≡ take k other → GivesText a at one n → GivesText b at other m → AgreeFrom a b at k
agree a b one other at n m k is none some some_other same left right =
    let below : k ≤ n = omega (arith, is) in
    let below_other : k ≤ m = omega (arith, is) in
    record {
      octets = sym (take-take k n (drop at a) below) ∙ ap (take k) (sym left.octets) ∙ take-take k n one below
          ∙ same ∙ sym (take-take k m other below_other) ∙ ap (take k) right.octets
          ∙ take-take k m (drop at b) below_other;
      within_a = omega (arith, left.within);
      within_b = omega (arith, right.within);
      ends = λ zero. (left.ends (omega (arith, none zero)) some, right.ends (omega (arith, none zero)) some_other);
    }

-- as far as two texts were compared
abbrev pub AgreeUpTo : State → List ℕ → List ℕ → ℕ → Type 0
AgreeUpTo state one other at = state.lost ≡ false → (a b : List ℕ) → shown_now (state.entries one) ≡ Some a
    → shown_now (state.entries other) ≡ Some b → take at a ≡ take at b

pub agree_more : (zero state : State) (one other : List ℕ) (at n : ℕ) → IsUnchanged zero state
    → AgreeUpTo zero one other at → AgreeAt state one other at n → AgreeUpTo zero one other (at + n)
agree_more zero state one other at n same before agrees sound a b left right =
    let found = agrees (same.lost ∙ sound) in
    let some_a : Some found.0 ≡ Some a = sym found.2 ∙ ap shown_now (same.entries one) ∙ left in
    let some_b : Some found.1 ≡ Some b = sym found.3 ∙ ap shown_now (same.entries other) ∙ right in
    let is_a : found.0 ≡ a = cc some_a in
    let is_b : found.1 ≡ b = cc some_b in
    let more : take n (drop at a) ≡ take n (drop at b) =
    subst (λ (t : List ℕ). take n (drop at t) ≡ take n (drop at b)) is_a
    (subst (λ (t : List ℕ). take n (drop at found.0) ≡ take n (drop at t)) is_b found.4.octets) in
    take_add at n a ∙ ap (λ (l : List ℕ). l ++ take n (drop at a)) (before sound a b left right)
    ∙ ap (λ (l : List ℕ). take at b ++ l) more ∙ sym (take_add at n b)

pub agree_whole : (zero state : State) (one other : List ℕ) (at n : ℕ) → IsUnchanged zero state → n ≡ 0
    → AgreeUpTo zero one other at → AgreeAt state one other at n → AreSame zero one other
agree_whole zero state one other at n same none before agrees sound =
    let found = agrees (same.lost ∙ sound) in
    let ends = found.4.ends none in
    let left : shown_now (zero.entries one) ≡ Some found.0 = ap shown_now (sym (same.entries one)) ∙ found.2 in
    let right : shown_now (zero.entries other) ≡ Some found.1 = ap shown_now (sym (same.entries other)) ∙ found.3 in
    let one_text : found.0 ≡ found.1 =
    sym (take_all at found.0 ends.0) ∙ before sound found.0 found.1 left right ∙ take_all at found.1 ends.1 in
    left ∙ ap (λ (t : List ℕ). Some t) one_text ∙ sym right

-- ---- a draft is brought under a name

-- in the place of none, or of one of the same octets
pub placed_puts : (zero one two : State) (draft name text : List ℕ) → IsUnchanged zero one
    → ShowsAtMost zero name text → LeavesOldOr one two name text → ShowsOldOr one two name text
    → KeepsOrSettlesApart one two draft name → Puts zero two draft name text
placed_puts zero one two draft name text same shown leaves shows others = record {
  shown = shown;
  leaves = λ octets may. ⊎_elim
      (λ before. inl (subst (λ (e : DiskEntry). NameMayLeave e octets) (same.entries name) before))
      (λ (whole : octets ≡ Some text). inr whole)
      (leaves octets may);
  shows = ⊎_elim (λ before. inl (before ∙ ap shown_now (same.entries name))) (λ whole. inr whole) shows;
  others = λ other from to. ⊎_elim
      (λ still. inl (still ∙ same.entries other))
      (λ on_disk. inr (on_disk ∙ ap kept (same.entries other)))
      (others other from to);
}

-- the other file shows what a draft has, if it was found to be the same
pub same_at_most : (state : State) (draft name : List ℕ) (file : File) → Shows state draft file
    → AreSame state draft name → ShowsAtMost state name file.shown
same_at_most state draft name file shows alike =
    inr (sym (alike shows.sound) ∙ ap (λ (o : Option File). option_map (λ (f : File). f.shown) o) shows.now)

-- ---- what is held then

no_more : (state : State) (day name text : List ℕ) (es : List Entry) → IsSegment day name → IsSegmentOf day text es
    → ShowsAtMost state name text → ShowsNoMore state name es
no_more state day name text es segment is (inl none) e held =
    absurd (subst (λ (o : Option (List ℕ)). HeldAt name o e) none held)
no_more state day name text es segment is (inr same) e held =
    segment_no_more name day text es segment is e (subst (λ (o : Option (List ℕ)). HeldAt name o e) same held)

module _ (old new : State) (draft name day text : List ℕ) (es : List Entry) (segment : IsSegment day name)
    (is : IsSegmentOf day text es) (apart : ¬ (Counts draft)) where
  pub brought_keeps : Brings old new draft name text → (committed received : List Entry) → AreAmong es received
      → Keeps old committed received → Keeps new committed received
  brought_keeps (inl same) committed received among keeps = unchanged_keeps old new same committed received keeps
  brought_keeps (inr puts) committed received among keeps =
      segment_keeps old new draft name day text es segment is (no_more old day name text es segment is puts.shown) apart
      puts.leaves puts.others committed received among keeps

  pub brought_others : Brings old new draft name text → OthersSettle old new draft
  brought_others (inl same) other differs none = inl (same.entries other)
  brought_others (inr puts) other differs none =
      puts.others other differs (λ (same : other ≡ name). none day (subst (IsSegment day) (sym same) segment))

  pub brought_still : Brings old new draft name text → (held : List Entry) → HeldApart old held → HeldApart new held
  brought_still (inl same) held holds e has =
      segments_less old new (λ period other other_segment octets may.
      subst (λ (x : DiskEntry). NameMayLeave x octets) (same.entries other) may) e (holds e has)
  brought_still (inr puts) held holds e has =
      segment_still old new draft name day text es segment is (no_more old day name text es segment is puts.shown) apart
      puts.leaves puts.others held holds e has
