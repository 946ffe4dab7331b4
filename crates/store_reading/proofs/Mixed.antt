-- The entries of mixed segments are added to a set.
use Rattle.std.proofs.Common.{◌≡◌, ◌⊎◌, ℕ, ◌≤◌, List, [], ◌∷◌, ◌++◌, Option, None, Some, inl, inr, refl, sym, subst}
use Rattle.std.proofs.Common.{length}
use Rattle.std.specs.Prelude.{◌↔◌, IfSome, IsSomeAnd, codes}
use Rattle.hex.specs.Hex.{encode_lower}
use Rattle.sha2.specs.Hashers.{Holds256}
use Rattle.sha2.specs.Sha256.{sha256}
use Rattle.sha2.specs.declared.Sha256.{Sha256}
use Rattle.disk.specs.States.{Files}
use Rattle.octet_devices.specs.Device.{InputState}
use Rattle.archive_text.specs.Entries.{Entry, Has, IsEntry}
use Rattle.archive_text.specs.Text.{entry_text, text_of}
use Rattle.archive_text.specs.declared.limits.TheConstants.{ENTRY_MAX}
use Rattle.archive_text.proofs.Members.{all_append, has_right, of_member}
use Rattle.archive_text.proofs.Texts.{text_push}
use Rattle.archive_streams.specs.Entries.{current, Ends, IsWhole, Reads, ReadsOne}
use Rattle.archive_streams.specs.declared.entries.ArchiveEntries.{ArchiveEntries}
use Rattle.archive_streams.proofs.EntrySteps.{begun}
use Rattle.archive_sets.specs.declared.range.InRange.{InRange}
use Rattle.archive_join.specs.Ranges.{IsOfRange}
use Rattle.record_store.specs.Holdings.{IsOfPeriod, SegmentHas}
use Rattle.record_store.specs.Names.{IsSegment}
use Rattle.store_reading.specs.Folders.{Opens}
use Rattle.store_reading.specs.Journals.{Adds, AddsMixed, HasAsMixed}
use Rattle.store_reading.specs.Segments.{IsHashed, ReadsOf}
use Rattle.store_reading.proofs.Batched.{adds_none, adds_same, adds_then, has_push}
use Rattle.store_reading.proofs.Damaged.{file_is}
use Rattle.store_reading.proofs.Hashed.{hashed_of}
use Rattle.store_reading.proofs.Segments.{has_is}

-- ---- an entry

-- one that is not of the range
pub none_of_range : (range : InRange) (old : List Entry) (f : Entry) → ¬ (IsOfRange range f)
    → Adds old old (λ e. (f ≡ e) × IsOfRange range e)
none_of_range range old f out =
    adds_none old (λ e. (f ≡ e) × IsOfRange range e) (λ e h. out (subst (IsOfRange range) (sym h.0) h.1))

-- one that is
pub one_of_range : (range : InRange) (old new : List Entry) (f : Entry) → IsOfRange range f → Adds old new (λ e. f ≡ e)
    → Adds old new (λ e. (f ≡ e) × IsOfRange range e)
one_of_range range old new f inside adds =
    adds_same old new (λ e. f ≡ e) (λ e. (f ≡ e) × IsOfRange range e)
    (λ e. (λ h. (h, subst (IsOfRange range) h inside), λ h. h.0)) adds

-- ---- the loop

-- the entries that were read are those of the range that were added, and were hashed
pub record MixedAdded (range : InRange) (old new : List Entry) (s : ArchiveEntries) (hasher : Sha256)
    (d e : InputState) : Type 0 where
  pub segment : ReadsOf (codes "mixed") s d e
  pub hashed : Holds256 hasher (text_of segment.entries)
  pub adds : Adds old new (λ x. Has segment.entries x × IsOfRange range x)

pub mixed_begun : (range : InRange) (old : List Entry) (s : ArchiveEntries) (hasher : Sha256) (d : InputState)
    → Reads s d d [] → Holds256 hasher [] → MixedAdded range old old s hasher d d
mixed_begun range old s hasher d none empty = record {
  segment = record { entries = []; reads = none; days = tt };
  hashed = empty;
  adds = adds_none old (λ x. Has [] x × IsOfRange range x) (λ x h. absurd h.0);
}

-- what comes next is an entry that fits
pub next_entry : (range : InRange) (old new : List Entry) (s t : ArchiveEntries) (hasher : Sha256)
    (d e f : InputState) → MixedAdded range old new s hasher d e → ReadsOne s t e f
    → IsEntry (current t) × (length (current t).octets ≤ ENTRY_MAX)
next_entry range old new s t hasher d e f m one =
    let all = begun t d f (m.segment.entries ++ current t ∷ []) (one.reads d m.segment.entries m.segment.reads) in
    let last : Has (m.segment.entries ++ current t ∷ []) (current t) =
    has_right m.segment.entries (current t ∷ []) (current t) (inl refl) in (
      of_member IsEntry (m.segment.entries ++ current t ∷ []) (current t) all.archive.entries last,
      of_member (λ (x : Entry). length x.octets ≤ ENTRY_MAX) (m.segment.entries ++ current t ∷ []) (current t)
          all.archive.fits last,
    )

pub mixed_more : (range : InRange) (old mid new : List Entry) (s t : ArchiveEntries) (hasher next : Sha256)
    (d e f : InputState) → MixedAdded range old mid s hasher d e → ReadsOne s t e f
    → ((m : List ℕ) → Holds256 hasher m → Holds256 next (m ++ entry_text (current t)))
    → Adds mid new (λ x. (current t ≡ x) × IsOfRange range x) → MixedAdded range old new t next d f
mixed_more range old mid new s t hasher next d e f m one more adds = record {
  segment = record {
    entries = m.segment.entries ++ current t ∷ [];
    reads = one.reads d m.segment.entries m.segment.reads;
    days = all_append (IsOfPeriod (codes "mixed")) m.segment.entries (current t ∷ []) m.segment.days (inr refl, tt);
  };
  hashed = subst (Holds256 next) (sym (text_push m.segment.entries (current t)))
      (more (text_of m.segment.entries) m.hashed);
  adds = adds_then old mid new (λ x. Has m.segment.entries x × IsOfRange range x)
      (λ x. (current t ≡ x) × IsOfRange range x)
      (λ x. Has (m.segment.entries ++ current t ∷ []) x × IsOfRange range x) m.adds adds split;
}
  where
    split : (x : Entry) → (Has (m.segment.entries ++ current t ∷ []) x × IsOfRange range x)
        ↔ ((Has m.segment.entries x × IsOfRange range x) ⊎ ((current t ≡ x) × IsOfRange range x))
    split x = (
      λ h. elim ((has_push m.segment.entries (current t) x).0 h.0) [
        | inl k ↦ inl (k, h.1)
        | inr k ↦ inr (k, h.1)
      ],
      λ h. elim h [
        | inl k ↦ ((has_push m.segment.entries (current t) x).1 (inl k.0), k.1)
        | inr k ↦ ((has_push m.segment.entries (current t) x).1 (inr k.0), k.1)
      ],
    )

-- ---- the end

some_of : (left : Option (List ℕ)) (P : List ℕ → Type 0) → ((file : List ℕ) → left ≡ Some file → P file) → IfSome left P
some_of None P each = tt
some_of (Some file) P each = each file refl

module _ (range : InRange) (old new : List Entry) (s t : ArchiveEntries) (hasher : Sha256) (d e f : InputState)
    (m : MixedAdded range old new s hasher d e) (ends : Ends s t e f) where
  whole : IsWhole d f m.segment.entries
  whole = ends.whole d m.segment.entries m.segment.reads

  text_is : (file : List ℕ) → d.left ≡ Some file → file ≡ text_of m.segment.entries
  text_is file left =
      file_is (codes "mixed") d f file
      (record { entries = m.segment.entries; whole = whole; days = m.segment.days }) left

  pub mixed_hashed : (hex : List ℕ) → ((text : List ℕ) → Holds256 hasher text → hex ≡ encode_lower (sha256 text))
      → IsHashed (codes "mixed") d f hex
  mixed_hashed hex digest = hashed_of (codes "mixed") s t hasher d e f hex m.segment m.hashed ends digest

  has_as : (file : List ℕ) → file ≡ text_of m.segment.entries → (x : Entry)
      → Has m.segment.entries x ↔ SegmentHas (codes "mixed") file x
  has_as file is x = (
    λ h. record {
      entries = m.segment.entries;
      archive = whole.archive;
      text_is = is;
      days = m.segment.days;
      has = h;
    },
    λ h. has_is (codes "mixed") m.segment.entries x whole.archive
        (subst (λ (t : List ℕ). SegmentHas (codes "mixed") t x) is h),
  )

  pub mixed_added : AddsMixed range d old new
  mixed_added =
      some_of d.left (λ (file : List ℕ). Adds old new (λ x. SegmentHas (codes "mixed") file x × IsOfRange range x))
      (λ file left.
      adds_same old new (λ x. Has m.segment.entries x × IsOfRange range x)
      (λ x. SegmentHas (codes "mixed") file x × IsOfRange range x)
      (λ x. (
        λ h. ((has_as file (text_is file left) x).0 h.0, h.1),
        λ h. ((has_as file (text_is file left) x).1 h.0, h.1),
      )) m.adds)

-- ---- the file of a name

pub no_mixed : (files : Files) (range : InRange) (name : List ℕ) (old : List Entry) → ¬ (IsSegment (codes "mixed") name)
    → Adds old old (HasAsMixed files range name)
no_mixed files range name old not = adds_none old (HasAsMixed files range name) (λ e h. not h.0.0)

file_mixed : (range : InRange) (file left : Option (List ℕ)) (old new : List Entry)
    → IsSomeAnd file (λ octets. left ≡ Some octets)
    → IfSome left (λ (input : List ℕ). Adds old new (λ e. SegmentHas (codes "mixed") input e × IsOfRange range e))
    → Adds old new (λ e. IsSomeAnd file (λ f. SegmentHas (codes "mixed") f e) × IsOfRange range e)
file_mixed range None left old new opens adds = absurd opens
file_mixed range (Some f) left old new opens adds =
    subst (λ (l : Option (List ℕ)). IfSome l (λ (input : List ℕ).
    Adds old new (λ e. SegmentHas (codes "mixed") input e × IsOfRange range e))) opens adds

pub named_mixed : (files : Files) (range : InRange) (name : List ℕ) (d : InputState) (old new : List Entry)
    → IsSegment (codes "mixed") name → Opens files name d → AddsMixed range d old new
    → Adds old new (HasAsMixed files range name)
named_mixed files range name d old new segment opens adds =
    adds_same old new (λ e. IsSomeAnd (files name) (λ f. SegmentHas (codes "mixed") f e) × IsOfRange range e)
    (HasAsMixed files range name) (λ e. (λ h. ((segment, h.0), h.1), λ h. (h.0.1, h.1)))
    (file_mixed range (files name) d.left old new opens adds)
