-- Segments that a read shows stay, and few come.
use Rattle.std.proofs.Common.{◌≡◌, ◌≢◌, ◌⊎◌, inl, inr, ⊎_elim, ℕ, ◌+◌, ◌<◌, ◌≤◌, ◌^◌, List, [], ◌∷◌, ◌++◌, refl, sym, ap, subst}
use Rattle.std.proofs.Common.{◌∙◌, arith, length-append}
use Rattle.std.specs.Prelude.{Err, Ok, Option, Result, Some}
use Rattle.std.specs.Option.{option_map}
use Rattle.disk.specs.Calls.{FailsAt, IsUnchanged, RenamesFile, SyncsNames}
use Rattle.disk.specs.Files.{File, settled}
use Rattle.disk.specs.Memory.{shown_now}
use Rattle.disk.specs.States.{State}
use Rattle.disk.specs.declared.fault.DiskFault.{DiskFault}
use Rattle.archive_text.proofs.Members.{all_left, all_right}
use Rattle.journal.specs.Journals.{KeepsOrSettlesOthers, Shows}
use Rattle.record_store.specs.Keeping.{Brings}
use Rattle.record_store.specs.Names.{Counts, IsJournal, IsSegment, journal_name}
use Rattle.record_store.specs.Puts.{ShowsOldOr}
use Rattle.record_store.specs.Segments.{GrowsBeside, SegmentsGrow, SegmentsStay}
use Rattle.record_store.specs.Shown.{journal_shown}
use Rattle.record_store.proofs.Named.{not_both, same_or_apart}
use Rattle.record_store.proofs.Placed.{settled_either}

-- ---- a draft that gets its name

renamed_shows : (one two : State) (draft name text : List ℕ) → Shows one draft (settled text)
    → RenamesFile one two draft name → shown_now (two.entries name) ≡ Some text
renamed_shows one two draft name text shows renames =
    ap shown_now renames.target ∙ ap (λ (o : Option File). option_map (λ (f : File). f.shown) o) shows.now

synced_shows : {T : Type 0} (two three : State) (name : List ℕ) (result : Result T DiskFault)
    → SyncsNames two three result → shown_now (three.entries name) ≡ shown_now (two.entries name)
synced_shows two three name (Ok done) settles =
    ⊎_elim (λ same. ap shown_now same) (λ on_disk. ap shown_now on_disk) (settled_either two three name settles)
synced_shows two three name (Err fault) fails =
    ⊎_elim (λ same. ap shown_now (same.entries name)) (λ loses. ap shown_now (loses.entries name)) fails

module _ (zero one two : State) (draft name text : List ℕ)
    (same : shown_now (one.entries name) ≡ shown_now (zero.entries name)) (whole : Shows one draft (settled text)) where
  pub rename_shows : (fault : DiskFault)
      → FailsAt one two draft fault ((draft ≢ name) × RenamesFile one two draft name) → ShowsOldOr zero two name text
  rename_shows fault fails =
      ⊎_elim
      (λ still. inl (ap shown_now (still.entries name) ∙ same))
      (λ part. inr (renamed_shows one two draft name text whole part.1))
      fails.done

  pub put_shows : {T : Type 0} (three : State) (result : Result T DiskFault) → RenamesFile one two draft name
      → SyncsNames two three result → ShowsOldOr zero three name text
  put_shows three result renames syncs =
      inr (synced_shows two three name result syncs ∙ renamed_shows one two draft name text whole renames)

-- ---- segments that come

pub grow_then : (most more : ℕ) (a b c : State) → SegmentsGrow most a b → SegmentsGrow more b c
    → SegmentsGrow (most + more) a c
grow_then most more a b c one other = record {
  stay = λ period name octets segment shown.
      other.stay period name octets segment (one.stay period name octets segment shown);
  names = one.names ++ other.names;
  few = omega (arith, length-append one.names other.names, one.few, other.few);
  others = λ period name segment apart.
      other.others period name segment (all_right (λ (n : List ℕ). name ≢ n) one.names other.names apart)
      ∙ one.others period name segment (all_left (λ (n : List ℕ). name ≢ n) one.names other.names apart);
}

pub grow_less : (most more : ℕ) (a b : State) → most ≤ more → SegmentsGrow most a b → SegmentsGrow more a b
grow_less most more a b less grow = record {
  stay = grow.stay;
  names = grow.names;
  few = omega (arith, less, grow.few);
  others = grow.others;
}

-- a read shows the same under each name of a segment
pub none_grow : (a b : State) → ((period name : List ℕ) → IsSegment period name
    → shown_now (b.entries name) ≡ shown_now (a.entries name)) → SegmentsGrow 0 a b
none_grow a b same = record {
  stay = λ period name octets segment shown. same period name segment ∙ shown;
  names = [];
  few = omega arith;
  others = λ period name segment apart. same period name segment;
}

pub same_grow : (a b : State) → IsUnchanged a b → SegmentsGrow 0 a b
same_grow a b same = none_grow a b (λ period name segment. ap shown_now (same.entries name))

-- ---- beside a segment that is brought, and beside journals

-- every name but those of the draft and of the segment
brought_others : (old new : State) (draft name text : List ℕ) → ¬ (Counts draft) → Brings old new draft name text
    → (period n : List ℕ) → IsSegment period n → n ≢ name
    → shown_now (new.entries n) ≡ shown_now (old.entries n)
brought_others old new draft name text apart (inl same) period n segment other = ap shown_now (same.entries n)
brought_others old new draft name text apart (inr puts) period n segment other =
    ⊎_elim (λ same. ap shown_now same) (λ on_disk. ap shown_now on_disk)
    (puts.others n (λ is. apart (subst Counts is (inr (period, segment)))) other)

brought_stay : (old new : State) (draft name text : List ℕ) → ¬ (Counts draft) → Brings old new draft name text
    → SegmentsStay old new
brought_stay old new draft name text apart (inl same) period n octets segment shown =
    ap shown_now (same.entries n) ∙ shown
brought_stay old new draft name text apart (inr puts) period n octets segment shown =
    ⊎_elim
    (λ (here : n ≡ name).
    let at : shown_now (old.entries name) ≡ Some octets =
    sym (ap (λ (m : List ℕ). shown_now (old.entries m)) here) ∙ shown in
    let text_is : Some text ≡ Some octets =
    ⊎_elim (λ none. absurd (cc (none, at))) (λ some. sym some ∙ at) puts.shown in
    ap (λ (m : List ℕ). shown_now (new.entries m)) here
    ∙ ⊎_elim (λ before. before ∙ at) (λ whole. whole ∙ text_is) puts.shows)
    (λ (other : n ≢ name). brought_others old new draft name text apart (inr puts) period n segment other ∙ shown)
    (same_or_apart n name)

pub brought_grow : (old new : State) (draft name text : List ℕ) → ¬ (Counts draft) → Brings old new draft name text
    → SegmentsGrow 1 old new
brought_grow old new draft name text apart brings = record {
  stay = brought_stay old new draft name text apart brings;
  names = name ∷ [];
  few = omega arith;
  others = λ period n segment other. brought_others old new draft name text apart brings period n segment other.0;
}

-- and the journals are as they were
pub brought_beside : (old new : State) (draft name day text : List ℕ) → IsSegment day name → ¬ (Counts draft)
    → Brings old new draft name text → GrowsBeside 1 old new
brought_beside old new draft name day text segment apart brings = record {
  grow = brought_grow old new draft name text apart brings;
  journals = λ n small. journals brings n small;
}
  where
    journal_is : (n : ℕ) → n < 2 ^ 64 → IsJournal (journal_name n)
    journal_is n small = record { number = n; small = small; name_is = refl }

    journals : Brings old new draft name text → (n : ℕ) → n < 2 ^ 64 → journal_shown new n ≡ journal_shown old n
    journals (inl same) n small = ap shown_now (same.entries (journal_name n))
    journals (inr puts) n small =
        ⊎_elim (λ same. ap shown_now same) (λ on_disk. ap shown_now on_disk)
        (puts.others (journal_name n)
        (λ is. apart (subst Counts is (inl (journal_is n small))))
        (λ is. not_both day name (subst IsJournal is (journal_is n small)) segment))

pub beside_then : (most more : ℕ) (a b c : State) → GrowsBeside most a b → GrowsBeside more b c
    → GrowsBeside (most + more) a c
beside_then most more a b c one other = record {
  grow = grow_then most more a b c one.grow other.grow;
  journals = λ n small. other.journals n small ∙ one.journals n small;
}

pub beside_less : (most more : ℕ) (a b : State) → most ≤ more → GrowsBeside most a b → GrowsBeside more a b
beside_less most more a b less beside =
    record { grow = grow_less most more a b less beside.grow; journals = beside.journals }

-- a read shows the same under each name that counts
pub none_beside : (a b : State) → ((name : List ℕ) → Counts name
    → shown_now (b.entries name) ≡ shown_now (a.entries name)) → GrowsBeside 0 a b
none_beside a b same = record {
  grow = none_grow a b (λ period name segment. same name (inr (period, segment)));
  journals = λ n small. same (journal_name n) (inl (record { number = n; small = small; name_is = refl }));
}

no_journal : (period name : List ℕ) (number : ℕ) → number < 2 ^ 64 → name ≡ journal_name number
    → ¬ (IsSegment period name)
no_journal period name number small is segment =
    not_both period name (record { number = number; small = small; name_is = is }) segment

pub made_grow : (old new : State) (number : ℕ) → number < 2 ^ 64
    → KeepsOrSettlesOthers old new (journal_name number) → SegmentsGrow 0 old new
made_grow old new number small others =
    none_grow old new (λ period name segment.
    ⊎_elim (λ same. ap shown_now same) (λ on_disk. ap shown_now on_disk)
    (others name (λ is. no_journal period name number small is segment)))
