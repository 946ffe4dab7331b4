-- What a crash may leave under one name.
use Rattle.std.proofs.Common.{◌≡◌, ◌⊎◌, inl, inr, ℕ, List, [], ◌∷◌, ◌++◌, refl, ap, subst, arith}
use Rattle.std.specs.Prelude.{Option, None, Some, IsSomeAnd, false}
use Rattle.std.specs.Option.{option_map}
use Rattle.disk.specs.Files.{File, MayBecome, settled}
use Rattle.disk.specs.Memory.{shown_now}
use Rattle.disk.specs.States.{AnyMayBe, Entry, MayBe, NameMayLeave, kept, retired}
use Rattle.journal.specs.Journals.{only_file}
use Rattle.journal.proofs.Repair.{same_octets}
use Rattle.record_store.specs.Crashes.{resting}

-- of a file that is on the disk that file
pub settled_is : (text : List ℕ) (octets : Option (List ℕ)) → MayBe (Some (settled text)) octets → octets ≡ Some text
settled_is text None may = absurd may
settled_is text (Some found) may = ap (λ (l : List ℕ). Some l) (same_octets text found may)

pub only_is : (text : List ℕ) (octets : Option (List ℕ)) → NameMayLeave (only_file (settled text)) octets
    → octets ≡ Some text
only_is text octets (inl now) = settled_is text octets now
only_is text octets (inr (inl past)) = absurd past
only_is text octets (inr (inr moved)) = absurd (cc moved)

-- of what rests just that
pub resting_is : (was octets : Option (List ℕ)) → NameMayLeave (resting was) octets → octets ≡ was
resting_is None octets (inl now) = now
resting_is None octets (inr (inl past)) = absurd past
resting_is None octets (inr (inr moved)) = absurd (cc moved)
resting_is (Some text) octets may = only_is text octets may

-- what is shown may be left
pub shown_may : (file : File) → MayBecome file file.shown
shown_may file = record { no_shorter = omega arith; no_longer = omega arith; kept = λ i below apart. refl }

shown_may_be : (file : Option File) → MayBe file (option_map (λ (f : File). f.shown) file)
shown_may_be None = refl
shown_may_be (Some file) = shown_may file

pub shown_left : (entry : Entry) → NameMayLeave entry (shown_now entry)
shown_left entry = inl (shown_may_be entry.now)

-- where a file is left whatever a crash does, one is shown
pub left_shown : (entry : Entry) (Q : List ℕ → Type 0)
    → ((octets : Option (List ℕ)) → NameMayLeave entry octets → IsSomeAnd octets Q)
    → (octets : List ℕ) × (shown_now entry ≡ Some octets) × Q octets
left_shown entry Q leaves = of (shown_now entry) refl (leaves (shown_now entry) (shown_left entry))
  where
    of : (o : Option (List ℕ)) → shown_now entry ≡ o → IsSomeAnd o Q
        → (octets : List ℕ) × (shown_now entry ≡ Some octets) × Q octets
    of None is q = absurd q
    of (Some octets) is q = (octets, is, q)

-- the file that is shown
pub shown_file : (now : Option File) (octets : List ℕ) → option_map (λ (f : File). f.shown) now ≡ Some octets
    → (file : File) × (now ≡ Some file) × (file.shown ≡ octets)
shown_file None octets is = absurd (cc is)
shown_file (Some file) octets is = (file, refl, cc is)

none_now : (now : Option File) → option_map (λ (f : File). f.shown) now ≡ None → now ≡ None
none_now None is = refl
none_now (Some file) is = absurd (cc is)

-- where none is shown, there is none
pub none_shown : (entry : Entry) → shown_now entry ≡ None → entry.now ≡ None
none_shown entry none = none_now entry.now none

-- and once the folder is synced nothing is left
pub none_kept : (entry : Entry) → shown_now entry ≡ None → kept entry ≡ resting None
none_kept entry none =
    ap (λ (now : Option File). record { now = now; past = []; moved = false }) (none_shown entry none)

-- a name that is on the disk now leaves no more than before
pub settled_may : (old new : Entry) (octets : Option (List ℕ)) → (new ≡ old) ⊎ (new ≡ kept old)
    → NameMayLeave new octets → NameMayLeave old octets
settled_may old new octets (inl same) may = subst (λ (e : Entry). NameMayLeave e octets) same may
settled_may old new octets (inr on_disk) may = elim (subst (λ (e : Entry). NameMayLeave e octets) on_disk may) [
  | inl now ↦ inl now
  | inr (inl none) ↦ absurd none
  | inr (inr moved) ↦ absurd (cc moved)
]

pub settled_shown : (old new : Entry) → (new ≡ old) ⊎ (new ≡ kept old) → shown_now new ≡ shown_now old
settled_shown old new (inl same) = ap shown_now same
settled_shown old new (inr on_disk) = ap shown_now on_disk

pub resting_may : (was : Option (List ℕ)) → NameMayLeave (resting was) was
resting_may None = inl refl
resting_may (Some text) =
    inl (shown_may (settled text))

-- it is settled already
pub resting_kept : (was : Option (List ℕ)) → kept (resting was) ≡ resting was
resting_kept None = refl
resting_kept (Some text) = refl

-- what rests is one file or none
pub resting_one : (was : Option (List ℕ)) (text : List ℕ) → resting was ≡ only_file (settled text) → was ≡ Some text
resting_one None text is =
    let none : None ≡ Some (settled text) = ap (λ (e : Entry). e.now) is in
    absurd (cc none)
resting_one (Some found) text is =
    let some : Some (settled found) ≡ Some (settled text) = ap (λ (e : Entry). e.now) is in
    let same : settled found ≡ settled text = cc some in
    ap (λ (f : File). Some f.shown) same

-- what was there last, or before
past_or_last : (past : List (Option File)) (last : Option File) (octets : Option (List ℕ))
    → AnyMayBe (past ++ last ∷ []) octets → MayBe last octets ⊎ AnyMayBe past octets
past_or_last [] last octets (inl here) = inl here
past_or_last [] last octets (inr none) = absurd none
past_or_last (file ∷ past) last octets (inl here) = inr (inl here)
past_or_last (file ∷ past) last octets (inr more) =
    elim (past_or_last past last octets more) [ inl here ↦ inl here | inr before ↦ inr (inr before) ]

-- a file that is on the disk takes the place of what is there
pub replaced_leaves : (entry : Entry) (text : List ℕ) (octets : Option (List ℕ))
    → NameMayLeave (record (retired entry) { now = Some (settled text) }) octets
    → NameMayLeave entry octets ⊎ (octets ≡ Some text)
replaced_leaves entry text octets (inl now) = inr (settled_is text octets now)
replaced_leaves entry text octets (inr (inl past)) =
    elim (past_or_last entry.past entry.now octets past) [
      | inl here ↦ inl (inl here)
      | inr before ↦ inl (inr (inl before))
    ]
replaced_leaves entry text octets (inr (inr moved)) = inl (inr (inr moved))

-- a file is removed
pub retired_leaves : (entry : Entry) (octets : Option (List ℕ)) → NameMayLeave (retired entry) octets
    → NameMayLeave entry octets ⊎ (octets ≡ None)
retired_leaves entry octets (inl now) = inr now
retired_leaves entry octets (inr (inl past)) =
    elim (past_or_last entry.past entry.now octets past) [
      | inl here ↦ inl (inl here)
      | inr before ↦ inl (inr (inl before))
    ]
retired_leaves entry octets (inr (inr moved)) = inl (inr (inr moved))
