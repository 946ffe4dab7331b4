-- What became of files is noted.
use Rattle.std.proofs.Common.{◌≡◌, ◌≢◌, inl, inr, ℕ, Bool, List, [], ◌∷◌, ◌++◌, refl, sym, subst, ◌∙◌}
use Rattle.std.proofs.Common.{append-nil, length}
use Rattle.std.specs.Prelude.{Contains, IsSome, IsSomeAnd, Option, None, Some, false, true}
use Rattle.std.specs.List.{AllByRecursion}
use Rattle.std.proofs.lemmas.Bool.{false≢true}
use Rattle.std.proofs.lemmas.List.{map-append}
use Rattle.std.proofs.lemmas.List.Elements.{Contains-append_left, Contains-push}
use Rattle.disk.specs.Calls.{IsUnchanged}
use Rattle.disk.specs.Memory.{shown_now}
use Rattle.disk.specs.States.{Entry, Files, State}
use Rattle.journal.specs.Journals.{KeepsOthers}
use Rattle.archive_text.proofs.Members.{all_append}
use Rattle.record_store.specs.Names.{Counts}
use Rattle.record_store.proofs.Named.{same_or_apart}
use Rattle.store_reading.specs.Damages.{position}
use Rattle.store_reading.specs.declared.fault.FileFault.{FileFault}
use Rattle.store_upkeep.specs.Compaction.{shown}
use Rattle.store_upkeep.specs.Damages.{names_of}
use Rattle.store_upkeep.specs.declared.damage.DamagedFile.{DamagedFile}
use Rattle.store_upkeep.proofs.Verdicts.{adds_none, adds_stays, adds_then}
use Rattle.store_backup.specs.declared.outcome.Outcome.{Outcome}
use Rattle.store_backup.specs.declared.outcome.Outcome.TheVariants.{Copied, Damaged, Gone}
use Rattle.store_backup.specs.Backups.{Becomes, Notes}
use Rattle.store_backup.specs.Backups.{AreTold, BacksUp, BecomesCopy, BecomesNothing, IsCopied, IsDamageAt, IsDone}
use Rattle.store_backup.specs.Backups.{IsOfKind, IsOpenFor, Lists, NotesCopy, NotesDamage, copied_names}
use Rattle.store_backup.specs.Copies.{IsBacking}
use Rattle.store_backup.specs.Drafts.{Places, ShowsStill}
use Rattle.store_backup.specs.declared.files.Kind.{Kind}
use Rattle.store_backup.specs.declared.files.Kind.TheVariants.{Journals, Segments}
use Rattle.store_backup.specs.declared.outcome.Backup.{Backup}
use Rattle.store_backup.specs.declared.outcome.CopiedFile.{CopiedFile}
use Rattle.store_backup.proofs.Placing.{others_copies, others_still, same_others}

-- ---- names

pub kind_counts : (kind : Kind) (name : List ℕ) → IsOfKind kind name → Counts name
kind_counts Journals name journal = inl journal
kind_counts Segments name (period, text, segment) = inr (period, segment)

pub counted_apart : (draft name : List ℕ) → ¬ (Counts draft) → Counts name → name ≢ draft
counted_apart draft name apart counts is = apart (subst Counts is counts)

-- ---- files that are shown still

some_then : (o other : Option (List ℕ)) (P : List ℕ → Type 0) → ((text : List ℕ) → o ≡ Some text → other ≡ Some text)
    → IsSomeAnd o P → IsSomeAnd other P
some_then None other P still is = absurd is
some_then (Some text) other P still is =
    subst (λ (o : Option (List ℕ)). IsSomeAnd o P) (sym (still text refl)) is

is_some_then : (o other : Option (List ℕ)) → ((text : List ℕ) → o ≡ Some text → other ≡ Some text) → IsSome o
    → IsSome other
is_some_then None other still is = absurd (cc is)
is_some_then (Some text) other still is = subst IsSome (sym (still text refl)) refl

some_is : (o : Option (List ℕ)) (P : List ℕ → Type 0) → IsSomeAnd o P → IsSome o
some_is None P is = absurd is
some_is (Some text) P is = refl

all_then : {X : Type 0} (P Q : X → Type 0) (xs : List X) → ((x : X) → P x → Q x) → AllByRecursion P xs
    → AllByRecursion Q xs
all_then P Q [] then all = tt
all_then P Q (x ∷ xs) then all = (then x all.0, all_then P Q xs then all.1)

copied_then : (old new : State) (draft : List ℕ) → ShowsStill old new draft → (c : CopiedFile) → IsCopied old draft c
    → IsCopied new draft c
copied_then old new draft still c is = record {
  apart = is.apart;
  octets = some_then (shown old c.name) (shown new c.name) (λ text. c.octets ≡ position (length text))
      (λ text there. still c.name text is.apart there) is.octets;
}

each_then : (old new : State) (draft : List ℕ) (cs : List CopiedFile) → ShowsStill old new draft
    → AllByRecursion (IsCopied old draft) cs → AllByRecursion (IsCopied new draft) cs
each_then old new draft cs still each =
    all_then (IsCopied old draft) (IsCopied new draft) cs (copied_then old new draft still) each

-- where only the draft was changed
pub lists_then : (old new : State) (draft : List ℕ) (cs : List CopiedFile) → KeepsOthers old new draft
    → Lists old draft cs → Lists new draft cs
lists_then old new draft cs others l = record {
  each = each_then old new draft cs (others_still old new draft others) l.each;
  all = λ name apart some. l.all name apart
      (subst (λ (e : Entry). IsSome (shown_now e)) (others name apart) some);
}

-- ---- steps behind one another

pub backing_then : (files : Files) (old new : State) (draft : List ℕ) → IsBacking files old draft
    → new.lost ≡ false → KeepsOthers old new draft → IsBacking files new draft
backing_then files old new draft backing sound others = record {
  apart = backing.apart;
  sound = sound;
  copies = others_copies files old new draft others backing.copies;
}

pub unchanged_backing : (files : Files) (old new : State) (draft : List ℕ) → IsBacking files old draft
    → IsUnchanged old new → IsBacking files new draft
unchanged_backing files old new draft backing same =
    backing_then files old new draft backing (same.lost ∙ backing.sound) (same_others old new draft same)

-- nothing was noted
pub backs_none : (files : Files) (old new : State) (draft : List ℕ) (b : Backup) → IsBacking files old draft
    → new.lost ≡ false → KeepsOthers old new draft → BacksUp files old new draft b b
backs_none files old new draft b backing sound others = record {
  backing = backing_then files old new draft backing sound others;
  still = others_still old new draft others;
  lists = λ l. lists_then old new draft b.copied.items others l;
  told = λ told. told;
  more = adds_none b.damaged.items;
}

pub backs_then : (files : Files) (s t u : State) (draft : List ℕ) (a b c : Backup) → BacksUp files s t draft a b
    → BacksUp files t u draft b c → BacksUp files s u draft a c
backs_then files s t u draft a b c one two = record {
  backing = two.backing;
  still = λ name text apart there. two.still name text apart (one.still name text apart there);
  lists = λ l. two.lists (one.lists l);
  told = λ told. two.told (one.told told);
  more = adds_then a.damaged.items b.damaged.items c.damaged.items one.more two.more;
}

pub done_then : (files : Files) (old new : State) (draft : List ℕ) (b c : Backup) (name : List ℕ) → name ≢ draft
    → BacksUp files old new draft b c → IsDone old b.damaged.items name → IsDone new c.damaged.items name
done_then files old new draft b c name apart backs (inl there) =
    inl (is_some_then (shown old name) (shown new name) (λ text is. backs.still name text apart is) there)
done_then files old new draft b c name apart backs (inr listed) =
    inr (adds_stays b.damaged.items c.damaged.items backs.more name listed)

-- ---- a file was copied, and noted

names_push : (cs : List CopiedFile) (c : CopiedFile) → copied_names (cs ++ c ∷ []) ≡ copied_names cs ++ c.name ∷ []
names_push cs c = map-append (λ (x : CopiedFile). x.name) cs (c ∷ [])

module _ (files : Files) (old new : State) (draft name : List ℕ) (octets : ℕ) (b c : Backup) (apart : name ≢ draft)
    (backing : IsBacking files old draft) (places : Places files old new draft name)
    (becomes : BecomesCopy new name octets) (notes : NotesCopy name octets b c) where
  file_is : IsCopied new draft notes.file
  file_is = record {
    apart = λ is. apart (sym notes.name_is ∙ is);
    octets = subst (λ (n : List ℕ). IsSomeAnd (shown new n) (λ text. notes.file.octets ≡ position (length text)))
        (sym notes.name_is)
        (subst (λ (k : ℕ). IsSomeAnd (shown new name) (λ text. k ≡ position (length text))) (sym notes.octets_are)
        becomes.there);
  }

  lists : Lists old draft b.copied.items → Lists new draft c.copied.items
  lists l = record {
    each = subst (AllByRecursion (IsCopied new draft)) (sym notes.copied)
        (all_append (IsCopied new draft) b.copied.items (notes.file ∷ [])
        (each_then old new draft b.copied.items places.still l.each) (file_is, tt));
    all = λ other other_apart some. subst (λ (cs : List CopiedFile). Contains (copied_names cs) other)
        (sym notes.copied)
        (subst (λ (l : List (List ℕ)). Contains l other) (sym (names_push b.copied.items notes.file))
        (has other other_apart some));
  }
    where
      has : (other : List ℕ) → other ≢ draft → IsSome (shown new other)
          → Contains (copied_names b.copied.items ++ notes.file.name ∷ []) other
      has other other_apart some =
          elim (same_or_apart other name) [
            | inl same ↦ subst (Contains (copied_names b.copied.items ++ notes.file.name ∷ []))
                (notes.name_is ∙ sym same) (Contains-push (copied_names b.copied.items) notes.file.name)
            | inr differs ↦ Contains-append_left (copied_names b.copied.items) (notes.file.name ∷ []) other
                (l.all other other_apart
                (subst (λ (e : Entry). IsSome (shown_now e)) (places.others other other_apart differs) some))
          ]

  pub copy_backs : BacksUp files old new draft b c
  copy_backs = record {
    backing = record { apart = backing.apart; sound = becomes.sound; copies = places.copies };
    still = places.still;
    lists = lists;
    told = λ told. subst (AreTold files) (sym notes.damaged) told;
    more = ([], notes.damaged ∙ sym (append-nil b.damaged.items));
  }

  pub copy_done : IsDone new c.damaged.items name
  copy_done = inl (some_is (shown new name) (λ text. octets ≡ position (length text)) becomes.there)

-- ---- a file is damaged, and was noted

module _ (files : Files) (old new : State) (draft name : List ℕ) (damage : FileFault) (b c : Backup)
    (backing : IsBacking files old draft) (nothing : BecomesNothing old new draft)
    (is : IsDamageAt files name damage) (notes : NotesDamage name damage b c) where
  told_file : IsDamageAt files notes.file.name notes.file.damage
  told_file =
      subst (λ (n : List ℕ). IsDamageAt files n notes.file.damage) (sym notes.name_is)
      (subst (IsDamageAt files name) (sym notes.damage_is) is)

  pub damage_backs : BacksUp files old new draft b c
  damage_backs = record {
    backing = backing_then files old new draft backing nothing.sound nothing.others;
    still = others_still old new draft nothing.others;
    lists = λ l. subst (Lists new draft) (sym notes.copied)
        (lists_then old new draft b.copied.items nothing.others l);
    told = λ told. subst (AreTold files) (sym notes.damaged)
        (all_append (λ (d : DamagedFile). IsDamageAt files d.name d.damage) b.damaged.items (notes.file ∷ []) told
        (told_file, tt));
    more = (notes.file ∷ [], notes.damaged);
  }

  pub damage_done : IsDone new c.damaged.items name
  damage_done =
      inr (subst (λ (ds : List DamagedFile). Contains (names_of ds) name) (sym notes.damaged)
      (subst (λ (l : List (List ℕ)). Contains l name)
      (sym (map-append (λ (x : DamagedFile). x.name) b.damaged.items (notes.file ∷ [])))
      (subst (Contains (names_of b.damaged.items ++ notes.file.name ∷ [])) notes.name_is
      (Contains-push (names_of b.damaged.items) notes.file.name))))

-- ---- where a read shows the same

pub lists_shown : (old new : State) (draft : List ℕ) (cs : List CopiedFile)
    → ((name : List ℕ) → shown new name ≡ shown old name) → Lists old draft cs → Lists new draft cs
lists_shown old new draft cs same l = record {
  each = each_then old new draft cs (λ name text apart there. same name ∙ there) l.each;
  all = λ name apart some. l.all name apart (subst IsSome (same name) some);
}

-- ---- whatever became of a file

module _ (files : Files) (one two : State) (draft name : List ℕ) (b c : Backup) (there : Bool) (counts : Counts name)
    (opens : IsOpenFor files one draft name) (places : Places files one two draft name) where
  pub noted_backs : (outcome : Outcome) → Becomes files one two draft name outcome → Notes name outcome b c there
      → BacksUp files one two draft b c
  noted_backs (Copied octets) becomes (notes, is) =
      copy_backs files one two draft name octets b c (counted_apart draft name opens.backing.apart counts) opens.backing
      places becomes notes
  noted_backs (Damaged damage) (nothing, at) (notes, is) =
      damage_backs files one two draft name damage b c opens.backing nothing at notes
  noted_backs Gone nothing (same, is) =
      subst (λ (x : Backup). BacksUp files one two draft b x) (sym same)
      (backs_none files one two draft b opens.backing nothing.sound nothing.others)

  pub noted_done : (outcome : Outcome) → Becomes files one two draft name outcome → Notes name outcome b c there
      → there ≡ true → IsDone two c.damaged.items name
  noted_done (Copied octets) becomes (notes, is) was =
      copy_done files one two draft name octets b c (counted_apart draft name opens.backing.apart counts) opens.backing
      places becomes notes
  noted_done (Damaged damage) (nothing, at) (notes, is) was =
      damage_done files one two draft name damage b c opens.backing nothing at notes
  noted_done Gone nothing (same, is) was = absurd (false≢true (sym is ∙ was))
