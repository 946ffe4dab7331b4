-- Files are copied one behind the other.
use Rattle.std.proofs.Common.{◌≡◌, inl, inr, ℕ, Bool, List, [], ◌∷◌, ◌++◌, refl, sym, ap, subst, ◌∙◌}
use Rattle.std.specs.Prelude.{◌↔◌, Contains, IsSome, IsTrue, Option, None, Some, false}
use Rattle.std.proofs.lemmas.Bool.{false≢true}
use Rattle.disk.specs.Calls.{IsUnchanged}
use Rattle.disk.specs.Memory.{shown_now}
use Rattle.disk.specs.States.{Entry, Files, State}
use Rattle.record_store.proofs.Leavings.{none_shown}
use Rattle.record_store.specs.Names.{Counts}
use Rattle.store_reading.specs.Folders.{AreNamesOf}
use Rattle.store_upkeep.specs.Compaction.{shown}
use Rattle.store_upkeep.proofs.Verdicts.{names_more}
use Rattle.store_backup.specs.Backups.{AllAreDone, BacksUp, HasNoEntries, IsDone, IsEmptyFolder, IsOfKind, IsOpenFor}
use Rattle.store_backup.specs.Backups.{Lists, ShowsNothing}
use Rattle.store_backup.specs.Copies.{HasCopies, IsBacking}
use Rattle.store_backup.specs.declared.files.Kind.{Kind}
use Rattle.store_backup.specs.declared.files.Kind.TheVariants.{Journals, Segments}
use Rattle.store_backup.specs.declared.outcome.Backup.{Backup}
use Rattle.store_backup.specs.declared.outcome.CopiedFile.{CopiedFile}
use Rattle.store_backup.proofs.Noting.{backs_none, backs_then, counted_apart, done_then, kind_counts, unchanged_backing}
use Rattle.store_backup.proofs.Placing.{same_others}

-- ---- a name that is not taken

none_where : (o : Option (List ℕ)) → ¬ (IsSome o) → o ≡ None
none_where None not = refl
none_where (Some x) not = absurd (not refl)

pub open_at : (files : Files) (state : State) (draft name : List ℕ) → IsBacking files state draft
    → ¬ (IsSome (shown state name)) → IsOpenFor files state draft name
open_at files state draft name backing not = record {
  backing = backing;
  vacant = none_shown (state.entries name) (none_where (shown state name) not);
}

pub not_there : (b : Bool) (some : Type 0) → b ≡ false → IsTrue b ↔ some → ¬ some
not_there b some off told is = false≢true (sym off ∙ told.1 is)

pub open_now : (files : Files) (zero one : State) (draft name : List ℕ) → IsBacking files zero draft
    → IsUnchanged zero one → ¬ (IsSome (shown zero name)) → IsOpenFor files one draft name
open_now files zero one draft name backing same not =
    open_at files one draft name (unchanged_backing files zero one draft backing same)
    (λ some. not (subst (λ (e : Entry). IsSome (shown_now e)) (same.entries name) some))

pub unchanged_backs : (files : Files) (zero one : State) (draft : List ℕ) (b : Backup) → IsBacking files zero draft
    → IsUnchanged zero one → BacksUp files zero one draft b b
unchanged_backs files zero one draft b backing same =
    backs_none files zero one draft b backing (same.lost ∙ backing.sound) (same_others zero one draft same)

-- ---- a step more

module _ (files mid : Files) (same : mid ≡ files) (zero one two : State) (draft : List ℕ) (a b c : Backup)
    (before : BacksUp files zero one draft a b) where
  pub mid_backing : IsBacking mid one draft
  mid_backing = subst (λ (f : Files). IsBacking f one draft) (sym same) before.backing

  pub step_copies : HasCopies mid two draft → HasCopies files two draft
  step_copies copies = subst (λ (f : Files). HasCopies f two draft) same copies

  pub step_backs : BacksUp mid one two draft b c → BacksUp files zero two draft a c
  step_backs more =
      backs_then files zero one two draft a b c before
      (subst (λ (f : Files). BacksUp f one two draft b c) same more)

  module _ (more : BacksUp mid one two draft b c) (kind : Kind) where
    still_done : (name : List ℕ) → (IsOfKind kind name → IsDone one b.damaged.items name) → IsOfKind kind name
        → IsDone two c.damaged.items name
    still_done name done of =
        done_then mid one two draft b c name
        (counted_apart draft name before.backing.apart (kind_counts kind name of)) more (done of)

    pub step_done : (names : List (List ℕ)) (last : List ℕ)
        → ((name : List ℕ) → Contains names name → IsOfKind kind name → IsDone one b.damaged.items name)
        → (IsOfKind kind last → IsDone two c.damaged.items last) → (name : List ℕ)
        → Contains (names ++ last ∷ []) name → IsOfKind kind name → IsDone two c.damaged.items name
    step_done names last done here =
        names_more (λ (n : List ℕ). IsOfKind kind n → IsDone two c.damaged.items n) names last
        (λ name has. still_done name (done name has)) here

-- ---- where the folder's files are the same

module _ (files mid : Files) (same : mid ≡ files) (draft : List ℕ) where
  pub moved_backing : (state : State) → IsBacking files state draft → IsBacking mid state draft
  moved_backing state backing = subst (λ (f : Files). IsBacking f state draft) (sym same) backing

  pub moved_copies : (state : State) → HasCopies mid state draft → HasCopies files state draft
  moved_copies state copies = subst (λ (f : Files). HasCopies f state draft) same copies

  pub moved_backs : (zero one : State) (b c : Backup) → BacksUp mid zero one draft b c → BacksUp files zero one draft b c
  moved_backs zero one b c backs = subst (λ (f : Files). BacksUp f zero one draft b c) same backs

-- ---- both kinds

pub both_done : (files : Files) (one two : State) (draft : List ℕ) (b c : Backup) (names : List (List ℕ))
    → AreNamesOf files names → BacksUp files one two draft b c → ¬ (Counts draft)
    → ((name : List ℕ) → Contains names name → IsOfKind Journals name → IsDone one b.damaged.items name)
    → ((name : List ℕ) → Contains names name → IsOfKind Segments name → IsDone two c.damaged.items name)
    → AllAreDone files two c.damaged.items
both_done files one two draft b c names listed backs apart journals segments name (inl journal) there =
    done_then files one two draft b c name (counted_apart draft name apart (inl journal)) backs
    (journals name ((listed name).1 there) journal)
both_done files one two draft b c names listed backs apart journals segments name (inr segment) there =
    segments name ((listed name).1 there) segment

-- ---- the folder of the copy

pub empty_backing : (files : Files) (state : State) (draft : List ℕ) → ¬ (Counts draft) → IsEmptyFolder state
    → IsBacking files state draft
empty_backing files state draft apart empty = record {
  apart = apart;
  sound = empty.sound;
  copies = λ name differs. inl (empty.none name);
}

pub empty_shows : (state : State) → HasNoEntries state → ShowsNothing state
empty_shows state none name = ap shown_now (none name)

pub nothing_lists : (state : State) (draft : List ℕ) (cs : List CopiedFile) → cs ≡ [] → ShowsNothing state
    → Lists state draft cs
nothing_lists state draft cs is nothing =
    subst (Lists state draft) (sym is) (record {
      each = tt;
      all = λ name apart some. absurd (no_some (shown state name) (nothing name) some);
    })
  where
    no_some : (o : Option (List ℕ)) → o ≡ None → IsSome o → ⊥
    no_some None is some = cc some
    no_some (Some x) is some = cc is
