-- No segment has what is expired.
use Rattle.std.proofs.Common.{◌≡◌, ◌≢◌, ◌⊎◌, inl, inr, ⊎_elim, ℕ, Bool, true, false, List, refl, ap, subst, sym, ◌∙◌}
use Rattle.std.specs.Prelude.{Contains, Option, None, Some, IsSome, IsTrue, ⊤}
use Rattle.disk.specs.Calls.{IsUnchanged}
use Rattle.disk.specs.Memory.{shown_now}
use Rattle.disk.specs.States.{State}
use Rattle.store_upkeep.specs.Compaction.{AreListed, shown}
use Rattle.store_expiry.specs.Expiry.{AreClear, AreWholeOrUnexpired, IsClear, IsGone, KeepsOrSettles, RemovedAreGone}
use Rattle.store_expiry.specs.Expiry.{Sheds}
use Rattle.store_expiry.specs.Lines.{WritesAll, WritesPart}
use Rattle.store_expiry.specs.Surveys.{IsWholeOrUnexpired}
use Rattle.store_expiry.specs.declared.expired.Expired.{Expired}
use Rattle.store_expiry.proofs.Changing.{clear_as, clear_none, whole_none}
use Rattle.store_expiry.proofs.Shedding.{settled_same, sheds_clear, unchanged_sheds, unchanged_stays, whole_then}
use Rattle.store_expiry.proofs.Telling.{all_after}

none_or_some : (o : Option (List ℕ)) → (o ≡ None) ⊎ IsSome o
none_or_some None = inl refl
none_or_some (Some file) = inr refl

-- each file that is listed is clear, and so is each that came
pub all_clear : (x : Expired) (old new : State) (names : List (List ℕ)) → AreListed old names → Sheds x old new
    → ((name : List ℕ) → Contains names name → IsClear x (shown new) name) → AreClear x (shown new)
all_clear x old new names listed sheds each name = ⊎_elim
    (λ (same : shown new name ≡ shown old name). ⊎_elim
    (λ none. clear_none x (shown new) name (same ∙ none))
    (λ some. each name (listed name some))
    (none_or_some (shown old name)))
    (λ clear. clear)
    (sheds_clear x old new sheds name)

-- each file that is listed is whole, or not expired by its name
pub all_whole : (x : Expired) (old mid : State) (names : List (List ℕ)) → IsUnchanged old mid → AreListed mid names
    → ((name : List ℕ) → Contains names name → IsWholeOrUnexpired x (shown mid) name)
    → AreWholeOrUnexpired x (shown old)
all_whole x old mid names same listed each name =
    whole_then x old mid name (unchanged_sheds x old mid same)
    (⊎_elim
    (λ none. whole_none x (shown mid) name none)
    (λ some. each name (listed name some))
    (none_or_some (shown mid name)))

-- each file that is listed is told, or is clear
pub all_told : (x : Expired) (old mid new : State) → IsUnchanged old mid → (names : List (List ℕ))
    (a b : Option (List ℕ)) → AreListed mid names → WritesAll x mid new a b (Contains names)
    → WritesAll x old new a b (λ n. ⊤)
all_told x old mid new same names a b listed w =
    all_after x old mid (unchanged_sheds x old mid same) (unchanged_stays x old mid same) new a b (λ n. ⊤) (record {
      writes = w.writes;
      only = λ name has. tt;
      all = λ period name segment any. ⊎_elim
          (λ none. inr (clear_none x (shown mid) name none))
          (λ some. w.all period name segment (listed name some))
          (none_or_some (shown mid name));
    })

-- names that have all of others are listed where these are
pub listed_in_turn : (state : State) (names slice turns turn : List (List ℕ)) → slice ≡ names → turn ≡ turns
    → ((name : List ℕ) → Contains slice name → Contains turns name) → AreListed state names → AreListed state turn
listed_in_turn state names slice turns turn is_slice is_turn all listed name some =
    subst (λ (l : List (List ℕ)). Contains l name) (sym is_turn)
    (all name (subst (λ (l : List (List ℕ)). Contains l name) (sym is_slice) (listed name some)))

-- ---- in the end

-- the folder was synced
pub clear_settled : (x : Expired) (old new : State) → KeepsOrSettles old new → AreClear x (shown old)
    → AreClear x (shown new)
clear_settled x old new settles clear name =
    clear_as x (shown old) (shown new) name (settled_same x old new settles name) (clear name)

some_is : (o : Option (List ℕ)) → IsSome o → o ≢ None
some_is None some is = absurd (cc some)
some_is (Some file) some is = absurd (cc is)

-- nothing was removed, or what was is gone on the disk
pub gone_in_the_end : (zero one two three : State) (removed : Bool) → IsUnchanged zero one
    → (removed ≡ false → IsUnchanged one two) → (removed ≡ false → IsUnchanged two three)
    → (IsTrue removed → (name : List ℕ) → shown three name ≡ None → IsGone three name) → RemovedAreGone zero three
gone_in_the_end zero one two three true same then last gone name some none = gone refl name none
gone_in_the_end zero one two three false same then last gone name some none =
    absurd (some_is (shown zero name) some
    (sym (ap shown_now ((last refl).entries name ∙ (then refl).entries name ∙ same.entries name)) ∙ none))

-- any name may be told
pub told_in_part : (x : Expired) (old new : State) (a b : Option (List ℕ)) (P : List ℕ → Type 0)
    → WritesPart x old new a b P → WritesPart x old new a b (λ n. ⊤)
told_in_part x old new a b P w = record { behind = w.behind; part = w.part; writes = w.writes; only = λ name has. tt }
