-- The names of a folder, and its newest journal.
use Rattle.std.proofs.Common.{◌≡◌, ℕ, ◌<◌, ◌^◌, List, refl, sym, ◌∙◌}
use Rattle.std.specs.Prelude.{Contains, Option, None, Some, IsNone, IsSome}
use Rattle.std.specs.Option.{option_map}
use Rattle.disk.specs.Calls.{AreNames, IsUnchanged}
use Rattle.disk.specs.Files.{File}
use Rattle.disk.specs.States.{State}
use Rattle.journal.specs.Journals.{IsSound}
use Rattle.record_store.specs.Causes.{ShowsTooLong}
use Rattle.record_store.specs.Names.{IsNewest, journal_name}
use Rattle.record_store.specs.Shown.{GivesShown, IsNewestShown, ShowsNoJournal, journal_shown}
use Rattle.record_store.proofs.Showing.{newest_on, unchanged_shown}

some_shown : (now : Option File) → IsSome now → (octets : List ℕ) × (option_map (λ (f : File). f.shown) now ≡ Some octets)
some_shown None some = absurd (cc some)
some_shown (Some file) some = (file.shown, refl)

not_shown : (now : Option File) → ¬ (IsSome now) → option_map (λ (f : File). f.shown) now ≡ None
not_shown None none = refl
not_shown (Some file) none = absurd (none refl)

-- a file that is shown is there
pub shown_not_none : (now : Option File) (octets : List ℕ)
    → option_map (λ (f : File). f.shown) now ≡ Some octets → ¬ (IsNone now)
shown_not_none None octets shown none = absurd (cc shown)
shown_not_none (Some file) octets shown none = absurd (cc none)

module _ (state : State) (names : List (List ℕ)) (sound : IsSound state) (are : AreNames state names) where
  not_there : (n : ℕ) → ¬ (Contains names (journal_name n)) → journal_shown state n ≡ None
  not_there n none =
      not_shown (state.entries (journal_name n)).now (λ some. none ((are sound (journal_name n)).1 some))

  pub newest_of : (number : ℕ) → number < 2 ^ 64 → IsNewest names (Some number)
      → (octets : List ℕ) × IsNewestShown state number octets
  newest_of number small newest =
      let some = some_shown (state.entries (journal_name number)).now
      ((are sound (journal_name number)).0 (newest.some number refl)) in (
        some.0,
        record {
          small = small;
          shown = some.1;
          none_above = λ n later fits. not_there n (newest.none_above n later fits);
        },
      )

  pub none_newest : IsNewest names None → ShowsNoJournal state
  none_newest newest n fits = not_there n (newest.none_above n fits)

-- ---- nothing has changed

module _ (old new : State) (same : IsUnchanged old new) where
  pub newest_still : (number : ℕ) (octets : List ℕ) → IsNewestShown old number octets → IsNewestShown new number octets
  newest_still number octets newest = newest_on old new number octets (unchanged_shown old new same) newest

  pub none_still : ShowsNoJournal old → ShowsNoJournal new
  none_still none n small = unchanged_shown old new same n small ∙ none n small

  pub gives_still : (number : ℕ) (text : List ℕ) → GivesShown new number text → GivesShown old number text
  gives_still number text gives = record {
    octets = gives.octets;
    newest = newest_on new old number gives.octets (λ n small. sym (unchanged_shown old new same n small)) gives.newest;
    bodies = gives.bodies;
    has = gives.has;
    text_is = gives.text_is;
  }

  pub too_long_still : ShowsTooLong new → ShowsTooLong old
  too_long_still long = record {
    number = long.number;
    octets = long.octets;
    small = long.small;
    shown = sym (unchanged_shown old new same long.number long.small) ∙ long.shown;
    long = long.long;
  }
