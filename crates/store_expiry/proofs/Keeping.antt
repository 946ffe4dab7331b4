-- What is left of a segment is put beside it.
use Rattle.std.proofs.Common.{◌≡◌, ℕ, List, ◌∙◌}
use Rattle.disk.specs.States.{Files, State}
use Rattle.journal.specs.Journals.{IsOnDisk, IsSound, KeepsOthers}
use Rattle.archive_text.specs.Entries.{Entry}
use Rattle.archive_text.specs.Text.{text_of}
use Rattle.record_store.specs.Segments.{IsSegmentOf}
use Rattle.store_upkeep.specs.Compaction.{MayBePlaced, shown}
use Rattle.store_expiry.specs.Expiry.{IsReadyRest, IsSpared, NoneIsGone, Places, Sheds, expire_draft}
use Rattle.store_expiry.specs.Surveys.{HasExpired, IsFoundAt, SomeExpired}
use Rattle.store_expiry.specs.declared.expired.Expired.{Expired}
use Rattle.store_expiry.specs.declared.survey.Found.{Found}
use Rattle.store_expiry.proofs.Changing.{rest_archive}
use Rattle.store_expiry.proofs.Resting.{rest_may_be_placed}
use Rattle.store_expiry.proofs.Shedding.{placed_none_gone, placed_sheds, placed_spared}

-- what was found of a segment
pub found_expired : (x : Expired) (files : Files) (name : List ℕ) (found : Found) (f : IsFoundAt x files name found)
    → HasExpired x files name found.period f.surveyed.entries
found_expired x files name found f = record { is_file = f.surveyed.is_file; some = f.surveyed.is.tally.some f.some }

-- the draft is removed
pub draft_aside : (old new : State) (draft : List ℕ) → draft ≡ expire_draft → KeepsOthers old new draft
    → KeepsOthers old new expire_draft
draft_aside old new draft is others other apart = others other (λ to. apart (to ∙ is))

module _ (x : Expired) (zero one new : State) (source draft name : List ℕ) (found : Found)
    (f : IsFoundAt x (shown zero) source found) (aside : KeepsOthers zero one expire_draft)
    (ready : IsReadyRest x one draft name found.period f.surveyed.entries)
    (place : (period text : List ℕ) (es : List Entry) → MayBePlaced one draft name period text es
    → Places one new draft name text) where
  abbrev es : List Entry
  es = f.surveyed.entries

  some : SomeExpired x es
  some = f.surveyed.is.tally.some f.some

  abbrev left : List Entry
  left = ready.rest.left

  may : MayBePlaced one draft name found.period (text_of left) left
  may = rest_may_be_placed x zero one source draft name found.period es f.surveyed.is_file aside ready

  archive : IsSegmentOf found.period (text_of left) left
  archive = rest_archive x found.period es left f.surveyed.is_file.archive ready.rest.selection

  places : Places one new draft name (text_of left)
  places = place found.period (text_of left) left may

  pub keeps_sheds : Sheds x zero new
  keeps_sheds =
      placed_sheds x zero one new source draft name found.period es f.surveyed.is_file some f.dated aside ready
      archive places

  pub keeps_stay : NoneIsGone x zero new
  keeps_stay =
      placed_none_gone x zero one new source draft name found.period es f.surveyed.is_file some f.dated aside ready
      archive places

  module _ (placed : (period text : List ℕ) (es : List Entry) → MayBePlaced one draft name period text es
      → IsOnDisk new name text) where
    on_disk : IsOnDisk new name (text_of left)
    on_disk = placed found.period (text_of left) left may

    pub keeps_sound : IsSound new
    keeps_sound = on_disk.sound

    pub keeps_spared : IsSpared x new source
    keeps_spared =
        placed_spared x zero one new source draft name found.period es f.surveyed.is_file some f.dated aside ready
        archive places on_disk
