-- No frames, and frames that are too long, leave nothing in a set.
use Rattle.std.proofs.Common.{◌<◌, ℕ, List, [], ◌∷◌, ◌++◌, length, inl, inr, arith}
use Rattle.syslog_frame.specs.declared.limits.TheConstants.{FRAME_MAX}
use Rattle.syslog_legacy.specs.declared.frame_reading.FrameReading.{FrameReading}
use Rattle.archive_text.specs.Entries.{Entry}
use Rattle.archive_text.specs.declared.limits.TheConstants.{ENTRY_MAX}
use Rattle.archive_text.proofs.Ascending.{archive_nil}
use Rattle.syslog_collect.specs.Frames.{IsEntryOfFrame}
use Rattle.syslog_collect.proofs.Gains.{spelled_before, spelled_either}
use Rattle.archive_engine.specs.Gathering.{Gathered}

pub gathered_none : {S : Type 0} (H : S → List Entry → Type 0) (way : FrameReading) (s : S) → H s []
    → Gathered H way s []
gathered_none H way s h = record {
  entries = [];
  archive = archive_nil ENTRY_MAX;
  holds = h;
  members = λ x. (λ k. k, λ k. k);
}

-- a frame that is read as no record
pub gathered_less : {S : Type 0} (H : S → List Entry → Type 0) (way : FrameReading) (s : S)
    (frames : List (List ℕ)) (f : List ℕ) → ((x : Entry) → ¬ (IsEntryOfFrame way f x))
    → Gathered H way s frames → Gathered H way s (frames ++ f ∷ [])
gathered_less H way s frames f none g = record {
  entries = g.entries;
  archive = g.archive;
  holds = g.holds;
  members = λ x. (
    λ h. spelled_before way frames (f ∷ []) x ((g.members x).0 h),
    λ h. elim (spelled_either way frames (f ∷ []) x h) [
      | inl before ↦ (g.members x).1 before
      | inr (inl here) ↦ absurd (none x here)
      | inr (inr more) ↦ absurd more
    ],
  );
}

pub gathered_long : {S : Type 0} (H : S → List Entry → Type 0) (way : FrameReading) (s : S)
    (frames : List (List ℕ)) (f : List ℕ) → FRAME_MAX < length f
    → Gathered H way s frames → Gathered H way s (frames ++ f ∷ [])
gathered_long H way s frames f long g =
    gathered_less H way s frames f (λ x is. omega (arith, is.0, long)) g
