-- What comes of an input that is archived.
use Rattle.std.proofs.Common.{◌≡◌, List, [], ℕ, ◌++◌, refl, sym, ap, ◌∙◌}
use Rattle.std.specs.Prelude.{OnOk, Result, Ok, Err}
use Rattle.syslog_legacy.specs.declared.frame_reading.FrameReading.{FrameReading}
use Rattle.archive_text.specs.Entries.{Entry}
use Rattle.archive_text.specs.Text.{text_of}
use Rattle.archive_text.proofs.Ascending.{same_members}
use Rattle.driver.specs.Effects.{Done, IsPrefixOf, nothing}
use Rattle.driver.specs.Sessions.{HasOneOutput}
use Rattle.frame_engine.specs.declared.input_framing.InputFraming.{InputFraming}
use Rattle.frame_engine.specs.declared.input_framing.InputFraming.TheVariants.{Datagram, Stream}
use Rattle.frame_engine.proofs.SessionLemmas.{nothing_goes_on, nothing_part}
use Rattle.archive_engine.specs.Archived.{ArchiveDone, IsArchiveOf, archive_handling, archive_meaning}
use Rattle.archive_engine.proofs.StreamLemmas.{lines_only}

-- an input has one archive
pub one_archive : (way : FrameReading) (framing : InputFraming) (stream : List ℕ) (es fs : List Entry)
    → IsArchiveOf way framing stream es → IsArchiveOf way framing stream fs → es ≡ fs
one_archive way framing stream es fs a b =
    same_members es fs a.archive.ascending b.archive.ascending (λ x has. (b.members x).1 ((a.members x).0 has))
    (λ x has. (a.members x).1 ((b.members x).0 has))

abbrev output_of : Done → List ℕ
output_of d = d.output

one_output : (way : FrameReading) (framing : InputFraming) (input : List ℕ) (d e : Done)
    → ArchiveDone way framing input d → ArchiveDone way framing input e → d.output ≡ e.output
one_output way framing input d e h k =
    ap output_of h.whole ∙ ap text_of (one_archive way framing input h.entries k.entries h.archived k.archived)
    ∙ sym (ap output_of k.whole)

no_output : (text : List ℕ) (d : Done) → d.output ≡ [] → IsPrefixOf d.output text
no_output text d none = (text, ap (λ (x : List ℕ). x ++ text) (sym none))

-- of the frames of an input lines alone come
pub so_far_only : (way : FrameReading) (framing : InputFraming) (given : List ℕ) (d : Done)
    → (archive_meaning way framing).so_far given d → d.output ≡ []
so_far_only way Datagram given d h = ap output_of h
so_far_only way (Stream kind) given d h = lines_only way 1 h.frames d h.handled

pub part_only : (way : FrameReading) (framing : InputFraming) (given : List ℕ) (d : Done)
    → (archive_meaning way framing).part given d → d.output ≡ []
part_only way Datagram given d h = ap output_of h
part_only way (Stream kind) given d h = lines_only way 1 h.frames d h.handled

pub archive_laws : (way : FrameReading) (framing : InputFraming) → HasOneOutput (archive_meaning way framing)
archive_laws way framing = record {
  one = λ input d e h k. one_output way framing input d e h k;
  grows = λ given more d e h k. no_output e.output d (so_far_only way framing given d h);
  begins = λ given more d e h k. no_output e.output d (part_only way framing given d h);
}

-- nothing came of no octets
pub archive_begun : (way : FrameReading) (framing : InputFraming)
    → (archive_meaning way framing).so_far [] nothing × (archive_meaning way framing).part [] nothing
archive_begun way Datagram = (refl, refl)
archive_begun way (Stream kind) =
    (nothing_goes_on (archive_handling way) kind, nothing_part (archive_handling way) kind)

-- what holds where a call answers Ok
pub both_ok : {T E : Type 0} (r : Result T E) (P Q R : Type 0) → (P → Q → R) → OnOk r P → OnOk r Q → OnOk r R
both_ok (Ok x) P Q R f p q = f p q
both_ok (Err e) P Q R f p q = tt

pub three_ok : {T E : Type 0} (r : Result T E) (P Q S R : Type 0) → (P → Q → S → R) → OnOk r P → OnOk r Q → OnOk r S
    → OnOk r R
three_ok (Ok x) P Q S R f p q s = f p q s
three_ok (Err e) P Q S R f p q s = tt
