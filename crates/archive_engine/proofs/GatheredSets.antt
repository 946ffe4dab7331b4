-- A set of the records of an input's frames is the archive of the input.
use Rattle.std.proofs.Common.{◌≡◌, ℕ, List, [], ◌∷◌, sym, ap, subst, ◌∙◌, refl}
use Rattle.std.specs.Prelude.{◌↔◌}
use Rattle.syslog_frame.specs.Frames.{Frames}
use Rattle.syslog_frame.specs.declared.framing.Framing.{Framing}
use Rattle.syslog_frame.proofs.FrameLaws.{unique_frames}
use Rattle.syslog_legacy.specs.declared.frame_reading.FrameReading.{FrameReading}
use Rattle.syslog_collect.specs.Frames.{IsSpelled}
use Rattle.archive_text.specs.Entries.{Entry, Has}
use Rattle.archive_text.specs.Text.{IsArchive, text_of}
use Rattle.archive_text.specs.declared.limits.TheConstants.{ENTRY_MAX}
use Rattle.archive_sorting.specs.Records.{entries_kept}
use Rattle.archive_sorting.specs.Settled.{HaveSame}
use Rattle.archive_sorting.specs.declared.unsorted.UnsortedRecords.{UnsortedRecords}
use Rattle.driver.specs.Effects.{Adds, Done, nothing, then_done}
use Rattle.driver.specs.Sessions.{with_rest}
use Rattle.frame_engine.specs.Converted.{noted_line}
use Rattle.frame_engine.specs.Sessions.{EndsInput}
use Rattle.frame_engine.specs.declared.input_framing.InputFraming.TheVariants.{Datagram, Stream}
use Rattle.frame_engine.proofs.HandlingLemmas.{then_assoc, then_nothing}
use Rattle.archive_engine.specs.Archived.{ArchiveDone, IsArchiveOf, archive_handling}
use Rattle.archive_engine.specs.Gathering.{Gathered, GathersFrom, Holds, only_at_end}
use Rattle.archive_engine.specs.Spilled.{lines_meaning}
use Rattle.archive_engine.specs.declared.gathering.Gathering.{Gathering}
use Rattle.archive_engine.proofs.StreamLemmas.{datagram_whole, stream_whole}

-- the lines on the whole input
pub whole_lines : (way : FrameReading) (S : List (List ℕ) → Type 0) (kind : Framing) (input : List ℕ) (d : Done)
    → EndsInput (archive_handling way) noted_line (only_at_end S) (Stream kind) input d
    → (lines_meaning way (Stream kind)).whole input d
whole_lines way S kind input d e =
    let same : d ≡ e.of_input = e.whole ∙ ap (then_done e.of_input) e.ends.1 ∙ then_nothing e.of_input in
    subst (λ (x : Done). (lines_meaning way (Stream kind)).whole input x) (sym same) e.means

-- the records of the frames are the archive of the input
whole_archive : {S : Type 0} (H : S → List Entry → Type 0) (way : FrameReading) (s : S) (kind : Framing)
    (input : List ℕ) (frames : List (List ℕ)) (rest : List ℕ) → Frames kind input frames rest
    → (g : Gathered H way s frames) → IsArchiveOf way (Stream kind) input g.entries
whole_archive H way s kind input frames rest are g = record {
  archive = g.archive;
  members = λ x. (
    λ has. (frames, (rest, are), (g.members x).0 has),
    λ received.
        let same = (unique_frames kind input received.0 frames received.1.0 rest received.1.1 are).0 in
        (g.members x).1 (subst (λ (fs : List (List ℕ)). IsSpelled way fs x) same received.2),
  );
}

-- the archive of the set
pub set_archive : {S F : Type 0} (H : S → List Entry → Type 0) (first now : Gathering S F) (kind : Framing)
    (input : List ℕ) (d : Done)
    → EndsInput (archive_handling first.reading) noted_line (only_at_end (GathersFrom H first now))
    (Stream kind) input d
    → H first.set [] → (es : List Entry) × IsArchiveOf first.reading (Stream kind) input es × H now.set es
set_archive H first now kind input d e h =
    let g = e.ends.0.1 h in
    (g.entries, whole_archive H first.reading now.set kind input e.frames e.frames_are.0 e.frames_are.1 g, g.holds)

-- ---- records that settle

-- none hold no entries
pub holds_none : (s t : UnsortedRecords) → s ≡ t → entries_kept t ≡ [] → Holds s []
holds_none s t is none =
    subst (λ (u : UnsortedRecords). Holds u []) (sym is)
    (λ x. (λ h. absurd h, λ h. subst (λ (es : List Entry). Has es x) none h))

-- what they held is what the archive has
settled_alike : (kept es ys : List Entry) → HaveSame kept es → HaveSame kept ys → (x : Entry) → Has es x ↔ Has ys x
settled_alike kept es ys h k x = (λ has. (k x).1 ((h x).0 has), λ has. (h x).1 ((k x).0 has))

-- those of a stream that has ended
pub stream_settled : {F : Type 0} (first now : Gathering UnsortedRecords F) (kind : Framing) (input : List ℕ) (d : Done)
    (ys : List Entry) → IsArchive ENTRY_MAX ys → HaveSame (entries_kept now.set) ys → Holds first.set []
    → EndsInput (archive_handling first.reading) noted_line (only_at_end (GathersFrom Holds first now))
    (Stream kind) input d
    → ArchiveDone first.reading (Stream kind) input (with_rest d (text_of ys))
stream_settled first now kind input d ys archive settled none e =
    let a = set_archive Holds first now kind input d e none in
    let same = settled_alike (entries_kept now.set) a.0 ys a.2 settled in
    stream_whole first.reading kind input ys d archive
    (λ x. (λ has. (a.1.members x).0 ((same x).1 has), λ received. (same x).0 ((a.1.members x).1 received)))
    (whole_lines first.reading (GathersFrom Holds first now) kind input d e)

-- those of a datagram that was handled
pub datagram_settled : {F : Type 0} (first now : Gathering UnsortedRecords F) (given : List ℕ) (before old new : Done)
    (ys : List Entry) → IsArchive ENTRY_MAX ys → HaveSame (entries_kept now.set) ys → Holds first.set []
    → then_done before old ≡ nothing → Adds (archive_handling first.reading 1 given) old new
    → GathersFrom Holds first now (given ∷ [])
    → ArchiveDone first.reading Datagram given (with_rest (then_done before new) (text_of ys))
datagram_settled first now given before old new ys archive settled none nothing_yet (d, handled, is) gathered =
    let g = gathered.1 none in
    let same = settled_alike (entries_kept now.set) g.entries ys g.holds settled in
    let all : then_done before new ≡ d =
    ap (then_done before) is ∙ sym (then_assoc before old d) ∙ ap (λ (x : Done). then_done x d) nothing_yet in
    subst (λ (x : Done). ArchiveDone first.reading Datagram given (with_rest x (text_of ys))) (sym all)
    (datagram_whole first.reading given ys d archive
    (λ x. (
      λ has. (given ∷ [], refl, (g.members x).0 ((same x).1 has)),
      λ received. (same x).0 ((g.members x).1
          (subst (λ (fs : List (List ℕ)). IsSpelled first.reading fs x) received.1 received.2)),
    ))
    handled)
