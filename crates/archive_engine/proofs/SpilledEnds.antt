-- Ends of a run by way of a set that may be larger than memory.
use Rattle.std.proofs.Common.{◌≡◌, ℕ, ◌<◌, List, [], ◌++◌, length, take, drop, refl, sym, ap, subst, ◌∙◌}
use Rattle.std.proofs.Common.{append-nil, arith, inl, inr, Bool, Option, Some, None, Result, Ok, Err}
use Rattle.std.specs.Prelude.{◌^◌, ◌⊎◌, if◌then◌else◌, IfErr, IfOk}
use Rattle.std.specs.Io.KnownBytes.{Appends}
use Rattle.std.proofs.KnownBytes.{Appends-nil, Consumes-nil}
use Rattle.std.proofs.lemmas.List.{length-append, take-append-drop}
use Rattle.std.proofs.Math.Seq.{take-append_seam}
use Rattle.octet_devices.specs.Device.{InputState, OutputState}
use Rattle.octet_devices.specs.Transfers.{WroteAll}
use Rattle.syslog_frame.specs.declared.framing.Framing.{Framing}
use Rattle.syslog_legacy.specs.declared.frame_reading.FrameReading.{FrameReading}
use Rattle.archive_text.specs.Entries.{Entry}
use Rattle.archive_text.specs.Text.{IsArchive, text_of}
use Rattle.archive_text.specs.declared.limits.TheConstants.{ENTRY_MAX}
use Rattle.archive_spill.specs.Sets.{Holds}
use Rattle.archive_spill.specs.Writing.{WroteLess, WrotePrefix}
use Rattle.archive_spill.specs.declared.fault.SpillFault.{SpillFault}
use Rattle.archive_spill.specs.declared.spilled.SpilledArchive.{SpilledArchive}
use Rattle.driver.specs.Devices.{Devices, IsLeft, Reports}
use Rattle.driver.specs.Effects.{Done, nothing, status_of}
use Rattle.driver.specs.Run.{AnswersPart, EndsAs, Ran, WriteFailedWith, WritesPrefix}
use Rattle.driver.specs.declared.stopped.Stopped.{Stopped}
use Rattle.driver.specs.declared.stopped.Stopped.TheVariants.{Diagnostics, Endless, Memory, Read, Write}
use Rattle.driver.proofs.Ends.{flushed_to}
use Rattle.driver.proofs.Known.{is_left_same, wrote_nothing, wrote_then}
use Rattle.frame_engine.specs.Sessions.{GoesOn}
use Rattle.frame_engine.specs.Streams.{HasPart}
use Rattle.frame_engine.specs.declared.input_framing.InputFraming.{InputFraming}
use Rattle.frame_engine.specs.declared.input_framing.InputFraming.TheVariants.{Stream}
use Rattle.archive_engine.specs.Archived.{ArchiveDone, IsArchiveOf, archive_handling, archive_meaning}
use Rattle.archive_engine.specs.Gathering.{GatherStops, GatheredAll, GathersFrom, GathersInput, LinesRead}
use Rattle.archive_engine.specs.Spilled.{ClosesSpilled, FinishesAs, IsOfSet, IsSpillStopped, OfArchive}
use Rattle.archive_engine.specs.Spilled.{PumpedSpilled, RanSpilled, StopsShort, WroteLines, WroteNoArchive}
use Rattle.archive_engine.specs.Spilled.{SpillEndsAs, lines_meaning, spill_line, spill_status}
use Rattle.archive_engine.specs.declared.gathering.Gathering.{Gathering}
use Rattle.archive_engine.specs.declared.spill_stop.SpillStop.{SpillStop}
use Rattle.archive_engine.specs.declared.spill_stop.SpillStop.TheVariants.{Run, Spill}
use Rattle.archive_engine.proofs.GatheredSets.{set_archive, whole_lines}
use Rattle.archive_engine.proofs.ArchiveLemmas.{archive_begun, archive_laws, one_archive, part_only, so_far_only}

-- ---- prefixes

-- of the archive of the input a prefix was written
archive_prefix : (way : FrameReading) (framing : InputFraming) (old new : Devices) (input : List ℕ) (es : List Entry)
    (sent rest : List ℕ) → IsLeft old.input.left input → IsArchiveOf way framing input es → text_of es ≡ sent ++ rest
    → Appends old.output.taken new.output.taken sent → WritesPrefix (archive_meaning way framing) old new
archive_prefix way framing old new input es sent rest is archive parts wrote = λ other d known whole.
    let same : other ≡ input = is_left_same old.input.left input other known is in
    let here : ArchiveDone way framing input d =
    subst (λ (l : List ℕ). ArchiveDone way framing l d) same whole in
    let text : d.output ≡ text_of es = ap (λ (x : Done). x.output) here.whole
    ∙ ap text_of (one_archive way framing input here.entries es here.archived archive) in
    (sent, (rest, text ∙ parts), wrote)

nothing_prefix : (way : FrameReading) (framing : InputFraming) (old new : Devices)
    → Appends old.output.taken new.output.taken [] → WritesPrefix (archive_meaning way framing) old new
nothing_prefix way framing old new wrote = λ input d known whole. ([], (d.output, refl), wrote)

-- ---- the set is written

all_parts : (text : List ℕ) (n : ℕ) → text ≡ take n text ++ drop n text
all_parts text n = sym (take-append-drop n text)

wrote_lines : (W : OutputState → OutputState → List ℕ → Type 0) (told : Type 0) (way : FrameReading) (kind : Framing)
    (S : List (List ℕ) → Type 0) (i j : InputState) (o p n m : OutputState) (refused : Bool)
    → (g : GatheredAll way S kind i j n m refused)
    → (told → OfArchive W way (Stream kind) g.input o p)
    → WroteLines W told way (Stream kind) [] (record { input = i; output = o; diagnostics = n })
    (record { input = j; output = p; diagnostics = m })
wrote_lines W told way kind S i j o p n m refused g archived = record {
  input = g.input;
  lines = g.lines;
  is_input = g.is_input;
  means = whole_lines way S kind g.input g.lines g.ends;
  archived = archived;
  to_diagnostics = subst (WroteAll n m) (sym (append-nil g.lines.diagnostics)) g.wrote;
}

-- what was written of the set's archive, by the result: all of it, or what the stop says
pub record Finished {P R : Type 0} (tells : P → Type 0) (state : R → InputState) (s : SpilledArchive P R)
    (o p : OutputState) (refused : Bool) (r : Result ℕ SpillStop) : Type 0
  where
    pub written : (es : List Entry) → Holds tells state s es → IsArchive ENTRY_MAX es
        → FinishesAs o p (text_of es) r
    pub status : IfOk r (λ status. status ≡ (if refused then 1 else 0))
    pub stop : IfErr r (λ stop. IsOfSet stop)

abbrev three : InputState → OutputState → OutputState → Devices
three i o n = record { input = i; output = o; diagnostics = n }

abbrev status_of_bool : Bool → ℕ
status_of_bool b = if b then 1 else 0

finished_ok : {P R : Type 0} (tells : P → Type 0) (state : R → InputState)
    (first now : Gathering (SpilledArchive P R) SpillFault)
    (kind : Framing) (i j : InputState) (o p n m : OutputState) (refused : Bool) (status : ℕ)
    → GathersInput first.reading (GathersFrom (Holds tells state) first now) kind i j n m (Ok refused)
    → Finished tells state now.set o p refused (Ok status)
    → PumpedSpilled (Holds tells state first.set []) first.reading (Stream kind) (three i o n) (three j p m) (Ok status)
unfolding wrote_lines
finished_ok tells state first now kind i j o p n m refused status gathers f =
    let g = gathers.outcome in
    let S = GathersFrom (Holds tells state) first now in
    record {
      outcome = record {
        wrote = wrote_lines WroteAll (Holds tells state first.set []) first.reading kind S i j o p n m refused g
            (λ h.
            let a = set_archive (Holds tells state) first now kind g.input g.lines g.ends h in
            (a.0, a.1, f.written a.0 a.2 a.1.archive));
        status_is = f.status ∙ ap status_of_bool g.refused_is;
        no_failure = g.no_failure;
      };
      begins = λ h.
          let a = set_archive (Holds tells state) first now kind g.input g.lines g.ends h in
          archive_prefix first.reading (Stream kind) (three i o n) (three j p m) g.input a.0 (text_of a.0) [] g.is_input
          a.1 (sym (append-nil (text_of a.0))) (f.written a.0 a.2 a.1.archive).octets;
      few = gathers.few;
    }

-- the output took a prefix
abbrev TookPrefix : OutputState → OutputState → List ℕ → Type 0
TookPrefix o p text = (n : ℕ) × Appends o.taken p.taken (take n text)

finished_part : {P R : Type 0} (tells : P → Type 0) (state : R → InputState)
    (first now : Gathering (SpilledArchive P R) SpillFault)
    (kind : Framing) (i j : InputState) (o p n m : OutputState) (refused : Bool) (stop : SpillStop)
    (W : OutputState → OutputState → List ℕ → Type 0)
    → GathersInput first.reading (GathersFrom (Holds tells state) first now) kind i j n m (Ok refused)
    → ((es : List Entry) → Holds tells state now.set es → IsArchive ENTRY_MAX es → W o p (text_of es))
    → ((text : List ℕ) → W o p text → TookPrefix o p text)
    → (WroteLines W (Holds tells state first.set []) first.reading (Stream kind) [] (three i o n) (three j p m)
    → IsSpillStopped stop (Holds tells state first.set []) first.reading (Stream kind) [] (three i o n) (three j p m))
    → PumpedSpilled (Holds tells state first.set []) first.reading (Stream kind) (three i o n) (three j p m) (Err stop)
finished_part tells state first now kind i j o p n m refused stop W gathers writes took stops =
    let g = gathers.outcome in
    let S = GathersFrom (Holds tells state) first now in
    record {
      outcome = stops (wrote_lines W (Holds tells state first.set []) first.reading kind S i j o p n m refused g
          (λ h.
          let a = set_archive (Holds tells state) first now kind g.input g.lines g.ends h in
          (a.0, a.1, writes a.0 a.2 a.1.archive)));
      begins = λ h.
          let a = set_archive (Holds tells state) first now kind g.input g.lines g.ends h in
          let t = took (text_of a.0) (writes a.0 a.2 a.1.archive) in
          archive_prefix first.reading (Stream kind) (three i o n) (three j p m) g.input a.0 (take t.0 (text_of a.0))
          (drop t.0 (text_of a.0)) g.is_input a.1 (all_parts (text_of a.0) t.0) t.1;
      few = gathers.few;
    }

pub finished : {P R : Type 0} (tells : P → Type 0) (state : R → InputState)
    (first now : Gathering (SpilledArchive P R) SpillFault)
    (kind : Framing) (i j : InputState) (o p n m : OutputState) (refused : Bool) (r : Result ℕ SpillStop)
    → GathersInput first.reading (GathersFrom (Holds tells state) first now) kind i j n m (Ok refused)
    → Finished tells state now.set o p refused r
    → PumpedSpilled (Holds tells state first.set []) first.reading (Stream kind) (three i o n) (three j p m) r
finished tells state first now kind i j o p n m refused (Ok status) gathers f =
    finished_ok tells state first now kind i j o p n m refused status gathers f
finished tells state first now kind i j o p n m refused (Err (Run Write)) gathers f =
    finished_part tells state first now kind i j o p n m refused (Run Write) WroteLess gathers f.written
    (λ text w. (w.n, w.octets)) (λ w. w)
finished tells state first now kind i j o p n m refused (Err (Run Memory)) gathers f =
    finished_part tells state first now kind i j o p n m refused (Run Memory) WrotePrefix gathers f.written
    (λ text w. (w.n, w.octets)) (λ w. (gathers.outcome.no_failure, inr w))
finished tells state first now kind i j o p n m refused (Err (Run Read)) gathers f = absurd f.stop
finished tells state first now kind i j o p n m refused (Err (Run Endless)) gathers f = absurd f.stop
finished tells state first now kind i j o p n m refused (Err (Run Diagnostics)) gathers f = absurd f.stop
finished tells state first now kind i j o p n m refused (Err Spill) gathers f =
    finished_part tells state first now kind i j o p n m refused Spill WrotePrefix gathers f.written
    (λ text w. (w.n, w.octets)) (λ w. (gathers.outcome.no_failure, inr w))

-- ---- nothing of the set was written

no_archive : (P : List ℕ → Done → Type 0) (i j : InputState) (o n m : OutputState) → LinesRead P i j n m
    → WroteNoArchive P [] (three i o n) (three j o m)
no_archive P i j o n m l = record {
  given = l.given;
  lines = l.lines;
  consumed = l.consumed;
  means = l.means;
  to_output = wrote_nothing o;
  to_diagnostics = subst (WroteAll n m) (sym (append-nil l.lines.diagnostics)) l.wrote;
}

not_gathered : (stop : SpillStop) (told : Type 0) (way : FrameReading) (kind : Framing) (i j : InputState)
    (o n m : OutputState) → GatherStops stop way kind i j n m
    → IsSpillStopped stop told way (Stream kind) [] (three i o n) (three j o m)
not_gathered (Run Read) told way kind i j o n m h =
    (h.0, no_archive (GoesOn (archive_handling way) kind) i j o n m h.1)
not_gathered (Run Endless) told way kind i j o n m h =
    (h.0, no_archive (GoesOn (archive_handling way) kind) i j o n m h.1)
not_gathered (Run Write) told way kind i j o n m h = absurd h
not_gathered (Run Diagnostics) told way kind i j o n m h = h
not_gathered (Run Memory) told way kind i j o n m h =
    (h.0, inl (no_archive (HasPart (archive_handling way) kind) i j o n m h.1))
not_gathered Spill told way kind i j o n m h =
    (h.0, inl (no_archive (HasPart (archive_handling way) kind) i j o n m h.1))

pub never_finished : (stop : SpillStop) (told : Type 0) (way : FrameReading) (S : List (List ℕ) → Type 0)
    (kind : Framing) (i j : InputState) (o n m : OutputState) → GathersInput way S kind i j n m (Err stop)
    → PumpedSpilled told way (Stream kind) (three i o n) (three j o m) (Err stop)
never_finished stop told way S kind i j o n m g = record {
  outcome = not_gathered stop told way kind i j o n m g.outcome;
  begins = λ h. nothing_prefix way (Stream kind) (three i o n) (three j o m) (Appends-nil o.taken);
  few = g.few;
}

-- ---- the last line

lines_lined : (W : OutputState → OutputState → List ℕ → Type 0) (told here : Type 0) (way : FrameReading)
    (framing : InputFraming) (line : List ℕ) (old mid : Devices) (d : OutputState) → (told → here)
    → WroteLines W here way framing [] old mid → WroteAll mid.diagnostics d line
    → WroteLines W told way framing line old (flushed_to mid mid.output d)
lines_lined W told here way framing line old mid d known h w = record {
  input = h.input;
  lines = h.lines;
  is_input = h.is_input;
  means = h.means;
  archived = λ t. h.archived (known t);
  to_diagnostics = wrote_then _ _ _ _ _
      (subst (WroteAll old.diagnostics mid.diagnostics) (append-nil h.lines.diagnostics) h.to_diagnostics) w;
}

none_lined : (P : List ℕ → Done → Type 0) (line : List ℕ) (old mid : Devices) (d : OutputState)
    → WroteNoArchive P [] old mid → WroteAll mid.diagnostics d line
    → WroteNoArchive P line old (flushed_to mid mid.output d)
none_lined P line old mid d h w = record {
  given = h.given;
  lines = h.lines;
  consumed = h.consumed;
  means = h.means;
  to_output = h.to_output;
  to_diagnostics = wrote_then _ _ _ _ _
      (subst (WroteAll old.diagnostics mid.diagnostics) (append-nil h.lines.diagnostics) h.to_diagnostics) w;
}

short_lined : (told here : Type 0) (way : FrameReading) (framing : InputFraming) (line : List ℕ) (old mid : Devices)
    (d : OutputState) → (told → here) → StopsShort here way framing [] old mid → WroteAll mid.diagnostics d line
    → StopsShort told way framing line old (flushed_to mid mid.output d)
short_lined told here way framing line old mid d known (sound, inl h) w =
    (sound, inl (none_lined (lines_meaning way framing).part line old mid d h w))
short_lined told here way framing line old mid d known (sound, inr h) w =
    (sound, inr (lines_lined WrotePrefix told here way framing line old mid d known h w))

short_sound : (told : Type 0) (way : FrameReading) (framing : InputFraming) (old mid : Devices)
    → StopsShort told way framing [] old mid → mid.diagnostics.failures ≡ old.diagnostics.failures
short_sound told way framing old mid (sound, inl h) = h.to_diagnostics.no_failure
short_sound told way framing old mid (sound, inr h) = h.to_diagnostics.no_failure

-- the line was written, or the diagnostics failed
told_line : (told here : Type 0) (way : FrameReading) (framing : InputFraming) (old mid : Devices) (d : OutputState)
    (stop : SpillStop) (status : ℕ) → (told → here) → PumpedSpilled here way framing old mid (Err stop)
    → mid.diagnostics.failures ≡ old.diagnostics.failures
    → (WroteAll mid.diagnostics d (spill_line stop)
    → IsSpillStopped stop told way framing (spill_line stop) old (flushed_to mid mid.output d))
    → Reports (spill_line stop) (spill_status stop) mid.diagnostics d status
    → RanSpilled told way framing old (flushed_to mid mid.output d) status
told_line told here way framing old mid d stop status known p sound lined t =
    elim t [
      | inl h ↦ record {
        ending = Some stop;
        outcome = (h.0, lined h.1);
        begins = λ k. p.begins (known k);
        few = p.few;
      }
      | inr h ↦ record {
        ending = Some (Run Diagnostics);
        outcome = (
          h.0,
          λ small. subst (λ (n : ℕ). n < d.failures) sound
              (h.1 (subst (λ (n : ℕ). n < 2 ^ 63) (sym sound) small)),
        );
        begins = λ k. p.begins (known k);
        few = p.few;
      }
    ]

pub ran_closed : (stop : SpillStop) (told here : Type 0) (way : FrameReading) (framing : InputFraming)
    (old mid : Devices) (d : OutputState) (status : ℕ) → (told → here)
    → PumpedSpilled here way framing old mid (Err stop) → ClosesSpilled stop mid.diagnostics d status
    → RanSpilled told way framing old (flushed_to mid mid.output d) status
ran_closed (Run Read) told here way framing old mid d status known p t =
    told_line told here way framing old mid d (Run Read) status known p p.outcome.1.to_diagnostics.no_failure
    (λ w. (p.outcome.0, none_lined (lines_meaning way framing).so_far _ old mid d p.outcome.1 w)) t
ran_closed (Run Endless) told here way framing old mid d status known p t =
    told_line told here way framing old mid d (Run Endless) status known p p.outcome.1.to_diagnostics.no_failure
    (λ w. (p.outcome.0, none_lined (lines_meaning way framing).so_far _ old mid d p.outcome.1 w)) t
ran_closed (Run Write) told here way framing old mid d status known p t =
    told_line told here way framing old mid d (Run Write) status known p p.outcome.to_diagnostics.no_failure
    (λ w. lines_lined WroteLess told here way framing _ old mid d known p.outcome w) t
ran_closed (Run Memory) told here way framing old mid d status known p t =
    told_line told here way framing old mid d (Run Memory) status known p (short_sound here way framing old mid p.outcome)
    (λ w. short_lined told here way framing _ old mid d known p.outcome w) t
ran_closed Spill told here way framing old mid d status known p t =
    told_line told here way framing old mid d Spill status known p (short_sound here way framing old mid p.outcome)
    (λ w. short_lined told here way framing _ old mid d known p.outcome w) t
ran_closed (Run Diagnostics) told here way framing old mid d status known p t = record {
  ending = Some (Run Diagnostics);
  outcome = (t.0, λ small. subst (λ (x : OutputState). old.diagnostics.failures < x.failures) (sym t.1) (p.outcome small));
  begins = λ k. p.begins (known k);
  few = p.few;
}

pub ran_finished : (told here : Type 0) (way : FrameReading) (framing : InputFraming) (old new : Devices) (status : ℕ)
    → (told → here) → PumpedSpilled here way framing old new (Ok status) → RanSpilled told way framing old new status
ran_finished told here way framing old new status known p = record {
  ending = None;
  outcome = record {
    wrote = record {
      input = p.outcome.wrote.input;
      lines = p.outcome.wrote.lines;
      is_input = p.outcome.wrote.is_input;
      means = p.outcome.wrote.means;
      archived = λ t. p.outcome.wrote.archived (known t);
      to_diagnostics = p.outcome.wrote.to_diagnostics;
    };
    status_is = p.outcome.status_is;
    no_failure = p.outcome.no_failure;
  };
  begins = λ k. p.begins (known k);
  few = p.few;
}

-- ---- before anything was read

-- no run could be made, and that was told
none_made : (told : Type 0) (way : FrameReading) (framing : InputFraming) (old : Devices) (d : OutputState)
    (stop : SpillStop) (status : ℕ)
    → ((line : List ℕ) (new : Devices) → StopsShort told way framing line old new
    → IsSpillStopped stop told way framing line old new)
    → Reports (spill_line stop) (spill_status stop) old.diagnostics d status
    → RanSpilled told way framing old (flushed_to old old.output d) status
none_made told way framing old d stop status stops t =
    told_line told told way framing old old d stop status (λ k. k) (record {
      outcome = stops [] old (
        refl,
        inl (record {
          given = [];
          lines = nothing;
          consumed = Consumes-nil old.input.left;
          means = (archive_begun way framing).1;
          to_output = wrote_nothing old.output;
          to_diagnostics = wrote_nothing old.diagnostics;
        }),
      );
      begins = λ k. nothing_prefix way framing old old (Appends-nil old.output.taken);
      few = record {
        calls = λ small. omega arith;
        ends = omega arith;
        ended = λ h. absurd (omega (arith, h));
      };
    })
    refl
    (λ w. stops (spill_line stop) (flushed_to old old.output d) (
      refl,
      inl (record {
        given = [];
        lines = nothing;
        consumed = Consumes-nil old.input.left;
        means = (archive_begun way framing).1;
        to_output = wrote_nothing old.output;
        to_diagnostics = w;
      }),
    ))
    t

-- the spill failed
pub none_spilled : (told : Type 0) (way : FrameReading) (framing : InputFraming) (old : Devices) (d : OutputState)
    (status : ℕ) → Reports (spill_line Spill) (spill_status Spill) old.diagnostics d status
    → RanSpilled told way framing old (flushed_to old old.output d) status
none_spilled told way framing old d status t =
    none_made told way framing old d Spill status (λ line new stops. stops) t

-- memory ran out
pub none_for_memory : (told : Type 0) (way : FrameReading) (framing : InputFraming) (old : Devices) (d : OutputState)
    (status : ℕ) → Reports (spill_line (Run Memory)) (spill_status (Run Memory)) old.diagnostics d status
    → RanSpilled told way framing old (flushed_to old old.output d) status
none_for_memory told way framing old d status t =
    none_made told way framing old d (Run Memory) status (λ line new stops. stops) t

-- ---- a run that needs no spill

plain_part : (way : FrameReading) (framing : InputFraming) (P : List ℕ → Done → Type 0) (line : List ℕ)
    (old new : Devices) → ((given : List ℕ) (d : Done) → P given d → d.output ≡ []) → AnswersPart P line old new
    → WroteNoArchive P line old new
plain_part way framing P line old new only a = record {
  given = a.given;
  lines = a.done;
  consumed = a.consumed;
  means = a.means;
  to_output = subst (WroteAll old.output new.output) (only a.given a.done a.means) a.wrote.to_output;
  to_diagnostics = a.wrote.to_diagnostics;
}

-- what comes of the whole input
plain_lines : (W : OutputState → OutputState → List ℕ → Type 0) (told : Type 0) (way : FrameReading)
    (framing : InputFraming) (line input : List ℕ) (d : Done) (old new : Devices) → IsLeft old.input.left input
    → (h : ArchiveDone way framing input d) → W old.output new.output d.output
    → WroteAll old.diagnostics new.diagnostics (d.diagnostics ++ line)
    → WroteLines W told way framing line old new
plain_lines W told way framing line input d old new is h wrote lines = record {
  input = input;
  lines = h.lines;
  is_input = is;
  means = h.noted;
  archived = λ t.
      (h.entries, h.archived, subst (W old.output new.output) (ap (λ (x : Done). x.output) h.whole) wrote);
  to_diagnostics = subst (λ (l : List ℕ). WroteAll old.diagnostics new.diagnostics (l ++ line))
      (ap (λ (x : Done). x.diagnostics) h.whole) lines;
}

less : (o p : OutputState) (text sent unsent : List ℕ) → text ≡ sent ++ unsent → 0 < length unsent
    → Appends o.taken p.taken sent → (o.failures < 2 ^ 63 → o.failures < p.failures) → WroteLess o p text
less o p text sent unsent parts left wrote cause = record {
  n = length sent;
  some_left = omega (arith, ap length parts, length-append sent unsent, left);
  octets = subst (Appends o.taken p.taken) (sym (ap (take (length sent)) parts ∙ take-append_seam sent unsent)) wrote;
  cause = cause;
}

-- the output failed behind a part of the archive
plain_write : (told : Type 0) (way : FrameReading) (framing : InputFraming) (line : List ℕ) (old new : Devices)
    → WriteFailedWith (archive_meaning way framing) line old new
    → WroteLines WroteLess told way framing line old new
plain_write told way framing line old new w =
    elim w.comes [
      | inl h ↦ plain_lines WroteLess told way framing line h.0 w.done old new h.1 h.2
          (less old.output new.output w.done.output w.sent w.unsent w.parts w.some_left w.to_output w.failed)
          w.to_diagnostics
      | inr h ↦ absurd (omega (
        arith,
        ap length (sym w.parts ∙ none h.0 h.2),
        length-append w.sent w.unsent,
        w.some_left,
      ))
    ]
  where
    none : (given : List ℕ)
        → (archive_meaning way framing).so_far given w.done ⊎ (archive_meaning way framing).part given w.done
        → w.done.output ≡ []
    none given (inl h) = so_far_only way framing given w.done h
    none given (inr h) = part_only way framing given w.done h

plain_ends : (ending : Option Stopped) (told : Type 0) (way : FrameReading) (framing : InputFraming) (old new : Devices)
    (status : ℕ) → EndsAs ending (archive_meaning way framing) old new status
    → (e : Option SpillStop) × SpillEndsAs e told way framing old new status
unfolding plain_lines
plain_ends None told way framing old new status a = (
  None,
  record {
    wrote = plain_lines WroteAll told way framing [] a.input a.done old new a.is_input a.means a.wrote.to_output
        (subst (WroteAll old.diagnostics new.diagnostics) (sym (append-nil a.done.diagnostics)) a.wrote.to_diagnostics);
    status_is = a.status_is ∙ ap status_of a.means.whole;
    no_failure = a.no_failure;
  },
)
plain_ends (Some Read) told way framing old new status (s, (f, a)) = (
  Some (Run Read),
  (s, (f, plain_part way framing (lines_meaning way framing).so_far _ old new (so_far_only way framing) a)),
)
plain_ends (Some Endless) told way framing old new status (s, (f, a)) = (
  Some (Run Endless),
  (s, (f, plain_part way framing (lines_meaning way framing).so_far _ old new (so_far_only way framing) a)),
)
plain_ends (Some Write) told way framing old new status (s, w) =
    (Some (Run Write), (s, plain_write told way framing _ old new w))
plain_ends (Some Diagnostics) told way framing old new status (s, f) = (Some (Run Diagnostics), (s, f))
plain_ends (Some Memory) told way framing old new status (s, (sound, a)) = (
  Some (Run Memory),
  (s, (sound, inl (plain_part way framing (lines_meaning way framing).part _ old new (part_only way framing) a))),
)

pub ran_plain : (told : Type 0) (way : FrameReading) (framing : InputFraming) (old new : Devices) (status : ℕ)
    → Ran (archive_meaning way framing) old new status → RanSpilled told way framing old new status
ran_plain told way framing old new status r =
    let e = plain_ends r.ending told way framing old new status r.outcome in
    record {
      ending = e.0;
      outcome = e.1;
      begins = λ k. r.begins (archive_laws way framing);
      few = record { calls = r.used.calls; ends = r.used.ends; ended = r.used.ended };
    }

-- ---- by another name of the same

pub pumped_at : {P R : Type 0} (tells : P → Type 0) (state : R → InputState)
    (first : Gathering (SpilledArchive P R) SpillFault)
    (way : FrameReading) (set : SpilledArchive P R) (framing : InputFraming) (old new : Devices) (r : Result ℕ SpillStop)
    → first.reading ≡ way → first.set ≡ set
    → PumpedSpilled (Holds tells state first.set []) first.reading framing old new r
    → PumpedSpilled (Holds tells state set []) way framing old new r
pumped_at tells state first way set framing old new r same_way same_set p =
    subst (λ (s : SpilledArchive _ _). PumpedSpilled (Holds tells state s []) way framing old new r) same_set
    (subst (λ (w : FrameReading). PumpedSpilled (Holds tells state first.set []) w framing old new r) same_way p)
