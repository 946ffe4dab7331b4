-- A session on an input: how it goes on, and how it ends.
use Rattle.std.proofs.Common.{◌≡◌, ℕ, zero, suc, ◌+◌, ◌<◌, ◌≤◌, List, [], ◌∷◌, ◌++◌, length, take, refl, sym, ap, ap₂}
use Rattle.std.proofs.Common.{subst, ◌∙◌, append_assoc, arith, inl, inr}
use Rattle.std.proofs.Common.{◌-◌, min, Result, Ok, Err, true, false}
use Rattle.std.specs.Result.{is_err}
use Rattle.std.proofs.lemmas.Bool.{cases_lt}
use Rattle.std.specs.Prelude.{MatchResult, OnErr, OnOk}
use Rattle.std.specs.List.{flat_map}
use Rattle.std.proofs.lemmas.List.{append-nil, length-take, take_all}
use Rattle.octet_language.specs.Language.{Begins, IsFaultOffset}
use Rattle.syslog_frame.specs.Frames.{Frames, Whole, framed}
use Rattle.syslog_frame.specs.Reads.{Reads}
use Rattle.syslog_frame.specs.Scan.{Scan, IsReading}
use Rattle.syslog_frame.specs.declared.framing.Framing.{Framing}
use Rattle.syslog_frame.specs.declared.framing.Framing.TheVariants.{Counted, Lf}
use Rattle.syslog_frame.specs.declared.limits.TheConstants.{FRAME_MAX}
use Rattle.syslog_frame.proofs.FrameLaws.{begun_frames, concatenation, unique_frames}
use Rattle.syslog_frame.proofs.Reading.{read_nothing}
use Rattle.octet_devices.proofs.Known.{take-append}
use Rattle.driver.specs.Effects.{Adds, Done, IsPrefixOf, nothing, then_done}
use Rattle.driver.specs.Sessions.{HasOneOutput}
use Rattle.frame_engine.specs.Closing.{Closes}
use Rattle.frame_engine.specs.Handling.{AtEnd, Handling, HandledFrom, HasOneOutputEach, PutsNothingOut, nothing_at_end}
use Rattle.frame_engine.specs.Sessions.{EndsInput, GoesOn, datagram_meaning, handler_meaning, input_meaning, stream_meaning}
use Rattle.frame_engine.specs.Streams.{HasBad, HasHandled, HasPart, ReportsEnd, StreamDone}
use Rattle.frame_engine.specs.declared.input_framing.InputFraming.{InputFraming}
use Rattle.frame_engine.specs.declared.input_framing.InputFraming.TheVariants.{Datagram, Stream}
use Rattle.frame_engine.specs.declared.line.Line.{Line}
use Rattle.frame_engine.specs.declared.line.Line.TheVariants.{BadCount, Unterminated}
use Rattle.frame_engine.proofs.HandlingLemmas.{handled_output, handled_prefix, then_assoc}

-- ---- a stream that goes on

pub nothing_begins : (kind : Framing) → Begins (Whole kind) []
nothing_begins Counted = (framed Counted (0 ∷ []), (0 ∷ [], ((omega arith, omega arith), refl)))
nothing_begins Lf = (framed Lf [], ([], (tt, refl)))

pub nothing_goes_on : (D : Handling) (kind : Framing) → GoesOn D kind [] nothing
nothing_goes_on D kind = record {
  frames = [];
  rest = [];
  frames_are = concatenation kind [] tt;
  begins = nothing_begins kind;
  handled = refl;
}

pub goes_on : (D : Handling) (S : List (List ℕ) → Type 0) (kind : Framing) (s : Scan) (given : List ℕ) (number : ℕ)
    (d : Done) → IsReading s → HasHandled D S s kind given number d → GoesOn D kind given d
goes_on D S kind s given number d is h =
    let f = read_nothing FRAME_MAX s kind 0 given h.frames h.rest is h.reads in
    record { frames = h.frames; rest = h.rest; frames_are = f.0; begins = f.1; handled = h.handled }

-- the frames that the scanner released are those of the octets
pub handled_of : (D : Handling) (S : List (List ℕ) → Type 0) (kind : Framing) (s : Scan) (number : ℕ) (given : List ℕ)
    (frames : List (List ℕ)) (rest : List ℕ) (d : Done) → IsReading s → Reads FRAME_MAX s kind 0 given frames rest
    → S frames → number ≡ length frames + 1 → GoesOn D kind given d → HasHandled D S s kind given number d
handled_of D S kind s number given frames rest d is reads stands number_is g =
    let f = (read_nothing FRAME_MAX s kind 0 given frames rest is reads).0 in
    let same = (unique_frames kind given frames g.frames rest g.rest f g.frames_are).0 in
    record {
      frames = frames;
      rest = rest;
      reads = reads;
      handled = subst (λ (fs : List (List ℕ)). HandledFrom D 1 fs d) (sym same) g.handled;
      stands = stands;
      number_is = number_is;
    }

-- ---- the end of a stream

-- one thing was done, and then the last
closed : (before old new reported last d : Done) → d ≡ then_done reported last → new ≡ then_done old d
    → then_done before new ≡ then_done (then_done (then_done before old) reported) last
closed before old new reported last d h is =
    ap (then_done before) (is ∙ ap (then_done old) h) ∙ sym (then_assoc before old (then_done reported last))
    ∙ sym (then_assoc (then_done before old) reported last)

-- the end of the stream was reported, and the handler ended
pub ended : (D : Handling) (T : Line → Done) (E : AtEnd) (kind : Framing) (given : List ℕ) (frames : List (List ℕ))
    (rest : List ℕ) (before old new reported : Done) → Frames kind given frames rest
    → HandledFrom D 1 frames (then_done before old) → ReportsEnd T kind given frames rest reported
    → Adds (Closes (E frames) reported) old new → EndsInput D T E (Stream kind) given (then_done before new)
ended D T E kind given frames rest before old new reported are handled reports (d, (last, ends, h), is) = record {
  frames = frames;
  of_input = then_done (then_done before old) reported;
  at_end = last;
  frames_are = (rest, are);
  means = record {
    frames = frames;
    rest = rest;
    of_frames = then_done before old;
    of_end = reported;
    frames_are = are;
    handled = handled;
    reported = reports;
    whole = refl;
  };
  ends = ends;
  whole = closed before old new reported last d h is;
}

-- a bad MSG-LEN came
pub ended_at_bad : (D : Handling) (S : List (List ℕ) → Type 0) (T : Line → Done) (E : AtEnd) (kind : Framing)
    (stream : List ℕ) (number at : ℕ) (before old new : Done)
    → (x : HasBad D S kind stream number (then_done before old) at)
    → Adds (Closes (E x.frames) (T (BadCount number at))) old new
    → EndsInput D T E (Stream kind) stream (then_done before new)
ended_at_bad D S T E kind stream number at before old new x adds =
    let line : T (BadCount number at) ≡ T (BadCount (length x.frames + 1) at) =
    ap (λ (k : ℕ). T (BadCount k at)) x.number_is in
    ended D T E kind stream x.frames x.rest before old new (T (BadCount number at)) x.bad.frames_are x.handled
    (inr (inr (at, x.bad, line))) adds

-- ---- memory ran out

pub part_of : (D : Handling) (S : List (List ℕ) → Type 0) (s : Scan) (kind : Framing) (octets : List ℕ) (number : ℕ)
    (total : Done) → HasHandled D S s kind octets number total → HasPart D kind octets total
part_of D S s kind octets number total h =
    record { frames = h.frames; rest = h.rest; whole = h.reads.whole; each = h.reads.each; handled = h.handled }

pub part_same : (D : Handling) (kind : Framing) (octets : List ℕ) (before old new : Done)
    → HasPart D kind octets (then_done before old) → new ≡ old → HasPart D kind octets (then_done before new)
part_same D kind octets before old new h same =
    subst (λ (d : Done). HasPart D kind octets (then_done before d)) (sym same) h

-- a bad MSG-LEN came
pub part_of_bad : (D : Handling) (S : List (List ℕ) → Type 0) (kind : Framing) (stream : List ℕ) (number at : ℕ)
    (total : Done) → ((more : List ℕ) → HasBad D S kind (stream ++ more) number total at) → HasPart D kind stream total
part_of_bad D S kind stream number at total bad =
    let x = bad [] in
    subst (λ (u : List ℕ). HasPart D kind u total) (append-nil stream) (record {
      frames = x.frames;
      rest = x.rest;
      whole = x.bad.frames_are.whole;
      each = x.bad.frames_are.each;
      handled = x.handled;
    })

-- nothing was read
pub nothing_part : (D : Handling) (kind : Framing) → HasPart D kind [] nothing
nothing_part D kind = record { frames = []; rest = []; whole = refl; each = tt; handled = refl }

-- nothing came of no octets
pub nothing_begun : (D : Handling) (T : Line → Done) (framing : InputFraming)
    → (input_meaning D T framing).so_far [] nothing × (input_meaning D T framing).part [] nothing
nothing_begun D T Datagram = (refl, refl)
nothing_begun D T (Stream kind) = (nothing_goes_on D kind, nothing_part D kind)

-- ---- an input has one output

one_offset : (kind : Framing) (b : List ℕ) (n m : ℕ) → IsFaultOffset (Whole kind) b n → IsFaultOffset (Whole kind) b m
    → n ≡ m
one_offset kind b n m h k = omega (arith, h.longest m k.within k.begins, k.longest n h.within h.begins)

take_none : (n : ℕ) → take {A = ℕ} n [] ≡ []
take_none zero = refl
take_none (suc n) = refl

offset_begins : (kind : Framing) (rest : List ℕ) (n : ℕ) → rest ≡ [] → IsFaultOffset (Whole kind) rest n
    → Begins (Whole kind) rest
offset_begins kind [] n e p = subst (Begins (Whole kind)) (take_none _) p.begins
offset_begins kind (x ∷ r) n e p = absurd cc

one_end : (T : Line → Done) (kind : Framing) (stream : List ℕ) (frames : List (List ℕ)) (rest : List ℕ) (a b : Done)
    → ReportsEnd T kind stream frames rest a → ReportsEnd T kind stream frames rest b → a ≡ b
one_end T kind stream frames rest a b (inl h) (inl k) = h.1 ∙ sym k.1
one_end T kind stream frames rest a b (inl h) (inr (inl k)) = absurd (omega (arith, ap length h.0, k.1))
one_end T kind stream frames rest a b (inl h) (inr (inr k)) =
    absurd (k.1.none (offset_begins kind rest k.1.offset.0 h.0 k.1.offset.1))
one_end T kind stream frames rest a b (inr (inl h)) (inl k) = absurd (omega (arith, ap length k.0, h.1))
one_end T kind stream frames rest a b (inr (inl h)) (inr (inl k)) =
    let same : h.0 ≡ k.0 = omega (arith, h.3, k.3) in
    h.4 ∙ ap (λ (n : ℕ). T (Unterminated n)) same ∙ sym k.4
one_end T kind stream frames rest a b (inr (inl h)) (inr (inr k)) = absurd (k.1.none h.2)
one_end T kind stream frames rest a b (inr (inr h)) (inl k) =
    absurd (h.1.none (offset_begins kind rest h.1.offset.0 k.0 h.1.offset.1))
one_end T kind stream frames rest a b (inr (inr h)) (inr (inl k)) = absurd (h.1.none k.2)
one_end T kind stream frames rest a b (inr (inr h)) (inr (inr k)) =
    let offsets = one_offset kind rest h.1.offset.0 k.1.offset.0 h.1.offset.1 k.1.offset.1 in
    let same : h.0 ≡ k.0 = omega (arith, h.1.offset.2, k.1.offset.2, offsets) in
    h.2 ∙ ap (λ (n : ℕ). T (BadCount (length frames + 1) n)) same ∙ sym k.2

abbrev output_of : Done → List ℕ
output_of d = d.output

stream_output : (D : Handling) (T : Line → Done) (kind : Framing) (stream : List ℕ) (a b : Done) → HasOneOutputEach D
    → StreamDone D T kind stream a → StreamDone D T kind stream b → a.output ≡ b.output
stream_output D T kind stream a b one h k =
    let same = unique_frames kind stream h.frames k.frames h.rest k.rest h.frames_are k.frames_are in
    let of_frames : h.of_frames.output ≡ k.of_frames.output =
    handled_output D one 1 k.frames h.of_frames k.of_frames
    (subst (λ (f : List (List ℕ)). HandledFrom D 1 f h.of_frames) same.0 h.handled) k.handled in
    let of_end : h.of_end ≡ k.of_end = one_end T kind stream k.frames k.rest h.of_end k.of_end
    (subst (λ (r : List ℕ). ReportsEnd T kind stream k.frames r h.of_end) same.1
    (subst (λ (f : List (List ℕ)). ReportsEnd T kind stream f h.rest h.of_end) same.0 h.reported)) k.reported in
    ap output_of h.whole ∙ ap₂ (λ (x y : List ℕ). x ++ y) of_frames (ap output_of of_end) ∙ sym (ap output_of k.whole)

-- the output of some frames of a stream begins that of the stream
stream_begins : (D : Handling) (T : Line → Done) (kind : Framing) (given more : List ℕ) (d e : Done)
    → HasOneOutputEach D → HasPart D kind given d → StreamDone D T kind (given ++ more) e
    → IsPrefixOf d.output e.output
stream_begins D T kind given more d e one h is =
    let split : given ++ more ≡ flat_map (framed kind) h.frames ++ (h.rest ++ more) =
    ap (λ (u : List ℕ). u ++ more) h.whole ∙ append_assoc (flat_map (framed kind) h.frames) h.rest more in
    let whole : Frames kind (flat_map (framed kind) h.frames ++ (h.rest ++ more)) is.frames is.rest =
    subst (λ (u : List ℕ). Frames kind u is.frames is.rest) split is.frames_are in
    let following = begun_frames kind (flat_map (framed kind) h.frames) (h.rest ++ more) h.frames is.frames [] is.rest
    (concatenation kind h.frames h.each) whole in
    let prefix = handled_prefix D one 1 h.frames following.0 d is.of_frames h.handled
    (subst (λ (f : List (List ℕ)). HandledFrom D 1 f is.of_frames) following.1 is.handled) in (
      prefix.0 ++ is.of_end.output,
      ap output_of is.whole ∙ ap (λ (u : List ℕ). u ++ is.of_end.output) prefix.1
          ∙ append_assoc d.output prefix.0 is.of_end.output,
    )

goes_part : (D : Handling) (kind : Framing) (given : List ℕ) (d : Done) → GoesOn D kind given d → HasPart D kind given d
goes_part D kind given d g = record {
  frames = g.frames;
  rest = g.rest;
  whole = g.frames_are.whole;
  each = g.frames_are.each;
  handled = g.handled;
}

stream_laws : (D : Handling) (T : Line → Done) (kind : Framing) → HasOneOutputEach D
    → HasOneOutput (stream_meaning D T kind)
stream_laws D T kind one = record {
  one = λ input d e h k. stream_output D T kind input d e one h k;
  grows = λ given more d e h k. stream_begins D T kind given more d e one (goes_part D kind given d h) k;
  begins = λ given more d e h k. stream_begins D T kind given more d e one h k;
}

datagram_laws : (D : Handling) → HasOneOutputEach D → HasOneOutput (datagram_meaning D)
datagram_laws D one = record {
  one = λ input d e h k. one 1 input d e h k;
  grows = λ given more d e h k. (e.output, ap (λ (u : List ℕ). u ++ e.output) (sym (ap output_of h)));
  begins = λ given more d e h k. (e.output, ap (λ (u : List ℕ). u ++ e.output) (sym (ap output_of h)));
}

-- an input has one output, where each frame has one
pub input_laws : (D : Handling) (T : Line → Done) (input_framing : InputFraming) → HasOneOutputEach D
    → HasOneOutput (input_meaning D T input_framing)
input_laws D T Datagram one = datagram_laws D one
input_laws D T (Stream kind) one = stream_laws D T kind one

-- the same where the handler puts nothing out at the end
ends_output : (D : Handling) (T : Line → Done) (E : AtEnd) (input_framing : InputFraming) (input : List ℕ) (d : Done)
    → PutsNothingOut E → (h : EndsInput D T E input_framing input d) → h.of_input.output ≡ d.output
ends_output D T E input_framing input d none h =
    sym (ap output_of h.whole ∙ ap (λ (x : List ℕ). h.of_input.output ++ x) (none h.frames h.at_end h.ends)
    ∙ append-nil h.of_input.output)

one_output : (D : Handling) (T : Line → Done) (E : AtEnd) (input_framing : InputFraming) (input : List ℕ) (d e : Done)
    → PutsNothingOut E → HasOneOutput (input_meaning D T input_framing) → EndsInput D T E input_framing input d
    → EndsInput D T E input_framing input e → d.output ≡ e.output
one_output D T E input_framing input d e none one h k =
    sym (ends_output D T E input_framing input d none h) ∙ one.one input h.of_input k.of_input h.means k.means
    ∙ ends_output D T E input_framing input e none k

pub handler_laws : (D : Handling) (T : Line → Done) (E : AtEnd) (input_framing : InputFraming) → HasOneOutputEach D
    → PutsNothingOut E → HasOneOutput (handler_meaning D T E input_framing)
handler_laws D T E input_framing each none =
    let one = input_laws D T input_framing each in
    record {
      one = λ input d e h k. one_output D T E input_framing input d e none one h k;
      grows = λ given more d e h k.
          subst (IsPrefixOf d.output) (ends_output D T E input_framing (given ++ more) e none k)
          (one.grows given more d k.of_input h k.means);
      begins = λ given more d e h k.
          subst (IsPrefixOf d.output) (ends_output D T E input_framing (given ++ more) e none k)
          (one.begins given more d k.of_input h k.means);
    }

-- nothing is put out where nothing is done
pub nothing_out : PutsNothingOut nothing_at_end
nothing_out frames d h = ap output_of h

-- ---- a datagram

-- the datagram was handled, and the handler ended
pub ended_datagram : (D : Handling) (T : Line → Done) (E : AtEnd) (given : List ℕ) (before old between new : Done)
    → then_done before old ≡ nothing → Adds (D 1 given) old between → Adds (E (given ∷ [])) between new
    → EndsInput D T E Datagram given (then_done before new)
ended_datagram D T E given before old between new h (d, handles, is) (last, ends, done) = record {
  frames = given ∷ [];
  of_input = d;
  at_end = last;
  frames_are = refl;
  means = handles;
  ends = ends;
  whole = ap (then_done before) (done ∙ ap (λ (x : Done). then_done x last) is)
      ∙ sym (then_assoc before (then_done old d) last)
      ∙ ap (λ (x : Done). then_done x last) (sym (then_assoc before old d) ∙ ap (λ (x : Done). then_done x d) h);
}

-- nothing came of it so far
pub still_nothing : (before old new : Done) → then_done before old ≡ nothing → new ≡ old → then_done before new ≡ nothing
still_nothing before old new h same = ap (then_done before) same ∙ h

-- what is kept of an input of at most so many octets is all of it
pub kept_all : (most : ℕ) (input kept : List ℕ) → kept ≡ take (most + 1) input → length kept ≤ most → kept ≡ input
kept_all most input kept is few =
    let len : length input ≤ most + 1 = omega (arith, ap length is, length-take (most + 1) input) in
    is ∙ take_all (most + 1) input len

-- what is kept of a longer one is longer
pub kept_long : (most : ℕ) (input kept : List ℕ) → kept ≡ take (most + 1) input → most < length kept
    → most < length input
kept_long most input kept is many = omega (arith, ap length is, length-take (most + 1) input)

-- one piece more of it: what is kept is as much as there is room for
pub kept_more : (most room : ℕ) (given piece kept : List ℕ) → kept ≡ take most given
    → room ≡ min (length piece) (most - length kept) → kept ++ take room piece ≡ take most (given ++ piece)
kept_more most room given piece kept is is_room =
    let len : length kept ≡ min most (length given) = ap length is ∙ length-take most given in
    let room_is : room ≡ min (length piece) (most - length given) = omega arith in
    let prefix : take room piece ≡ take (most - length given) piece =
    rw room_is (elim (cases_lt (length piece) (most - length given)) [
      | inl less ↦ ap (λ (n : ℕ). take n piece) (omega (arith, less))
          ∙ (take_all (length piece) piece (omega arith) ∙ sym (take_all (most - length given) piece (omega (arith, less))))
      | inr more ↦ ap (λ (n : ℕ). take n piece) (omega (arith, more))
    ]) in
    rw (take-append, is, prefix) refl

-- ---- results

pub match_result : {A E : Type 0} (r : Result A E) (P Q : Type 0) → OnOk r P → OnErr r Q
    → MatchResult r (λ _. P) (λ _. Q)
match_result (Ok x) P Q h k = h
match_result (Err e) P Q h k = k

pub at_err : {A E : Type 0} (r : Result A E) (P Q : Type 0) → is_err r ≡ true → OnErr r Q
    → MatchResult r (λ _. P) (λ _. Q)
at_err (Ok x) P Q e h = absurd cc
at_err (Err x) P Q e h = h

pub at_ok : {A E : Type 0} (r : Result A E) (P Q : Type 0) → is_err r ≡ false → OnOk r P
    → MatchResult r (λ _. P) (λ _. Q)
at_ok (Ok x) P Q e h = h
at_ok (Err x) P Q e h = absurd cc
