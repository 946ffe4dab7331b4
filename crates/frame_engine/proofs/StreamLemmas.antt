-- A stream whose frames are handled as its pieces come: by what the scanner's clauses say, and by lists.
use Rattle.std.proofs.Common.{◌≡◌, ℕ, ◌+◌, List, [], ◌∷◌, ◌++◌, length, take, drop, sym, ap, subst, ◌∙◌, append_assoc}
use Rattle.std.proofs.Common.{arith}
use Rattle.std.specs.List.{flat_map}
use Rattle.std.proofs.lemmas.List.{append-nil, length-append, take-append-drop}
use Rattle.syslog_frame.specs.Frames.{IsBadAt, framed}
use Rattle.syslog_frame.specs.Reads.{Reads, ReadsOn}
use Rattle.syslog_frame.specs.Scan.{Scan, HasBadCount}
use Rattle.syslog_frame.specs.declared.framing.Framing.{Framing}
use Rattle.syslog_frame.specs.declared.limits.TheConstants.{FRAME_MAX}
use Rattle.driver.specs.Effects.{Adds, Done, then_done}
use Rattle.frame_engine.specs.Handling.{HandledFrom, Handling}
use Rattle.frame_engine.specs.Streams.{HasBad, HasHandled, HasPart}
use Rattle.frame_engine.proofs.HandlingLemmas.{handled_more, then_assoc}
use Rattle.syslog_frame.proofs.Delivered.{taken_on}

-- ---- a piece: the rest follows what was taken

-- what follows the octets that were taken, to the end of the piece and further
taken_further : (octets taken rest piece more : List ℕ) (n : ℕ) → piece ≡ taken ++ rest
    → ((octets ++ taken) ++ take n rest) ++ (drop n rest ++ more) ≡ (octets ++ piece) ++ more
taken_further octets taken rest piece more n e =
    append_assoc (octets ++ taken) (take n rest) (drop n rest ++ more)
    ∙ ap (λ (u : List ℕ). (octets ++ taken) ++ u)
    (sym (append_assoc (take n rest) (drop n rest) more) ∙ ap (λ (u : List ℕ). u ++ more) (take-append-drop n rest))
    ∙ sym (append_assoc (octets ++ taken) rest more)
    ∙ ap (λ (u : List ℕ). u ++ more) (append_assoc octets taken rest ∙ ap (λ (u : List ℕ). octets ++ u) (sym e))

-- so much of a piece is handled, and the rest is left
abbrev pub HandledPiece : Handling → (List (List ℕ) → Type 0) → Scan → Framing → List ℕ → List ℕ → List ℕ → ℕ → Done
    → Type 0
HandledPiece D S s kind octets piece rest number total =
    (taken : List ℕ) × (piece ≡ taken ++ rest) × HasHandled D S s kind (octets ++ taken) number total

-- octets were taken, and nothing is ready
pub handled_nothing : (D : Handling) (S T : List (List ℕ) → Type 0) (s t : Scan) (kind : Framing)
    (octets piece rest : List ℕ) (number n : ℕ) (total new : Done)
    → (d : HandledPiece D S s kind octets piece rest number total)
    → ReadsOn FRAME_MAX t kind 0 (octets ++ d.0) d.2.frames d.2.rest rest n → new ≡ total → T d.2.frames
    → HandledPiece D T t kind octets piece (drop n rest) number new
handled_nothing D S T s t kind octets piece rest number n total new d on same stands = (
  d.0 ++ take n rest,
  taken_on d.0 rest piece n d.1,
  record {
    frames = d.2.frames;
    rest = d.2.rest ++ take n rest;
    reads = subst (λ (u : List ℕ). Reads FRAME_MAX t kind 0 u d.2.frames (d.2.rest ++ take n rest))
        (append_assoc octets d.0 (take n rest)) on.reads;
    handled = subst (HandledFrom D 1 d.2.frames) (sym same) d.2.handled;
    stands = stands;
    number_is = d.2.number_is;
  },
)

-- a frame was ready, and was handled and released
pub handled_frame : (D : Handling) (S T : List (List ℕ) → Type 0) (s t : Scan) (kind : Framing)
    (octets piece rest : List ℕ) (number n : ℕ) (f : List ℕ) (before old new : Done)
    → (d : HandledPiece D S s kind octets piece rest number (then_done before old))
    → Reads FRAME_MAX t kind 0 ((octets ++ d.0) ++ take n rest) (d.2.frames ++ f ∷ []) [] → Adds (D number f) old new
    → T (d.2.frames ++ f ∷ []) → HandledPiece D T t kind octets piece (drop n rest) (number + 1) (then_done before new)
handled_frame D S T s t kind octets piece rest number n f before old new d begun (a, handles, is) stands = (
  d.0 ++ take n rest,
  taken_on d.0 rest piece n d.1,
  record {
    frames = d.2.frames ++ f ∷ [];
    rest = [];
    reads = subst (λ (u : List ℕ). Reads FRAME_MAX t kind 0 u (d.2.frames ++ f ∷ []) [])
        (append_assoc octets d.0 (take n rest)) begun;
    handled = subst (HandledFrom D 1 (d.2.frames ++ f ∷ [])) (then_assoc before old a ∙ ap (then_done before) (sym is))
        (handled_more D 1 number d.2.frames f (then_done before old) a (omega (arith, d.2.number_is)) d.2.handled
        handles);
    stands = stands;
    number_is = omega (arith, d.2.number_is, length-append d.2.frames (f ∷ []));
  },
)

-- a bad MSG-LEN is ready: so the whole stream stops
pub handled_bad : (D : Handling) (S T : List (List ℕ) → Type 0) (s t : Scan) (kind : Framing)
    (octets piece rest : List ℕ) (number n at : ℕ) (total new : Done)
    → (d : HandledPiece D S s kind octets piece rest number total)
    → ReadsOn FRAME_MAX t kind 0 (octets ++ d.0) d.2.frames d.2.rest rest n → HasBadCount t
    → at ≡ length ((octets ++ d.0) ++ take n rest) → new ≡ total → T d.2.frames
    → (more : List ℕ) → HasBad D T kind ((octets ++ piece) ++ more) number new at
handled_bad D S T s t kind octets piece rest number n at total new d on is offset same stands more =
    let following = drop (n + 1) rest ++ more in
    let bad = subst (λ (k : ℕ). IsBadAt kind (((octets ++ d.0) ++ take (n + 1) rest) ++ following) d.2.frames
    ((d.2.rest ++ take (n + 1) rest) ++ following) k) (sym offset) (on.bad is following) in
    record {
      frames = d.2.frames;
      rest = (d.2.rest ++ take (n + 1) rest) ++ following;
      bad = subst (λ (u : List ℕ). IsBadAt kind u d.2.frames ((d.2.rest ++ take (n + 1) rest) ++ following) at)
          (taken_further octets d.0 rest piece more (n + 1) d.1) bad;
      handled = subst (HandledFrom D 1 d.2.frames) (sym same) d.2.handled;
      stands = stands;
      number_is = d.2.number_is;
    }

-- all of the piece is handled
pub handled_all : (D : Handling) (S : List (List ℕ) → Type 0) (s : Scan) (kind : Framing) (octets piece rest : List ℕ)
    (number : ℕ) (total : Done) → HandledPiece D S s kind octets piece rest number total → length rest ≡ 0
    → HasHandled D S s kind (octets ++ piece) number total
handled_all D S s kind octets piece [] number total d none =
    subst (λ (u : List ℕ). HasHandled D S s kind (octets ++ u) number total) (sym (d.1 ∙ append-nil d.0)) d.2
handled_all D S s kind octets piece (x ∷ rest) number total d none = absurd (omega arith)

-- the frames so far are a part of those of the whole stream
pub handled_part : (D : Handling) (S : List (List ℕ) → Type 0) (s : Scan) (kind : Framing)
    (octets piece rest : List ℕ) (number : ℕ) (total new : Done)
    → HandledPiece D S s kind octets piece rest number total → new ≡ total → HasPart D kind (octets ++ piece) new
handled_part D S s kind octets piece rest number total new d same = record {
  frames = d.2.frames;
  rest = d.2.rest ++ rest;
  whole = ap (λ (u : List ℕ). octets ++ u) d.1 ∙ sym (append_assoc octets d.0 rest)
      ∙ ap (λ (u : List ℕ). u ++ rest) d.2.reads.whole ∙ append_assoc (flat_map (framed kind) d.2.frames) d.2.rest rest;
  each = d.2.reads.each;
  handled = subst (HandledFrom D 1 d.2.frames) (sym same) d.2.handled;
}
