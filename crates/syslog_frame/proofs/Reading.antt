-- What was read of a stream, after each call of its scanner.
use Rattle.std.proofs.Common.{◌≡◌, ℕ, ◌+◌, ◌<◌, ◌≤◌, List, [], ◌∷◌, ◌++◌, length, take, sym, ap, subst, ◌∙◌}
use Rattle.std.proofs.Common.{append_assoc, arith, inl}
use Rattle.std.specs.List.{AllByRecursion, flat_map}
use Rattle.std.proofs.lemmas.List.{append-nil, length-append, length-take, flat_map_more}
use Rattle.octet_language.specs.Language.{Begins, NoPrefix}
use Rattle.syslog_frame.specs.Frames.{CanCarry, Frame, Frames, IsBadAt, Whole, framed}
use Rattle.syslog_frame.specs.Reads.{Reads, ReadsOn}
use Rattle.syslog_frame.specs.Scan.{Scan, Stands, Holds, HasBadCount, HasFrame, IsReading}
use Rattle.syslog_frame.specs.State.{IsProgress}
use Rattle.syslog_frame.specs.Takes.{Takes}
use Rattle.syslog_frame.specs.declared.framing.Framing.{Framing}
use Rattle.syslog_frame.proofs.FrameLaws.{NoPrefix-nil}
use Rattle.syslog_frame.proofs.Standing.{IsBadRest}
use Rattle.syslog_frame.proofs.Calls.{Took, took, takes_took, bad_took, open_reading, bad_not_frame, none_unless_frame}
use Rattle.syslog_frame.proofs.Calls.{begins_reading, frame_ready, long_ready}

all_push : (P : List ℕ → Type 0) (fs : List (List ℕ)) (f : List ℕ) → AllByRecursion P fs → P f
    → AllByRecursion P (fs ++ f ∷ [])
all_push P [] f a h = (h, tt)
all_push P (g ∷ fs) f a h = (a.0, all_push P fs f a.1 h)

-- the frames of what was read, where no prefix of the rest is a frame
pub frames_read : (most : ℕ) (s : Scan) (kind : Framing) (first : ℕ) (octets : List ℕ) (frames : List (List ℕ))
    (rest : List ℕ) → Reads most s kind first octets frames rest → NoPrefix (Whole kind) rest
    → Frames kind octets frames rest
frames_read most s kind first octets frames rest r none = record { whole = r.whole; each = r.each; none = none }

whole_with : (kind : Framing) (octets : List ℕ) (frames : List (List ℕ)) (rest f : List ℕ)
    → octets ≡ flat_map (framed kind) frames ++ rest → rest ≡ framed kind f
    → octets ≡ flat_map (framed kind) (frames ++ f ∷ []) ++ []
whole_with kind octets frames rest f whole is =
    whole ∙ ap (λ (u : List ℕ). flat_map (framed kind) frames ++ u) is ∙ flat_map_more (framed kind) [] frames f
    ∙ sym (append-nil (flat_map (framed kind) (frames ++ f ∷ [])))

-- the rest is one more frame
pub frames_with : (most : ℕ) (s : Scan) (kind : Framing) (first : ℕ) (octets : List ℕ) (frames : List (List ℕ))
    (rest f : List ℕ) → Reads most s kind first octets frames rest → Frame kind f rest
    → Frames kind octets (frames ++ f ∷ []) []
frames_with most s kind first octets frames rest f r is = record {
  whole = whole_with kind octets frames rest f r.whole is.1;
  each = all_push (CanCarry kind) frames f r.each is.0;
  none = NoPrefix-nil kind;
}

-- a piece is taken
pub reads_push : (most : ℕ) (s t : Scan) (kind : Framing) (first : ℕ) (octets : List ℕ) (frames : List (List ℕ))
    (rest piece : List ℕ) (n : ℕ) → n ≤ length piece → Reads most s kind first octets frames rest
    → Stands most t kind ((first + length octets) + n) (rest ++ take n piece)
    → Reads most t kind first (octets ++ take n piece) frames (rest ++ take n piece)
reads_push most s t kind first octets frames rest piece n within r h =
    let far : (first + length octets) + n ≡ first + length (octets ++ take n piece) =
    omega (arith, length-append octets (take n piece), length-take n piece, within) in
    record {
      whole = ap (λ (u : List ℕ). u ++ take n piece) r.whole
          ∙ append_assoc (flat_map (framed kind) frames) rest (take n piece);
      each = r.each;
      stands = subst (λ (k : ℕ). Stands most t kind k (rest ++ take n piece)) far h;
    }

-- the stream is bad after what was read
bad_stream : (kind : Framing) (octets : List ℕ) (frames : List (List ℕ)) (rest taken more : List ℕ) (n at : ℕ)
    → octets ≡ flat_map (framed kind) frames ++ rest → AllByRecursion (CanCarry kind) frames
    → IsBadRest kind ((rest ++ taken) ++ more) (length rest + n) → at ≡ length octets + n
    → IsBadAt kind ((octets ++ taken) ++ more) frames ((rest ++ taken) ++ more) at
bad_stream kind octets frames rest taken more n at whole each b far = record {
  frames_are = record {
    whole = ap (λ (u : List ℕ). (u ++ taken) ++ more) whole
        ∙ ap (λ (u : List ℕ). u ++ more) (append_assoc (flat_map (framed kind) frames) rest taken)
        ∙ append_assoc (flat_map (framed kind) frames) (rest ++ taken) more;
    each = each;
    none = b.incomplete;
  };
  none = b.none;
  offset = (
    length rest + n,
    b.offset,
    omega (
      arith,
      far,
      length-append (rest ++ taken) more,
      length-append rest taken,
      length-append (octets ++ taken) more,
      length-append octets taken,
    ),
  );
}

pub reads_on : (most : ℕ) (s t : Scan) (kind : Framing) (first : ℕ) (octets : List ℕ) (frames : List (List ℕ))
    (rest piece : List ℕ) (n : ℕ) → n ≤ length piece → Reads most s kind first octets frames rest
    → Stands most t kind ((first + length octets) + n) (rest ++ take n piece)
    → (HasBadCount t → (more : List ℕ) → IsBadRest kind ((rest ++ take (n + 1) piece) ++ more) (length rest + n))
    → ReadsOn most t kind first octets frames rest piece n
reads_on most s t kind first octets frames rest piece n within r h bad = record {
  reads = reads_push most s t kind first octets frames rest piece n within r h;
  bad = λ is more.
      bad_stream kind octets frames rest (take (n + 1) piece) more n (length (octets ++ take n piece)) r.whole r.each
      (bad is more) (omega (arith, length-append octets (take n piece), length-take n piece, within));
}

-- ---- the scanner's calls

-- what a scanner holds after it took octets of a piece
pub record IsMoved (most : ℕ) (s t : Scan) (piece : List ℕ) (n : ℕ) : Type 0 where
  pub within : n ≤ length piece
  pub framing_is : t.framing ≡ s.framing
  pub position_is : t.position ≡ s.position + n
  pub start_is : t.start ≡ s.start
  pub taken : IsProgress t.phase t.count piece n
  pub holds : (q : List ℕ) → Holds most s.framing s.phase s.count s.size s.kept q
      → Holds most s.framing t.phase t.count t.size t.kept (q ++ take n piece)

moved_took : (most : ℕ) (s t : Scan) (kind : Framing) (position : ℕ) (p piece : List ℕ) (n : ℕ)
    → IsMoved most s t piece n → Stands most s kind position p → Took most t kind p piece n
moved_took most s t kind position p piece n m h =
    took most s t kind p piece n h.framing_is m.within m.taken m.holds h.holds

pub moved_takes : (most : ℕ) (s t : Scan) (kind : Framing) (position : ℕ) (p piece : List ℕ) (n : ℕ)
    → IsMoved most s t piece n → Stands most s kind position p → Takes kind p piece n t
moved_takes most s t kind position p piece n m h =
    takes_took most t kind p piece n (moved_took most s t kind position p piece n m h)

moved_stands : (most : ℕ) (s t : Scan) (kind : Framing) (position : ℕ) (p piece : List ℕ) (n : ℕ)
    → IsMoved most s t piece n → Stands most s kind position p → Stands most t kind (position + n) (p ++ take n piece)
moved_stands most s t kind position p piece n m h = record {
  framing_is = m.framing_is ∙ h.framing_is;
  position_is = omega (arith, m.position_is, h.position_is);
  start_is = omega (arith, m.start_is, h.start_is, length-append p (take n piece), length-take n piece, m.within);
  holds = (moved_took most s t kind position p piece n m h).holds;
}

pub moved_reads : (most : ℕ) (s t : Scan) (kind : Framing) (first : ℕ) (octets : List ℕ) (frames : List (List ℕ))
    (rest piece : List ℕ) (n : ℕ) → IsMoved most s t piece n → Reads most s kind first octets frames rest
    → ReadsOn most t kind first octets frames rest piece n
moved_reads most s t kind first octets frames rest piece n m r =
    let k = moved_took most s t kind (first + length octets) rest piece n m r.stands in
    reads_on most s t kind first octets frames rest piece n m.within r
    (moved_stands most s t kind (first + length octets) rest piece n m r.stands)
    (λ bad more. bad_took most t kind rest piece n k bad more)

-- what is ready
pub read_nothing : (most : ℕ) (s : Scan) (kind : Framing) (first : ℕ) (octets : List ℕ) (frames : List (List ℕ))
    (rest : List ℕ) → IsReading s → Reads most s kind first octets frames rest
    → Frames kind octets frames rest × Begins (Whole kind) rest
read_nothing most s kind first octets frames rest is r = (
  frames_read most s kind first octets frames rest r
      (none_unless_frame most s kind (first + length octets) rest (λ e. is.0 (inl e)) r.stands),
  begins_reading most s kind (first + length octets) rest (open_reading s is) r.stands,
)

pub read_frame : (most : ℕ) (s : Scan) (kind : Framing) (first : ℕ) (octets : List ℕ) (frames : List (List ℕ))
    (rest : List ℕ) → HasFrame s → s.size ≤ most → Reads most s kind first octets frames rest
    → Frame kind s.kept rest × (length s.kept ≤ most) × Frames kind octets (frames ++ s.kept ∷ []) []
read_frame most s kind first octets frames rest is le r =
    let f = frame_ready most s kind (first + length octets) rest is le r.stands in
    (f.0, f.1, frames_with most s kind first octets frames rest s.kept r f.0)

pub read_long : (most : ℕ) (s : Scan) (kind : Framing) (first : ℕ) (octets : List ℕ) (frames : List (List ℕ))
    (rest : List ℕ) → HasFrame s → most < s.size → Reads most s kind first octets frames rest
    → (f : List ℕ) × Frame kind f rest × (most < length f) × Frames kind octets (frames ++ f ∷ []) []
read_long most s kind first octets frames rest is lt r =
    let f = long_ready most s kind (first + length octets) rest is lt r.stands in
    (f.0, f.1, f.2, frames_with most s kind first octets frames rest f.0 r f.1)

pub read_bad : (most : ℕ) (s : Scan) (kind : Framing) (first : ℕ) (octets : List ℕ) (frames : List (List ℕ))
    (rest : List ℕ) → HasBadCount s → Reads most s kind first octets frames rest
    → Frames kind octets frames rest × (s.position ≡ first + length octets)
read_bad most s kind first octets frames rest is r = (
  frames_read most s kind first octets frames rest r
      (none_unless_frame most s kind (first + length octets) rest (bad_not_frame s is) r.stands),
  r.stands.position_is,
)
