-- Frames that are delivered as a stream is read in pieces. This follows a stream as a crate above would: by what the
-- scanner's clauses say, and by lists.
use Rattle.std.proofs.Common.{◌≡◌, ℕ, zero, suc, get_or, ◌+◌, ◌<◌, ◌≤◌, List, [], ◌∷◌, ◌++◌, length, map, take, drop}
use Rattle.std.proofs.Common.{refl, sym, ap, subst, ◌∙◌, append_assoc, arith}
use Rattle.std.specs.Prelude.{Option, Some, None, option_map}
use Rattle.std.specs.List.{flat_map}
use Rattle.std.proofs.lemmas.List.{append-nil, length-append, map-append, flat_map_more, take-append-drop, take_all}
use Rattle.std.proofs.lemmas.List.{take_more}
use Rattle.std.proofs.lemmas.Bool.Decides.{nat_tests}
use Rattle.syslog_frame.specs.Frames.{delivered, Frames, IsBadAt}
use Rattle.syslog_frame.specs.Pieces.{HasDelivered, IsRead, StopsAs}
use Rattle.syslog_frame.specs.Reads.{Reads, ReadsOn}
use Rattle.syslog_frame.specs.Scan.{Scan, HasBadCount}
use Rattle.syslog_frame.specs.declared.framing.Framing.{Framing}
use Rattle.syslog_frame.specs.declared.pieces.StreamEnd.{StreamEnd}
use Rattle.syslog_frame.specs.declared.pieces.StreamEnd.TheVariants.{BadCount}
use Rattle.syslog_frame.proofs.FrameLaws.{unique_frames}

delivered_short : (most : ℕ) (f : List ℕ) → length f ≤ most → delivered most f ≡ Some f
delivered_short most f h = grind (arith, nat_tests, h)

delivered_long : (most : ℕ) (f : List ℕ) → most < length f → delivered most f ≡ None
delivered_long most f h = grind (arith, nat_tests, h)

pub delivers_short : {V : Type 0} (view : V → List ℕ) (old new : List (Option V)) (most : ℕ) (f : List ℕ) (copy : V)
    → view copy ≡ f → length f ≤ most → new ≡ old ++ Some copy ∷ []
    → map (option_map view) new ≡ map (option_map view) old ++ delivered most f ∷ []
delivers_short view old new most f copy e le push =
    ap (map (option_map view)) push ∙ map-append (option_map view) old (Some copy ∷ [])
    ∙ ap (λ (u : Option (List ℕ)). map (option_map view) old ++ u ∷ [])
    (ap (λ (u : List ℕ). Some u) e ∙ sym (delivered_short most f le))

pub delivers_long : {V : Type 0} (view : V → List ℕ) (old new : List (Option V)) (most : ℕ) (f : List ℕ)
    → most < length f → new ≡ old ++ None ∷ []
    → map (option_map view) new ≡ map (option_map view) old ++ delivered most f ∷ []
delivers_long view old new most f lt push =
    ap (map (option_map view)) push ∙ map-append (option_map view) old (None ∷ [])
    ∙ ap (λ (u : Option (List ℕ)). map (option_map view) old ++ u ∷ []) (sym (delivered_long most f lt))

-- one more frame
pub delivered_more : (most : ℕ) (frames : List (List ℕ)) (f : List ℕ) (old new : List (Option (List ℕ)))
    → old ≡ map (delivered most) frames → new ≡ old ++ delivered most f ∷ []
    → new ≡ map (delivered most) (frames ++ f ∷ [])
delivered_more most frames f old new is more =
    more ∙ ap (λ (u : List (Option (List ℕ))). u ++ delivered most f ∷ []) is
    ∙ sym (map-append (delivered most) frames (f ∷ []))

-- ---- a piece: the rest follows what was taken

pub taken_on : (taken rest piece : List ℕ) (n : ℕ) → piece ≡ taken ++ rest
    → piece ≡ (taken ++ take n rest) ++ drop n rest
taken_on taken rest piece n e = e ∙ ap (λ (u : List ℕ). taken ++ u) (sym (take-append-drop n rest))
    ∙ sym (append_assoc taken (take n rest) (drop n rest))

-- what follows the octets that were taken, to the end of the piece and further
taken_further : (octets taken rest piece more : List ℕ) (n : ℕ) → piece ≡ taken ++ rest
    → ((octets ++ taken) ++ take n rest) ++ (drop n rest ++ more) ≡ (octets ++ piece) ++ more
taken_further octets taken rest piece more n e =
    append_assoc (octets ++ taken) (take n rest) (drop n rest ++ more)
    ∙ ap (λ (u : List ℕ). (octets ++ taken) ++ u)
    (sym (append_assoc (take n rest) (drop n rest) more) ∙ ap (λ (u : List ℕ). u ++ more) (take-append-drop n rest))
    ∙ sym (append_assoc (octets ++ taken) rest more)
    ∙ ap (λ (u : List ℕ). u ++ more) (append_assoc octets taken rest ∙ ap (λ (u : List ℕ). octets ++ u) (sym e))

-- so much of a piece is handled, and the rest is left
abbrev pub HandledWith : ℕ → Scan → Framing → List ℕ → List ℕ → List ℕ → List (Option (List ℕ)) → Type 0
HandledWith most s kind octets piece rest out =
    (taken : List ℕ) × (piece ≡ taken ++ rest) × HasDelivered most s kind (octets ++ taken) out

-- octets were taken, and nothing is ready
pub handled_nothing : (most : ℕ) (s t : Scan) (kind : Framing) (octets piece rest : List ℕ)
    (out new : List (Option (List ℕ))) (n : ℕ) → (d : HandledWith most s kind octets piece rest out)
    → ReadsOn most t kind 0 (octets ++ d.0) d.2.frames d.2.rest rest n → new ≡ out
    → HandledWith most t kind octets piece (drop n rest) new
handled_nothing most s t kind octets piece rest out new n d on same = (
  d.0 ++ take n rest,
  taken_on d.0 rest piece n d.1,
  record {
    frames = d.2.frames;
    rest = d.2.rest ++ take n rest;
    reads = subst (λ (u : List ℕ). Reads most t kind 0 u d.2.frames (d.2.rest ++ take n rest))
        (append_assoc octets d.0 (take n rest)) on.reads;
    out_is = same ∙ d.2.out_is;
  },
)

-- a frame was ready, and was delivered and released
pub handled_frame : (most : ℕ) (s t : Scan) (kind : Framing) (octets piece rest : List ℕ)
    (out new : List (Option (List ℕ))) (n : ℕ) (f : List ℕ) → (d : HandledWith most s kind octets piece rest out)
    → Reads most t kind 0 ((octets ++ d.0) ++ take n rest) (d.2.frames ++ f ∷ []) []
    → new ≡ out ++ delivered most f ∷ [] → HandledWith most t kind octets piece (drop n rest) new
handled_frame most s t kind octets piece rest out new n f d begun more = (
  d.0 ++ take n rest,
  taken_on d.0 rest piece n d.1,
  record {
    frames = d.2.frames ++ f ∷ [];
    rest = [];
    reads = subst (λ (u : List ℕ). Reads most t kind 0 u (d.2.frames ++ f ∷ []) [])
        (append_assoc octets d.0 (take n rest)) begun;
    out_is = delivered_more most d.2.frames f out new d.2.out_is more;
  },
)

-- a bad count is ready: so the whole stream stops
pub handled_bad : (most : ℕ) (s t : Scan) (kind : Framing) (octets piece rest : List ℕ)
    (out new : List (Option (List ℕ))) (n at : ℕ) → (d : HandledWith most s kind octets piece rest out)
    → ReadsOn most t kind 0 (octets ++ d.0) d.2.frames d.2.rest rest n → HasBadCount t
    → at ≡ length ((octets ++ d.0) ++ take n rest) → new ≡ out
    → (more : List ℕ) → IsRead most kind ((octets ++ piece) ++ more) new (BadCount at)
handled_bad most s t kind octets piece rest out new n at d on is offset same more =
    let behind = drop (n + 1) rest ++ more in
    let bad = subst (λ (k : ℕ). IsBadAt kind (((octets ++ d.0) ++ take (n + 1) rest) ++ behind) d.2.frames
    ((d.2.rest ++ take (n + 1) rest) ++ behind) k) (sym offset) (on.bad is behind) in
    let whole = subst (λ (u : List ℕ). IsBadAt kind u d.2.frames ((d.2.rest ++ take (n + 1) rest) ++ behind) at)
    (taken_further octets d.0 rest piece more (n + 1) d.1) bad in
    record {
      frames = d.2.frames;
      rest = (d.2.rest ++ take (n + 1) rest) ++ behind;
      frames_are = whole.frames_are;
      out_is = same ∙ d.2.out_is;
      stops = whole;
    }

-- all of the piece is handled
pub handled_all : (most : ℕ) (s : Scan) (kind : Framing) (octets piece rest : List ℕ) (out : List (Option (List ℕ)))
    → HandledWith most s kind octets piece rest out → length rest ≡ 0 → HasDelivered most s kind (octets ++ piece) out
handled_all most s kind octets piece [] out d none =
    subst (λ (u : List ℕ). HasDelivered most s kind (octets ++ u) out) (sym (d.1 ∙ append-nil d.0)) d.2
handled_all most s kind octets piece (x ∷ rest) out d none = absurd (omega arith)

-- ---- a list of pieces

pub pieces_next : {V : Type 0} (view : V → List ℕ) (xs : List V) (i : ℕ) (x : V) (now : List ℕ) → i < length xs
    → x ≡ get_or xs i x → now ≡ view x
    → flat_map view (take i xs) ++ now ≡ flat_map view (take (i + 1) xs)
pieces_next view xs i x now h is e =
    ap (λ (u : List ℕ). flat_map view (take i xs) ++ u) (e ∙ ap view is)
    ∙ flat_map_more view [] (take i xs) (get_or xs i x) ∙ ap (flat_map view) (sym (take_more xs i x h))

pieces_whole : {V : Type 0} (view : V → List ℕ) (xs : List V) (i : ℕ)
    → flat_map view (take i xs) ++ flat_map view (drop i xs) ≡ flat_map view xs
pieces_whole view [] zero = refl
pieces_whole view [] (suc i) = refl
pieces_whole view (x ∷ xs) zero = refl
pieces_whole view (x ∷ xs) (suc i) = append_assoc (view x) (flat_map view (take i xs)) (flat_map view (drop i xs))
    ∙ ap (λ (u : List ℕ). view x ++ u) (pieces_whole view xs i)

pub pieces_rest : {V : Type 0} (view : V → List ℕ) (xs : List V) (i : ℕ) (x : V) (now : List ℕ) → i < length xs
    → x ≡ get_or xs i x → now ≡ view x
    → (flat_map view (take i xs) ++ now) ++ flat_map view (drop (i + 1) xs) ≡ flat_map view xs
pieces_rest view xs i x now h is e = ap (λ (u : List ℕ). u ++ flat_map view (drop (i + 1) xs))
    (pieces_next view xs i x now h is e) ∙ pieces_whole view xs (i + 1)

pub pieces_all : {V : Type 0} (view : V → List ℕ) (xs : List V) (i : ℕ) → length xs ≤ i
    → flat_map view (take i xs) ≡ flat_map view xs
pieces_all view xs i h = ap (flat_map view) (take_all i xs h)

-- no other frames are those of the stream
pub only_read : (most : ℕ) (kind : Framing) (stream : List ℕ) (out : List (Option (List ℕ))) (stop : StreamEnd)
    → IsRead most kind stream out stop
    → (others : List (List ℕ)) (rest : List ℕ) → Frames kind stream others rest → out ≡ map (delivered most) others
only_read most kind stream out stop r others rest h =
    r.out_is ∙ ap (map (delivered most)) (unique_frames kind stream r.frames others r.rest rest r.frames_are h).0

-- one piece more
pub delivered_next : {V : Type 0} (view : V
    → List ℕ) (most : ℕ) (s : Scan) (kind : Framing) (xs : List V) (i : ℕ) (x : V) (now : List ℕ)
    (out : List (Option (List ℕ))) → i < length xs → x ≡ get_or xs i x → now ≡ view x
    → HasDelivered most s kind (flat_map view (take i xs) ++ now) out
    → HasDelivered most s kind (flat_map view (take (i + 1) xs)) out
delivered_next view most s kind xs i x now out h is e d =
    subst (λ (u : List ℕ). HasDelivered most s kind u out) (pieces_next view xs i x now h is e) d

-- a bad count in a piece: whatever the further pieces are
pub read_bad : {V : Type 0} (view : V → List ℕ) (most : ℕ) (kind : Framing) (xs : List V) (i : ℕ) (x : V) (now : List ℕ)
    (out : List (Option (List ℕ))) (at : ℕ) → i < length xs → x ≡ get_or xs i x → now ≡ view x
    → ((more : List ℕ) → IsRead most kind ((flat_map view (take i xs) ++ now) ++ more) out (BadCount at))
    → IsRead most kind (flat_map view xs) out (BadCount at)
read_bad view most kind xs i x now out at h is e d =
    subst (λ (u : List ℕ). IsRead most kind u out (BadCount at)) (pieces_rest view xs i x now h is e)
    (d (flat_map view (drop (i + 1) xs)))

-- all pieces were read
pub read_whole : {V : Type 0} (view : V → List ℕ) (most : ℕ) (s : Scan) (kind : Framing) (xs : List V) (i : ℕ)
    (out : List (Option (List ℕ))) (stop : StreamEnd) → length xs ≤ i
    → (d : HasDelivered most s kind (flat_map view (take i xs)) out)
    → Frames kind (flat_map view (take i xs)) d.frames d.rest
    → StopsAs kind (flat_map view (take i xs)) d.frames d.rest stop
    → IsRead most kind (flat_map view xs) out stop
read_whole view most s kind xs i out stop all d frames_are stops =
    subst (λ (u : List ℕ). IsRead most kind u out stop) (pieces_all view xs i all)
    (record { frames = d.frames; rest = d.rest; frames_are = frames_are; out_is = d.out_is; stops = stops })

-- how far the scanner is
pub delivered_length : {V : Type 0} (view : V
    → List ℕ) (most : ℕ) (s : Scan) (kind : Framing) (xs : List V) (i : ℕ) (out : List (Option (List ℕ)))
    → HasDelivered most s kind (flat_map view (take i xs)) out → s.position ≡ length (flat_map view (take i xs))
delivered_length view most s kind xs i out d = omega (arith, d.reads.stands.position_is)

pub piece_length : {V : Type 0} (view : V → List ℕ) (xs : List V) (i : ℕ) (x : V) (now : List ℕ) → i < length xs
    → x ≡ get_or xs i x → now ≡ view x
    → length (flat_map view (take i xs)) + length now ≤ length (flat_map view xs)
piece_length view xs i x now h is e =
    omega (
      arith,
      ap length (pieces_rest view xs i x now h is e),
      length-append (flat_map view (take i xs) ++ now) (flat_map view (drop (i + 1) xs)),
      length-append (flat_map view (take i xs)) now,
    )
