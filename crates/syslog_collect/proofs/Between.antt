-- Octets of a piece that end a frame of an opening, and how many of them are of that frame.
use Rattle.std.proofs.Common.{◌≡◌, ℕ, ◌+◌, ◌-◌, ◌<◌, ◌≤◌, List, [], ◌∷◌, ◌++◌, length, take, drop, inl, inr, refl}
use Rattle.std.proofs.Common.{◌∙◌, ap, subst, append_assoc, arith}
use Rattle.std.specs.Prelude.{◌⊎◌, Option, Some, None, min}
use Rattle.std.specs.List.{flat_map}
use Rattle.std.proofs.lemmas.List.{append-nil, length-append, length-drop, length-take}
use Rattle.std.proofs.lemmas.List.Concat.{flat_map-append}
use Rattle.syslog_frame.specs.Frames.{Frames, framed}
use Rattle.syslog_frame.specs.declared.framing.Framing.{Framing}
use Rattle.syslog_frame.proofs.FrameLaws.{begun_frames}
use Rattle.syslog_collect.specs.declared.event.Event.{Event}
use Rattle.syslog_collect.specs.declared.event.Event.TheVariants.{Opened, Piece, Ended, Datagram}
use Rattle.syslog_collect.specs.declared.outcome.Outcome.{Outcome}
use Rattle.syslog_collect.specs.declared.outcome.Outcome.TheVariants.{New, Held, Refused, RefusedLegacy, TooLong}
use Rattle.syslog_collect.specs.declared.outcome.Outcome.TheVariants.{BadCount}
use Rattle.syslog_collect.specs.Answers.{EndsFrameOf, EndsFrameWith, IsBadCount, IsWholeWith, StopsRight}
use Rattle.syslog_collect.specs.History.{History, Stream, stream_of, with_octets}
use Rattle.syslog_collect.specs.Stops.{IsBetween, IsBetweenAt, IsBetweenFrames}
use Rattle.syslog_collect.proofs.Pieces.{taken_on}

-- ---- one step

pub ends_of : (rest : List ℕ) (n : ℕ) (s : Stream) → n ≤ length rest → EndsFrameWith (take n rest) s
    → EndsFrameOf (take n rest) n s
ends_of rest n s le (frames, f, are, few) = (frames, f, are, omega (arith, few, length-take n rest))

-- what is taken ends a frame, where more is left and no bad count was met
pub step_whole : (rest : List ℕ) (n : ℕ) (o : Option Outcome) (s : Stream) → ¬ (IsBadCount o) → n < length rest
    → StopsRight rest n o s → IsWholeWith (take n rest) s
step_whole rest n None s good less stops = absurd (omega (arith, stops))
step_whole rest n (Some New) s good less stops = stops
step_whole rest n (Some Held) s good less stops = stops
step_whole rest n (Some (Refused fault)) s good less stops = stops
step_whole rest n (Some (RefusedLegacy offset)) s good less stops = stops
step_whole rest n (Some TooLong) s good less stops = stops
step_whole rest n (Some (BadCount at)) s good less stops = absurd (good tt)

-- ---- the last of an opening's frames

begins_front : (a b : List (List ℕ)) (x y : List ℕ) (ys : List (List ℕ)) → a ++ x ∷ [] ≡ b ++ y ∷ ys
    → (c : List (List ℕ)) × (a ≡ b ++ c)
begins_front a [] x y ys e = (a, refl)
begins_front [] (z ∷ zs) x y ys e = absurd (omega (arith, ap length e, length-append zs (y ∷ ys)))
begins_front (w ∷ ws) (z ∷ zs) x y ys e =
    let same : w ≡ z = cc in
    let behind : ws ++ x ∷ [] ≡ zs ++ y ∷ ys = cc in
    let later = begins_front ws zs x y ys behind in
    (later.0, ap (λ (u : List ℕ). u ∷ ws) same ∙ ap (λ (us : List (List ℕ)). z ∷ us) later.1)

module _ (kind : Framing) (u o : List ℕ) (g frames : List (List ℕ)) (f : List ℕ) (a : Frames kind u g [])
    (b : Frames kind (u ++ o) (frames ++ f ∷ []) []) (some : 0 < length o) where
  flat : List (List ℕ) → List ℕ
  flat fs = flat_map (framed kind) fs

  last_of : (h : List (List ℕ)) → frames ++ f ∷ [] ≡ g ++ h → length (framed kind f) ≤ length o
  unfolding flat
  last_of [] is = absurd (omega (
    arith,
    ap length b.whole,
    length-append u o,
    length-append (flat (frames ++ f ∷ [])) [],
    ap (λ (fs : List (List ℕ)). length (flat fs)) (is ∙ append-nil g),
    ap length a.whole,
    length-append (flat g) [],
  ))
  last_of (y ∷ ys) is =
      let c = begins_front frames g f y ys is in
      omega (
        arith,
        ap length b.whole,
        length-append u o,
        length-append (flat (frames ++ f ∷ [])) [],
        ap length (flat_map-append (framed kind) frames (f ∷ [])),
        length-append (flat frames) (flat (f ∷ [])),
        length-append (framed kind f) [],
        ap (λ (fs : List (List ℕ)). length (flat fs)) c.1,
        ap length (flat_map-append (framed kind) g c.0),
        length-append (flat g) (flat c.0),
        ap length a.whole,
        length-append (flat g) [],
      )

-- octets behind whole frames that end in a frame hold all of it
frames_last : (kind : Framing) (u o : List ℕ) (g frames : List (List ℕ)) (f : List ℕ) → Frames kind u g []
    → Frames kind (u ++ o) (frames ++ f ∷ []) [] → 0 < length o → length (framed kind f) ≤ length o
frames_last kind u o g frames f a b some =
    let h = begun_frames kind u o g (frames ++ f ∷ []) [] [] a b in
    last_of kind u o g frames f a b some h.0 h.1

-- ---- the steps of a piece

count_none : (k n m a b most : ℕ) → n ≡ 0 → a ≡ m → b ≡ n + m → k ≡ min a most → k ≡ min b most
count_none k n m a b most none x y is = omega arith

count_last : (k n m a b most : ℕ) → most ≤ a → a ≡ m → b ≡ n + m → k ≡ min a most → k ≡ min b most
count_last k n m a b most few x y is = omega arith

-- so many octets of a rest are of its last frame, and as many of the piece
pub frame_of_rest : (p : List ℕ) (n m k : ℕ) (s : Stream) → n ≤ length p
    → m ≤ length (take (length p - n) (drop n p)) → (n ≡ 0) ⊎ ((0 < m) × IsWholeWith (take n p) s)
    → EndsFrameOf (take m (take (length p - n) (drop n p))) k (with_octets s (take n p))
    → EndsFrameOf (take (n + m) p) k s
frame_of_rest p n m k s le lt before (frames, f, are, is) =
    let o = take m (take (length p - n) (drop n p)) in
    let same = append_assoc s.octets (take n p) o ∙ ap (λ (u : List ℕ). s.octets ++ u) (taken_on p n m) in
    let few : length o ≡ m = omega (arith, length-take m (take (length p - n) (drop n p))) in
    let all : length (take (n + m) p) ≡ n + m =
    omega (arith, length-take (n + m) p, length-take (length p - n) (drop n p), length-drop n p) in
    let most = length (framed s.framing f) in (
      frames,
      f,
      subst (λ (u : List ℕ). Frames s.framing u (frames ++ f ∷ []) []) same are,
      elim before [
        | inl none ↦ count_none k n m (length o) (length (take (n + m) p)) most none few all is
        | inr (some, (g, whole)) ↦
            count_last k n m (length o) (length (take (n + m) p)) most
            (frames_last s.framing (s.octets ++ take n p) o g frames f whole are (omega (arith, few, some))) few all is
      ],
    )

-- where octets were taken before a step that took some, they end a frame
pub before_step : (p : List ℕ) (n m waited : ℕ) (s : Stream) → IsBetween p n waited s → 0 < waited + m
    → (n ≡ 0) ⊎ ((0 < m) × IsWholeWith (take n p) s)
before_step p n m waited s (inl none) some = inl none
before_step p n m waited s (inr (quiet, whole)) some = inr (omega (arith, quiet, some), whole)

-- a step that took nothing
pub between_kept : (p : List ℕ) (n m waited waits : ℕ) (s : Stream) → m ≡ 0 → waits ≡ waited
    → IsBetween p n waited s → IsBetween p (n + m) waits s
between_kept p n m waited waits s none same (inl start) = inl (omega arith)
between_kept p n m waited waits s none same (inr (quiet, whole)) =
    let here : n ≡ n + m = omega arith in
    inr (same ∙ quiet, subst (λ (i : ℕ). IsWholeWith (take i p) s) here whole)

pub whole_on : (p : List ℕ) (n m : ℕ) (s : Stream)
    → IsWholeWith (take m (take (length p - n) (drop n p))) (with_octets s (take n p))
    → IsWholeWith (take (n + m) p) s
whole_on p n m s (g, are) =
    let o = take m (take (length p - n) (drop n p)) in
    let same = append_assoc s.octets (take n p) o ∙ ap (λ (u : List ℕ). s.octets ++ u) (taken_on p n m) in
    (g, subst (λ (u : List ℕ). Frames s.framing u g []) same are)

-- ---- a number, and an event

pub between_at : (c : ℕ) (piece : List ℕ) (taken waits : ℕ) (h : History) (s : Stream) → stream_of c h.streams ≡ Some s
    → IsBetween piece taken waits s → IsBetweenAt c piece taken waits h
between_at c piece taken waits h s is (inl none) = inl none
between_at c piece taken waits h s is (inr (quiet, whole)) = inr (quiet, rw is whole)

pub nothing_between : (h : History) (w : ℕ → ℕ) (e : Event) → IsBetweenFrames h w e 0
nothing_between h w (Opened c k) = refl
nothing_between h w (Piece c o) = inl refl
nothing_between h w (Ended c) = refl
nothing_between h w (Datagram o) = refl
