-- Frames that are passed over.
use Rattle.std.proofs.Common.{◌≡◌, ℕ, ◌+◌, ◌-◌, ◌≤◌, List, [], ◌∷◌, ◌++◌, length, take, drop, refl, sym, ap, ◌∙◌}
use Rattle.std.proofs.Common.{append_assoc, arith}
use Rattle.std.specs.List.{AllByRecursion, flat_map}
use Rattle.std.proofs.lemmas.List.{drop_at, length-append, take-append-drop, take_at}
use Rattle.syslog_frame.specs.Frames.{framed}
use Rattle.syslog_frame.specs.declared.framing.Framing.{Framing}
use Rattle.syslog_frame.proofs.FrameLaws.{some}
use Rattle.c_library.specs.Frames.{IsComplete}
use Rattle.c_library.specs.Passing.{BeginsGood, BeginsNoGood, IsGood, Passes}

-- however the rest goes on with records, the piece does so behind as many as were counted
abbrev pub Passed : Framing → List ℕ → List ℕ → ℕ → Type 0
Passed kind piece rest count =
    (more : List (List ℕ)) (end : List ℕ) → rest ≡ flat_map (framed kind) more ++ end → AllByRecursion (IsGood kind) more
    → (all : List (List ℕ)) × (piece ≡ flat_map (framed kind) all ++ end) × AllByRecursion (IsGood kind) all
    × (length all ≡ count + length more)

pub passed_none : (kind : Framing) (piece : List ℕ) → Passed kind piece piece 0
passed_none kind piece more end e good = (more, e, good, omega arith)

pub passed_more : (kind : Framing) (piece rest behind : List ℕ) (count : ℕ) → BeginsGood kind rest behind
    → Passed kind piece rest count → Passed kind piece behind (count + 1)
passed_more kind piece rest behind count (f, good, e) passed more end g each =
    let h = passed (f ∷ more) end
    (e ∙ ap (λ (u : List ℕ). framed kind f ++ u) g ∙ sym (append_assoc (framed kind f) (flat_map (framed kind) more) end))
    (good, each) in
    (h.0, h.1, h.2, omega (arith, h.3))

pub good_shorter : (kind : Framing) (rest behind : List ℕ) → BeginsGood kind rest behind → length behind + 1 ≤ length rest
good_shorter kind rest behind (f, good, e) =
    omega (arith, some kind f, ap length e, length-append (framed kind f) behind)

pub passed_all : (kind : Framing) (piece rest : List ℕ) (taken count : ℕ) → taken ≡ length piece - length rest
    → Passed kind piece rest count → BeginsNoGood kind rest → Passes kind piece taken count
passed_all kind piece rest taken count is passed next =
    let h = passed [] rest refl tt in
    record {
      records = h.0;
      rest = rest;
      parts = h.1;
      taken_is = omega (arith, is, ap length h.1, length-append (flat_map (framed kind) h.0) rest);
      each = h.2;
      count_is = omega (arith, h.3);
      next = next;
    }

-- ---- one frame

-- the octets from the start to the end are the frame
pub frame_is : (kind : Framing) (piece : List ℕ) (start end used : ℕ) → (h : IsComplete kind piece start end used)
    → take (end - start) (drop start piece) ≡ h.frame
frame_is kind piece start end used h =
    let l = h.lies in
    let from : drop start piece ≡ h.frame ++ l.behind =
    ap (λ (u : List ℕ). drop start u) l.parts ∙ drop_at l.before (h.frame ++ l.behind) start (sym l.at_is) in
    ap (λ (u : List ℕ). take (end - start) u) from
    ∙ take_at h.frame l.behind (end - start) (omega (arith, h.end_is))

pub frame_parts : (kind : Framing) (piece : List ℕ) (start end used : ℕ) → (h : IsComplete kind piece start end used)
    → piece ≡ framed kind h.frame ++ drop used piece
frame_parts kind piece start end used h =
    sym (take-append-drop used piece) ∙ ap (λ (u : List ℕ). u ++ drop used piece) h.whole.1
