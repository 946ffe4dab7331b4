-- The text of frames is put frame by frame.
use Rattle.std.proofs.Common.{arith, ◌≡◌, ℕ, suc, zero, ◌+◌, ◌*◌, ◌^◌, ◌<◌, ◌≤◌, ◌∙◌, List, [], ◌∷◌, ◌++◌, Result, Vec}
use Rattle.std.proofs.Common.{length, take, drop, sym, ap, subst, add-one, refl, length-append, take-append-drop, append-nil, slice_index_or}
use Rattle.std.specs.Prelude.{decimal, map}
use Rattle.std.specs.List.{AllByRecursion}
use Rattle.std.proofs.Math.Logic.{∥∥₁_elim}
use Rattle.std.specs.Coded.{le_prop}
use Rattle.std.proofs.lemmas.Fmt.{length-decimal-le}
use Rattle.std.proofs.lemmas.Grind.{flat_map-append}
use Rattle.std.proofs.lemmas.List.{take_all}
use Rattle.octet_devices.specs.Device.{OutputState}
use Rattle.octet_devices.specs.Held.{Finishes, HasPut, Held, PutFailed}
use Rattle.octet_devices.specs.Transfers.{WritesAll, WrotePart}
use Rattle.octet_devices.specs.declared.loops.WriteFault.{WriteFault}
use Rattle.octet_devices.proofs.Putting.{has_put_then, put_fails_then, put_fails_within, puts_whole}
use Rattle.syslog_frame.specs.Frames.{framed}
use Rattle.syslog_frame.specs.declared.framing.Framing.TheVariants.{Counted}
use Rattle.archive_text.specs.declared.limits.TheConstants.{ENTRY_MAX}
use Rattle.archive_text.proofs.Puts.{fresh}
use Rattle.record_choice.specs.Choices.{frames_text}

-- the frames that vectors are
abbrev pub frames_of : {Z : Type 0} → List (Vec ℕ Z) → List (List ℕ)
frames_of vs = map (λ v. v.items) vs

take_next : {Z : Type 0} (vs : List (Vec ℕ Z)) (v : Vec ℕ Z) (i : ℕ) → i < length vs → v ≡ slice_index_or vs i v
    → take (suc i) (frames_of vs) ≡ take i (frames_of vs) ++ v.items ∷ []
take_next [] v i low is = absurd (omega (arith, low))
take_next (w ∷ vs) v zero low is = ap (λ u. u.items ∷ []) (sym is)
take_next (w ∷ vs) v (suc i) low is = ap (λ l. w.items ∷ l) (take_next vs v i (omega (arith, low)) is)

text_next : {Z : Type 0} (vs : List (Vec ℕ Z)) (v : Vec ℕ Z) (i : ℕ) → i < length vs → v ≡ slice_index_or vs i v
    → frames_text (take (i + 1) (frames_of vs)) ≡ frames_text (take i (frames_of vs)) ++ framed Counted v.items
text_next vs v i low is =
    ap (λ (n : ℕ). frames_text (take n (frames_of vs))) (add-one i)
    ∙ (ap frames_text (take_next vs v i low is)
    ∙ (flat_map-append (framed Counted) (take i (frames_of vs)) (v.items ∷ [])
    ∙ ap (λ xs. frames_text (take i (frames_of vs)) ++ xs) (append-nil (framed Counted v.items))))

frame_bound : (f : List ℕ) → length f ≤ ENTRY_MAX → length (framed Counted f) ≤ 3 * 2 ^ 18
frame_bound f fits =
    let digits = length-decimal-le 6 (length f) (omega arith) (omega arith) (omega arith) in
    omega (arith, length-append (decimal (length f)) (32 ∷ f), digits)

pub text_bound : {Z : Type 0} (vs : List (Vec ℕ Z)) → AllByRecursion (λ v. length v.items ≤ ENTRY_MAX) vs
    → length (frames_text (frames_of vs)) ≤ 3 * 2 ^ 18 * length vs
text_bound [] h = omega arith
text_bound (v ∷ vs) h =
    omega (arith, frame_bound v.items h.0, text_bound vs h.1, length-append (framed Counted v.items) (frames_text (frames_of vs)))

length_frames : {Z : Type 0} (vs : List (Vec ℕ Z)) → length (frames_of vs) ≡ length vs
length_frames [] = refl
length_frames (v ∷ vs) = ap suc (length_frames vs)

pub frames_counted : {Z : Type 0} (vs : List (Vec ℕ Z)) (i : ℕ) → length vs ≤ i → length (frames_of vs) ≤ i
frames_counted vs i few = omega (arith, length_frames vs, few)

pub frames_fit : {Z : Type 0} (vs : List (Vec ℕ Z)) (most : ℕ) → ∥ AllByRecursion (λ v. length v.items ≤ ENTRY_MAX) vs ∥₁
    → length vs ≤ most → most < 2 ^ 32 → length (frames_text (frames_of vs)) < 2 ^ 64
frames_fit vs most short few range = ∥∥₁_elim short le_prop (λ h. omega (arith, text_bound vs h, few, range))

-- one frame more was put
pub puts_next : {Z : Type 0} (a b c : OutputState) (h k l : Held) (vs : List (Vec ℕ Z)) (v : Vec ℕ Z) (f : List ℕ) (i : ℕ)
    → i < length vs → v ≡ slice_index_or vs i v → f ≡ v.items → HasPut a b h k (frames_text (take i (frames_of vs)))
    → HasPut b c k l (framed Counted f) → HasPut a c h l (frames_text (take (i + 1) (frames_of vs)))
puts_next a b c h k l vs v f i low is same p q =
    subst (HasPut a c h l) (sym (text_next vs v i low is))
    (has_put_then a b c h k l (frames_text (take i (frames_of vs))) (framed Counted v.items) p
    (subst (λ g. HasPut b c k l (framed Counted g)) same q))

-- the writer failed at a frame
pub fails_next : {Z : Type 0} (a b c : OutputState) (k : Held) (vs : List (Vec ℕ Z)) (v : Vec ℕ Z) (f : List ℕ) (i sent : ℕ)
    → length (frames_text (frames_of vs)) < 2 ^ 64 → i < length vs → v ≡ slice_index_or vs i v → f ≡ v.items
    → HasPut a b fresh k (frames_text (take i (frames_of vs))) → PutFailed b c k (framed Counted f) sent
    → WrotePart a c (frames_text (frames_of vs)) sent
fails_next a b c k vs v f i sent short low is same p q =
    let fs : List (List ℕ) = frames_of vs in
    let whole : (frames_text (take i fs) ++ framed Counted v.items) ++ frames_text (drop (i + 1) fs) ≡ frames_text fs =
    ap (λ (l : List ℕ). l ++ frames_text (drop (i + 1) fs)) (sym (text_next vs v i low is))
    ∙ (sym (flat_map-append (framed Counted) (take (i + 1) fs) (drop (i + 1) fs))
    ∙ ap frames_text (take-append-drop (i + 1) fs)) in
    put_fails_within a c fresh (frames_text (take i fs) ++ framed Counted v.items) (frames_text (drop (i + 1) fs))
    (frames_text fs) sent refl whole short
    (put_fails_then a b c fresh k (frames_text (take i fs)) (framed Counted v.items) sent p
    (subst (λ g. PutFailed b c k (framed Counted g) sent) same q))

-- all frames were put, and at last they are written
pub writes_frames : {A : Type 0} (r : Result A WriteFault) (a b c : OutputState) (k l : Held) (fs : List (List ℕ)) (i : ℕ)
    → length (frames_text fs) < 2 ^ 64 → length fs ≤ i → HasPut a b fresh k (frames_text (take i fs))
    → Finishes b c k l r → WritesAll a c (frames_text fs) r
writes_frames r a b c k l fs i short end p f =
    puts_whole r a b c fresh k l (frames_text fs) refl short
    (subst (λ (l : List (List ℕ)). HasPut a b fresh k (frames_text l)) (take_all i fs end) p) f
