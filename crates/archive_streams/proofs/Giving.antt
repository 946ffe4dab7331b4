-- What a reader gives, call by call.
use Rattle.std.proofs.Common.{◌≡◌, ℕ, ◌+◌, ◌-◌, ◌*◌, ◌≤◌, List, [], ◌∷◌, ◌++◌, Option, length, take, drop, refl, sym}
use Rattle.std.proofs.Common.{ap, subst, ◌∙◌, append-nil, append_assoc, arith}
use Rattle.std.proofs.lemmas.List.{drop-take, drop-drop, length-append, length-take, take-append-drop}
use Rattle.std.proofs.Math.Seq.{take-append_seam}
use Rattle.std.proofs.KnownBytes.{Consumes-nil, Consumes-trans, Consumes-kept}
use Rattle.std.specs.Io.KnownBytes.{Consumes, Keeps}
use Rattle.octet_devices.specs.Device.{InputState}
use Rattle.archive_streams.specs.Pieces.{ReadsOn, reach, size_of}
use Rattle.archive_streams.specs.declared.pieces.Pieces.{Pieces}

-- octets of a piece are used
pub used_of : (start end used : ℕ) (piece : List ℕ) → used ≤ length (take (end - start) (drop start piece))
    → take (end - (start + used)) (drop (start + used) piece) ≡ drop used (take (end - start) (drop start piece))
used_of start end used piece within =
    let len = length-take (end - start) (drop start piece) in
    let room : end - start ≡ used + (end - (start + used)) = omega (arith, within, len) in
    let drops : drop used (take (used + (end - (start + used))) (drop start piece))
    ≡ take (end - (start + used)) (drop (start + used) piece) =
    drop-take used (end - (start + used)) (drop start piece)
    ∙ ap (take (end - (start + used))) (drop-drop used start piece) in
    sym (ap (λ (n : ℕ). drop used (take n (drop start piece))) room ∙ drops)

-- as many calls of the same size can have given as many octets
reach_same : (p q : Pieces) → size_of q ≡ size_of p → q.calls ≡ p.calls → reach q ≡ reach p
reach_same p q size calls = ap (λ (n : ℕ). n * q.calls) size ∙ ap (λ (n : ℕ). size_of p * n) calls

-- nothing was read
pub ReadsOn-same : (p : Pieces) (d : InputState) (s : List ℕ) → ReadsOn p p d d s s
ReadsOn-same p d s = record {
  more = [];
  consumed = Consumes-nil d.left;
  grown = sym (append-nil s);
  size = refl;
  far = omega arith;
  calls = λ h. omega arith;
  ends = λ h. omega arith;
  at_end = λ h. h;
}

-- nothing was read, and what was given is moved
pub ReadsOn-kept : (p q : Pieces) (d : InputState) (before after : List ℕ) → size_of q ≡ size_of p → q.calls ≡ p.calls
    → q.ends ≡ p.ends
    → after ≡ before → ReadsOn p q d d before after
ReadsOn-kept p q d before after size calls ends same = record {
  more = [];
  consumed = Consumes-nil d.left;
  grown = same ∙ sym (append-nil before);
  size = size;
  far = omega (arith, reach_same p q size calls);
  calls = λ h. omega (arith, calls);
  ends = λ h. omega (arith, ends);
  at_end = λ h k. h (omega (arith, k, ends));
}

-- one call after the other
pub ReadsOn-then : (p q r : Pieces) (d e f : InputState) (a b c : List ℕ) → ReadsOn p q d e a b → ReadsOn q r e f b c
    → ReadsOn p r d f a c
ReadsOn-then p q r d e f a b c x y = record {
  more = x.more ++ y.more;
  consumed = Consumes-trans d.left e.left f.left _ _ x.consumed y.consumed;
  grown = y.grown ∙ ap (λ (s : List ℕ). s ++ y.more) x.grown ∙ append_assoc a x.more y.more;
  size = y.size ∙ x.size;
  far = omega (arith, x.far, y.far, length-append x.more y.more);
  calls = λ h.
      let first = x.calls h in
      let second = y.calls (omega (arith, h, first)) in
      omega (arith, first, second);
  ends = λ h.
      let first = x.calls h in
      omega (arith, x.ends h, y.ends (omega (arith, h, first)));
  at_end = λ h. y.at_end (x.at_end h);
}

-- some of what stands before goes behind a text
pub ReadsOn-moved : (p q r : Pieces) (d e : InputState) (a b text after rest : List ℕ) (n : ℕ) → ReadsOn p q d e a b
    → size_of r ≡ size_of q → r.calls ≡ q.calls → r.ends ≡ q.ends
    → after ≡ text ++ take n b → rest ≡ drop n b → ReadsOn p r d e (text ++ a) (after ++ rest)
ReadsOn-moved p q r d e a b text after rest n x size calls ends is_after is_rest = record {
  more = x.more;
  consumed = x.consumed;
  grown =
      ap (λ (s : List ℕ). s ++ rest) is_after ∙ ap (λ (s : List ℕ). (text ++ take n b) ++ s) is_rest
      ∙ append_assoc text (take n b) (drop n b) ∙ ap (λ (s : List ℕ). text ++ s) (take-append-drop n b ∙ x.grown)
      ∙ sym (append_assoc text a x.more);
  size = size ∙ x.size;
  far = omega (arith, x.far, reach_same q r size calls);
  calls = λ h. omega (arith, x.calls h, calls);
  ends = λ h. omega (arith, x.ends h, ends);
  at_end = λ h k. x.at_end h (omega (arith, k, ends));
}

-- nothing goes behind a text
pub ReadsOn-behind : (p q : Pieces) (d e : InputState) (a b text : List ℕ) → ReadsOn p q d e a b
    → ReadsOn p q d e (text ++ a) (text ++ b)
ReadsOn-behind p q d e a b text x = record {
  more = x.more;
  consumed = x.consumed;
  grown = ap (λ (s : List ℕ). text ++ s) x.grown ∙ sym (append_assoc text a x.more);
  size = x.size;
  far = x.far;
  calls = x.calls;
  ends = x.ends;
  at_end = x.at_end;
}

-- known octets stay as they were: none was given
pub Consumes-none : (a b : Option (List ℕ)) → Keeps a b → Consumes a b []
Consumes-none a b h = Consumes-kept a a b [] (Consumes-nil a) h

-- no octet is unused
pub none_unused : (start end : ℕ) (piece : List ℕ) → end ≤ start → take (end - start) (drop start piece) ≡ []
none_unused start end piece h = let none : end - start ≡ 0 = omega arith in rw none refl

-- the octets from the first one on
less_none : (n : ℕ) → n - 0 ≡ n
less_none n = omega arith

first_of : (n : ℕ) (s : List ℕ) → take (n - 0) (drop 0 s) ≡ take n s
first_of n [] = ap (λ (k : ℕ). take k []) (less_none n)
first_of n (x ∷ s) = ap (λ (k : ℕ). take k (x ∷ s)) (less_none n)

-- what a call leaves in a piece of so many octets
refilled : (size : ℕ) (piece buf : List ℕ) → length buf ≡ size → take size (buf ++ drop (length buf) piece) ≡ buf
refilled size piece buf same =
    subst (λ (n : ℕ). take n (buf ++ drop (length buf) piece) ≡ buf) same
    (take-append_seam buf (drop (length buf) piece))

-- all octets were used, and others were given
pub given_anew : (size start end n : ℕ) (piece buf : List ℕ) → length buf ≡ size → end ≤ start
    → take (n - 0) (drop 0 (take size (buf ++ drop (length buf) piece)))
    ≡ take (end - start) (drop start piece) ++ take n buf
given_anew size start end n piece buf same used =
    ap (λ (s : List ℕ). take (n - 0) (drop 0 s)) (refilled size piece buf same) ∙ first_of n buf
    ∙ sym (ap (λ (s : List ℕ). s ++ take n buf) (none_unused start end piece used))

-- one call gives no more than it asked for
pub one_call : (size calls n : ℕ) (buf : List ℕ) → length buf ≡ size → n ≤ length buf
    → length (take n buf) + size * calls ≤ size * (calls + 1)
one_call size calls n buf same within = omega (arith, length-take n buf, within, same)
