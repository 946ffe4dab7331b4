-- A path that leads to the root begins at an entry, unless SHA-256 is the same of two texts.
use Rattle.std.proofs.Common.{◌≡◌, ℕ, zero, suc, ◌+◌, ◌-◌, ◌^◌, ◌<◌, ◌≤◌, ◌⊎◌, inl, inr, List, [], ◌∷◌, ◌++◌, length}
use Rattle.std.proofs.Common.{take, drop, refl, sym, ap, subst, ◌∙◌, arith, length-append}
use Rattle.std.specs.Prelude.{Option, None, Some}
use Rattle.std.specs.Option.{option_map}
use Rattle.std.proofs.lemmas.List.{take_at, drop_at, take-append-drop, length-drop, length-take-le}
use Rattle.sha2.specs.Sha256.{sha256}
use Rattle.sha2.proofs.Facts256.{length-sha256}
use Rattle.archive_tree.specs.Tree.{leaf_hash, node_hash, hash_to}
use Rattle.archive_tree.proofs.TreeLaws.{double, hash_small, hash_split}
use Rattle.archive_proof.specs.Entries.{IsAt}
use Rattle.archive_proof.specs.Climbing.{climb, IsHashedBy, Collision}
use Rattle.archive_proof.proofs.Climbs.{climb_none, climb_small, climb_left, climb_right}
use Rattle.archive_proof.proofs.Places.{at_left, at_right}
use Rattle.archive_proof.proofs.Hashes.{same_or_not, le_or_gt, in_small, in_node, in_left, in_right, in_one, by_small}
use Rattle.archive_proof.proofs.Hashes.{by_left, by_right, by_one, hash_length, climb_length}

-- the entry is there, or two texts collide
abbrev pub Sound : ℕ → List (List ℕ) → ℕ → List ℕ → List (List ℕ) → Type 0
Sound h xs i e ps = IsAt xs i e ⊎ Collision h xs i e ps

-- ---- one entry

one_entry : (x e : List ℕ) (ps : List (List ℕ)) → sha256 (0 ∷ x) ≡ sha256 (0 ∷ e) → Sound 0 (x ∷ []) 0 e ps
one_entry x e ps same = elim (same_or_not (0 ∷ x) (0 ∷ e)) [
  | inl equal ↦ inl (let k : x ≡ e = cc in k)
  | inr differ ↦ inr (record {
    in_tree = 0 ∷ x;
    on_way = 0 ∷ e;
    hashed_in = in_one x;
    hashed_by = by_one 1 0 e ps;
    differ = differ;
    same = same;
  })
]

sound_one : (xs : List (List ℕ)) (i : ℕ) (e : List ℕ) (ps : List (List ℕ)) → length xs ≤ 1 → i < length xs
    → climb 0 (length xs) i (leaf_hash e) ps ≡ Some (hash_to 0 xs) → Sound 0 xs i e ps
unfolding climb hash_to
sound_one [] i e ps fits here same = absurd (omega arith)
sound_one (x ∷ y ∷ ys) i e ps fits here same = absurd (omega arith)
sound_one (x ∷ []) (suc i) e ps fits here same = absurd (omega arith)
sound_one (x ∷ []) zero e (p ∷ ps) fits here same = cc
sound_one (x ∷ []) zero e [] fits here same = one_entry x e [] (let k : sha256 (0 ∷ x) ≡ sha256 (0 ∷ e) = cc in k)

-- ---- a level with room to spare

lift_small : (h : ℕ) (xs : List (List ℕ)) (i : ℕ) (e : List ℕ) (ps : List (List ℕ)) → length xs ≤ 2 ^ h
    → Sound h xs i e ps → Sound (suc h) xs i e ps
lift_small h xs i e ps fits (inl at) = inl at
lift_small h xs i e ps fits (inr c) = inr (record {
  in_tree = c.in_tree;
  on_way = c.on_way;
  hashed_in = in_small h xs c.in_tree fits c.hashed_in;
  hashed_by = by_small h (length xs) i e ps c.on_way fits c.hashed_by;
  differ = c.differ;
  same = c.same;
})

-- ---- two parts

prefix : (a b x y : List ℕ) → length a ≡ length b → b ++ y ≡ a ++ x → a ≡ b
prefix a b x y size same =
    sym (take_at a x (length a) refl) ∙ ap (λ (l : List ℕ). take (length a) l) (sym same) ∙ take_at b y (length a)
    (sym size)

suffix : (a b x y : List ℕ) → length x ≡ length y → b ++ y ≡ a ++ x → x ≡ y
suffix a b x y size same =
    let whole : length b + length y ≡ length a + length x =
    sym (length-append b y) ∙ ap (λ (l : List ℕ). length l) same ∙ length-append a x in
    let e : length b ≡ length a = omega arith in
    sym (drop_at a x (length a) refl) ∙ ap (λ (l : List ℕ). drop (length a) l) (sym same) ∙ drop_at b y (length a) e

lift_left : (h : ℕ) (l r : List (List ℕ)) (i : ℕ) (e p : List ℕ) (ps : List (List ℕ)) → length l ≡ 2 ^ h → 0 < length r
    → i < 2 ^ h → Sound h l i e ps → Sound (suc h) (l ++ r) i e (p ∷ ps)
lift_left h l r i e p ps size some here (inl at) = inl (at_left l r i e at)
lift_left h l r i e p ps size some here (inr c) =
    let more : 2 ^ h < length (l ++ r) = omega (arith, length-append l r) in
    inr (record {
      in_tree = c.in_tree;
      on_way = c.on_way;
      hashed_in = in_left h l r c.in_tree size some c.hashed_in;
      hashed_by = by_left h (length (l ++ r)) i e p ps c.on_way more here
          (inr (subst (λ (n : ℕ). IsHashedBy h n i e ps c.on_way) size c.hashed_by));
      differ = c.differ;
      same = c.same;
    })

lift_right : (h : ℕ) (l r : List (List ℕ)) (i : ℕ) (e p : List ℕ) (ps : List (List ℕ)) → length l ≡ 2 ^ h → 0 < length r
    → 2 ^ h ≤ i → Sound h r (i - 2 ^ h) e ps → Sound (suc h) (l ++ r) i e (p ∷ ps)
lift_right h l r i e p ps size some here (inl at) = inl (at_right l r i (i - 2 ^ h) e (omega arith) at)
lift_right h l r i e p ps size some here (inr c) =
    let more : 2 ^ h < length (l ++ r) = omega (arith, length-append l r) in
    let rest : length r ≡ length (l ++ r) - 2 ^ h = omega (arith, length-append l r) in
    inr (record {
      in_tree = c.in_tree;
      on_way = c.on_way;
      hashed_in = in_right h l r c.in_tree size some c.hashed_in;
      hashed_by = by_right h (length (l ++ r)) i e p ps c.on_way more here
          (inr (subst (λ (n : ℕ). IsHashedBy h n (i - 2 ^ h) e ps c.on_way) rest c.hashed_by));
      differ = c.differ;
      same = c.same;
    })

-- what the left part's root is
left_root : (h : ℕ) (l r : List (List ℕ)) (i : ℕ) (e p a : List ℕ) (ps : List (List ℕ)) → length l ≡ 2 ^ h → 0 <
    length r
    → i < 2 ^ h → climb h (2 ^ h) i (leaf_hash e) ps ≡ Some a
    → sha256 (1 ∷ hash_to h l ++ hash_to h r) ≡ sha256 (1 ∷ a ++ p)
    → (climb h (length l) i (leaf_hash e) ps ≡ Some (hash_to h l) → Sound h l i e ps)
    → Sound (suc h) (l ++ r) i e (p ∷ ps)
left_root h l r i e p a ps size some here low same go =
    let more : 2 ^ h < length (l ++ r) = omega (arith, length-append l r) in
    elim (same_or_not (1 ∷ hash_to h l ++ hash_to h r) (1 ∷ a ++ p)) [
      | inl equal ↦
          let tail : hash_to h l ++ hash_to h r ≡ a ++ p = cc in
          let sizes : length a ≡ length (hash_to h l) =
          climb_length h (2 ^ h) i (leaf_hash e) ps (length-sha256 (0 ∷ e)) a low ∙ sym (hash_length h l) in
          let root : a ≡ hash_to h l = prefix a (hash_to h l) p (hash_to h r) sizes tail in
          lift_left h l r i e p ps size some here (go (rw size (low ∙ ap Some root)))
      | inr differ ↦ inr (record {
        in_tree = 1 ∷ hash_to h l ++ hash_to h r;
        on_way = 1 ∷ a ++ p;
        hashed_in = in_node h l r size some;
        hashed_by = by_left h (length (l ++ r)) i e p ps (1 ∷ a ++ p) more here (inl (a, low, refl));
        differ = differ;
        same = same;
      })
    ]

right_root : (h : ℕ) (l r : List (List ℕ)) (i : ℕ) (e p b : List ℕ) (ps : List (List ℕ)) → length l ≡ 2 ^ h → 0 <
    length r
    → 2 ^ h ≤ i → climb h (length (l ++ r) - 2 ^ h) (i - 2 ^ h) (leaf_hash e) ps ≡ Some b
    → sha256 (1 ∷ hash_to h l ++ hash_to h r) ≡ sha256 (1 ∷ p ++ b)
    → (climb h (length r) (i - 2 ^ h) (leaf_hash e) ps ≡ Some (hash_to h r) → Sound h r (i - 2 ^ h) e ps)
    → Sound (suc h) (l ++ r) i e (p ∷ ps)
right_root h l r i e p b ps size some here low same go =
    let more : 2 ^ h < length (l ++ r) = omega (arith, length-append l r) in
    let rest : length r ≡ length (l ++ r) - 2 ^ h = omega (arith, length-append l r) in
    elim (same_or_not (1 ∷ hash_to h l ++ hash_to h r) (1 ∷ p ++ b)) [
      | inl equal ↦
          let tail : hash_to h l ++ hash_to h r ≡ p ++ b = cc in
          let sizes : length b ≡ length (hash_to h r) =
          climb_length h (length (l ++ r) - 2 ^ h) (i - 2 ^ h) (leaf_hash e) ps (length-sha256 (0 ∷ e)) b low
          ∙ sym (hash_length h r) in
          let root : b ≡ hash_to h r = suffix p (hash_to h l) b (hash_to h r) sizes tail in
          lift_right h l r i e p ps size some here
          (go (ap (λ (n : ℕ). climb h n (i - 2 ^ h) (leaf_hash e) ps) rest ∙ low ∙ ap Some root))
      | inr differ ↦ inr (record {
        in_tree = 1 ∷ hash_to h l ++ hash_to h r;
        on_way = 1 ∷ p ++ b;
        hashed_in = in_node h l r size some;
        hashed_by = by_right h (length (l ++ r)) i e p ps (1 ∷ p ++ b) more here (inl (b, low, refl));
        differ = differ;
        same = same;
      })
    ]

left_answer : (h : ℕ) (l r : List (List ℕ)) (i : ℕ) (e p : List ℕ) (ps : List (List ℕ)) (o : Option (List ℕ))
    → length l ≡ 2 ^ h → 0 < length r → i < 2 ^ h → climb h (2 ^ h) i (leaf_hash e) ps ≡ o
    → option_map (λ a. node_hash a p) o ≡ Some (node_hash (hash_to h l) (hash_to h r))
    → (climb h (length l) i (leaf_hash e) ps ≡ Some (hash_to h l) → Sound h l i e ps)
    → Sound (suc h) (l ++ r) i e (p ∷ ps)
left_answer h l r i e p ps None size some here low same go = cc
left_answer h l r i e p ps (Some a) size some here low same go =
    left_root h l r i e p a ps size some here low
    (let k : sha256 (1 ∷ hash_to h l ++ hash_to h r) ≡ sha256 (1 ∷ a ++ p) = cc in k) go

right_answer : (h : ℕ) (l r : List (List ℕ)) (i : ℕ) (e p : List ℕ) (ps : List (List ℕ)) (o : Option (List ℕ))
    → length l ≡ 2 ^ h → 0 < length r → 2 ^ h ≤ i
    → climb h (length (l ++ r) - 2 ^ h) (i - 2 ^ h) (leaf_hash e) ps ≡ o
    → option_map (λ b. node_hash p b) o ≡ Some (node_hash (hash_to h l) (hash_to h r))
    → (climb h (length r) (i - 2 ^ h) (leaf_hash e) ps ≡ Some (hash_to h r) → Sound h r (i - 2 ^ h) e ps)
    → Sound (suc h) (l ++ r) i e (p ∷ ps)
right_answer h l r i e p ps None size some here low same go = cc
right_answer h l r i e p ps (Some b) size some here low same go =
    right_root h l r i e p b ps size some here low
    (let k : sha256 (1 ∷ hash_to h l ++ hash_to h r) ≡ sha256 (1 ∷ p ++ b) = cc in k) go

sound_parts : (h : ℕ) (l r : List (List ℕ)) (i : ℕ) (e : List ℕ) (ps : List (List ℕ)) → length l ≡ 2 ^ h → 0 < length r
    → i < length (l ++ r) → climb (suc h) (length (l ++ r)) i (leaf_hash e) ps ≡ Some (hash_to (suc h) (l ++ r))
    → ((qs : List (List ℕ)) → i < length l → climb h (length l) i (leaf_hash e) qs ≡ Some (hash_to h l) → Sound h l i
    e qs)
    → ((qs : List (List ℕ)) → i - 2 ^ h < length r
    → climb h (length r) (i - 2 ^ h) (leaf_hash e) qs ≡ Some (hash_to h r) → Sound h r (i - 2 ^ h) e qs)
    → Sound (suc h) (l ++ r) i e ps
sound_parts h l r i e [] size some here same left right =
    let more : 2 ^ h < length (l ++ r) = omega (arith, length-append l r) in
    let none : None ≡ Some (hash_to (suc h) (l ++ r)) = sym (climb_none h (length (l ++ r)) i (leaf_hash e) more) ∙
    same in
    cc
sound_parts h l r i e (p ∷ ps) size some here same left right =
    let more : 2 ^ h < length (l ++ r) = omega (arith, length-append l r) in
    let root : Some (hash_to (suc h) (l ++ r)) ≡ Some (node_hash (hash_to h l) (hash_to h r)) =
    ap Some (hash_split h l r size some) in
    elim (le_or_gt (2 ^ h) i) [
      | inl beyond ↦
          right_answer h l r i e p ps (climb h (length (l ++ r) - 2 ^ h) (i - 2 ^ h) (leaf_hash e) ps) size some
          beyond refl
          (sym (climb_right h (length (l ++ r)) i (leaf_hash e) p ps more beyond) ∙ same ∙ root)
          (right ps (omega (arith, length-append l r)))
      | inr within ↦
          left_answer h l r i e p ps (climb h (2 ^ h) i (leaf_hash e) ps) size some within refl
          (sym (climb_left h (length (l ++ r)) i (leaf_hash e) p ps more within) ∙ same ∙ root)
          (left ps (omega arith))
    ]

-- ---- any level

abbrev SoundAt : ℕ → Type 0
SoundAt h =
    (xs : List (List ℕ)) (i : ℕ) (e : List ℕ) (ps : List (List ℕ)) → length xs ≤ 2 ^ h → i < length xs
    → climb h (length xs) i (leaf_hash e) ps ≡ Some (hash_to h xs) → Sound h xs i e ps

sound_above : (h : ℕ) → SoundAt h → SoundAt (suc h)
sound_above h go xs i e ps fits here same = elim (le_or_gt (length xs) (2 ^ h)) [
  | inl small ↦ lift_small h xs i e ps small (go xs i e ps small here
      (sym (climb_small h (length xs) i (leaf_hash e) ps small) ∙ same ∙ ap Some (hash_small h xs small)))
  | inr more ↦
      let whole : take (2 ^ h) xs ++ drop (2 ^ h) xs ≡ xs = take-append-drop (2 ^ h) xs in
      let size : length (take (2 ^ h) xs) ≡ 2 ^ h = length-take-le (2 ^ h) xs (omega arith) in
      let rest : length (drop (2 ^ h) xs) ≡ length xs - 2 ^ h = length-drop (2 ^ h) xs in
      let some : 0 < length (drop (2 ^ h) xs) = omega arith in
      let narrow : length (drop (2 ^ h) xs) ≤ 2 ^ h = omega (arith, double h) in
      subst (λ (l : List (List ℕ)). Sound (suc h) l i e ps) whole
      (sound_parts h (take (2 ^ h) xs) (drop (2 ^ h) xs) i e ps size some
      (subst (λ (l : List (List ℕ)). i < length l) (sym whole) here)
      (subst (λ (l : List (List ℕ)). climb (suc h) (length l) i (leaf_hash e) ps ≡ Some (hash_to (suc h) l)) (sym
      whole) same)
      (λ qs inside low. go (take (2 ^ h) xs) i e qs (omega arith) inside low)
      (λ qs inside low. go (drop (2 ^ h) xs) (i - 2 ^ h) e qs narrow inside low))
]

pub sound : (h : ℕ) → SoundAt h
sound zero xs i e ps fits here same = sound_one xs i e ps fits here same
sound (suc h) xs i e ps fits here same = sound_above h (sound h) xs i e ps fits here same
