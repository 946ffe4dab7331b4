-- Lists of frames.
use Rattle.std.proofs.Common.{◌≡◌, ◌≤◌, ℕ, ◌+◌, ◌-◌, List, [], ◌∷◌, ◌++◌, length, take, drop, sym, ap, subst, ◌∙◌, arith}
use Rattle.std.proofs.Common.{inl, inr, append_assoc}
use Rattle.std.proofs.Math.Seq.{drop-append-add}
use Rattle.std.proofs.lemmas.List.{length-append, length-drop, length-take-le, take-append-drop}
use Rattle.std.proofs.Common.{Vec}
use Rattle.std.specs.List.{AllByRecursion}
use Rattle.archive_text.proofs.Members.{all_append}
use Rattle.archive_text.specs.declared.limits.TheConstants.{ENTRY_MAX}
use Rattle.record_choice.specs.Choices.{AreChosen, last_of}

-- what is chosen of frames, and of those behind them
pub chosen_append : (P : List ℕ → Type 0) (fs gs cs ds : List (List ℕ)) → AreChosen P fs cs → AreChosen P gs ds
    → AreChosen P (fs ++ gs) (cs ++ ds)
chosen_append P [] gs cs ds h k = subst (λ xs. AreChosen P gs (xs ++ ds)) (sym h) k
chosen_append P (f ∷ fs) gs cs ds (inl (p, (es, a, e))) k =
    inl (p, (es ++ ds, chosen_append P fs gs es ds a k, ap (λ xs. xs ++ ds) e))
chosen_append P (f ∷ fs) gs cs ds (inr (other, a)) k = inr (other, chosen_append P fs gs cs ds a k)

-- one choice
pub chosen_unique : (P : List ℕ → Type 0) (fs cs ds : List (List ℕ)) → AreChosen P fs cs → AreChosen P fs ds → cs ≡ ds
chosen_unique P [] cs ds h k = h ∙ sym k
chosen_unique P (f ∷ fs) cs ds (inl (p, (es, a, e))) (inl (q, (es', b, e'))) =
    e ∙ ap (λ xs. f ∷ xs) (chosen_unique P fs es es' a b) ∙ sym e'
chosen_unique P (f ∷ fs) cs ds (inl (p, a)) (inr (other, b)) = absurd (other p)
chosen_unique P (f ∷ fs) cs ds (inr (other, a)) (inl (p, b)) = absurd (other p)
chosen_unique P (f ∷ fs) cs ds (inr (other, a)) (inr (also, b)) = chosen_unique P fs cs ds a b

-- the last of the last ones and of what follows
pub last_append : (n : ℕ) (xs ys : List (List ℕ)) → last_of n (last_of n xs ++ ys) ≡ last_of n (xs ++ ys)
last_append n xs ys =
    let k : ℕ = length xs - n in
    let zs : List (List ℕ) = drop k xs ++ ys in
    let within : k ≤ length xs = omega arith in
    let parts : xs ++ ys ≡ take k xs ++ zs =
    ap (λ (l : List (List ℕ)). l ++ ys) (sym (take-append-drop k xs)) ∙ append_assoc (take k xs) (drop k xs) ys in
    let all : length (xs ++ ys) - n ≡ length (take k xs) + (length zs - n) =
    omega (arith, length-append xs ys, length-take-le k xs within, length-append (drop k xs) ys, length-drop k xs) in
    sym (ap (λ (m : ℕ). drop m (xs ++ ys)) all ∙ ap (λ (l : List (List ℕ)). drop (length (take k xs) + (length zs - n)) l) parts
    ∙ drop-append-add (take k xs) zs (length zs - n))

-- frames that are short
abbrev AreShort : {Z : Type 0} → List (Vec ℕ Z) → Type 0
AreShort vs = AllByRecursion (λ v. length v.items ≤ ENTRY_MAX) vs

pub short_pushed : {Z : Type 0} (ws vs : List (Vec ℕ Z)) (v : Vec ℕ Z) → ws ≡ vs ++ v ∷ [] → length v.items ≤ ENTRY_MAX
    → AreShort vs → AreShort ws
short_pushed ws vs v is short h =
    subst AreShort (sym is) (all_append (λ v. length v.items ≤ ENTRY_MAX) vs (v ∷ []) h (short, tt))

dropped : {Z : Type 0} (vs : List (Vec ℕ Z)) → AreShort vs → AreShort (drop 1 vs)
dropped [] h = h
dropped (v ∷ vs) h = h.1

pub short_dropped : {Z : Type 0} (ws vs : List (Vec ℕ Z)) → ws ≡ drop 1 vs → AreShort vs → AreShort ws
short_dropped ws vs is h = subst AreShort (sym is) (dropped vs h)
