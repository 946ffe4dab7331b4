-- Two ascending lists become one.
use Rattle.std.proofs.Common.{◌≡◌, ℕ, suc, ◌+◌, ◌≤◌, ◌∙◌, List, [], ◌∷◌, ◌++◌, Option, Some, length, take, drop, refl}
use Rattle.std.proofs.Common.{sym, ap, subst, inl, inr, add-one, append_assoc, append-nil, take-append-drop}
use Rattle.std.specs.Prelude.{◌↔◌, ◌⊎◌}
use Rattle.std.proofs.lemmas.List.{drop_all}
use Rattle.std.specs.List.{AllByRecursion, slice_get}
use Rattle.archive_text.specs.Entries.{Entry, Has, IsAscending, IsBelow}
use Rattle.archive_text.proofs.Ascending.{ascending_across, ascending_join, ascending_right}
use Rattle.archive_text.proofs.Members.{has_either, has_left, has_right, of_all, of_member}
use Rattle.archive_vec.proofs.Finding.{above_from}
use Rattle.archive_vec.proofs.Putting.{drop_with, take_with}

-- the list has what stands before two indices, and all of it is below what follows them
pub record IsMerging (a b list : List Entry) (i j : ℕ) : Type 0 where
  pub members : (x : Entry) → Has list x ↔ (Has (take i a) x ⊎ Has (take j b) x)
  pub below_left : (x y : Entry) → Has list x → Has (drop i a) y → IsBelow x y
  pub below_right : (x y : Entry) → Has list x → Has (drop j b) y → IsBelow x y

pub merging_start : (a b : List Entry) → IsMerging a b [] 0 0
merging_start a b =
    record {
      members = λ x. (λ h. absurd h, λ h. elim h [ inl p ↦ p | inr q ↦ q ]);
      below_left = λ x y h k. absurd h;
      below_right = λ x y h k. absurd h;
    }

merging_swap : (a b list : List Entry) (i j : ℕ) → IsMerging a b list i j → IsMerging b a list j i
merging_swap a b list i j m =
    record {
      members = λ x. (
        λ h. elim ((m.members x).0 h) as (λ _. Has (take j b) x ⊎ Has (take i a) x) [ inl p ↦ inr p | inr q ↦ inl q ],
        λ h. (m.members x).1 (elim h as (λ _. Has (take i a) x ⊎ Has (take j b) x) [ inl p ↦ inr p | inr q ↦ inl q ]),
      );
      below_left = m.below_right;
      below_right = m.below_left;
    }

-- what is at an index is behind it, and before the next
at_is_behind : (a : List Entry) (e : Entry) (i : ℕ) → slice_get a i ≡ Some e → Has (drop i a) e
at_is_behind a e i at = subst (λ (l : List Entry). Has l e) (sym (drop_with a e i at)) (inl refl)

at_is_before : (a : List Entry) (e : Entry) (i : ℕ) → slice_get a i ≡ Some e → Has (take (suc i) a) e
at_is_before a e i at = subst (λ (l : List Entry). Has l e) (sym (take_with a e i at))
    (has_right (take i a) (e ∷ []) e (inl refl))

behind_next : (a : List Entry) (e x : Entry) (i : ℕ) → slice_get a i ≡ Some e → Has (drop (suc i) a) x
    → Has (drop i a) x
behind_next a e x i at h = subst (λ (l : List Entry). Has l x) (sym (drop_with a e i at)) (inr h)

before_next : (a : List Entry) (e x : Entry) (i : ℕ) → slice_get a i ≡ Some e → Has (take i a) x
    → Has (take (suc i) a) x
before_next a e x i at h = subst (λ (l : List Entry). Has l x) (sym (take_with a e i at))
    (has_left (take i a) (e ∷ []) x h)

before_either : (a : List Entry) (e x : Entry) (i : ℕ) → slice_get a i ≡ Some e → Has (take (suc i) a) x
    → Has (take i a) x ⊎ (e ≡ x)
before_either a e x i at h =
    elim (has_either (take i a) (e ∷ []) x (subst (λ (l : List Entry). Has l x) (take_with a e i at) h)) as
    (λ _. Has (take i a) x ⊎ (e ≡ x)) [
      | inl p ↦ inl p
      | inr q ↦ elim q as (λ _. Has (take i a) x ⊎ (e ≡ x)) [ inl same ↦ inr same | inr none ↦ absurd none ]
    ]

-- what is at an index is below all that follows
at_is_below : (a : List Entry) (e y : Entry) (i : ℕ) → IsAscending a → slice_get a i ≡ Some e → Has (drop (suc i) a) y
    → IsBelow e y
at_is_below a e y i order at h =
    ascending_across (take (suc i) a) (drop (suc i) a) e y (subst IsAscending (sym (take-append-drop (suc i) a)) order)
    (at_is_before a e i at) h

-- a member of a list with one more
pushed_either : (list : List Entry) (e x : Entry) → Has (list ++ e ∷ []) x → Has list x ⊎ (e ≡ x)
pushed_either list e x h =
    elim (has_either list (e ∷ []) x h) as (λ _. Has list x ⊎ (e ≡ x)) [
      | inl p ↦ inl p
      | inr q ↦ elim q as (λ _. Has list x ⊎ (e ≡ x)) [ inl same ↦ inr same | inr none ↦ absurd none ]
    ]

-- the entry on the left is the next
step_suc : (a b list : List Entry) (l r : Entry) (i j : ℕ) → IsAscending a → IsAscending b → slice_get a i ≡ Some l
    → slice_get b j ≡ Some r → IsBelow l r
    → IsMerging a b list i j → IsMerging a b (list ++ l ∷ []) (suc i) j
step_suc a b list l r i j order_a order_b at_l at_r low m =
    let above_l : AllByRecursion (IsBelow l) (drop j b) = above_from b l r j order_b at_r low in
    record {
      members = λ x. (
        λ h. elim (pushed_either list l x h) as (λ _. Has (take (suc i) a) x ⊎ Has (take j b) x) [
          | inl p ↦
              elim ((m.members x).0 p) as (λ _. Has (take (suc i) a) x ⊎ Has (take j b) x)
              [ inl u ↦ inl (before_next a l x i at_l u) | inr v ↦ inr v ]
          | inr same ↦ inl (subst (Has (take (suc i) a)) same (at_is_before a l i at_l))
        ],
        λ h. elim h as (λ _. Has (list ++ l ∷ []) x) [
          | inl p ↦
              elim (before_either a l x i at_l p) as (λ _. Has (list ++ l ∷ []) x) [
                | inl u ↦ has_left list (l ∷ []) x ((m.members x).1 (inl u))
                | inr same ↦ has_right list (l ∷ []) x (inl same)
              ]
          | inr q ↦ has_left list (l ∷ []) x ((m.members x).1 (inr q))
        ],
      );
      below_left = λ x y h k. elim (pushed_either list l x h) as (λ _. IsBelow x y) [
        | inl p ↦ m.below_left x y p (behind_next a l y i at_l k)
        | inr same ↦ subst (λ (z : Entry). IsBelow z y) same (at_is_below a l y i order_a at_l k)
      ];
      below_right = λ x y h k. elim (pushed_either list l x h) as (λ _. IsBelow x y) [
        | inl p ↦ m.below_right x y p k
        | inr same ↦ subst (λ (z : Entry). IsBelow z y) same (of_member (IsBelow l) (drop j b) y above_l k)
      ];
    }

pub step_left : (a b list new : List Entry) (l r : Entry) (i j : ℕ) → IsAscending a → IsAscending b
    → slice_get a i ≡ Some l → slice_get b j ≡ Some r → IsBelow l r
    → new ≡ list ++ l ∷ [] → IsMerging a b list i j → IsMerging a b new (i + 1) j
step_left a b list new l r i j order_a order_b at_l at_r low is m =
    rw (is, add-one) (step_suc a b list l r i j order_a order_b at_l at_r low m)

pub step_right : (a b list new : List Entry) (l r : Entry) (i j : ℕ) → IsAscending a → IsAscending b
    → slice_get a i ≡ Some l → slice_get b j ≡ Some r → IsBelow r l
    → new ≡ list ++ r ∷ [] → IsMerging a b list i j → IsMerging a b new i (j + 1)
step_right a b list new l r i j order_a order_b at_l at_r low is m =
    merging_swap b a new (j + 1) i (step_left b a list new r l j i order_b order_a at_r at_l low is
    (merging_swap a b list i j m))

-- the entries on both sides are one
both_suc : (a b list : List Entry) (l : Entry) (i j : ℕ) → IsAscending a → IsAscending b → slice_get a i ≡ Some l
    → slice_get b j ≡ Some l
    → IsMerging a b list i j → IsMerging a b (list ++ l ∷ []) (suc i) (suc j)
both_suc a b list l i j order_a order_b at_l at_r m =
    record {
      members = λ x. (
        λ h. elim (pushed_either list l x h) as (λ _. Has (take (suc i) a) x ⊎ Has (take (suc j) b) x) [
          | inl p ↦
              elim ((m.members x).0 p) as (λ _. Has (take (suc i) a) x ⊎ Has (take (suc j) b) x) [
                | inl u ↦ inl (before_next a l x i at_l u)
                | inr v ↦ inr (before_next b l x j at_r v)
              ]
          | inr same ↦ inl (subst (Has (take (suc i) a)) same (at_is_before a l i at_l))
        ],
        λ h. elim h as (λ _. Has (list ++ l ∷ []) x) [
          | inl p ↦
              elim (before_either a l x i at_l p) as (λ _. Has (list ++ l ∷ []) x) [
                | inl u ↦ has_left list (l ∷ []) x ((m.members x).1 (inl u))
                | inr same ↦ has_right list (l ∷ []) x (inl same)
              ]
          | inr q ↦
              elim (before_either b l x j at_r q) as (λ _. Has (list ++ l ∷ []) x) [
                | inl u ↦ has_left list (l ∷ []) x ((m.members x).1 (inr u))
                | inr same ↦ has_right list (l ∷ []) x (inl same)
              ]
        ],
      );
      below_left = λ x y h k. elim (pushed_either list l x h) as (λ _. IsBelow x y) [
        | inl p ↦ m.below_left x y p (behind_next a l y i at_l k)
        | inr same ↦ subst (λ (z : Entry). IsBelow z y) same (at_is_below a l y i order_a at_l k)
      ];
      below_right = λ x y h k. elim (pushed_either list l x h) as (λ _. IsBelow x y) [
        | inl p ↦ m.below_right x y p (behind_next b l y j at_r k)
        | inr same ↦ subst (λ (z : Entry). IsBelow z y) same (at_is_below b l y j order_b at_r k)
      ];
    }

pub step_both : (a b list new : List Entry) (l r : Entry) (i j : ℕ) → IsAscending a → IsAscending b
    → slice_get a i ≡ Some l → slice_get b j ≡ Some r → l ≡ r
    → new ≡ list ++ l ∷ [] → IsMerging a b list i j → IsMerging a b new (i + 1) (j + 1)
step_both a b list new l r i j order_a order_b at_l at_r same is m =
    let there : slice_get b j ≡ Some l = at_r ∙ ap (λ (x : Entry). let o : Option Entry = Some x in o) (sym same) in
    let done = both_suc a b list l i j order_a order_b at_l there m in
    subst (λ (n : ℕ). IsMerging a b new n (j + 1)) (sym (add-one i))
    (subst (λ (n : ℕ). IsMerging a b new (suc i) n) (sym (add-one j))
    (subst (λ (es : List Entry). IsMerging a b es (suc i) (suc j)) (sym is) done))

-- the next entry goes behind the list
pub left_goes_on : (a b list : List Entry) (l : Entry) (i j : ℕ) → slice_get a i ≡ Some l → IsMerging a b list i j
    → AllByRecursion (λ x. IsBelow x l) list
left_goes_on a b list l i j at m = of_all (λ x. IsBelow x l) list (λ x h. m.below_left x l h (at_is_behind a l i at))

pub right_goes_on : (a b list : List Entry) (r : Entry) (i j : ℕ) → slice_get b j ≡ Some r → IsMerging a b list i j
    → AllByRecursion (λ x. IsBelow x r) list
right_goes_on a b list r i j at m = of_all (λ x. IsBelow x r) list (λ x h. m.below_right x r h (at_is_behind b r j at))

-- one side is done, and so nothing of it is left to be below the rest of the other
pub separated : (a b list new : List Entry) (i j : ℕ) → IsMerging a b list i j → (length a ≤ i) ⊎ (length b ≤ j)
    → new ≡ list ++ drop i a
    → (x y : Entry) → Has new x → Has (drop j b) y → IsBelow x y
separated a b list new i j m done is x y h k =
    elim (has_either list (drop i a) x (subst (λ (l : List Entry). Has l x) is h)) as (λ _. IsBelow x y) [
      | inl p ↦ m.below_right x y p k
      | inr q ↦
          elim done as (λ _. IsBelow x y) [
            | inl end ↦ absurd (subst (λ (l : List Entry). Has l x) (drop_all i a end) q)
            | inr end ↦ absurd (subst (λ (l : List Entry). Has l y) (drop_all j b end) k)
          ]
    ]

-- all is merged
pub merged : (a b list mid new : List Entry) (i j : ℕ) → IsMerging a b list i j → mid ≡ list ++ drop i a
    → new ≡ mid ++ drop j b
    → (x : Entry) → Has new x ↔ (Has a x ⊎ Has b x)
merged a b list mid new i j m mid_is new_is x =
    let whole_a : take i a ++ drop i a ≡ a = take-append-drop i a in
    let whole_b : take j b ++ drop j b ≡ b = take-append-drop j b in
    let in_a : Has (take i a ++ drop i a) x → Has a x = λ h. subst (λ (l : List Entry). Has l x) whole_a h in
    let in_b : Has (take j b ++ drop j b) x → Has b x = λ h. subst (λ (l : List Entry). Has l x) whole_b h in (
      λ h. let either = has_either mid (drop j b) x (subst (λ (l : List Entry). Has l x) new_is h) in
          elim either as (λ _. Has a x ⊎ Has b x) [
            | inl p ↦
                elim (has_either list (drop i a) x (subst (λ (l : List Entry). Has l x) mid_is p)) as
                (λ _. Has a x ⊎ Has b x) [
                  | inl u ↦
                      elim ((m.members x).0 u) as (λ _. Has a x ⊎ Has b x) [
                        | inl v ↦ inl (in_a (has_left (take i a) (drop i a) x v))
                        | inr w ↦ inr (in_b (has_left (take j b) (drop j b) x w))
                      ]
                  | inr v ↦ inl (in_a (has_right (take i a) (drop i a) x v))
                ]
            | inr q ↦ inr (in_b (has_right (take j b) (drop j b) x q))
          ],
      λ h. subst (λ (l : List Entry). Has l x) (sym new_is) (elim h as (λ _. Has (mid ++ drop j b) x) [
        | inl p ↦
            has_left mid (drop j b) x (subst (λ (l : List Entry). Has l x) (sym mid_is)
            (elim (has_either (take i a) (drop i a) x (subst (λ (l : List Entry). Has l x) (sym whole_a) p)) as
            (λ _. Has (list ++ drop i a) x) [
              | inl u ↦ has_left list (drop i a) x ((m.members x).1 (inl u))
              | inr v ↦ has_right list (drop i a) x v
            ]))
        | inr q ↦
            elim (has_either (take j b) (drop j b) x (subst (λ (l : List Entry). Has l x) (sym whole_b) q)) as
            (λ _. Has (mid ++ drop j b) x) [
              | inl u ↦ has_left mid (drop j b) x (subst (λ (l : List Entry). Has l x) (sym mid_is)
                  (has_left list (drop i a) x ((m.members x).1 (inr u))))
              | inr v ↦ has_right mid (drop j b) x v
            ]
      ]),
    )

-- ---- the rest of one side

-- an entry of the rest goes behind those before it
pub rest_goes_on : (old rest list es : List Entry) (e : Entry) (k : ℕ) → IsAscending old → IsAscending rest
    → ((x y : Entry) → Has old x → Has rest y → IsBelow x y)
    → list ++ drop k es ≡ old ++ rest → slice_get es k ≡ Some e → AllByRecursion (λ x. IsBelow x e) list
rest_goes_on old rest list es e k order_old order_rest apart is at =
    let whole : IsAscending (list ++ drop k es) =
    subst IsAscending (sym is) (ascending_join old rest order_old order_rest apart) in
    of_all (λ x. IsBelow x e) list (λ x h. ascending_across list (drop k es) x e whole h (at_is_behind es e k at))

pub rest_pushed : (list new es all : List Entry) (e : Entry) (k : ℕ) → list ++ drop k es ≡ all → slice_get es k ≡ Some e
    → new ≡ list ++ e ∷ []
    → new ++ drop (k + 1) es ≡ all
rest_pushed list new es all e k is at new_is =
    ap (λ (l : List Entry). l ++ drop (k + 1) es) new_is ∙ append_assoc list (e ∷ []) (drop (k + 1) es)
    ∙ ap (λ (n : ℕ). list ++ e ∷ drop n es) (add-one k) ∙ ap (λ (l : List Entry). list ++ l) (sym (drop_with es e k at))
    ∙ is

pub rest_done : (list es all : List Entry) (k : ℕ) → list ++ drop k es ≡ all → length es ≤ k → list ≡ all
rest_done list es all k is end = sym (append-nil list) ∙ ap (λ (l : List Entry). list ++ l) (sym (drop_all k es end))
    ∙ is

pub drop_ascends : (es : List Entry) (k : ℕ) → IsAscending es → IsAscending (drop k es)
drop_ascends es k order = ascending_right (take k es) (drop k es)
    (subst IsAscending (sym (take-append-drop k es)) order)
