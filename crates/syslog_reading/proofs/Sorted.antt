-- Ids that differ, as sorted keys tell.
use Rattle.std.proofs.Common.{◌≡◌, ℕ, zero, suc, ◌+◌, ◌-◌, ◌<◌, ◌≤◌, List, [], ◌∷◌, ◌++◌, length, take, drop, set}
use Rattle.std.proofs.Common.{get_or, refl, sym, ap, subst, ◌∙◌, append_assoc, arith, inl, inr, ◌⊎◌}
use Rattle.std.specs.List.{Contains}
use Rattle.std.specs.List.Sorted.{IsPermutation}
use Rattle.std.proofs.lemmas.List.{append-nil, append_cancel_right, drop_at, length-append, map-append, take_more_set}
use Rattle.std.proofs.lemmas.List.Elements.{Contains-append_cases, Contains-append_left, Contains-append_right}
use Rattle.std.proofs.lemmas.List.Sorted.{Contains-permutation, IsPermutation-append_left, IsPermutation-append_right}
use Rattle.std.proofs.lemmas.List.Sorted.{IsPermutation-sym}
use Rattle.std.proofs.lemmas.Grind.{take_at_read}
use borrow.Rule.Slice.PartMut.{mid_of, post_of, put_mid, put_same}
use Rattle.std.specs.Ordering.{MatchOrdering}
use Rattle.std.specs.declared.cmp.Ordering.{Ordering}
use Rattle.std.specs.declared.cmp.Ordering.TheVariants.{Less, Equal, Greater}
use Rattle.octet_language.specs.Language.{AnyOf, Each}
use Rattle.octet_language.proofs.Lists.{heads}
use Rattle.syslog_value.specs.Order.{OctetsBelow}
use Rattle.syslog_value.specs.Parts.{ElementParts}
use Rattle.syslog_value.specs.Structured.{HasId}
use Rattle.syslog_value.proofs.Octets.{below_itself, below_trans}
use Rattle.syslog_fields.specs.Grammar.{Element, StructuredDataText}
use Rattle.syslog_fields.specs.FirstElements.{IsFirstId, SplitsElement}
use Rattle.syslog_fields.specs.Spans.{ElementSpan}
use Rattle.syslog_fields.proofs.Loops.{left_at}
use Rattle.syslog_fields.proofs.ParamTexts.{IsPrefixFree-element, element_prefix}
use Rattle.syslog_reading.specs.Faults.{AreDistinct}
use Rattle.syslog_reading.specs.Ids.{Known, Skips}
use Rattle.syslog_reading.specs.IdKeys.{BeginsAt, DifferUpTo, IsEnd, LieAt, Offered, RepeatFrom, offset_of, offsets}
use Rattle.syslog_reading.proofs.OneMeaning.{by_prefix}
use Rattle.syslog_reading.proofs.Repeating.{each_join, skips_more, skips_none, split}

-- ---- the offsets of keys

pub offsets_set : (keys : List ℕ) (i key d : ℕ) → i < length keys → offset_of key ≡ offset_of (get_or keys i d)
    → offsets (set keys i key) ≡ offsets keys
offsets_set [] i key d less e = refl
offsets_set (k ∷ keys) zero key d less e = ap (λ (o : ℕ). o ∷ offsets keys) e
offsets_set (k ∷ keys) (suc i) key d less e = ap (λ (u : List ℕ). offset_of k ∷ u)
    (offsets_set keys i key d (omega arith) e)

pub offsets_put : (keys : List ℕ) (i key : ℕ) → i < length keys
    → offsets (take (i + 1) (set keys i key)) ≡ offsets (take i keys) ++ offset_of key ∷ []
offsets_put keys i key less = ap offsets (take_more_set keys i key less)
    ∙ map-append (λ k. offset_of k) (take i keys) (key ∷ [])

pub offsets_next : (keys : List ℕ) (i d : ℕ) → i < length keys
    → offsets (take (i + 1) keys) ≡ offsets (take i keys) ++ offset_of (get_or keys i d) ∷ []
offsets_next keys i d less = ap offsets (take_at_read keys i d less).1
    ∙ map-append (λ k. offset_of k) (take i keys) (get_or keys i d ∷ [])

-- keys of which some that stand together are put in another order
pub moved_mid : (a k : ℕ) (xs ys : List ℕ) → IsPermutation (offsets (mid_of a k xs)) (offsets ys)
    → IsPermutation (offsets xs) (offsets (put_mid a k xs ys))
moved_mid a k xs ys p =
    subst (λ (u : List ℕ). IsPermutation u (offsets (put_mid a k xs ys)))
    (sym (parted (mid_of a k xs)) ∙ ap offsets (put_same a k xs))
    (subst (IsPermutation (offsets (take a xs) ++ (offsets (mid_of a k xs) ++ offsets (post_of a k xs)))) (sym (parted ys))
    (IsPermutation-append_right (offsets (take a xs)) (offsets (mid_of a k xs) ++ offsets (post_of a k xs))
    (offsets ys ++ offsets (post_of a k xs))
    (IsPermutation-append_left (offsets (post_of a k xs)) (offsets (mid_of a k xs)) (offsets ys) p)))
  where
    parted : (zs : List ℕ) → offsets (put_mid a k xs zs) ≡ offsets (take a xs) ++ (offsets zs ++ offsets (post_of a k xs))
    parted zs = map-append (λ k. offset_of k) (take a xs) (zs ++ post_of a k xs)
        ∙ ap (λ (u : List ℕ). offsets (take a xs) ++ u) (map-append (λ k. offset_of k) zs (post_of a k xs))

-- ---- elements with keys

contains_one : (o k : ℕ) → Contains (o ∷ []) k → k ≡ o
contains_one o k (zero, less, e) = sym e
contains_one o k (suc i, less, e) = absurd (omega (arith, less))

contains_end : (os : List ℕ) (o k : ℕ) → Contains (os ++ o ∷ []) k → Contains os k ⊎ (k ≡ o)
contains_end os o k h = elim (Contains-append_cases os (o ∷ []) k h) [
  | inl a ↦ inl a
  | inr b ↦ inr (contains_one o k b)
]

has_end : (os : List ℕ) (o : ℕ) → Contains (os ++ o ∷ []) o
has_end os o = Contains-append_right os (o ∷ []) o (zero, omega arith, refl)

lie_wider : (os : List ℕ) (o : ℕ) (es : List ElementParts) (text : List ℕ) (from : ℕ) → LieAt os es text from
    → LieAt (os ++ o ∷ []) es text from
lie_wider os o [] text from h = h
lie_wider os o (e ∷ es) text from (x, y, g, h, c, l) =
    (x, y, g, h, Contains-append_left os (o ∷ []) from c, lie_wider os o es y (from + length x) l)

lie_end : (os : List ℕ) (es : List ElementParts) (e : ElementParts) (x y : List ℕ) (from : ℕ) → LieAt os es x from
    → Element e y → Contains os (from + length x) → LieAt os (es ++ e ∷ []) (x ++ y) from
lie_end os [] e x y from h k c =
    let none : from + length x ≡ from = omega (arith, ap length h) in
    (y, [], ap (λ (u : List ℕ). u ++ y) h ∙ sym (append-nil y), k, subst (Contains os) none c, refl)
lie_end os (f ∷ es) e x y from (u, v, g, h, b, l) k c =
    let there : from + length x ≡ from + length u + length v = omega (arith, ap length g, length-append u v) in (
      u,
      v ++ y,
      ap (λ (s : List ℕ). s ++ y) g ∙ append_assoc u v y,
      h,
      b,
      lie_end os es e v y (from + length u) l k (subst (Contains os) there c),
    )

none_there : (o : ℕ) → Contains [] o → ⊥
none_there o (i, less, g) = omega (arith, less)

pub offered_none : (text : List ℕ) → Offered text text []
offered_none text = record {
  prefix = [];
  parts = refl;
  skips = skips_none text;
  ends = λ o h. absurd (none_there o h);
  lie = λ es h. ([], es, refl, h);
}

is_end : (text rest : List ℕ) (o : ℕ) → Skips text rest → o ≡ length text - length rest → IsEnd text o
is_end text rest o s offset = (
  omega (arith, offset),
  subst (Skips text) (left_at text s.prefix rest s.parts ∙ ap (λ (n : ℕ). drop n text) (sym offset)) s,
)

pub offered_more : (text rest behind t os : List ℕ) (x o : ℕ) (v : ElementSpan) → rest ≡ x ∷ t
    → SplitsElement rest v behind → (prefix : List ℕ) × (rest ≡ prefix ++ behind) → o ≡ length text - length rest
    → Offered text rest os → Offered text behind (os ++ o ∷ [])
offered_more text rest behind t os x o v e f (first, parts) offset s = record {
  prefix = s.prefix ++ first;
  parts = s.parts ∙ ap (λ (u : List ℕ). s.prefix ++ u) parts ∙ sym (append_assoc s.prefix first behind);
  skips = skips_more text rest behind t x v e f (first, parts) s.skips;
  ends = λ p h. elim (contains_end os o p h) [
    | inl i ↦ s.ends p i
    | inr i ↦ subst (IsEnd text) (sym i) (is_end text rest o s.skips offset)
  ];
  lie = λ es h. let k = s.lie es h in one k.0 k.1 k.2 k.3;
}
  where
    here : o ≡ 0 + length s.prefix
    here = omega (arith, offset, ap length s.parts, length-append s.prefix rest)

    one : (done todo : List ElementParts) → LieAt os done s.prefix 0 → Each Element todo rest
        → (cs : List ElementParts) × (ds : List ElementParts) × LieAt (os ++ o ∷ []) cs (s.prefix ++ first) 0
        × Each Element ds behind
    one done [] h k =
        let i : ◌≡◌ {A = List ℕ} [] (x ∷ t) = sym k ∙ e in absurd cc
    one done (d ∷ todo) h k =
        let p = split d todo rest behind v k f in
        let same : p.prefix ≡ first = append_cancel_right p.prefix first behind (sym p.parts ∙ parts) in (
          done ++ d ∷ [],
          todo,
          lie_end (os ++ o ∷ []) done d s.prefix first 0 (lie_wider os o done s.prefix 0 h)
              (subst (Element d) same p.text) (subst (Contains (os ++ o ∷ [])) here (has_end os o)),
          p.others,
        )

-- ---- where they repeat

pub same_when : (last id : List ℕ) (o : Ordering)
    → MatchOrdering o (OctetsBelow last id) (last ≡ id) (OctetsBelow id last) → o ≡ Equal → last ≡ id
same_when last id Less h e = absurd cc
same_when last id Equal h e = h
same_when last id Greater h e = absurd cc

pub one_of : (new at o : ℕ) → (new ≡ at) ⊎ (new ≡ o) → (new ≡ at) ⊎ ((new ≡ o) ⊎ (new ≡ 0))
one_of new at o (inl e) = inl e
one_of new at o (inr e) = inr (inl e)

-- no id of an element at these offsets is above the last one
abbrev pub UpTo : List ℕ → List ℕ → List ℕ → Type 0
UpTo text os last = (k : ℕ) (e : ElementParts) → Contains os k → BeginsAt text e k
    → (e.id ≡ last) ⊎ OctetsBelow e.id last

pub repeat_none : (text : List ℕ) (at : ℕ) → RepeatFrom text at []
repeat_none text at k l e f less (i, none, g) b c d h = absurd (omega (arith, none))

pub up_to_none : (text last : List ℕ) → UpTo text [] last
up_to_none text last k e (i, none, g) b = absurd (omega (arith, none))

id_here : (text id : List ℕ) (o k : ℕ) (e : ElementParts) → IsFirstId (drop o text) id → k ≡ o → BeginsAt text e k
    → e.id ≡ id
id_here text id o k e first same h =
    let here : BeginsAt text e o = subst (BeginsAt text e) same h in sym (first e here.0 here.1)

not_above : (last id : List ℕ) → (id ≡ last) ⊎ OctetsBelow id last → OctetsBelow last id → ⊥
not_above last id (inl e) h = below_itself last (subst (OctetsBelow last) e h)
not_above last id (inr k) h = below_itself last (below_trans last id last h k)

-- the next id: above all before it, or the last one again
pub repeat_more : (text os last id : List ℕ) (at new o : ℕ) → IsFirstId (drop o text) id → new ≤ at
    → OctetsBelow last id ⊎ (((last ≡ id) × (new ≤ o)) ⊎ (new ≡ 0)) → (0 < at → UpTo text os last)
    → RepeatFrom text at os → RepeatFrom text new (os ++ o ∷ [])
repeat_more text os last id at zero o first within met most r k l e f less a b c d same = omega arith
repeat_more text os last id at (suc n) o first within met most r k l e f less a b c d same = elim met [
  | inl m ↦ above (contains_end os o k a) (contains_end os o l b) m
  | inr m ↦ elim m [
    | inl g ↦ again (contains_end os o k a) (contains_end os o l b) g.1
    | inr none ↦ absurd (omega (arith, none))
  ]
]
  where
    known : UpTo text os last
    known = most (omega (arith, within))

    old : Contains os k → Contains os l → suc n ≤ l
    old i j =
        let h : at ≤ l = r k l e f less i j c d same in omega (arith, within, h)

    again : Contains os k ⊎ (k ≡ o) → Contains os l ⊎ (l ≡ o) → suc n ≤ o → suc n ≤ l
    again (inl i) (inl j) m = old i j
    again (inl i) (inr j) m = omega (arith, m, j)
    again (inr i) (inl j) m = omega (arith, m, i, less)
    again (inr i) (inr j) m = omega (arith, m, j)

    above : Contains os k ⊎ (k ≡ o) → Contains os l ⊎ (l ≡ o) → OctetsBelow last id → suc n ≤ l
    above (inl i) (inl j) m = old i j
    above (inr i) (inr j) m = absurd (omega (arith, i, j, less))
    above (inl i) (inr j) m =
        let here : f.id ≡ id = id_here text id o l f first j d in
        absurd (not_above last e.id (known k e i c) (subst (OctetsBelow last) (sym (same ∙ here)) m))
    above (inr i) (inl j) m =
        let here : e.id ≡ id = id_here text id o k e first i c in
        absurd (not_above last f.id (known l f j d) (subst (OctetsBelow last) (sym (sym same ∙ here)) m))

pub up_to_more : (text os last id : List ℕ) (at new o : ℕ) → IsFirstId (drop o text) id → new ≤ at
    → OctetsBelow last id ⊎ (((last ≡ id) × (new ≤ o)) ⊎ (new ≡ 0)) → (0 < at → UpTo text os last)
    → 0 < new → UpTo text (os ++ o ∷ []) id
up_to_more text os last id at new o first within met most some k e a b = elim (contains_end os o k a) [
  | inl i ↦ elim met [
    | inl m ↦ above (most (omega (arith, within, some)) k e i b) m
    | inr m ↦ elim m [
      | inl g ↦ again (most (omega (arith, within, some)) k e i b) g.0
      | inr none ↦ absurd (omega (arith, none, some))
    ]
  ]
  | inr i ↦ inl (id_here text id o k e first i b)
]
  where
    above : (e.id ≡ last) ⊎ OctetsBelow e.id last → OctetsBelow last id → (e.id ≡ id) ⊎ OctetsBelow e.id id
    above (inl g) m = inr (subst (λ (u : List ℕ). OctetsBelow u id) (sym g) m)
    above (inr g) m = inr (below_trans e.id last id g m)

    again : (e.id ≡ last) ⊎ OctetsBelow e.id last → last ≡ id → (e.id ≡ id) ⊎ OctetsBelow e.id id
    again (inl g) m = inl (g ∙ m)
    again (inr g) m = inr (subst (OctetsBelow e.id) m g)

contains_key : (keys : List ℕ) (i d : ℕ) → i < length keys → Contains (offsets keys) (offset_of (get_or keys i d))
contains_key [] i d less = absurd (omega (arith, less))
contains_key (k ∷ keys) zero d less = (zero, omega arith, refl)
contains_key (k ∷ keys) (suc i) d less =
    let r = contains_key keys i d (omega arith) in (suc r.0, omega (arith, r.1), r.2)

-- the offset is the end, none, or that of a key
pub one_more : (keys : List ℕ) (at new o reach i d : ℕ) → i < length keys → o ≡ offset_of (get_or keys i d)
    → (new ≡ at) ⊎ ((new ≡ o) ⊎ (new ≡ 0)) → (at ≡ reach) ⊎ ((at ≡ 0) ⊎ Contains (offsets keys) at)
    → (new ≡ reach) ⊎ ((new ≡ 0) ⊎ Contains (offsets keys) new)
one_more keys at new o reach i d less is (inl e) h =
    subst (λ (n : ℕ). (n ≡ reach) ⊎ ((n ≡ 0) ⊎ Contains (offsets keys) n)) (sym e) h
one_more keys at new o reach i d less is (inr (inl e)) h =
    inr (inr (subst (Contains (offsets keys)) (sym (e ∙ is)) (contains_key keys i d less)))
one_more keys at new o reach i d less is (inr (inr e)) h = inr (inl e)

-- ---- ids that differ

some_element : (e : ElementParts) (x : List ℕ) → Element e x → 0 < length x
some_element e x h =
    let p = element_prefix x (e, h) in omega (arith, ap length p.1)

begins : (whole before u s : List ℕ) (from : ℕ) (e : ElementParts) → whole ≡ before ++ (u ++ s)
    → from ≡ length before → Element e u → BeginsAt whole e from
begins whole before u s from e w n h =
    (s, (u, ap (drop from) w ∙ drop_at before (u ++ s) from (sym n), h))

moved : (whole before u v after : List ℕ) → whole ≡ before ++ ((u ++ v) ++ after)
    → whole ≡ (before ++ u) ++ (v ++ after)
moved whole before u v after w = w ∙ ap (λ (s : List ℕ). before ++ s) (append_assoc u v after)
    ∙ sym (append_assoc before u (v ++ after))

-- an element with this id lies in the text that begins at the offset
record Later (whole os id : List ℕ) (from to : ℕ) : Type 0 where
  pub element : ElementParts
  pub at : ℕ
  pub has : Contains os at
  pub is : BeginsAt whole element at
  pub same : element.id ≡ id
  pub low : from ≤ at
  pub high : at < to

lie_find : (whole os : List ℕ) (es : List ElementParts) (before y after id : List ℕ) (from to : ℕ)
    → LieAt os es y from → whole ≡ before ++ (y ++ after) → from ≡ length before → to ≡ from + length y → HasId id es
    → Later whole os id from to
lie_find whole os [] before y after id from to h w n t k = absurd k
lie_find whole os (e ∷ es) before y after id from to (u, v, g, h, c, l) w n t (inl same) =
    let parts : whole ≡ before ++ ((u ++ v) ++ after) = w ∙ ap (λ (s : List ℕ). before ++ (s ++ after)) g in
    let some = some_element e u h in record {
      element = e;
      at = from;
      has = c;
      is = begins whole before u (v ++ after) from e
          (parts ∙ ap (λ (s : List ℕ). before ++ s) (append_assoc u v after)) n h;
      same = same;
      low = omega arith;
      high = omega (arith, some, t, ap length g, length-append u v);
    }
lie_find whole os (e ∷ es) before y after id from to (u, v, g, h, c, l) w n t (inr k) =
    let parts : whole ≡ before ++ ((u ++ v) ++ after) = w ∙ ap (λ (s : List ℕ). before ++ (s ++ after)) g in
    let r = lie_find whole os es (before ++ u) v after id (from + length u) to l (moved whole before u v after parts)
    (omega (arith, n, length-append before u)) (omega (arith, t, ap length g, length-append u v)) k in
    record {
      element = r.element;
      at = r.at;
      has = r.has;
      is = r.is;
      same = r.same;
      low = omega (arith, r.low);
      high = r.high;
    }

lie_differ : (whole os : List ℕ) (es : List ElementParts) (before y after : List ℕ) (from at : ℕ) → LieAt os es y from
    → whole ≡ before ++ (y ++ after) → from ≡ length before → from + length y ≤ at → RepeatFrom whole at os
    → AreDistinct es
lie_differ whole os [] before y after from at h w n within r = tt
lie_differ whole os (e ∷ es) before y after from at (u, v, g, h, c, l) w n within r = (
  λ k. apart (lie_find whole os es (before ++ u) v after e.id (from + length u) (from + length u + length v) l
      further there refl k),
  lie_differ whole os es (before ++ u) v after (from + length u) at l further there ends r,
)
  where
    parts : whole ≡ before ++ ((u ++ v) ++ after)
    parts = w ∙ ap (λ (s : List ℕ). before ++ (s ++ after)) g

    further : whole ≡ (before ++ u) ++ (v ++ after)
    further = moved whole before u v after parts

    there : from + length u ≡ length (before ++ u)
    there = omega (arith, n, length-append before u)

    ends : from + length u + length v ≤ at
    ends = omega (arith, within, ap length g, length-append u v)

    here : BeginsAt whole e from
    here = begins whole before u (v ++ after) from e
        (parts ∙ ap (λ (s : List ℕ). before ++ s) (append_assoc u v after)) n h

    apart : Later whole os e.id (from + length u) (from + length u + length v) → ⊥
    apart m =
        let some = some_element e u h in
        let late : at ≤ m.at = r from m.at e m.element (omega (arith, some, m.low)) c m.has here m.is (sym m.same) in
        omega (arith, late, m.high, ends)

lie_cut : (os : List ℕ) (es done : List ElementParts) (p q text : List ℕ) (from : ℕ) → Each Element es p
    → LieAt os done text from → text ≡ p ++ q → LieAt os es p from
lie_cut os [] done p q text from h l e = h
lie_cut os (d ∷ ds) [] p q text from (x, y, g, h, k) l e =
    let some = some_element d x h in
    absurd (omega (arith, some, ap length g, length-append x y, ap length e, length-append p q, ap length l))
lie_cut os (d ∷ ds) (f ∷ fs) p q text from (x, y, g, h, k) (u, v, i, j, c, l) e =
    let both = by_prefix (AnyOf Element) u v x (y ++ q) IsPrefixFree-element (f, j) (d, h)
    (sym i ∙ e ∙ ap (λ (s : List ℕ). s ++ q) g ∙ append_assoc x y q) in (
      x,
      y,
      g,
      h,
      c,
      lie_cut os ds fs y q v (from + length x) k
          (subst (λ (s : List ℕ). LieAt os fs v (from + length s)) both.0 l) both.1,
    )

prefix_within : (a b c d : List ℕ) → c ++ d ≡ a ++ b → length a ≤ length c → (q : List ℕ) × (c ≡ a ++ q)
prefix_within [] b c d e h = (c, refl)
prefix_within (x ∷ a) b [] d e h = absurd (omega (arith, h))
prefix_within (x ∷ a) b (y ∷ c) d e h =
    let first : y ≡ x = cc in
    let others : c ++ d ≡ a ++ b = cc in
    let r = prefix_within a b c d others (omega (arith, h)) in
    (r.0, ap (λ (u : ℕ). u ∷ c) first ∙ ap (λ (u : List ℕ). x ∷ u) r.1)

-- sorted keys tell up to which offset ids differ
pub differ : (text rest os sorted : List ℕ) (reach at : ℕ) → reach + length rest ≡ length text → Offered text rest os
    → IsPermutation os sorted → at ≤ reach → RepeatFrom text at sorted → DifferUpTo text at
differ text rest os sorted reach at size o p within r prefix behind es fs parts ends h k =
    let d = o.lie (es ++ fs) (subst (Each Element (es ++ fs)) (sym parts) (each_join es fs prefix behind h k)) in
    let q = prefix_within prefix behind o.prefix rest (sym o.parts ∙ parts)
    (omega (arith, size, ends, within, ap length o.parts, length-append o.prefix rest)) in
    lie_differ text os es [] prefix behind 0 at (lie_cut os es d.0 prefix q.0 o.prefix 0 h d.2 q.1) parts refl (omega (arith, ends))
    (λ k l e f less a b. r k l e f less (Contains-permutation os sorted k p a) (Contains-permutation os sorted l p b))

-- and no element reaches over it
pub ends_there : (text rest os sorted : List ℕ) (reach at : ℕ) → reach + length rest ≡ length text
    → Offered text rest os → IsPermutation os sorted → (at ≡ reach) ⊎ ((at ≡ 0) ⊎ Contains sorted at) → IsEnd text at
ends_there text rest os sorted reach at size o p (inl e) =
    is_end text rest at o.skips (omega (arith, e, size))
ends_there text rest os sorted reach at size o p (inr (inl e)) =
    subst (IsEnd text) (sym e) (omega arith, skips_none text)
ends_there text rest os sorted reach at size o p (inr (inr h)) =
    o.ends at (Contains-permutation sorted os at (IsPermutation-sym os sorted p) h)

-- what follows elements whose ids differ
pub known_sorted : (text rest t : List ℕ) (x at : ℕ) → AnyOf StructuredDataText text → text ≡ x ∷ t → x ≡ 91
    → Skips text rest → length text ≤ at + length rest → DifferUpTo text at → Known text rest
known_sorted text rest t x at ([], h) e g s within d =
    let i : x ≡ 45 = heads x 45 t [] (sym e ∙ h) in absurd (omega (arith, i, g))
known_sorted text rest t x at (c ∷ es, h) e g s within d =
    let b = s.both (c ∷ es) h in
    record {
      prefix = s.prefix;
      before = b.0;
      parts = s.parts;
      each = b.2;
      distinct = d s.prefix rest b.0 b.1 s.parts
          (omega (arith, within, ap length s.parts, length-append s.prefix rest)) b.2 b.3;
      more = inl (b.1, b.3);
    }

pub known_all : (text : List ℕ) → AnyOf StructuredDataText text → Known text text
known_all text ([], h) =
    record { prefix = []; before = []; parts = refl; each = refl; distinct = tt; more = inr (refl, h) }
known_all text (e ∷ es, h) =
    record { prefix = []; before = []; parts = refl; each = refl; distinct = tt; more = inl (e ∷ es, h) }
