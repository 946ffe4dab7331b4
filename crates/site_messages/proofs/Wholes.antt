-- Values are read one behind the other.
use Rattle.std.proofs.Common.{◌≡◌, ℕ, List, [], ◌++◌, sym, ap, ◌∙◌, append_assoc}
use Rattle.std.proofs.Common.{arith}
use Rattle.std.proofs.lemmas.List.{append-nil, append_cancel_left}
use Rattle.site_messages.specs.Reading.{IsGap, IsWhole}
use Rattle.site_messages.specs.declared.gap.Gap.{Gap}
use Rattle.site_messages.specs.declared.gap.Gap.TheVariants.{More, Bad}

-- two values are the same where their parts are
pub both_same : {A B C : Type 0} (f : A → B → C) (a c : A) (b d : B) → a ≡ c → b ≡ d → f a b ≡ f c d
both_same f a c b d e k = ap (λ x. f x b) e ∙ ap (f c) k

-- a value is of two parts, and its text is that of the first and then that of the second
pub record Splits {U V W : Type 0} (In : U → Type 0) (text : U → List ℕ) (First : V → Type 0) (f : V → List ℕ)
    (Second : W → Type 0) (g : W → List ℕ) (p : U → V) (q : U → W) : Type 0 where
  pub text_is : (u : U) → text u ≡ f (p u) ++ g (q u)
  pub first : (u : U) → In u → First (p u)
  pub second : (u : U) → In u → Second (q u)
  pub both : (u : U) → First (p u) → Second (q u) → In u
  pub same : (u w : U) → p u ≡ p w → q u ≡ q w → u ≡ w

-- what a longer text begins with
front_is : {U V W : Type 0} (In : U → Type 0) (text : U → List ℕ) (First : V → Type 0) (f : V → List ℕ)
    (Second : W → Type 0) (g : W → List ℕ) (p : U → V) (q : U → W) → Splits In text First f Second g p q
    → (u : U) (b more end : List ℕ) → b ++ more ≡ text u ++ end → b ++ more ≡ f (p u) ++ (g (q u) ++ end)
front_is In text First f Second g p q s u b more end e =
    e ∙ ap (λ (l : List ℕ). l ++ end) (s.text_is u) ∙ append_assoc (f (p u)) (g (q u)) end

-- what is behind the first part
pub rest_is : {V : Type 0} (First : V → Type 0) (f : V → List ℕ) (b rest more l : List ℕ) (v w : V)
    → IsWhole First f b v rest → w ≡ v → b ++ more ≡ f w ++ l → rest ++ more ≡ l
rest_is First f b rest more l v w h same e =
    append_cancel_left (f v) (rest ++ more) l
    (sym (append_assoc (f v) rest more) ∙ ap (λ (k : List ℕ). k ++ more) (sym h.parts) ∙ e
    ∙ ap (λ x. f x ++ l) same)

pub both_whole : {U V W : Type 0} (In : U → Type 0) (text : U → List ℕ) (First : V → Type 0) (f : V → List ℕ)
    (Second : W → Type 0) (g : W → List ℕ) (p : U → V) (q : U → W) → Splits In text First f Second g p q
    → (u : U) (b behind rest : List ℕ) → IsWhole First f b (p u) behind → IsWhole Second g behind (q u) rest
    → IsWhole In text b u rest
both_whole In text First f Second g p q s u b behind rest h k = record {
  valid = s.both u h.valid k.valid;
  parts =
      h.parts ∙ ap (λ (l : List ℕ). f (p u) ++ l) k.parts ∙ sym (append_assoc (f (p u)) (g (q u)) rest)
      ∙ ap (λ (l : List ℕ). l ++ rest) (sym (s.text_is u));
  only = λ w more end valid e.
      let long = front_is In text First f Second g p q s w b more end e in
      let first = h.only (p w) more (g (q w) ++ end) (s.first w valid) long in
      s.same w u first
      (k.only (q w) more end (s.second w valid)
      (rest_is First f b behind more (g (q w) ++ end) (p u) (p w) h first long));
}

pub first_gap : {U V W : Type 0} (In : U → Type 0) (text : U → List ℕ) (First : V → Type 0) (f : V → List ℕ)
    (Second : W → Type 0) (g : W → List ℕ) (p : U → V) (q : U → W) → Splits In text First f Second g p q
    → (b : List ℕ) (gap : Gap) → IsGap First f b gap → IsGap In text b gap
first_gap In text First f Second g p q s b (More n) h = (
  h.0,
  λ w more end valid e.
      h.1 (p w) more (g (q w) ++ end) (s.first w valid) (front_is In text First f Second g p q s w b more end e),
)
first_gap In text First f Second g p q s b Bad h =
    λ w more end valid e.
    h (p w) more (g (q w) ++ end) (s.first w valid) (front_is In text First f Second g p q s w b more end e)

pub second_gap : {U V W : Type 0} (In : U → Type 0) (text : U → List ℕ) (First : V → Type 0) (f : V → List ℕ)
    (Second : W → Type 0) (g : W → List ℕ) (p : U → V) (q : U → W) → Splits In text First f Second g p q
    → (b behind : List ℕ) (v : V) (gap : Gap) → IsWhole First f b v behind → IsGap Second g behind gap
    → IsGap In text b gap
second_gap In text First f Second g p q s b behind v (More n) h k = (
  k.0,
  λ w more end valid e.
      let long = front_is In text First f Second g p q s w b more end e in
      let first = h.only (p w) more (g (q w) ++ end) (s.first w valid) long in
      k.1 (q w) more end (s.second w valid)
      (rest_is First f b behind more (g (q w) ++ end) v (p w) h first long),
)
second_gap In text First f Second g p q s b behind v Bad h k =
    λ w more end valid e.
    let long = front_is In text First f Second g p q s w b more end e in
    let first = h.only (p w) more (g (q w) ++ end) (s.first w valid) long in
    k (q w) more end (s.second w valid)
    (rest_is First f b behind more (g (q w) ++ end) v (p w) h first long)

-- what a gap lacks is not the text of a value
pub gap_none : {V : Type 0} (In : V → Type 0) (text : V → List ℕ) (b : List ℕ) (gap : Gap) → IsGap In text b gap
    → (v : V) (end : List ℕ) → In v → b ≡ text v ++ end → ⊥
gap_none In text b (More n) h v end valid e =
    let few = h.1 v [] end valid (append-nil b ∙ e) in
    let some = h.0 in
    omega arith
gap_none In text b Bad h v end valid e = h v [] end valid (append-nil b ∙ e)
