-- What is appended piece by piece.
use Rattle.std.proofs.Common.{◌≡◌, ℕ, ◌+◌, ◌<◌, ◌≤◌, List, [], ◌∷◌, ◌++◌, length, take, get_or, refl, sym, ap, ◌∙◌}
use Rattle.std.proofs.Common.{append_assoc}
use Rattle.std.specs.Prelude.{Result, Ok, Err, IsErr}
use Rattle.std.specs.List.{flat_map}
use Rattle.std.proofs.lemmas.List.{append-nil, flat_map_more, take_all, take_at, take_more}
use Rattle.octet_language.specs.Language.{Language, Only, ◌⋅◌}
use Rattle.syslog_fields.specs.Appending.{Anything, Adds, Puts}

pub adds_then : (A B : Language) (old mid new : List ℕ) → Adds A old mid → Adds B mid new → Adds (A ⋅ B) old new
adds_then A B old mid new (x, a, e) (y, b, f) =
    (x ++ y, (x, y, refl, a, b), f ∙ ap (λ (s : List ℕ). s ++ y) e ∙ append_assoc old x y)

pub adds_some : (A B : Language) (old mid new : List ℕ) → Adds A old mid → Adds B mid new → Adds Anything old new
adds_some A B old mid new (x, a, e) (y, b, f) = (x ++ y, tt, f ∙ ap (λ (s : List ℕ). s ++ y) e ∙ append_assoc old x y)

pub adds_as : (A B : Language) (old new : List ℕ) → ((s : List ℕ) → A s → B s) → Adds A old new → Adds B old new
adds_as A B old new w (x, a, e) = (x, w x a, e)

pub adds_nothing : (A : Language) (old : List ℕ) → A [] → Adds A old old
adds_nothing A old a = ([], a, sym (append-nil old))

pub adds_is : (A : Language) (old new text : List ℕ) → A text → new ≡ old ++ text → Adds A old new
adds_is A old new text a e = (text, a, e)

-- what was there comes first
pub adds_prefix : (A : Language) (old new : List ℕ) → Adds A old new → take (length old) new ≡ old
adds_prefix A old new (x, a, e) = ap (take (length old)) e ∙ take_at old x (length old) refl

-- a step that failed, and the last step
pub puts_then : {X E : Type 0} (A B : Language) (old mid new : List ℕ) (r : Result X E) → Adds A old mid
    → Puts B mid new r → Puts (A ⋅ B) old new r
puts_then A B old mid new (Ok x) a b = adds_then A B old mid new a b
puts_then A B old mid new (Err e) a b = adds_some A Anything old mid new a b

pub puts_as : {X E : Type 0} (A B : Language) (old new : List ℕ) (r : Result X E) → ((s : List ℕ) → A s → B s)
    → Puts A old new r → Puts B old new r
puts_as A B old new (Ok x) w a = adds_as A B old new w a
puts_as A B old new (Err e) w a = a

-- ---- known texts

pub only_then : (a b old mid new : List ℕ) → Adds (Only a) old mid → Adds (Only b) mid new
    → Adds (Only (a ++ b)) old new
only_then a b old mid new (x, xs, xe) (y, ys, ye) = (
  a ++ b,
  refl,
  ye ∙ ap (λ (s : List ℕ). mid ++ s) ys
      ∙ ap (λ (s : List ℕ). s ++ b) (xe ∙ ap (λ (s : List ℕ). old ++ s) xs) ∙ append_assoc old a b,
)

pub only_puts : {X E : Type 0} (a b old mid new : List ℕ) (r : Result X E) → Adds (Only a) old mid
    → Puts (Only b) mid new r → Puts (Only (a ++ b)) old new r
only_puts a b old mid new (Ok x) h k = only_then a b old mid new h k
only_puts a b old mid new (Err e) h k = adds_some (Only a) Anything old mid new h k

-- one more item of a list
pub item_more : {X : Type 0} (f : X → List ℕ) (xs : List X) (i : ℕ) (x : X) (prefix old mid new : List ℕ)
    → i < length xs → x ≡ get_or xs i x
    → Adds (Only (prefix ++ flat_map f (take i xs))) old mid → Adds (Only (f x)) mid new
    → Adds (Only (prefix ++ flat_map f (take (i + 1) xs))) old new
item_more {X = X} f xs i x prefix old mid new within is h k =
    let both = only_then (prefix ++ flat_map f (take i xs)) (f x) old mid new h k in
    let more : prefix ++ flat_map f (take i xs) ++ f x ≡ prefix ++ flat_map f (take (i + 1) xs) =
    flat_map_more f prefix (take i xs) x ∙ ap (λ (ys : List X). prefix ++ flat_map f ys)
    (ap (λ (y : X). take i xs ++ y ∷ []) is ∙ sym (take_more xs i x within)) in
    adds_as (Only (prefix ++ flat_map f (take i xs) ++ f x)) (Only (prefix ++ flat_map f (take (i + 1) xs))) old new
    (λ s e. e ∙ more) both

-- ---- a step that failed

pub puts_failed : {X E : Type 0} (A B : Language) (old mid new : List ℕ) (r : Result X E) → IsErr r → Adds A old mid
    → Adds Anything mid new → Puts B old new r
puts_failed A B old mid new (Ok x) err a b = absurd cc
puts_failed A B old mid new (Err e) err a b = adds_some A Anything old mid new a b

-- all items of a list, and what ends them
pub items_end : {X Y E : Type 0} (f : X → List ℕ) (xs : List X) (i : ℕ) (prefix end old mid new : List ℕ)
    (r : Result Y E) → length xs ≤ i
    → Adds (Only (prefix ++ flat_map f (take i xs))) old mid → Puts (Only end) mid new r
    → Puts (Only (prefix ++ flat_map f xs ++ end)) old new r
items_end f xs i prefix end old mid new r all h k =
    only_puts (prefix ++ flat_map f xs) end old mid new r (rw (take_all i xs all) at h) k

-- whatever the outcome, the old octets come first
pub puts_begun : {X E : Type 0} (A : Language) (old new : List ℕ) (r : Result X E) → Puts A old new r
    → Adds Anything old new
puts_begun A old new (Ok x) (text, a, e) = (text, tt, e)
puts_begun A old new (Err e) a = a
