-- Lists all of whose items are given.
use Rattle.std.proofs.Common.{◌≡◌, ◌∙◌, ℕ, ◌+◌, ◌<◌, List, [], ◌∷◌, ◌++◌, Option, Some, None, append_assoc}
use Rattle.std.proofs.Common.{ap, get_or, length, map, option_map, option_and_then, refl, sym, take, drop}
use Rattle.std.proofs.lemmas.List.{drop_more, map-append, take-append-drop, take_more}
use Rattle.option_values.specs.Values.{all_given}

-- the items, where they are given, behind those of a list
abbrev pub behind : {X : Type 0} → List X → Option (List X) → Option (List X)
behind xs more = option_map (λ ys. xs ++ ys) more

-- two lists, where both are given
abbrev joined : {X : Type 0} → Option (List X) → Option (List X) → Option (List X)
joined a b = option_and_then (λ xs. behind xs b) a

pub behind_nothing : {X : Type 0} (b : Option (List X)) → b ≡ behind [] b
behind_nothing None = refl
behind_nothing (Some ys) = refl

behind_one : {X : Type 0} (x : X) (a b : Option (List X))
    → option_map (λ xs. x ∷ xs) (joined a b) ≡ joined (option_map (λ xs. x ∷ xs) a) b
behind_one x None b = refl
behind_one x (Some xs) None = refl
behind_one x (Some xs) (Some ys) = refl

all_given-append : {X : Type 0} (xs ys : List (Option X)) → all_given (xs ++ ys) ≡ joined (all_given xs) (all_given ys)
all_given-append [] ys = behind_nothing (all_given ys)
all_given-append (None ∷ xs) ys = refl
all_given-append (Some x ∷ xs) ys =
    ap (λ o. option_map (λ zs. x ∷ zs) o) (all_given-append xs ys) ∙ behind_one x (all_given xs) (all_given ys)

-- ---- the values of an option in turn

at_next : {A X : Type 0} (f : A → Option X) (xs : List A) (i : ℕ) (x : A) → i < length xs
    → all_given (map f (take (i + 1) xs)) ≡ joined (all_given (map f (take i xs))) (all_given (f (get_or xs i x) ∷ []))
at_next f xs i x less =
    ap (λ ys. all_given (map f ys)) (take_more xs i x less)
    ∙ ap all_given (map-append f (take i xs) (get_or xs i x ∷ []))
    ∙ all_given-append (map f (take i xs)) (f (get_or xs i x) ∷ [])

one_more : {X : Type 0} (old cur : List X) (a o : Option (List X)) (y : X) → behind old a ≡ Some cur → o ≡ Some (y ∷ [])
    → behind old (joined a o) ≡ Some (cur ++ y ∷ [])
one_more old cur None o y e is = absurd cc
one_more old cur (Some ys) (Some zs) y e is =
    let same : old ++ ys ≡ cur = cc in
    let one : zs ≡ y ∷ [] = cc in
    ap (λ ws. Some (old ++ (ys ++ ws))) one ∙ ap Some (sym (append_assoc old ys (y ∷ [])))
    ∙ ap (λ ws. Some (ws ++ y ∷ [])) same
one_more old cur (Some ys) None y e is = absurd cc

pub given_more : {A X : Type 0} (f : A → Option X) (xs : List A) (i : ℕ) (x : A) (y : X) (old cur : List X) → i < length xs
    → Some y ≡ f (get_or xs i x) → behind old (all_given (map f (take i xs))) ≡ Some cur
    → behind old (all_given (map f (take (i + 1) xs))) ≡ Some (cur ++ y ∷ [])
given_more f xs i x y old cur less is e =
    ap (behind old) (at_next f xs i x less)
    ∙ one_more old cur (all_given (map f (take i xs))) (all_given (f (get_or xs i x) ∷ [])) y e
    (ap (λ o. all_given (o ∷ [])) (sym is))

joined_none : {X : Type 0} (a : Option (List X)) → joined a None ≡ None
joined_none None = refl
joined_none (Some xs) = refl

-- a value that is refused
pub given_none : {A X : Type 0} (f : A → Option X) (xs : List A) (i : ℕ) (x : A) → i < length xs
    → None ≡ f (get_or xs i x) → all_given (map f xs) ≡ None
given_none f xs i x less is =
    let whole : xs ≡ take i xs ++ get_or xs i x ∷ drop (i + 1) xs =
    sym (take-append-drop i xs) ∙ ap (λ ys. take i xs ++ ys) (drop_more xs i x less) in
    ap (λ ys. all_given (map f ys)) whole
    ∙ ap all_given (map-append f (take i xs) (get_or xs i x ∷ drop (i + 1) xs))
    ∙ all_given-append (map f (take i xs)) (f (get_or xs i x) ∷ map f (drop (i + 1) xs))
    ∙ ap (λ o. joined (all_given (map f (take i xs))) (all_given (o ∷ map f (drop (i + 1) xs)))) (sym is)
    ∙ joined_none (all_given (map f (take i xs)))

-- ---- one option after the other

found_more : {X : Type 0} (f g : List X) (a b : Option (List X)) → Some g ≡ behind f a
    → behind f (joined a b) ≡ behind g b
found_more f g None b e = absurd cc
found_more f g (Some zs) None e = refl
found_more f g (Some zs) (Some ws) e =
    let same : f ++ zs ≡ g = cc in
    ap Some (sym (append_assoc f zs ws)) ∙ ap (λ xs. Some (xs ++ ws)) same

found_none : {X : Type 0} (f : List X) (a b : Option (List X)) → None ≡ behind f a → behind f (joined a b) ≡ None
found_none f None b e = refl
found_none f (Some zs) b e = absurd cc

module _ {V X : Type 0} (m : V → List X) (found : List X) (ys : List (Option X)) (r : Option V)
    (is : option_map m r ≡ behind found (all_given ys)) where
  -- the values of the next option are given
  pub next_found : (rest : List (Option X)) (v : V) → r ≡ Some v
      → behind found (all_given (ys ++ rest)) ≡ behind (m v) (all_given rest)
  next_found rest v some =
      ap (behind found) (all_given-append ys rest)
      ∙ found_more found (m v) (all_given ys) (all_given rest) (sym (ap (option_map m) some) ∙ is)

  -- one of them is refused
  pub next_refused : (rest : List (Option X)) → r ≡ None → behind found (all_given (ys ++ rest)) ≡ None
  next_refused rest none =
      ap (behind found) (all_given-append ys rest)
      ∙ found_none found (all_given ys) (all_given rest) (sym (ap (option_map m) none) ∙ is)

-- the texts behind references
pub map_now : {A B X : Type 0} (f : B → X) (g : A → B) (xs : List A) → map (λ x. f (g x)) xs ≡ map f (map g xs)
map_now f g [] = refl
map_now f g (x ∷ xs) = ap (λ ys. f (g x) ∷ ys) (map_now f g xs)
