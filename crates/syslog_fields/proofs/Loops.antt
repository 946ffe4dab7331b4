-- Loops over items up to an end: what of the rest holds of the whole.
use Rattle.std.proofs.Common.{◌≡◌, ◌≢◌, ℕ, ◌<◌, List, [], ◌∷◌, length, refl, ap, ◌∙◌, arith}
use Rattle.std.proofs.lemmas.List.{length-append}
use Rattle.octet_language.specs.Language.{Language, Only, AnyOf, IsPrefixFree, NoPrefix, IfFirst}
use Rattle.octet_language.specs.Reading.{Fails, Follows}
use Rattle.octet_language.proofs.Lists.{heads}
use Rattle.octet_language.proofs.Chain.{Follows-then}
use Rattle.octet_language.proofs.Many.{Apart, Many, many_none, many_more, item_fails, behind_item}
use Rattle.std.proofs.Common.{◌-◌, ◌++◌, drop}
use Rattle.std.proofs.Common.{sym}
use Rattle.std.proofs.lemmas.List.{drop_at}

-- what follows the first items, and the whole
pub record Carries {V : Type 0} (A : V → Language) (Z : Language) (b rest : List ℕ) : Type 0 where
  pub good : (after : List ℕ) → Follows (Many A Z) rest after → Follows (Many A Z) b after
  pub bad : (remaining : ℕ) → Fails (Many A Z) rest remaining → Fails (Many A Z) b remaining

pub carries_all : {V : Type 0} (A : V → Language) (Z : Language) (b : List ℕ) → Carries A Z b b
carries_all A Z b = record { good = λ after f. f; bad = λ remaining f. f }

-- one delimiter, where it does not come first
pub apart_mark : (m : ℕ) (b : List ℕ) → IfFirst (λ x. x ≢ m) b → Apart (Only (m ∷ [])) b
apart_mark m [] h = record { some = λ e. absurd cc; prefix = tt }
apart_mark m (x ∷ b) h = record { some = λ e. absurd cc; prefix = λ w e. h (heads x m w [] e) }

-- one more item
pub carries_more : {V : Type 0} (A : V → Language) (m : ℕ) (b rest after : List ℕ) → IsPrefixFree (AnyOf A)
    → IfFirst (λ x. x ≢ m) rest → Follows (AnyOf A) rest after → Carries A (Only (m ∷ [])) b rest
    → Carries A (Only (m ∷ [])) b after
carries_more A m b rest after one h p k = record {
  good = λ end f. k.good end (let g = Follows-then (AnyOf A) (Many A (Only (m ∷ []))) rest after end p f in
      (g.0, g.1, many_more A (Only (m ∷ [])) g.0 g.2));
  bad = λ remaining f. k.bad remaining (behind_item A (Only (m ∷ [])) rest after remaining one (apart_mark m rest h) p
      f);
}

-- the next item fails
pub carried_fails : {V : Type 0} (A : V → Language) (m : ℕ) (b rest : List ℕ) (remaining : ℕ)
    → IfFirst (λ x. x ≢ m) rest → Carries A (Only (m ∷ [])) b rest → Fails (AnyOf A) rest remaining
    → Fails (Many A (Only (m ∷ []))) b remaining
carried_fails A m b rest remaining h k f =
    k.bad remaining (item_fails A (Only (m ∷ [])) rest (m ∷ []) remaining refl (apart_mark m rest h) f)

-- the delimiter that ends the items
pub carried_ends : {V : Type 0} (A : V → Language) (m : ℕ) (b rest after : List ℕ) (x : ℕ)
    → Carries A (Only (m ∷ [])) b rest → rest ≡ x ∷ after → x ≡ m → Follows (Many A (Only (m ∷ []))) b after
carried_ends A m b rest after x k e f = k.good after
    (m ∷ [], e ∙ ap (λ (n : ℕ). n ∷ after) f, many_none A (Only (m ∷ [])) (m ∷ []) refl)

-- a text that is not empty takes some octets
pub takes_some : (L : Language) (rest after : List ℕ) → ¬ (L []) → Follows L rest after → length after < length rest
takes_some L rest after some ([], e, h) = absurd (some h)
takes_some L rest after some (x ∷ t, e, h) = omega (arith, ap length e, length-append (x ∷ t) after)

none_of_empty : (L : Language) → ¬ (L []) → NoPrefix L []
none_of_empty L some [] y e h = some h
none_of_empty L some (x ∷ s) y e h = absurd cc

-- no text, where no octet is left
pub Fails-empty : (L : Language) (b t : List ℕ) → L t → ¬ (L []) → b ≡ [] → Fails L b (length b)
Fails-empty L b t h some e = rw e (record {
  none = none_of_empty L some;
  stops =
      record { read = []; rest = []; parts = refl; count = refl; begins = (t, h); refuses = tt };
})

-- what is left of a text is what it has from the offset on where that begins
pub left_at : (text prefix rest : List ℕ) → text ≡ prefix ++ rest → rest ≡ drop (length text - length rest) text
left_at text prefix rest e =
    let n : length text - length rest ≡ length prefix = omega (arith, ap length e, length-append prefix rest) in
    rw (n, e) (sym (drop_at prefix rest (length prefix) refl))
