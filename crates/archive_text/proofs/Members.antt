-- The members of a list of entries.
use Rattle.std.proofs.Common.{◌≡◌, inl, inr, refl, subst, List, [], ◌∷◌, ◌++◌}
use Rattle.std.specs.Prelude.{◌⊎◌, ◌↔◌}
use Rattle.std.specs.List.{AllByRecursion}
use Rattle.archive_text.specs.Entries.{Entry, Has}

-- ---- what holds of all

pub all_append : {X : Type 0} (P : X → Type 0) (a b : List X) → AllByRecursion P a → AllByRecursion P b
    → AllByRecursion P (a ++ b)
all_append P [] b h k = k
all_append P (x ∷ a) b h k = (h.0, all_append P a b h.1 k)

pub all_left : {X : Type 0} (P : X → Type 0) (a b : List X) → AllByRecursion P (a ++ b) → AllByRecursion P a
all_left P [] b h = tt
all_left P (x ∷ a) b h = (h.0, all_left P a b h.1)

pub all_right : {X : Type 0} (P : X → Type 0) (a b : List X) → AllByRecursion P (a ++ b) → AllByRecursion P b
all_right P [] b h = h
all_right P (x ∷ a) b h = all_right P a b h.1

pub all_weaker : {X : Type 0} (P Q : X → Type 0) → ((x : X) → P x → Q x) → (xs : List X) → AllByRecursion P xs
    → AllByRecursion Q xs
all_weaker P Q each [] h = tt
all_weaker P Q each (x ∷ xs) h = (each x h.0, all_weaker P Q each xs h.1)

-- what holds of all holds of each member
pub of_member : (P : Entry → Type 0) (es : List Entry) (x : Entry) → AllByRecursion P es → Has es x → P x
of_member P [] x h k = absurd k
of_member P (e ∷ es) x h (inl same) = subst P same h.0
of_member P (e ∷ es) x h (inr more) = of_member P es x h.1 more

-- what holds of each member holds of all
pub of_all : (P : Entry → Type 0) (es : List Entry) → ((x : Entry) → Has es x → P x) → AllByRecursion P es
of_all P [] each = tt
of_all P (e ∷ es) each = (each e (inl refl), of_all P es (λ x h. each x (inr h)))

-- ---- members of joined lists

pub has_left : (a b : List Entry) (x : Entry) → Has a x → Has (a ++ b) x
has_left [] b x h = absurd h
has_left (e ∷ a) b x (inl same) = inl same
has_left (e ∷ a) b x (inr more) = inr (has_left a b x more)

pub has_right : (a b : List Entry) (x : Entry) → Has b x → Has (a ++ b) x
has_right [] b x h = h
has_right (e ∷ a) b x h = inr (has_right a b x h)

pub has_either : (a b : List Entry) (x : Entry) → Has (a ++ b) x → Has a x ⊎ Has b x
has_either [] b x h = inr h
has_either (e ∷ a) b x (inl same) = inl (inl same)
has_either (e ∷ a) b x (inr more) = elim (has_either a b x more) [ inl left ↦ inl (inr left) | inr right ↦ inr right ]

-- the members once an entry stands between them
pub has_inserted : (a b : List Entry) (e x : Entry) → Has (a ++ e ∷ b) x → (e ≡ x) ⊎ Has (a ++ b) x
has_inserted [] b e x h = h
has_inserted (f ∷ a) b e x (inl same) = inr (inl same)
has_inserted (f ∷ a) b e x (inr more) = elim (has_inserted a b e x more) [ inl new ↦ inl new | inr old ↦ inr (inr old) ]

pub has_new : (a b : List Entry) (e : Entry) → Has (a ++ e ∷ b) e
has_new a b e = has_right a (e ∷ b) e (inl refl)

pub has_old : (a b : List Entry) (e x : Entry) → Has (a ++ b) x → Has (a ++ e ∷ b) x
has_old [] b e x h = inr h
has_old (f ∷ a) b e x (inl same) = inl same
has_old (f ∷ a) b e x (inr more) = inr (has_old a b e x more)

pub has_inserted_iff : (a b : List Entry) (e x : Entry) → Has (a ++ e ∷ b) x ↔ ((e ≡ x) ⊎ Has (a ++ b) x)
has_inserted_iff a b e x = (
  has_inserted a b e x,
  λ h.
      elim h [ inl same ↦ subst (Has (a ++ e ∷ b)) same (has_new a b e) | inr old ↦ has_old a b e x old ],
)
