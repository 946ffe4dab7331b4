-- Where an entry belongs in an ascending list.
use Rattle.std.proofs.Common.{◌≡◌, ℕ, ◌≤◌, inl, inr, refl, sym, ap, subst, List, [], ◌∷◌, ◌++◌, length}
use Rattle.std.specs.Prelude.{◌⊎◌, ◌↔◌}
use Rattle.std.specs.List.{AllByRecursion}
use Rattle.archive_text.specs.Entries.{Entry, Has, IsAscending, IsBelow, IsEntry}
use Rattle.archive_text.specs.Stores.{AddsEntry}
use Rattle.archive_text.specs.Text.{IsArchive}
use Rattle.archive_text.specs.declared.store.Added.{Added}
use Rattle.archive_text.specs.declared.store.Added.TheVariants.{New, Held}
use Rattle.archive_text.proofs.Ascending.{archive_inserted, not_between}
use Rattle.archive_text.proofs.Members.{all_weaker, has_inserted_iff}
use Rattle.archive_text.proofs.Orders.{below_total, below_transitive}

-- the entry fits between two parts of the list
pub record Place (e : Entry) (es : List Entry) : Type 0 where
  pub before : List Entry
  pub after : List Entry
  pub parts : es ≡ before ++ after
  pub below : AllByRecursion (λ x. IsBelow x e) before
  pub above : AllByRecursion (IsBelow e) after

place_later : (f e : Entry) (es : List Entry) → IsBelow f e → Has es e ⊎ Place e es → Has (f ∷ es) e ⊎ Place e (f ∷ es)
place_later f e es less (inl held) = inl (inr held)
place_later f e es less (inr p) = inr (record {
  before = f ∷ p.before;
  after = p.after;
  parts =
      ap (λ xs. f ∷ xs) p.parts;
  below = (less, p.below);
  above = p.above;
})

-- an ascending list has the entry, or a place for it
pub place_of : (e : Entry) (es : List Entry) → IsAscending es → Has es e ⊎ Place e es
place_of e [] h = inr (record { before = []; after = []; parts = refl; below = tt; above = tt })
place_of e (f ∷ es) h =
    elim (below_total f e) [
      | inl less ↦ place_later f e es less (place_of e es h.1)
      | inr (inl same) ↦ inl (inl same)
      | inr (inr more) ↦
          inr (record {
            before = [];
            after = f ∷ es;
            parts = refl;
            below = tt;
            above = (more, all_weaker (IsBelow f) (IsBelow e) (λ x above. below_transitive e f x more above) es h.0);
          })
    ]

-- a list with a place for the entry has it not
pub place_absent : (e : Entry) (es : List Entry) → Place e es → ¬ (Has es e)
place_absent e es p held = not_between p.before p.after e p.below p.above (subst (λ xs. Has xs e) p.parts held)

-- the entry is added at its place
pub place_adds : (e : Entry) (es : List Entry) (p : Place e es) → AddsEntry e es (p.before ++ e ∷ p.after) New
place_adds e es p = (place_absent e es p, (p.before, p.after, p.parts, refl))

pub place_archive : (most : ℕ) (e : Entry) (es : List Entry) (p : Place e es) → IsArchive most es → IsEntry e
    → length e.octets ≤ most → IsArchive most (p.before ++ e ∷ p.after)
place_archive most e es p h entry fits = archive_inserted most p.before p.after e (subst (IsArchive most) p.parts h)
    entry fits p.below p.above

-- the members once an entry was added
pub adds_has : (e : Entry) (old new : List Entry) (added : Added) → AddsEntry e old new added → (x : Entry)
    → Has new x ↔ ((e ≡ x) ⊎ Has old x)
adds_has e old new New (none, (a, b, is_old, is_new)) x =
    subst (λ xs. Has new x ↔ ((e ≡ x) ⊎ Has xs x)) (sym is_old)
    (subst (λ xs. Has xs x ↔ ((e ≡ x) ⊎ Has (a ++ b) x)) (sym is_new) (has_inserted_iff a b e x))
adds_has e old new Held (held, same) x = (
  λ h. inr (subst (λ xs. Has xs x) same h),
  λ h. subst (λ xs. Has xs x) (sym same) (elim h [ inl first ↦ subst (Has old) first held | inr more ↦ more ]),
)
