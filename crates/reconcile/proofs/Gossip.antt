-- Facts on sites that are reconciled in pairs.
use Rattle.std.proofs.Common.{◌≡◌, ◌≢◌, ℕ, ◌<◌, ◌≤◌, List, [], ◌∷◌, true, false, eqb, sym, refl, ap, ◌∙◌, subst}
use Rattle.std.proofs.Common.{inl, inr}
use Rattle.std.specs.Prelude.{◌||◌, ◌⊎◌}
use Rattle.std.proofs.lemmas.Bool.{cases_eq, cases_lt, cond-true, cond-false, eq-eqb, eqb-true}
use Rattle.std.proofs.lemmas.Bool.{ne_eqb, or_cases, or_from, or_left, or_right}
use Rattle.archive_text.specs.Entries.{Entry, Has}
use Rattle.archive_text.specs.Text.{IsArchive}
use Rattle.archive_text.specs.declared.limits.TheConstants.{ENTRY_MAX}
use Rattle.archive_text.proofs.Ascending.{same_members}
use Rattle.reconcile.specs.Gossip.{Converge, HasAtLast, Meet, MeetAll, Sites, leads}

-- a site is one of a pair or not
abbrev IsOne : ℕ → ℕ → ℕ → Type 0
IsOne k i j = (k ≡ i) ⊎ (k ≡ j)

one_cases : (k i j : ℕ) → IsOne k i j ⊎ ((k ≢ i) × (k ≢ j))
one_cases k i j =
    elim (cases_eq k i) [
      | inl e ↦ inl (inl e)
      | inr n ↦ elim (cases_eq k j) [ inl e ↦ inl (inr e) | inr m ↦ inr (n, m) ]
    ]

one_true : (k i j : ℕ) → IsOne k i j → (eqb k i || eqb k j) ≡ true
one_true k i j (inl e) = or_left (eqb k i) (eqb k j) (eq-eqb k i e)
one_true k i j (inr e) = or_right (eqb k i) (eqb k j) (eq-eqb k j e)

none_false : (k i j : ℕ) → k ≢ i → k ≢ j → (eqb k i || eqb k j) ≡ false
none_false k i j n m = or_from (eqb k i) (eqb k j) (ne_eqb k i n) (ne_eqb k j m)

-- what one of a pair has then
now_of_one : (i j k : ℕ) (s t : Sites) → Meet i j s t → IsOne k i j → t k ≡ t i
now_of_one i j k s t h (inl e) = ap t e
now_of_one i j k s t h (inr e) = ap t e ∙ h.second

had_one : (i j k : ℕ) (s t : Sites) (x : Entry) → Meet i j s t → IsOne k i j → Has (t k) x → Has (s i) x ⊎ Has (s j) x
had_one i j k s t x h one m = (h.first.members x).0 (subst (λ l. Has l x) (now_of_one i j k s t h one) m)

has_one : (i j k : ℕ) (s t : Sites) (x : Entry) → Meet i j s t → IsOne k i j → Has (s k) x → Has (t i) x
has_one i j k s t x h (inl e) m = (h.first.members x).1 (inl (subst (λ q. Has (s q) x) e m))
has_one i j k s t x h (inr e) m = (h.first.members x).1 (inr (subst (λ q. Has (s q) x) e m))

leads_first : (p : ℕ × ℕ) (ps : List (ℕ × ℕ)) (k j : ℕ) → IsOne k p.0 p.1
    → leads (p ∷ ps) k j ≡ (leads ps p.0 j || leads ps p.1 j)
leads_first p ps k j one = cond-true (eqb k p.0 || eqb k p.1) _ _ (one_true k p.0 p.1 one)

leads_other : (p : ℕ × ℕ) (ps : List (ℕ × ℕ)) (k j : ℕ) → k ≢ p.0 → k ≢ p.1 → leads (p ∷ ps) k j ≡ leads ps k j
leads_other p ps k j n m = cond-false (eqb k p.0 || eqb k p.1) _ _ (none_false k p.0 p.1 n m)

leads_either : (p : ℕ × ℕ) (ps : List (ℕ × ℕ)) (k j : ℕ) → IsOne k p.0 p.1 → leads ps k j ≡ true
    → (leads ps p.0 j || leads ps p.1 j) ≡ true
leads_either p ps k j (inl e) h = or_left (leads ps p.0 j) (leads ps p.1 j) (subst (λ q. leads ps q j ≡ true) e h)
leads_either p ps k j (inr e) h = or_right (leads ps p.0 j) (leads ps p.1 j) (subst (λ q. leads ps q j ≡ true) e h)

comes_from : (ps : List (ℕ × ℕ)) (s t : Sites) → MeetAll ps s t → (j : ℕ) (x : Entry) → Has (t j) x
    → (i : ℕ) × (leads ps i j ≡ true) × Has (s i) x
comes_from [] s t h j x m = (j, eq-eqb j j refl, subst (λ l. Has l x) (h j) m)
comes_from (p ∷ ps) s t h j x m =
    let from = comes_from ps h.0 t h.2 j x m in
    let i = from.0 in
    elim (one_cases i p.0 p.1) [
      | inl one ↦
          let both = leads_either p ps i j one from.1 in
          elim (had_one p.0 p.1 i s h.0 x h.1 one from.2) [
            | inl k ↦ (p.0, leads_first p ps p.0 j (inl refl) ∙ both, k)
            | inr k ↦ (p.1, leads_first p ps p.1 j (inr refl) ∙ both, k)
          ]
      | inr out ↦ (i, leads_other p ps i j out.0 out.1 ∙ from.1, subst (λ l. Has l x) (h.1.others i out.0 out.1) from.2)
    ]

comes_to : (ps : List (ℕ × ℕ)) (s t : Sites) → MeetAll ps s t → (i j : ℕ) (x : Entry) → leads ps i j ≡ true
    → Has (s i) x → Has (t j) x
comes_to [] s t h i j x l m =
    subst (λ e. Has e x) (sym (h j)) (subst (λ q. Has (s q) x) (eqb-true i j l) m)
comes_to (p ∷ ps) s t h i j x l m =
    elim (one_cases i p.0 p.1) [
      | inl one ↦
          let now : Has (h.0 p.0) x = has_one p.0 p.1 i s h.0 x h.1 one m in
          elim (or_cases (leads ps p.0 j) (leads ps p.1 j) (sym (leads_first p ps i j one) ∙ l)) [
            | inl k ↦ comes_to ps h.0 t h.2 p.0 j x k now
            | inr k ↦ comes_to ps h.0 t h.2 p.1 j x k (subst (λ e. Has e x) (sym h.1.second) now)
          ]
      | inr out ↦
          comes_to ps h.0 t h.2 i j x (sym (leads_other p ps i j out.0 out.1) ∙ l)
          (subst (λ e. Has e x) (sym (h.1.others i out.0 out.1)) m)
    ]

pub has_at_last : (ps : List (ℕ × ℕ)) (s t : Sites) → MeetAll ps s t → (j : ℕ) (x : Entry) → HasAtLast ps s t j x
has_at_last ps s t h j x = (comes_from ps s t h j x, λ k. comes_to ps s t h k.0 j x k.1 k.2)

all_archives : (ps : List (ℕ × ℕ)) (s t : Sites) → MeetAll ps s t → ((k : ℕ) → IsArchive ENTRY_MAX (s k)) → (k : ℕ)
    → IsArchive ENTRY_MAX (t k)
all_archives [] s t h all k = subst (IsArchive ENTRY_MAX) (sym (h k)) (all k)
all_archives (p ∷ ps) s t h all k =
    all_archives ps h.0 t h.2 (λ q. elim (one_cases q p.0 p.1) [
      | inl one ↦ subst (IsArchive ENTRY_MAX) (sym (now_of_one p.0 p.1 q s h.0 h.1 one)) h.1.first.archive
      | inr out ↦ subst (IsArchive ENTRY_MAX) (sym (h.1.others q out.0 out.1)) (all q)
    ]) k

none_beyond : (n k : ℕ) (s : Sites) (x : Entry) → ((q : ℕ) → n ≤ q → s q ≡ []) → Has (s k) x → k < n
none_beyond n k s x none m =
    elim (cases_lt k n) [
      | inl less ↦ less
      | inr le ↦ absurd (subst (λ l. Has l x) (none k le) m)
    ]

pub converge : (ps : List (ℕ × ℕ)) (n : ℕ) → Converge ps n
converge ps n s t archives none all h i j li lj =
    let a = all_archives ps s t h archives in
    let over = λ (u v : ℕ) (lu : u < n) (lv : v < n) (x : Entry) (m : Has (t u) x).
    (let from = comes_from ps s t h u x m in
    comes_to ps s t h from.0 v x (all from.0 v (none_beyond n from.0 s x none from.2) lv) from.2) in (
      same_members (t i) (t j) (a i).ascending (a j).ascending (over i j li lj) (over j i lj li),
      λ x. (
        λ m. let from = comes_from ps s t h i x m in (from.0, from.2),
        λ k. comes_to ps s t h k.0 i x (all k.0 i (none_beyond n k.0 s x none k.1) li) k.1,
      ),
    )
