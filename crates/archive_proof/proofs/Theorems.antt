-- What a proof shows is so, unless SHA-256 is the same of two texts.
use Rattle.std.proofs.Common.{◌≡◌, ℕ, suc, ◌+◌, ◌^◌, ◌<◌, ◌≤◌, ◌⊎◌, inl, inr, List, [], ◌∷◌, length, reverse, sym, ap}
use Rattle.std.proofs.Common.{subst, ◌∙◌, arith}
use Rattle.std.specs.List.{AllByRecursion}
use Rattle.std.specs.Prelude.{Option, None, Some}
use Rattle.archive_text.specs.Entries.{Entry, Has, IsAscending, IsBelow, IsEntry}
use Rattle.archive_tree.proofs.Archives.{count_of_texts}
use Rattle.archive_tree.specs.Tree.{leaf_hash, hash_to}
use Rattle.archive_tree.specs.declared.audit_path.AuditPath.{AuditPath}
use Rattle.archive_tree.specs.declared.head.TreeHead.{TreeHead}
use Rattle.archive_tree.proofs.TreeLaws.{hash_at}
use Rattle.archive_proof.specs.Climbing.{climb}
use Rattle.archive_tree.specs.Archives.{IsRootOf, texts_of}
use Rattle.archive_proof.specs.Entries.{IsAt, IsEntryAt}
use Rattle.archive_proof.specs.Showing.{CollidesAt, CollidesOn, Leads, Parts, Stands}
use Rattle.archive_proof.specs.declared.proof.Neighbour.{Neighbour}
use Rattle.archive_proof.proofs.Places.{above_last, below_first, between, entry_at, entry_is_in}
use Rattle.archive_proof.proofs.Soundness.{sound}

leads_from : (head : TreeHead) (octets : List ℕ) (p : AuditPath) (xs : List Entry) → head.size < 2 ^ 64
    → IsRootOf head xs → Leads head octets p → IsAt (texts_of xs) p.index octets ⊎ CollidesOn xs octets p
leads_from head octets p xs room is h =
    let size : head.size ≡ length (texts_of xs) = is.size in
    let fits : length (texts_of xs) ≤ 2 ^ 64 = omega arith in
    let top : head.hash ≡ hash_to 64 (texts_of xs) = is.hash ∙ hash_at 64 (texts_of xs) fits in
    let way : climb 64 (length (texts_of xs)) p.index (leaf_hash octets) (reverse p.hashes.items)
    ≡ Some (hash_to 64 (texts_of xs)) =
    ap (λ (n : ℕ). climb 64 n p.index (leaf_hash octets) (reverse p.hashes.items)) (sym size) ∙ h.climbs ∙ ap Some
    top in
    sound 64 (texts_of xs) p.index octets (reverse p.hashes.items) fits (omega (arith, h.within)) way

-- what leads to the root from the octets of an entry is that entry
leads_to : (head : TreeHead) (e : Entry) (p : AuditPath) (xs : List Entry) → head.size < 2 ^ 64 → IsRootOf head xs
    → AllByRecursion IsEntry xs → IsEntry e → Leads head e.octets p
    → IsEntryAt xs p.index e ⊎ CollidesOn xs e.octets p
leads_to head e p xs room is all own h = elim (leads_from head e.octets p xs room is h) [
  | inl at ↦ inl (entry_at xs p.index e all own at)
  | inr c ↦ inr c
]

pub present_is_in : (head : TreeHead) (e : Entry) (p : AuditPath) (xs : List Entry) → head.size < 2 ^ 64
    → IsRootOf head xs → AllByRecursion IsEntry xs → IsEntry e → Leads head e.octets p
    → Has xs e ⊎ CollidesOn xs e.octets p
present_is_in head e p xs room is all own h = elim (leads_to head e p xs room is all own h) [
  | inl at ↦ inl (entry_is_in xs p.index e at)
  | inr c ↦ inr c
]

stands_at : (head : TreeHead) (n : Neighbour) (e : Entry) (xs : List Entry) → head.size < 2 ^ 64 → IsRootOf head xs
    → AllByRecursion IsEntry xs → Stands head n e → IsEntryAt xs n.path.index e ⊎ CollidesAt xs (Some n)
stands_at head n e xs room is all h =
    subst (λ (l : List ℕ). IsEntryAt xs n.path.index e ⊎ CollidesOn xs l n.path) h.octets
    (leads_to head e n.path xs room is all h.entry (subst (λ (l : List ℕ). Leads head l n.path) (sym h.octets) h.leads))

first_case : (x e : Entry) (n : Neighbour) (xs : List Entry) → IsAscending xs → n.path.index ≡ 0 → IsBelow x e
    → IsEntryAt xs n.path.index e ⊎ CollidesAt xs (Some n) → (¬ (Has xs x)) ⊎ (CollidesAt xs None ⊎ CollidesAt xs
    (Some n))
first_case x e n xs order first less (inl at) =
    inl (below_first xs e x order (subst (λ (i : ℕ). IsEntryAt xs i e) first at) less)
first_case x e n xs order first less (inr c) = inr (inr c)

last_case : (head : TreeHead) (x e : Entry) (n : Neighbour) (xs : List Entry) → IsAscending xs → head.size ≡ length xs
    → n.path.index + 1 ≡ head.size → IsBelow e x → IsEntryAt xs n.path.index e ⊎ CollidesAt xs (Some n)
    → (¬ (Has xs x)) ⊎ (CollidesAt xs (Some n) ⊎ CollidesAt xs None)
last_case head x e n xs order size last more (inl at) =
    inl (above_last xs n.path.index e x order at (omega arith) more)
last_case head x e n xs order size last more (inr c) = inr (inl c)

between_case : (x a b : Entry) (p s : Neighbour) (xs : List Entry) → IsAscending xs → p.path.index + 1 ≡ s.path.index
    → IsBelow a x → IsBelow x b → IsEntryAt xs p.path.index a ⊎ CollidesAt xs (Some p)
    → IsEntryAt xs s.path.index b ⊎ CollidesAt xs (Some s)
    → (¬ (Has xs x)) ⊎ (CollidesAt xs (Some p) ⊎ CollidesAt xs (Some s))
between_case x a b p s xs order next more less (inr c) k = inr (inl c)
between_case x a b p s xs order next more less (inl at) (inr c) = inr (inr c)
between_case x a b p s xs order next more less (inl at) (inl then) =
    let follows : s.path.index ≡ suc p.path.index = omega arith in
    inl (between xs p.path.index a b x order at (subst (λ (i : ℕ). IsEntryAt xs i b) follows then) more less)

none_case : (x : Entry) (xs : List Entry) → length xs ≡ 0 → ¬ (Has xs x)
none_case x [] size h = h
none_case x (y ∷ ys) size h = absurd (omega arith)

pub absent_is_not_in : (head : TreeHead) (x : Entry) (before behind : Option Neighbour) (xs : List Entry)
    → head.size < 2 ^ 64 → IsRootOf head xs → IsAscending xs → AllByRecursion IsEntry xs → Parts head x before behind
    → (¬ (Has xs x)) ⊎ (CollidesAt xs before ⊎ CollidesAt xs behind)
absent_is_not_in head x None None xs room is order all h =
    inl (none_case x xs (sym (is.size ∙ count_of_texts xs) ∙ h.0))
absent_is_not_in head x None (Some s) xs room is order all h =
    first_case x h.1.own s xs order h.0 h.1.below (stands_at head s h.1.own xs room is all h.1.stands)
absent_is_not_in head x (Some p) None xs room is order all h =
    last_case head x h.1.own p xs order (is.size ∙ count_of_texts xs) h.0 h.1.below
    (stands_at head p h.1.own xs room is all h.1.stands)
absent_is_not_in head x (Some p) (Some s) xs room is order all h =
    between_case x h.1.own h.2.own p s xs order h.0 h.1.below h.2.below
    (stands_at head p h.1.own xs room is all h.1.stands) (stands_at head s h.2.own xs room is all h.2.stands)
