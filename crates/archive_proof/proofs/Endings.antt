-- The proofs that are made when all entries have come.
use Rattle.std.proofs.Common.{◌≡◌, ℕ, zero, suc, ◌+◌, ◌^◌, ◌<◌, ◌≤◌, ◌⊎◌, inl, inr, List, [], ◌∷◌, ◌++◌, length, refl}
use Rattle.std.proofs.Common.{sym, ap, subst, ◌∙◌, arith, length-append}
use Rattle.std.specs.Prelude.{Some, None, Option, Vec, ℤ, codes}
use Rattle.std.specs.List.{AllByRecursion, flat_map}
use Rattle.std.specs.declared.alloc.Global.{Global}
use Rattle.sha2.specs.Sha256.{sha256}
use Rattle.syslog_value.specs.Parts.{Parts as RecordParts}
use Rattle.syslog_fields.specs.Canonical.{Canonical, HeaderForm}
use Rattle.archive_text.specs.Entries.{Entry, Has, IsAscending, IsEntry}
use Rattle.archive_text.proofs.Members.{of_member}
use Rattle.archive_text.specs.declared.limits.TheConstants.{ENTRY_MAX}
use Rattle.archive_tree.proofs.Archives.{count_of_texts}
use Rattle.archive_tree.specs.Tree.{audit_path, tree_hash}
use Rattle.archive_tree.specs.Trees.{AtOnePlace, IsFollowed}
use Rattle.archive_tree.specs.declared.audit_path.AuditPath.{AuditPath}
use Rattle.archive_tree.specs.declared.head.TreeHead.{TreeHead}
use Rattle.archive_tree.specs.declared.stream.TreeStream.{TreeStream}
use Rattle.archive_tree.proofs.TreeLaws.{hash_none}
use Rattle.archive_tree.specs.Archives.{IsRootOf, texts_of}
use Rattle.archive_proof.specs.Asking.{asked_entries, asked_entry}
use Rattle.archive_proof.specs.Entries.{IsEntryAt}
use Rattle.archive_proof.specs.Making.{made_side, made_text, made_texts}
use Rattle.archive_proof.specs.Proving.{AreProofsOf, ArePlaced, HasBefore, IsPlaced, IsProofOf, IsTracked}
use Rattle.archive_proof.specs.Reading.{IsMade, IsPath, IsShortSide, IsSide}
use Rattle.archive_proof.specs.Showing.{Leads, Parts, StandsBefore, StandsBehind}
use Rattle.archive_proof.specs.Texts.{beside_text, proof_text, side_text}
use Rattle.archive_proof.specs.declared.asked.AskedRecord.{AskedRecord}
use Rattle.archive_proof.specs.declared.proof.Neighbour.{Neighbour}
use Rattle.archive_proof.specs.declared.proof.Proof.{Proof}
use Rattle.archive_proof.specs.declared.proof.Proof.TheVariants.{Present, Absent}
use Rattle.archive_proof.specs.declared.search.Place.{Place}
use Rattle.archive_proof.specs.declared.search.Place.TheVariants.{Ahead, Found, Passed}
use Rattle.archive_proof.specs.declared.search.Search.{Search}
use Rattle.archive_proof.proofs.Makings.{leads_up}
use Rattle.archive_proof.proofs.Readable.{path_is}
use Rattle.archive_proof.proofs.Places.{above_last, below_first, between, entry_is_in}

canonical_some : (r : RecordParts ℤ) (b : List ℕ) → Canonical r b → 0 < length b
unfolding HeaderForm
canonical_some r b (x, y, e, (u, v, f, g, h), k) =
    omega (arith, ap length e, length-append x y, ap length f, length-append u v, ap length g)

-- ---- the proof that a search has led to

-- the neighbour of these octets, if there are any
abbrev beside : List ℕ → Vec ℕ Global → AuditPath → Option Neighbour
beside [] octets p = None
beside (x ∷ xs) octets p = Some (record { octets = octets; path = p })

abbrev made_proof : Place → Search → AuditPath → AuditPath → Proof
made_proof Found s p q = Present p
made_proof Ahead s p q = Absent (beside s.before.items s.before p) (beside s.behind.items s.behind q)
made_proof Passed s p q = Absent (beside s.before.items s.before p) (beside s.behind.items s.behind q)

side_is : (word l : List ℕ) (octets : Vec ℕ Global) (p : AuditPath) → octets.items ≡ l
    → made_side word l p ≡ side_text word (beside l octets p)
side_is word [] octets p same = refl
side_is word (x ∷ xs) octets p same = ap (λ (o : List ℕ). word ++ beside_text o p) (sym same)

absent_is : (s : Search) (p q : AuditPath) → codes "absent\n" ++ made_side (codes "before ") s.before.items p
    ++ made_side (codes "behind ") s.behind.items q ++ 10 ∷ []
    ≡ proof_text (Absent (beside s.before.items s.before p) (beside s.behind.items s.behind q))
absent_is s p q =
    ap (λ (o : List ℕ). codes "absent\n" ++ o ++ made_side (codes "behind ") s.behind.items q ++ 10 ∷ [])
    (side_is (codes "before ") s.before.items s.before p refl)
    ∙ ap (λ (o : List ℕ). codes "absent\n" ++ side_text (codes "before ") (beside s.before.items s.before p) ++ o
    ++ 10 ∷ []) (side_is (codes "behind ") s.behind.items s.behind q refl)

text_is : (place : Place) (s : Search) (p q : AuditPath) → made_text place s p q ≡ proof_text (made_proof place s p q)
text_is Found s p q = refl
text_is Ahead s p q = absent_is s p q
text_is Passed s p q = absent_is s p q

-- ---- what it shows

-- what `finish` of a tree ensures of a path
abbrev Ends : TreeStream → AuditPath → AuditPath → Type 0
Ends t p q =
    (index : ℕ) (ts : List (List ℕ)) → length ts < 2 ^ 64 → IsFollowed t index p ts → index < length ts
    → (q.index ≡ index) × (q.hashes.items ≡ audit_path ts index)

-- and of all paths
abbrev pub Finishes : TreeStream → List AuditPath → List AuditPath → Type 0
Finishes t old new =
    (index : ℕ) (p q : AuditPath) (ts : List (List ℕ)) → AtOnePlace old new p q → length ts < 2 ^ 64
    → IsFollowed t index p ts → index < length ts → (q.index ≡ index) × (q.hashes.items ≡ audit_path ts index)

-- octets that are kept are a neighbour's
abbrev Keeps : Vec ℕ Global → AuditPath → Option Neighbour → Type 0
Keeps octets path o =
    (octets.items ≡ [] → o ≡ None) × (0 < length octets.items → o ≡ Some (record { octets = octets; path = path }))

beside_keeps : (l : List ℕ) (octets : Vec ℕ Global) (p : AuditPath) → octets.items ≡ l
    → Keeps octets p (beside l octets p)
beside_keeps [] octets p same = (λ none. refl, λ some. absurd (omega (arith, ap (λ (o : List ℕ). length o) same)))
beside_keeps (x ∷ xs) octets p same =
    (λ none. absurd (omega (arith, ap (λ (o : List ℕ). length o) (sym same ∙ none))), λ some. refl)

within : (xs : List Entry) (i : ℕ) (e : Entry) → IsEntryAt xs i e → i < length xs
within [] i e at = absurd at
within (x ∷ xs) zero e at = omega arith
within (x ∷ xs) (suc i) e at = omega (arith, within xs i e at)

no_entries : (ys : List Entry) (r : Entry) → length ys ≡ 0 → Has ys r → ⊥
no_entries [] r none held = held
no_entries (y ∷ ys) r none held = absurd (omega arith)

-- a record whose place is ahead of the entries, or before one of them, is none of them
ahead_absent : (r : Entry) (t : TreeStream) (s : Search) (p q : AuditPath) (xs : List Entry) → IsAscending xs
    → IsPlaced Ahead r t s p q xs xs → ¬ (Has xs r)
ahead_absent r t s p q xs order (none, inl (first, nil)) held = no_entries xs r first held
ahead_absent r t s p q xs order (none, inr (j, (e, (next, below, same, k)))) held =
    above_last xs j e r order k.at next below held

passed_absent : (r : Entry) (t : TreeStream) (s : Search) (p q : AuditPath) (xs : List Entry) → IsAscending xs
    → IsPlaced Passed r t s p q xs xs → ¬ (Has xs r)
passed_absent r t s p q xs order (i, (e, (above, same, k, inl (first, nil)))) held =
    below_first xs e r order (subst (λ (n : ℕ). IsEntryAt xs n e) first k.at) above held
passed_absent r t s p q xs order (i, (e, (above, same, k, inr (j, (f, (next, below, also, m)))))) held =
    between xs j f e r order m.at (subst (λ (n : ℕ). IsEntryAt xs n e) (sym next) k.at) below above held

module _ (head : TreeHead) (t : TreeStream) (xs : List Entry) (room : length xs < 2 ^ 64) (is : IsRootOf head xs)
    (order : IsAscending xs) (all : AllByRecursion IsEntry xs)
    (fits : AllByRecursion (λ (e : Entry). length e.octets ≤ ENTRY_MAX) xs) where
  -- the path of an entry that was tracked leads to the root
  tracked_end : (i : ℕ) (e : Entry) (p q : AuditPath) → Ends t p q → IsTracked t p i e xs xs
      → (q.index ≡ i) × Leads head e.octets q
  tracked_end i e p q ends h =
      let fits : length (texts_of xs) < 2 ^ 64 = omega (arith, count_of_texts xs, room) in
      let done = ends i (texts_of xs) fits h.followed (omega (arith, within xs i e h.at, count_of_texts xs)) in
      (done.0, leads_up head q i e xs room is h.at done.0 done.1)

  own_entry : (i : ℕ) (e : Entry) → IsEntryAt xs i e → IsEntry e
  own_entry i e at = of_member IsEntry xs e all (entry_is_in xs i e at)

  some_octets : (i : ℕ) (e : Entry) (o : List ℕ) → IsEntryAt xs i e → o ≡ e.octets → 0 < length o
  some_octets i e o at same =
      let own : IsEntry e = own_entry i e at in
      let some : 0 < length e.octets = canonical_some own.0 e.octets own.1.canonical in
      subst (λ (l : List ℕ). 0 < length l) (sym same) some

  none_between : (r : Entry) → head.size ≡ 0 → Parts head r None None
  none_between r size = (size, is.hash ∙ nothing xs (sym (is.size ∙ count_of_texts xs) ∙ size))
    where
      nothing : (ys : List Entry) → length ys ≡ 0 → tree_hash (texts_of ys) ≡ sha256 []
      nothing [] none = hash_none
      nothing (y ∷ ys) none = absurd (omega arith)

  module _ (r : Entry) (s : Search) (p q v w : AuditPath) (first : Ends t p v) (second : Ends t q w)
      (before behind : Option Neighbour) (keeps_before : Keeps s.before v before)
      (keeps_behind : Keeps s.behind w behind) where
    -- the neighbour before the place
    abbrev Before : ℕ → Type 0
    Before i =
        ((i ≡ 0) × (before ≡ None))
        ⊎ ((n : Neighbour) × ((before ≡ Some n) × (n.path.index + 1 ≡ i) × StandsBefore head n r))

    before_end : (i : ℕ) → HasBefore r t s p i xs xs → Before i
    before_end i (inl none) = inl (none.0, keeps_before.0 none.1)
    before_end i (inr (j, (e, (next, below, same, k)))) =
        let done = tracked_end j e p v first k in
        let place : v.index ≡ j = done.0 in
        inr (
          record { octets = s.before; path = v },
          (
            keeps_before.1 (some_octets j e s.before.items k.at same),
            omega arith,
            record {
              own = e;
              stands = record {
                entry = own_entry j e k.at;
                octets = sym same;
                leads = subst (λ (l : List ℕ). Leads head l v) (sym same) done.1;
              };
              below = below;
            },
          ),
        )

    -- behind all entries
    ahead_end : IsPlaced Ahead r t s p q xs xs → Parts head r before behind
    ahead_end h =
        let size : head.size ≡ length xs = is.size ∙ count_of_texts xs in
        let none : behind ≡ None = keeps_behind.0 h.0 in
        elim (before_end (length xs) h.1) [
          | inl (first_of_all, nil) ↦ rw (nil, none) (none_between r (omega arith))
          | inr (n, (some, next, stands)) ↦ rw (some, none) (omega arith, stands)
        ]

    -- before one of them
    passed_end : IsPlaced Passed r t s p q xs xs → Parts head r before behind
    passed_end (i, (e, (above, same, k, h))) =
        let done = tracked_end i e q w second k in
        let place : w.index ≡ i = done.0 in
        let last : behind ≡ Some (record { octets = s.behind; path = w }) =
        keeps_behind.1 (some_octets i e s.behind.items k.at same) in
        let stands : StandsBehind head (record { octets = s.behind; path = w }) r = record {
          own = e;
          stands = record {
            entry = own_entry i e k.at;
            octets = sym same;
            leads = subst (λ (l : List ℕ). Leads head l w) (sym same) done.1;
          };
          below = above;
        } in
        elim (before_end i h) [
          | inl (first_of_all, nil) ↦ rw (nil, last) (place ∙ first_of_all, stands)
          | inr (n, (some, next, before_it)) ↦ rw (some, last) (next ∙ sym place, before_it, stands)
        ]

  proof_end : (place : Place) (r : Entry) (s : Search) (p q v w : AuditPath) → Ends t p v → Ends t q w
      → IsPlaced place r t s p q xs xs → IsProofOf head xs r (made_proof place s v w)
  proof_end Found r s p q v w first second (i, h) = inl (entry_is_in xs i r h.at, (tracked_end i r p v first h).1)
  proof_end Ahead r s p q v w first second h = inr (
    ahead_absent r t s p q xs order h,
    ahead_end r s p q v w first second (beside s.before.items s.before v) (beside s.behind.items s.behind w)
        (beside_keeps s.before.items s.before v refl) (beside_keeps s.behind.items s.behind w refl) h,
  )
  proof_end Passed r s p q v w first second h = inr (
    passed_absent r t s p q xs order h,
    passed_end r s p q v w first second (beside s.before.items s.before v) (beside s.behind.items s.behind w)
        (beside_keeps s.before.items s.before v refl) (beside_keeps s.behind.items s.behind w refl) h,
  )

  -- ---- and that it can be read

  tracked_path : (i : ℕ) (e : Entry) (p q : AuditPath) → Ends t p q → IsTracked t p i e xs xs → IsPath q
  tracked_path i e p q ends h =
      let here : i < length xs = within xs i e h.at in
      let few : length (texts_of xs) < 2 ^ 64 = omega (arith, count_of_texts xs, room) in
      let done = ends i (texts_of xs) few h.followed (omega (arith, here, count_of_texts xs)) in
      path_is xs i q room here done.0 done.1

  short_octets : (i : ℕ) (e : Entry) (o : List ℕ) → IsEntryAt xs i e → o ≡ e.octets → length o ≤ ENTRY_MAX
  short_octets i e o at same =
      subst (λ (l : List ℕ). length l ≤ ENTRY_MAX) (sym same)
      (of_member (λ (x : Entry). length x.octets ≤ ENTRY_MAX) xs e fits (entry_is_in xs i e at))

  abbrev MadeSide : Option Neighbour → Type 0
  MadeSide o = IsSide o × IsShortSide o

  no_side : (l : List ℕ) (octets : Vec ℕ Global) (q : AuditPath) → l ≡ [] → MadeSide (beside l octets q)
  no_side [] octets q none = (tt, tt)
  no_side (x ∷ l) octets q none = absurd (omega (arith, ap (λ (o : List ℕ). length o) none))

  one_side : (l : List ℕ) (octets : Vec ℕ Global) (q : AuditPath) → octets.items ≡ l → length octets.items ≤ ENTRY_MAX
      → IsPath q → MadeSide (beside l octets q)
  one_side [] octets q same short path = (tt, tt)
  one_side (x ∷ l) octets q same short path = (record { size = omega (arith, short); path = path }, short)

  before_made : (r : Entry) (s : Search) (p v : AuditPath) (i : ℕ) → Ends t p v → HasBefore r t s p i xs xs
      → MadeSide (beside s.before.items s.before v)
  before_made r s p v i ends (inl none) = no_side s.before.items s.before v none.1
  before_made r s p v i ends (inr (j, (e, (next, below, same, k)))) =
      one_side s.before.items s.before v refl (short_octets j e s.before.items k.at same) (tracked_path j e p v ends k)

  made_is : (place : Place) (r : Entry) (s : Search) (p q v w : AuditPath) → Ends t p v → Ends t q w
      → IsPlaced place r t s p q xs xs → IsMade (made_proof place s v w)
  made_is Found r s p q v w first second (i, h) = record { proof = tracked_path i r p v first h; short = tt }
  made_is Ahead r s p q v w first second h =
      let before = before_made r s p v (length xs) first h.1 in
      let behind = no_side s.behind.items s.behind w h.0 in
      record { proof = (before.0, behind.0); short = (before.1, behind.1) }
  made_is Passed r s p q v w first second (i, (e, (above, same, k, h))) =
      let before = before_made r s p v i first h in
      let behind = one_side s.behind.items s.behind w refl (short_octets i e s.behind.items k.at same)
      (tracked_path i e q w second k) in
      record { proof = (before.0, behind.0); short = (before.1, behind.1) }

  -- the texts of the proofs of all records
  abbrev pub Made : List AskedRecord → List Search → List AuditPath → Type 0
  Made rs ss new =
      (ps : List Proof) × AreProofsOf head xs (asked_entries rs) ps × AllByRecursion IsMade ps
      × (made_texts ss new ≡ flat_map proof_text ps)

  pub all_end : (rs : List AskedRecord) (ss : List Search) (old new : List AuditPath) → Finishes t old new
      → length new ≡ length old → ArePlaced t xs xs rs ss old → Made rs ss new
  all_end [] [] [] [] ends same h = ([], tt, tt, refl)
  all_end [] [] [] (v ∷ new) ends same h = absurd (omega (arith, same))
  all_end [] [] (p ∷ old) new ends same h = absurd h
  all_end [] (s ∷ ss) old new ends same h = absurd h
  all_end (r ∷ rs) [] old new ends same h = absurd h
  all_end (r ∷ rs) (s ∷ ss) [] new ends same h = absurd h
  all_end (r ∷ rs) (s ∷ ss) (p ∷ []) new ends same h = absurd h
  all_end (r ∷ rs) (s ∷ ss) (p ∷ q ∷ old) [] ends same h = absurd (omega (arith, same))
  all_end (r ∷ rs) (s ∷ ss) (p ∷ q ∷ old) (v ∷ []) ends same h = absurd (omega (arith, same))
  all_end (r ∷ rs) (s ∷ ss) (p ∷ q ∷ old) (v ∷ w ∷ new) ends same h =
      let rest = all_end rs ss old new (λ index a b ts at fits follows here. ends index a b ts (inr (inr at)) fits
      follows here) (omega (arith, same)) h.1 in (
        made_proof s.place s v w ∷ rest.0,
        (
          proof_end s.place (asked_entry r) s p q v w
              (λ index ts fits follows here. ends index p v ts (inl (refl, refl)) fits follows here)
              (λ index ts fits follows here. ends index q w ts (inr (inl (refl, refl))) fits follows here) h.0,
          rest.1,
        ),
        (
          made_is s.place (asked_entry r) s p q v w
              (λ index ts fits follows here. ends index p v ts (inl (refl, refl)) fits follows here)
              (λ index ts fits follows here. ends index q w ts (inr (inl (refl, refl))) fits follows here) h.0,
          rest.2,
        ),
        ap (λ (l : List ℕ). l ++ made_texts ss new) (text_is s.place s v w)
            ∙ ap (λ (l : List ℕ). proof_text (made_proof s.place s v w) ++ l) rest.3,
      )

-- ---- searches without paths

pub made_none : (ps : List AuditPath) → made_texts [] ps ≡ []
made_none ps = refl

pub made_short : (ss : List Search) (ps : List AuditPath) → length ps < 2 → made_texts ss ps ≡ []
made_short [] ps few = refl
made_short (s ∷ ss) [] few = refl
made_short (s ∷ ss) (p ∷ []) few = refl
made_short (s ∷ ss) (p ∷ q ∷ ps) few = absurd (omega (arith, few))
