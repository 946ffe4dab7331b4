-- Proofs under way.
use Rattle.std.proofs.Common.{◌≡◌, ◌≢◌, ℕ, zero, suc, ◌+◌, ◌*◌, ◌^◌, ◌<◌, ◌≤◌, inl, inr, List, [], ◌∷◌, ◌++◌, length}
use Rattle.std.proofs.Common.{drop, reverse, refl, sym, ap, subst, take, ◌∙◌, arith, length-append}
use Rattle.std.proofs.lemmas.Grind.{common_steps}
use Rattle.std.specs.List.{AllByRecursion}
use Rattle.std.specs.Prelude.{Some}
use Rattle.archive_text.specs.Entries.{Entry, IsBelow}
use Rattle.archive_tree.proofs.Archives.{count_of_texts, texts_append}
use Rattle.archive_tree.specs.Tree.{audit_path, hash_to, path_to, leaf_hash}
use Rattle.archive_tree.specs.Trees.{AtOnePlace, HasTaken, IsFollowed}
use Rattle.archive_tree.specs.declared.audit_path.AuditPath.{AuditPath}
use Rattle.archive_tree.specs.declared.head.TreeHead.{TreeHead}
use Rattle.archive_tree.specs.declared.stream.TreeStream.{TreeStream}
use Rattle.archive_tree.proofs.TreeLaws.{hash_at, path_at}
use Rattle.archive_proof.specs.Asking.{asked_entry}
use Rattle.archive_proof.specs.Climbing.{climb}
use Rattle.archive_tree.specs.Archives.{IsRootOf, texts_of}
use Rattle.archive_proof.specs.Entries.{IsEntryAt}
use Rattle.archive_proof.specs.Proving.{ArePlaced, HasBefore, IsFresh, IsPlaced, IsTracked}
use Rattle.archive_proof.specs.Showing.{Leads}
use Rattle.archive_proof.specs.declared.asked.AskedRecord.{AskedRecord}
use Rattle.archive_proof.specs.declared.search.Place.{Place}
use Rattle.archive_proof.specs.declared.search.Place.TheVariants.{Ahead, Found, Passed}
use Rattle.archive_proof.specs.declared.search.Search.{Search}
use Rattle.archive_proof.proofs.Places.{text_at, at_within}
use Rattle.archive_proof.proofs.Completeness.{complete}

-- ---- places

pub entry_at_end : (xs : List Entry) (e : Entry) → IsEntryAt (xs ++ e ∷ []) (length xs) e
entry_at_end [] e = refl
entry_at_end (x ∷ xs) e = entry_at_end xs e

pub entry_at_left : (xs : List Entry) (i : ℕ) (e x : Entry) → IsEntryAt xs i e → IsEntryAt (xs ++ x ∷ []) i e
entry_at_left [] i e x at = absurd at
entry_at_left (y ∷ ys) zero e x at = at
entry_at_left (y ∷ ys) (suc i) e x at = entry_at_left ys i e x at

-- ---- further entries are looked at

pub tracked_more : (t : TreeStream) (p : AuditPath) (i : ℕ) (e x : Entry) (all xs : List Entry)
    → IsTracked t p i e all xs → IsTracked t p i e (all ++ x ∷ []) xs
tracked_more t p i e x all xs h = record { at = entry_at_left all i e x h.at; followed = h.followed }

before_more : (r x : Entry) (t : TreeStream) (s : Search) (p : AuditPath) (i : ℕ) (all xs : List Entry)
    → HasBefore r t s p i all xs → HasBefore r t s p i (all ++ x ∷ []) xs
before_more r x t s p i all xs (inl none) = inl none
before_more r x t s p i all xs (inr (j, (e, (next, below, same, tracked)))) =
    inr (j, (e, (next, below, same, tracked_more t p j e x all xs tracked)))

-- once the place is known, they change nothing
pub placed_more : (place : Place) (r x : Entry) (t : TreeStream) (s : Search) (p q : AuditPath) (all xs : List Entry)
    → place ≢ Ahead → IsPlaced place r t s p q all xs → IsPlaced place r t s p q (all ++ x ∷ []) xs
placed_more Ahead r x t s p q all xs known h = absurd (known refl)
placed_more Found r x t s p q all xs known (i, h) = (i, tracked_more t p i r x all xs h)
placed_more Passed r x t s p q all xs known (i, (e, (above, same, h, before))) =
    (i, (e, (above, same, tracked_more t q i e x all xs h, before_more r x t s p i all xs before)))

-- ---- the entry that was looked at comes into the tree

-- what `push` of a tree ensures of a path
abbrev pub Moves : TreeStream → TreeStream → List ℕ → AuditPath → AuditPath → Type 0
Moves t u octets p q =
    (index : ℕ) (xs : List (List ℕ)) → length xs + 1 < 2 ^ 64 → IsFollowed t index p xs
    → IsFollowed u index q (xs ++ octets ∷ [])

-- and of all paths
abbrev pub Pushes : TreeStream → TreeStream → List AuditPath → List AuditPath → List ℕ → Type 0
Pushes t u old new octets =
    (index : ℕ) (p q : AuditPath) (xs : List (List ℕ)) → AtOnePlace old new p q → length xs + 1 < 2 ^ 64
    → IsFollowed t index p xs → IsFollowed u index q (xs ++ octets ∷ [])

module _ (t u : TreeStream) (x : Entry) (all xs : List Entry) (room : length xs + 1 < 2 ^ 64) where
  tracked_pushed : (p q : AuditPath) (i : ℕ) (e : Entry) → Moves t u x.octets p q → IsTracked t p i e all xs
      → IsTracked u q i e all (xs ++ x ∷ [])
  tracked_pushed p q i e moves h =
      let fits : length (texts_of xs) + 1 < 2 ^ 64 = omega (arith, count_of_texts xs, room) in
      record {
        at = h.at;
        followed = subst (λ (l : List (List ℕ)). IsFollowed u i q l) (sym (texts_append xs x))
            (moves i (texts_of xs) fits h.followed);
      }

  before_pushed : (r : Entry) (s : Search) (p q : AuditPath) (i : ℕ) → Moves t u x.octets p q
      → HasBefore r t s p i all xs → HasBefore r u s q i all (xs ++ x ∷ [])
  before_pushed r s p q i moves (inl none) = inl none
  before_pushed r s p q i moves (inr (j, (e, (next, below, same, h)))) =
      inr (j, (e, (next, below, same, tracked_pushed p q j e moves h)))

  placed_pushed : (place : Place) (r : Entry) (s : Search) (p q v w : AuditPath) → Moves t u x.octets p v
      → Moves t u x.octets q w → IsPlaced place r t s p q all xs → IsPlaced place r u s v w all (xs ++ x ∷ [])
  placed_pushed Ahead r s p q v w first second (none, h) = (none, before_pushed r s p v (length all) first h)
  placed_pushed Found r s p q v w first second (i, h) = (i, tracked_pushed p v i r first h)
  placed_pushed Passed r s p q v w first second (i, (e, (above, same, h, before))) =
      (i, (e, (above, same, tracked_pushed q w i e second h, before_pushed r s p v i first before)))

  pub all_pushed : (rs : List AskedRecord) (ss : List Search) (old new : List AuditPath)
      → Pushes t u old new x.octets → length new ≡ length old → ArePlaced t all xs rs ss old
      → ArePlaced u all (xs ++ x ∷ []) rs ss new
  all_pushed [] [] [] [] pushes same h = h
  all_pushed [] [] [] (v ∷ new) pushes same h = absurd (omega (arith, same))
  all_pushed [] [] (p ∷ old) new pushes same h = absurd h
  all_pushed [] (s ∷ ss) old new pushes same h = absurd h
  all_pushed (r ∷ rs) [] old new pushes same h = absurd h
  all_pushed (r ∷ rs) (s ∷ ss) [] new pushes same h = absurd h
  all_pushed (r ∷ rs) (s ∷ ss) (p ∷ []) new pushes same h = absurd h
  all_pushed (r ∷ rs) (s ∷ ss) (p ∷ q ∷ old) [] pushes same h = absurd (omega (arith, same))
  all_pushed (r ∷ rs) (s ∷ ss) (p ∷ q ∷ old) (v ∷ []) pushes same h = absurd (omega (arith, same))
  all_pushed (r ∷ rs) (s ∷ ss) (p ∷ q ∷ old) (v ∷ w ∷ new) pushes same h = (
    placed_pushed s.place (asked_entry r) s p q v w
        (λ index ys fits follows. pushes index p v ys (inl (refl, refl)) fits follows)
        (λ index ys fits follows. pushes index q w ys (inr (inl (refl, refl))) fits follows) h.0,
    all_pushed rs ss old new (λ index a b ys at fits follows. pushes index a b ys (inr (inr at)) fits follows)
        (omega (arith, same)) h.1,
  )

-- ---- the end

-- the audit path of an entry leads to the root
pub leads_up : (head : TreeHead) (q : AuditPath) (i : ℕ) (e : Entry) (xs : List Entry) → length xs < 2 ^ 64
    → IsRootOf head xs → IsEntryAt xs i e → q.index ≡ i → q.hashes.items ≡ audit_path (texts_of xs) i
    → Leads head e.octets q
leads_up head q i e xs room is at own path =
    let ts : List (List ℕ) = texts_of xs in
    let fits : length ts ≤ 2 ^ 64 = omega (arith, count_of_texts xs) in
    let there = text_at xs i e at in
    let way : climb 64 (length ts) i (leaf_hash e.octets) (reverse (path_to 64 ts i)) ≡ Some (hash_to 64 ts) =
    complete 64 ts i e.octets fits there in
    let same : q.hashes.items ≡ path_to 64 ts i = path ∙ path_at 64 ts i fits in
    let top : hash_to 64 ts ≡ head.hash = sym (hash_at 64 ts fits) ∙ sym is.hash in
    let size : head.size ≡ length ts = is.size in
    record {
      within = omega (arith, at_within ts i e.octets there);
      climbs = rw (size, own, same) (way ∙ ap Some top);
    }

-- ---- the next entry is looked at

-- what `new` of a path ensures
abbrev pub Begins : ℕ → AuditPath → Type 0
Begins i p = (t : TreeStream) (ts : List (List ℕ)) → HasTaken t ts → length ts ≤ i → IsFollowed t i p ts

tracked_new : (t : TreeStream) (p : AuditPath) (index : ℕ) (x : Entry) (xs : List Entry) → HasTaken t (texts_of xs)
    → t.count ≡ index → Begins index p → IsTracked t p (length xs) x (xs ++ x ∷ []) xs
tracked_new t p index x xs taken counted begins =
    let size : index ≡ length xs = sym counted ∙ taken.count ∙ count_of_texts xs in
    record {
      at = entry_at_end xs x;
      followed = subst (λ (n : ℕ). IsFollowed t n p (texts_of xs)) size
          (begins t (texts_of xs) taken (omega (arith, taken.count, counted)));
    }

module _ (r x : Entry) (s n : Search) (t : TreeStream) (p q path : AuditPath) (index : ℕ) (xs : List Entry)
    (taken : HasTaken t (texts_of xs)) (counted : t.count ≡ index) (begins : Begins index path) where
  -- it comes before the record
  pub seek_below : IsPlaced Ahead r t s p q xs xs → IsBelow x r → n.behind ≡ s.behind → n.before.items ≡ x.octets
      → IsPlaced Ahead r t n path q (xs ++ x ∷ []) xs
  seek_below h below behind before =
      let next : suc (length xs) ≡ length (xs ++ x ∷ []) = omega (arith, length-append xs (x ∷ [])) in (
        ap (λ v. v.items) behind ∙ h.0,
        inr (length xs, (x, (next, below, before, tracked_new t path index x xs taken counted begins))),
      )

  -- it is the record
  pub seek_found : x ≡ r → IsPlaced Found r t n path q (xs ++ x ∷ []) xs
  seek_found same = (
    length xs,
    subst (λ (e : Entry). IsTracked t path (length xs) e (xs ++ x ∷ []) xs) same
        (tracked_new t path index x xs taken counted begins),
  )

  -- it comes behind the record
  pub seek_above : IsPlaced Ahead r t s p q xs xs → IsBelow r x → n.before ≡ s.before → n.behind.items ≡ x.octets
      → IsPlaced Passed r t n p path (xs ++ x ∷ []) xs
  seek_above h above before behind = (
    length xs,
    (x, (above, behind, tracked_new t path index x xs taken counted begins, still (length xs) h.1)),
  )
    where
      still : (i : ℕ) → HasBefore r t s p i xs xs → HasBefore r t n p i (xs ++ x ∷ []) xs
      still i (inl none) = inl (none.0, ap (λ v. v.items) before ∙ none.1)
      still i (inr (j, (e, (next, below, same, k)))) =
          inr (j, (e, (next, below, ap (λ v. v.items) before ∙ same, tracked_more t p j e x xs xs k)))

-- ---- the beginning

pub placed_fresh : (t : TreeStream) (rs : List AskedRecord) (ss : List Search) (ps : List AuditPath)
    → length ss ≡ length rs → AllByRecursion IsFresh ss → length ps ≡ 2 * length rs → ArePlaced t [] [] rs ss ps
placed_fresh t [] [] [] same fresh pairs = tt
placed_fresh t [] [] (p ∷ ps) same fresh pairs = absurd (omega (arith, pairs))
placed_fresh t [] (s ∷ ss) ps same fresh pairs = absurd (omega (arith, same))
placed_fresh t (r ∷ rs) [] ps same fresh pairs = absurd (omega (arith, same))
placed_fresh t (r ∷ rs) (s ∷ ss) [] same fresh pairs = absurd (omega (arith, pairs))
placed_fresh t (r ∷ rs) (s ∷ ss) (p ∷ []) same fresh pairs = absurd (omega (arith, pairs))
placed_fresh t (r ∷ rs) (s ∷ ss) (p ∷ q ∷ ps) same fresh pairs = (
  subst (λ (l : Place). IsPlaced l (asked_entry r) t s p q [] []) (sym fresh.0.place)
      (fresh.0.behind, inl (refl, fresh.0.before)),
  placed_fresh t rs ss ps (omega (arith, same)) fresh.1 (omega (arith, pairs)),
)

-- ---- lists that are the same

-- what is written to a whole slice of a vector
pub written_back : {R : Type 0} (n : ℕ) (old new : List R) → length new ≡ n → length old ≡ n
    → take n (new ++ drop (length new) old) ≡ new
written_back n old new is_new is_old = grind (arith, common_steps)

pub placed_same : (t : TreeStream) (all xs : List Entry) (rs rs' : List AskedRecord) (ss ss' : List Search)
    (ps ps' : List AuditPath) → rs ≡ rs' → ss ≡ ss' → ps ≡ ps' → ArePlaced t all xs rs ss ps
    → ArePlaced t all xs rs' ss' ps'
placed_same t all xs rs rs' ss ss' ps ps' e f g h =
    subst (λ (l : List AuditPath). ArePlaced t all xs rs' ss' l) g
    (subst (λ (l : List Search). ArePlaced t all xs rs' l ps) f
    (subst (λ (l : List AskedRecord). ArePlaced t all xs l ss ps) e h))
