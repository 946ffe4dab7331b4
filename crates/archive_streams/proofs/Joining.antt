-- Two archives that are joined, as lists of entries.
use Rattle.std.proofs.Common.{◌≡◌, ◌<◌, ℕ, List, [], ◌∷◌, ◌++◌, length, refl, sym, ap, subst, ◌∙◌, append_assoc, arith, inl, Option}
use Rattle.std.proofs.Common.{inr}
use Rattle.std.specs.Prelude.{◌⊎◌}
use Rattle.std.proofs.lemmas.List.{append-nil, length-append}
use Rattle.archive_text.specs.Entries.{Entry, Has, IsAscending, IsBelow}
use Rattle.archive_text.specs.Faults.{IsArchiveFault, IsFaultBehind, IsLongestArchive}
use Rattle.archive_text.specs.Text.{IsArchive, entry_text, text_of}
use Rattle.archive_text.specs.declared.fault.ArchiveFault.{ArchiveFault}
use Rattle.archive_text.specs.declared.limits.TheConstants.{ENTRY_MAX}
use Rattle.archive_text.proofs.Orders.{below_asymmetric, below_irreflexive, below_transitive, below_total}
use Rattle.archive_text.proofs.Members.{has_either, has_left, has_right, of_member}
use Rattle.archive_text.proofs.Ascending.{ascending_across}
use Rattle.archive_text.proofs.Texts.{no_text, one_begins, text_append, text_length, text_some}
use Rattle.archive_text.proofs.Prefixes.{archive_has_no_fault, longest_faulty, one_longest}
use Rattle.archive_streams.specs.Joining.{IsFirstAbove, IsFirstWithin, IsPrefixOfAnyUnion, IsPrefixOfUnion, IsUnion, IsUpToFirst, IsWithin}
use Rattle.archive_streams.specs.Joining.{IsShortOfAnyUnion, MayFollow}

-- an entry is above all of a list
abbrev pub AllBelow : List Entry → Entry → Type 0
AllBelow ws e = (w : Entry) → Has ws w → IsBelow w e

-- how a side stands of which `ls` were joined into `ws`: its next entry is above them; or it is at its
-- end; or its last entry is the last of all
abbrev pub Standing : List Entry → List Entry → List Entry → List ℕ → Type 0
Standing es ls ws rest =
    ((e : Entry) × (es ≡ ls ++ e ∷ []) × AllBelow ws e)
    ⊎ (((es ≡ ls) × (rest ≡ [])) ⊎ ((es ≡ ls) × ((w : Entry) → Has ws w → IsWithin ls w)))

-- these octets were read of a side
pub record SideAt (x : List ℕ) (ls ws : List Entry) : Type 0 where
  pub es : List Entry
  pub rest : List ℕ
  pub parts : x ≡ text_of es ++ rest
  pub archive : IsArchive ENTRY_MAX es
  pub stands : Standing es ls ws rest

pub within_below : (ls : List Entry) (w e : Entry) → IsWithin ls w → ((m : Entry) → Has ls m → IsBelow m e) → IsBelow w e
within_below ls w e (m, has, inl same) below = subst (λ (k : Entry). IsBelow k e) (sym same) (below m has)
within_below ls w e (m, has, inr less) below = below_transitive w m e less (below m has)

-- an entry that is not within a list is above all of those that are
pub above_within : (bound : List Entry) (e w : Entry) → ¬ (IsWithin bound e) → IsWithin bound w → IsBelow w e
above_within bound e w out (m, has, below) = go (below_total e m)
  where
    up : IsBelow m e → (w ≡ m) ⊎ IsBelow w m → IsBelow w e
    up more (inl same) = subst (λ (x : Entry). IsBelow x e) (sym same) more
    up more (inr less) = below_transitive w m e less more

    go : IsBelow e m ⊎ ((e ≡ m) ⊎ IsBelow m e) → IsBelow w e
    go (inl less) = absurd (out (m, has, inr less))
    go (inr (inl same)) = absurd (out (m, has, inl same))
    go (inr (inr more)) = up more below

pub within_or_not : (bound : List Entry) (e : Entry) → IsWithin bound e ⊎ ¬ (IsWithin bound e)
within_or_not [] e = inr (λ w. w.1)
within_or_not (m ∷ bound) e = go (below_total e m) (within_or_not bound e)
  where
    later : IsWithin bound e → IsWithin (m ∷ bound) e
    later (k, has, below) = (k, inr has, below)

    no : IsBelow m e → ¬ (IsWithin bound e) → ¬ (IsWithin (m ∷ bound) e)
    no above out (k, inl same, below) = beyond (subst (λ (x : Entry). IsBelow x e) same above) below
      where
        beyond : IsBelow k e → ¬ ((e ≡ k) ⊎ IsBelow e k)
        beyond over (inl is) = below_irreflexive k (subst (IsBelow k) is over)
        beyond over (inr under) = below_irreflexive k (below_transitive k e k over under)
    no above out (k, inr has, below) = out (k, has, below)

    go : IsBelow e m ⊎ ((e ≡ m) ⊎ IsBelow m e) → IsWithin bound e ⊎ ¬ (IsWithin bound e)
        → IsWithin (m ∷ bound) e ⊎ ¬ (IsWithin (m ∷ bound) e)
    go (inl less) rest = inl (m, inl refl, inr less)
    go (inr (inl same)) rest = inl (m, inl refl, inl same)
    go (inr (inr more)) (inl within) = inl (later within)
    go (inr (inr more)) (inr out) = inr (no more out)

has_none : (gs : List Entry) (e : Entry) → gs ≡ [] → Has gs e → ⊥
has_none gs e none h = subst (λ (l : List Entry). Has l e) none h

-- what was joined of a side was read of it
read_of : (es ls ws : List Entry) (rest : List ℕ) (e : Entry) → Standing es ls ws rest → Has ls e → Has es e
read_of es ls ws rest e (inl (n, same, below)) h =
    subst (λ (l : List Entry). Has l e) (sym same) (has_left ls (n ∷ []) e h)
read_of es ls ws rest e (inr (inl (same, none))) h = subst (λ (l : List Entry). Has l e) (sym same) h
read_of es ls ws rest e (inr (inr (same, within))) h = subst (λ (l : List Entry). Has l e) (sym same) h

-- an entry that was read of a side was joined, or is above all that was
read_already : (es ls ws : List Entry) (rest : List ℕ) (e : Entry) → Standing es ls ws rest → Has es e
    → Has ls e ⊎ AllBelow ws e
read_already es ls ws rest e (inl (n, same, below)) h =
    one (has_either ls (n ∷ []) e (subst (λ (l : List Entry). Has l e) same h))
  where
    one : Has ls e ⊎ Has (n ∷ []) e → Has ls e ⊎ AllBelow ws e
    one (inl k) = inl k
    one (inr (inl is)) = inr (λ w k. subst (IsBelow w) is (below w k))
    one (inr (inr none)) = absurd none
read_already es ls ws rest e (inr (inl (same, none))) h = inl (subst (λ (l : List Entry). Has l e) same h)
read_already es ls ws rest e (inr (inr (same, within))) h = inl (subst (λ (l : List Entry). Has l e) same h)

-- an entry behind those that were read is above all that was joined
read_later : (es ls ws gs : List Entry) (rest r : List ℕ) (e : Entry) → Standing es ls ws rest → IsAscending (es ++ gs)
    → rest ≡ text_of gs ++ r → Has gs e → AllBelow ws e
read_later es ls ws gs rest r e (inl (n, same, below)) up is h =
    let next : Has es n = subst (λ (l : List Entry). Has l n) (sym same) (has_right ls (n ∷ []) n (inl refl)) in
    λ w k. below_transitive w n e (below w k) (ascending_across es gs n e up next h)
read_later es ls ws gs rest r e (inr (inl (same, none))) up is h =
    absurd (has_none gs e (no_text gs r (sym none ∙ is)) h)
read_later es ls ws gs rest r e (inr (inr (same, within))) up is h =
    λ w k. within_below ls w e (within w k) (λ m has.
    ascending_across es gs m e up (subst (λ (l : List Entry). Has l m) (sym same) has) h)

-- each entry of an archive that the octets begin with was joined, or is above all that was
pub further : (x : List ℕ) (ls ws xs : List Entry) (r : List ℕ) (e : Entry) → SideAt x ls ws → IsArchive ENTRY_MAX xs
    → x ≡ text_of xs ++ r → Has xs e → Has ls e ⊎ AllBelow ws e
further x ls ws xs r e s a is h =
    elim (one_begins ENTRY_MAX ENTRY_MAX s.es xs s.rest r (omega arith) (omega arith) s.archive a (sym s.parts ∙ is)) [
      | inl (gs, same, more) ↦
          elim (has_either s.es gs e (subst (λ (l : List Entry). Has l e) same h)) [
            | inl early ↦ read_already s.es ls ws s.rest e s.stands early
            | inr late ↦ inr (read_later s.es ls ws gs s.rest r e s.stands (subst IsAscending same a.ascending) more
                late)
          ]
      | inr (gs, same, more) ↦ read_already s.es ls ws s.rest e s.stands
          (subst (λ (l : List Entry). Has l e) (sym same) (has_left xs gs e h))
    ]

-- what was read of a side is in its front
before_all : (x : List ℕ) (ls ws xs : List Entry) (r : List ℕ) (e : Entry) → (s : SideAt x ls ws)
    → IsLongestArchive ENTRY_MAX x xs r → Has s.es e → Has xs e
before_all x ls ws xs r e s f h =
    elim (one_begins ENTRY_MAX ENTRY_MAX s.es xs s.rest r (omega arith) (omega arith) s.archive f.archive
    (sym s.parts ∙ f.parts)) [
      | inl (gs, same, more) ↦ subst (λ (l : List Entry). Has l e) (sym same) (has_left s.es gs e h)
      | inr (gs, same, more) ↦ shorter gs same
    ]
  where
    shorter : (gs : List Entry) → s.es ≡ xs ++ gs → Has xs e
    shorter [] same = subst (λ (l : List Entry). Has l e) (same ∙ append-nil xs) h
    shorter (g ∷ gs) same =
        absurd (omega (
          arith,
          f.longest s.es s.rest s.archive s.parts,
          ap (λ (l : List Entry). length (text_of l)) same,
          text_length xs (g ∷ gs),
          length-append (entry_text g) (text_of gs),
          text_some g,
        ))

pub joined_before : (x : List ℕ) (ls ws xs : List Entry) (r : List ℕ) (e : Entry) → SideAt x ls ws
    → IsLongestArchive ENTRY_MAX x xs r → Has ls e → Has xs e
joined_before x ls ws xs r e s f h = before_all x ls ws xs r e s f (read_of s.es ls ws s.rest e s.stands h)

-- ---- an ascending list whose members are the least ones of another begins it

below_head : (w : Entry) (ws : List Entry) (e : Entry) → IsAscending (w ∷ ws) → Has ws e → IsBelow w e
below_head w ws e up h = of_member (IsBelow w) ws e up.0 h

-- the two first ones are one
same_head : (w z : Entry) (ws zs : List Entry) → IsAscending (w ∷ ws) → IsAscending (z ∷ zs) → Has (z ∷ zs) w
    → Has (w ∷ ws) z ⊎ AllBelow (w ∷ ws) z → w ≡ z
same_head w z ws zs up above (inl same) there = sym same
same_head w z ws zs up above (inr later) (inl (inl same)) = same
same_head w z ws zs up above (inr later) (inl (inr other)) =
    absurd (below_asymmetric w z (below_head w ws z up other) (below_head z zs w above later))
same_head w z ws zs up above (inr later) (inr all) =
    absurd (below_asymmetric w z (all w (inl refl)) (below_head z zs w above later))

pub initial : (ws zs : List Entry) → IsAscending ws → IsAscending zs → ((e : Entry) → Has ws e → Has zs e)
    → ((e : Entry) → Has zs e → Has ws e ⊎ AllBelow ws e)
    → (rest : List Entry) × (zs ≡ ws ++ rest)
initial [] zs up above into from = (zs, refl)
initial (w ∷ ws) [] up above into from = absurd (into w (inl refl))
initial (w ∷ ws) (z ∷ zs) up above into from =
    let same : w ≡ z = same_head w z ws zs up above (into w (inl refl)) (from z (inl refl)) in
    let rest = initial ws zs up.1 above.1 (λ e h. still e h same (into e (inr h)))
    (λ e h. yet e h same (from e (inr h))) in
    (rest.0, ap (λ (k : Entry). k ∷ zs) (sym same) ∙ ap (λ (l : List Entry). w ∷ l) rest.1)
  where
    still : (e : Entry) → Has ws e → w ≡ z → Has (z ∷ zs) e → Has zs e
    still e h same (inr k) = k
    still e h same (inl k) = absurd (below_irreflexive w
        (subst (IsBelow w) (sym k ∙ sym same) (below_head w ws e up h)))

    yet : (e : Entry) → Has zs e → w ≡ z → Has (w ∷ ws) e ⊎ AllBelow (w ∷ ws) e → Has ws e ⊎ AllBelow ws e
    yet e h same (inl (inr k)) = inl k
    yet e h same (inl (inl k)) = absurd (below_irreflexive z
        (subst (IsBelow z) (sym k ∙ same) (below_head z zs e above h)))
    yet e h same (inr all) = inr (λ v k. all v (inr k))

-- ---- what was joined, and the prefixes

-- each entry of the prefixes was joined, or is above all that was
either_side : (x y : List ℕ) (ls rs ws xs ys : List Entry) (r s : List ℕ) (e : Entry) → SideAt x ls ws → SideAt y rs ws
    → IsUnion ls rs ws → IsLongestArchive ENTRY_MAX x xs r → IsLongestArchive ENTRY_MAX y ys s
    → Has xs e ⊎ Has ys e → Has ws e ⊎ AllBelow ws e
either_side x y ls rs ws xs ys r s e a b u f g (inl h) =
    elim (further x ls ws xs r e a f.archive f.parts h) [ inl k ↦ inl ((u.members e).1 (inl k)) | inr k ↦ inr k ]
either_side x y ls rs ws xs ys r s e a b u f g (inr h) =
    elim (further y rs ws ys s e b g.archive g.parts h) [ inl k ↦ inl ((u.members e).1 (inr k)) | inr k ↦ inr k ]

joined_of : (x y : List ℕ) (ls rs ws xs ys : List Entry) (r s : List ℕ) (e : Entry) → SideAt x ls ws → SideAt y rs ws
    → IsLongestArchive ENTRY_MAX x xs r → IsLongestArchive ENTRY_MAX y ys s
    → Has ls e ⊎ Has rs e → Has xs e ⊎ Has ys e
joined_of x y ls rs ws xs ys r s e a b f g (inl h) = inl (joined_before x ls ws xs r e a f h)
joined_of x y ls rs ws xs ys r s e a b f g (inr h) = inr (joined_before y rs ws ys s e b g h)

in_union : (xs ys zs : List Entry) (e : Entry) → IsUnion xs ys zs → Has xs e ⊎ Has ys e → Has zs e
in_union xs ys zs e u (inl h) = (u.members e).1 (inl h)
in_union xs ys zs e u (inr h) = (u.members e).1 (inr h)

-- what was joined begins the union of the prefixes
pub prefix_of_union : (x y : List ℕ) (ls rs ws : List Entry) → SideAt x ls ws → SideAt y rs ws → IsUnion ls rs ws
    → IsPrefixOfUnion x y (text_of ws)
prefix_of_union x y ls rs ws a b u xs ys zs r s f g v =
    let rest = initial ws zs u.ascending v.ascending
    (λ e h. in_union xs ys zs e v (joined_of x y ls rs ws xs ys r s e a b f g ((u.members e).0 h)))
    (λ e h. either_side x y ls rs ws xs ys r s e a b u f g ((v.members e).0 h)) in
    (text_of rest.0, ap text_of rest.1 ∙ text_append ws rest.0)

-- with more octets behind those that were read of a side
pub side_on : (x more : List ℕ) (ls ws : List Entry) → (s : SideAt x ls ws) → Standing s.es ls ws (s.rest ++ more)
    → SideAt (x ++ more) ls ws
side_on x more ls ws s stands = record {
  es = s.es;
  rest = s.rest ++ more;
  parts = ap (λ (t : List ℕ). t ++ more) s.parts ∙ append_assoc (text_of s.es) s.rest more;
  archive = s.archive;
  stands = stands;
}

-- what was joined begins the union, whatever follows
pub prefix_of_any : (left right : Option (List ℕ)) (x y : List ℕ) (ls rs ws : List Entry)
    → ((more : List ℕ) → MayFollow left more → SideAt (x ++ more) ls ws)
    → ((others : List ℕ) → MayFollow right others → SideAt (y ++ others) rs ws) → IsUnion ls rs ws
    → IsPrefixOfAnyUnion left right x y (text_of ws)
prefix_of_any left right x y ls rs ws a b u more others may also =
    prefix_of_union (x ++ more) (y ++ others) ls rs ws (a more may) (b others also) u

-- a prefix of it too
shorter_prefix : (x y written more : List ℕ) → IsPrefixOfUnion x y (written ++ more) → IsPrefixOfUnion x y written
shorter_prefix x y written more p xs ys zs r s f g u =
    let k = p xs ys zs r s f g u in
    (more ++ k.0, k.1 ∙ append_assoc written more k.0)

pub shorter_any : (left right : Option (List ℕ)) (x y written rest : List ℕ)
    → IsPrefixOfAnyUnion left right x y (written ++ rest) → IsPrefixOfAnyUnion left right x y written
shorter_any left right x y written rest p more others may also =
    shorter_prefix (x ++ more) (y ++ others) written rest (p more others may also)

-- where a part of what was joined is cut off, not all of the union is there
pub short_of_any : (left right : Option (List ℕ)) (x y written rest : List ℕ) → 0 < length rest
    → IsPrefixOfAnyUnion left right x y (written ++ rest) → IsShortOfAnyUnion left right x y written
short_of_any left right x y written rest some p more others may also xs ys zs r s f g u =
    let k = p more others may also xs ys zs r s f g u in
    (rest ++ k.0, omega (arith, length-append rest k.0, some), k.1 ∙ append_assoc written rest k.0)

-- ---- a fault of the first side

-- all that was joined is not above the greatest of the first side
pub record AllWithin (ls ws : List Entry) : Type 0 where
  pub within : (w : Entry) → Has ws w → IsWithin ls w

not_above : (ls ws : List Entry) (e : Entry) → ((m : Entry) → Has ls m → Has ws m) → IsWithin ls e → AllBelow ws e → ⊥
not_above ls ws e into (m, has, inl same) all =
    below_irreflexive e (subst (λ (k : Entry). IsBelow k e) (sym same) (all m (into m has)))
not_above ls ws e into (m, has, inr less) all = below_asymmetric e m less (all m (into m has))

-- of a prefix that is all that was joined of its side
pub up_to_first : (x y : List ℕ) (ls rs ws : List Entry) (rest : List ℕ) (fault : ArchiveFault) → IsArchive ENTRY_MAX ls
    → x ≡ text_of ls ++ rest → IsFaultBehind ENTRY_MAX ls rest fault
    → SideAt x ls ws → SideAt y rs ws → IsUnion ls rs ws → AllWithin ls ws → IsUpToFirst x y (text_of ws)
up_to_first x y ls rs ws rest fault archive parts wrong a b u all xs ys r s f g =
    let same : ls ≡ xs = (one_longest ENTRY_MAX x ls xs rest r (omega arith)
    (longest_faulty ENTRY_MAX x ls rest fault (omega arith) archive parts wrong) f).0 in (
      ws,
      u.ascending,
      refl,
      λ e. (
        λ h. (
          joined_of x y ls rs ws xs ys r s e a b f g ((u.members e).0 h),
          subst (λ (l : List Entry). IsWithin l e) same (all.within e h),
        ),
        λ h. elim (either_side x y ls rs ws xs ys r s e a b u f g h.0) [
          | inl k ↦ k
          | inr k ↦ absurd (not_above ls ws e (λ m has. (u.members m).1 (inl has))
              (subst (λ (l : List Entry). IsWithin l e) (sym same) h.1) k)
        ],
      ),
    )

-- the other side, where it has a fault too, has an entry that is not below what was joined
pub first_within : (x y : List ℕ) (ls rs ws : List Entry) (rest : List ℕ) (fault other : ArchiveFault)
    → IsArchive ENTRY_MAX ls → x ≡ text_of ls ++ rest → IsFaultBehind ENTRY_MAX ls rest fault
    → SideAt y rs ws → IsUnion ls rs ws → IsArchiveFault ENTRY_MAX y other → IsFirstWithin x y
first_within x y ls rs ws rest fault other archive parts wrong b u too xs ys r s f g m h =
    let same : ls ≡ xs = (one_longest ENTRY_MAX x ls xs rest r (omega arith)
    (longest_faulty ENTRY_MAX x ls rest fault (omega arith) archive parts wrong) f).0 in
    known b.stands ((u.members m).1 (inl (subst (λ (l : List Entry). Has l m) (sym same) h)))
  where
    known : Standing b.es rs ws b.rest → Has ws m → IsWithin ys m
    known (inl (n, is, below)) k = (
      n,
      before_all y rs ws ys s n b g
          (subst (λ (l : List Entry). Has l n) (sym is) (has_right rs (n ∷ []) n (inl refl))),
      inr (below m k),
    )
    known (inr (inl (is, none))) k =
        absurd (archive_has_no_fault ENTRY_MAX b.es other b.archive
        (subst (λ (t : List ℕ). IsArchiveFault ENTRY_MAX t other)
        (b.parts ∙ ap (λ (t : List ℕ). text_of b.es ++ t) none ∙ append-nil (text_of b.es)) too))
    known (inr (inr (is, within))) k = let w = within m k in (w.0, joined_before y rs ws ys s w.0 b g w.1, w.2)

-- the other side, where it has a fault too and its next entry was read, has an entry above all that was joined
pub first_above : (x y : List ℕ) (ls rs ws : List Entry) (rest : List ℕ) (fault other : ArchiveFault)
    → IsArchive ENTRY_MAX rs → y ≡ text_of rs ++ rest → IsFaultBehind ENTRY_MAX rs rest fault
    → (a : SideAt x ls ws) → ((e : Entry) × (a.es ≡ ls ++ e ∷ []) × AllBelow ws e) ⊎ ((a.es ≡ ls) × (a.rest ≡ []))
    → IsUnion ls rs ws → IsArchiveFault ENTRY_MAX x other → IsFirstAbove x y
first_above x y ls rs ws rest fault other archive parts wrong a stands u too xs ys r s f g =
    let same : rs ≡ ys = (one_longest ENTRY_MAX y rs ys rest s (omega arith)
    (longest_faulty ENTRY_MAX y rs rest fault (omega arith) archive parts wrong) g).0 in
    known same stands
  where
    known : rs ≡ ys → ((e : Entry) × (a.es ≡ ls ++ e ∷ []) × AllBelow ws e) ⊎ ((a.es ≡ ls) × (a.rest ≡ []))
        → (m : Entry) × Has xs m × ((e : Entry) → Has ys e → IsBelow e m)
    known same (inl (n, is, below)) = (
      n,
      before_all x ls ws xs r n a f (subst (λ (l : List Entry). Has l n) (sym is)
          (has_right ls (n ∷ []) n (inl refl))),
      λ e h.
          below e ((u.members e).1 (inr (subst (λ (l : List Entry). Has l e) (sym same) h))),
    )
    known same (inr (is, none)) =
        absurd (archive_has_no_fault ENTRY_MAX a.es other a.archive
        (subst (λ (t : List ℕ). IsArchiveFault ENTRY_MAX t other)
        (a.parts ∙ ap (λ (t : List ℕ). text_of a.es ++ t) none ∙ append-nil (text_of a.es)) too))
