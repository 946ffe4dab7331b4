-- The laws of merging, by the entries that a text has.
use Rattle.std.proofs.Common.{◌≡◌, ℕ, ◌≤◌, inl, inr, refl, sym, ◌∙◌, ap, subst, List, ◌++◌}
use Rattle.std.specs.Prelude.{ℤ, ◌⊎◌, ◌↔◌}
use Rattle.syslog_frame.specs.declared.limits.TheConstants.{COUNT_MAX}
use Rattle.syslog_value.specs.Parts.{Parts}
use Rattle.archive_text.specs.Entries.{Entry, Has, IsAscending}
use Rattle.archive_text.specs.Sets.{ArchiveText, AreEntriesOf, AreSame, IsUnionOfEntries}
use Rattle.archive_text.specs.Text.{IsArchive, text_of}
use Rattle.archive_text.proofs.Ascending.{same_members}
use Rattle.archive_text.proofs.Sets.{archive_union, entries_union, has_union, records_of, same_entries, same_set}
use Rattle.archive_text.proofs.Texts.{same_text}
use Rattle.archive_laws.specs.Unions.{IsUnion}

-- ---- texts and sets

pub one_text : (most : ℕ) (rs qs : List (Parts ℤ)) (t u : List ℕ) → AreSame rs qs → ArchiveText most rs t
    → ArchiveText most qs u → t ≡ u
one_text most rs qs t u same h k =
    h.text_is ∙ ap text_of (same_entries rs qs h.entries k.entries same h.archive.ascending k.archive.ascending
    h.members k.members) ∙ sym k.text_is

pub one_set : (most : ℕ) (rs qs : List (Parts ℤ)) (t : List ℕ) → most ≤ COUNT_MAX → ArchiveText most rs t
    → ArchiveText most qs t → AreSame rs qs
one_set most rs qs t low h k =
    let same = same_text most most h.entries k.entries low low h.archive k.archive (sym h.text_is ∙ k.text_is) in
    same_set rs qs k.entries (subst (λ es. AreEntriesOf rs es) same h.members) k.members

-- ---- the entries that a text has

record Holds (most : ℕ) (t : List ℕ) (x : Entry) : Type 0 where
  entries : List Entry
  archive : IsArchive most entries
  text_is : t ≡ text_of entries
  has : Has entries x

held : (most : ℕ) (t : List ℕ) (es : List Entry) (x : Entry) → IsArchive most es → t ≡ text_of es → Has es x
    → Holds most t x
held most t es x h is has = record { entries = es; archive = h; text_is = is; has = has }

-- they are those of each archive with that text
has_held : (most : ℕ) (t : List ℕ) (es : List Entry) (x : Entry) → most ≤ COUNT_MAX → IsArchive most es → t ≡ text_of es
    → Holds most t x → Has es x
has_held most t es x low h is k = subst (λ fs. Has fs x)
    (same_text most most k.entries es low low k.archive h (sym k.text_is ∙ is)) k.has

-- two archives whose texts have the same entries have one text
same_held : (most : ℕ) (t u : List ℕ) (es fs : List Entry) → most ≤ COUNT_MAX → IsArchive most es → IsArchive most fs
    → t ≡ text_of es → u ≡ text_of fs
    → ((x : Entry) → Holds most t x → Holds most u x) → ((x : Entry) → Holds most u x → Holds most t x) → t ≡ u
same_held most t u es fs low h k is also there back =
    let same =
    same_members es fs h.ascending k.ascending
    (λ x has. has_held most u fs x low k also (there x (held most t es x h is has)))
    (λ x has. has_held most t es x low h is (back x (held most u fs x k also has))) in
    is ∙ ap text_of same ∙ sym also

-- ---- unions

-- the entries of a union are those of either text
union_holds : (most : ℕ) (t u v : List ℕ) → most ≤ COUNT_MAX → IsUnion most t u v → (x : Entry)
    → Holds most v x ↔ (Holds most t x ⊎ Holds most u x)
union_holds most t u v low h x =
    let l = h.left_text in
    let r = h.right_text in
    let b = h.union_text in
    let has = has_union h.left h.right l.entries r.entries b.entries l.members r.members b.members x in (
      λ k.
          elim (has.0 (has_held most v b.entries x low b.archive b.text_is k)) [
            | inl left ↦ inl (held most t l.entries x l.archive l.text_is left)
            | inr right ↦ inr (held most u r.entries x r.archive r.text_is right)
          ],
      λ k.
          held most v b.entries x b.archive b.text_is
          (has.1
          (elim k [
            | inl left ↦ inl (has_held most t l.entries x low l.archive l.text_is left)
            | inr right ↦ inr (has_held most u r.entries x low r.archive r.text_is right)
          ])),
    )

-- the entries of two archives, once each, are the union of their texts
pub union_of_entries : (most : ℕ) (xs ys zs : List Entry) → IsArchive most xs → IsArchive most ys → IsAscending zs
    → IsUnionOfEntries xs ys zs → IsUnion most (text_of xs) (text_of ys) (text_of zs)
union_of_entries most xs ys zs h k up has =
    let of_left = records_of xs h.entries in
    let of_right = records_of ys k.entries in
    record {
      left = of_left.0;
      right = of_right.0;
      left_text = record { entries = xs; archive = h; members = of_left.1; text_is = refl };
      right_text = record { entries = ys; archive = k; members = of_right.1; text_is = refl };
      union_text = record {
        entries = zs;
        archive = archive_union most xs ys zs h k up has;
        members = entries_union of_left.0 of_right.0 xs ys zs of_left.1 of_right.1 has;
        text_is = refl;
      };
    }

-- two unions with the same entries
same_union : (most : ℕ) (t u v t' u' v' : List ℕ) → most ≤ COUNT_MAX → IsUnion most t u v → IsUnion most t' u' v'
    → ((x : Entry) → Holds most v x → Holds most v' x) → ((x : Entry) → Holds most v' x → Holds most v x) → v ≡ v'
same_union most t u v t' u' v' low h k there back =
    same_held most v v' h.union_text.entries k.union_text.entries low h.union_text.archive k.union_text.archive
    h.union_text.text_is k.union_text.text_is there back

pub one_union : (most : ℕ) (t u v w : List ℕ) → most ≤ COUNT_MAX → IsUnion most t u v → IsUnion most t u w → v ≡ w
one_union most t u v w low h k =
    same_union most t u v t u w low h k (λ x m.
    (union_holds most t u w low k x).1 ((union_holds most t u v low h x).0 m))
    (λ x m. (union_holds most t u v low h x).1 ((union_holds most t u w low k x).0 m))

swapped : {A B : Type 0} → A ⊎ B → B ⊎ A
swapped (inl a) = inr a
swapped (inr b) = inl b

pub commutative : (most : ℕ) (t u v w : List ℕ) → most ≤ COUNT_MAX → IsUnion most t u v → IsUnion most u t w → v ≡ w
commutative most t u v w low h k =
    same_union most t u v u t w low h k (λ x m.
    (union_holds most u t w low k x).1 (swapped ((union_holds most t u v low h x).0 m)))
    (λ x m. (union_holds most t u v low h x).1 (swapped ((union_holds most u t w low k x).0 m)))

pub associative : (most : ℕ) (t u v tu uv x y : List ℕ) → most ≤ COUNT_MAX → IsUnion most t u tu → IsUnion most tu v x
    → IsUnion most u v uv → IsUnion most t uv y → x ≡ y
associative most t u v tu uv x y low a b c d =
    same_union most tu v x t uv y low b d
    (λ e m.
    (union_holds most t uv y low d e).1
    (elim ((union_holds most tu v x low b e).0 m) [
      | inl two ↦
          elim ((union_holds most t u tu low a e).0 two) [
            | inl left ↦ inl left
            | inr middle ↦ inr ((union_holds most u v uv low c e).1 (inl middle))
          ]
      | inr right ↦ inr ((union_holds most u v uv low c e).1 (inr right))
    ]))
    (λ e m.
    (union_holds most tu v x low b e).1
    (elim ((union_holds most t uv y low d e).0 m) [
      | inl left ↦ inl ((union_holds most t u tu low a e).1 (inl left))
      | inr two ↦
          elim ((union_holds most u v uv low c e).0 two) [
            | inl middle ↦ inl ((union_holds most t u tu low a e).1 (inr middle))
            | inr right ↦ inr right
          ]
    ]))

pub idempotent : (most : ℕ) (t v : List ℕ) → most ≤ COUNT_MAX → IsUnion most t t v → v ≡ t
idempotent most t v low h =
    same_held most v t h.union_text.entries h.left_text.entries low h.union_text.archive h.left_text.archive
    h.union_text.text_is h.left_text.text_is
    (λ x m. elim ((union_holds most t t v low h x).0 m) [ inl left ↦ left | inr right ↦ right ])
    (λ x m. (union_holds most t t v low h x).1 (inl m))

-- the union of two texts is that of their sets, however these are listed
pub union_of_sets : (most : ℕ) (rs qs : List (Parts ℤ)) (t u v : List ℕ) → most ≤ COUNT_MAX → ArchiveText most rs t
    → ArchiveText most qs u → IsUnion most t u v
    → ArchiveText most (rs ++ qs) v
union_of_sets most rs qs t u v low h k is =
    let l = is.left_text in
    let r = is.right_text in
    let b = is.union_text in
    let left = same_text most most l.entries h.entries low low l.archive h.archive (sym l.text_is ∙ h.text_is) in
    let right = same_text most most r.entries k.entries low low r.archive k.archive (sym r.text_is ∙ k.text_is) in
    let has = λ (x : Entry). has_union is.left is.right l.entries r.entries b.entries l.members r.members b.members x in
    record {
      entries = b.entries;
      archive = b.archive;
      members = entries_union rs qs h.entries k.entries b.entries h.members k.members
          (λ x. subst (λ es. Has b.entries x ↔ (Has es x ⊎ Has k.entries x)) left
          (subst (λ fs. Has b.entries x ↔ (Has l.entries x ⊎ Has fs x)) right (has x)));
      text_is = b.text_is;
    }
