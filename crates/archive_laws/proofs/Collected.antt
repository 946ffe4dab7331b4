-- The entries of sets and of unions, collected.
use Rattle.std.proofs.Common.{◌≡◌, ℕ, ◌≤◌, inl, inr, refl, ap, List, [], ◌∷◌, ◌++◌, length}
use Rattle.std.specs.Prelude.{ℤ, ◌⊎◌, ◌↔◌}
use Rattle.std.specs.List.{AllByRecursion}
use Rattle.syslog_value.specs.Parts.{IsRecord, Parts}
use Rattle.syslog_fields.specs.Canonical.{Canonical}
use Rattle.archive_text.specs.Entries.{Entry, Has, IsBelow, IsEntry, IsEntryOf}
use Rattle.archive_text.specs.Sets.{ArchiveText, AreEntriesOf}
use Rattle.archive_text.specs.Stores.{AddsEntry}
use Rattle.archive_text.specs.Text.{IsArchive, text_of}
use Rattle.archive_text.specs.declared.store.Added.{Added}
use Rattle.archive_text.specs.declared.store.Added.TheVariants.{New, Held}
use Rattle.archive_text.proofs.Ascending.{archive_nil}
use Rattle.archive_text.proofs.Orders.{below_asymmetric, below_total}
use Rattle.archive_text.proofs.Places.{adds_has, place_adds, place_archive, place_of}
use Rattle.archive_text.proofs.Sets.{entries_added, entries_nil, entries_union}
use Rattle.archive_text.proofs.Texts.{one_record}
use Rattle.archive_laws.specs.Unions.{IsUnion}
use Rattle.archive_laws.proofs.CanonicalOctets.{canonical_octets}

-- of two different records one entry is below the other
pub one_is_below : (r q : Parts ℤ) (e f : Entry) → IsEntryOf r e → IsEntryOf q f → ¬ (r ≡ q)
    → (IsBelow e f × ¬ (IsBelow f e)) ⊎ (IsBelow f e × ¬ (IsBelow e f))
one_is_below r q e f h k differ =
    elim (below_total e f) [
      | inl less ↦ inl (less, below_asymmetric e f less)
      | inr (inl same) ↦ absurd (differ (one_record r q e f h k (ap (λ x. x.octets) same)))
      | inr (inr more) ↦ inr (more, below_asymmetric f e more)
    ]

-- ---- one entry more

-- an archive to which an entry was added
record With (most : ℕ) (e : Entry) (old : List Entry) : Type 0 where
  new : List Entry
  added : Added
  archive : IsArchive most new
  adds : AddsEntry e old new added

with_entry : (most : ℕ) (e : Entry) (old : List Entry) → IsArchive most old → IsEntry e → length e.octets ≤ most
    → With most e old
with_entry most e old h entry fits =
    elim (place_of e old h.ascending) [
      | inl held ↦ record { new = old; added = Held; archive = h; adds = (held, refl) }
      | inr p ↦ record {
        new = p.before ++ e ∷ p.after;
        added = New;
        archive =
            place_archive most e old p h entry fits;
        adds = place_adds e old p;
      }
    ]

-- ---- the entries of a set

pub record Collected (most : ℕ) (rs : List (Parts ℤ)) : Type 0 where
  pub entries : List Entry
  pub archive : IsArchive most entries
  pub members : AreEntriesOf rs entries

pub collected : (most : ℕ) (rs : List (Parts ℤ)) → AllByRecursion IsRecord rs
    → AllByRecursion (λ r. (b : List ℕ) → Canonical r b → length b ≤ most) rs → Collected most rs
collected most [] valid fit = record { entries = []; archive = archive_nil most; members = entries_nil }
collected most (r ∷ rs) valid fit =
    let rest = collected most rs valid.1 fit.1 in
    let text = canonical_octets r valid.0 in
    let e : Entry = record { instant = r.time; octets = text.0 } in
    let of : IsEntryOf r e = record { valid = valid.0; instant = refl; canonical = text.1 } in
    let more = with_entry most e rest.entries rest.archive (r, of) (fit.0 text.0 text.1) in
    record {
      entries = more.new;
      archive = more.archive;
      members =
          entries_added r rs e rest.entries more.new more.added of more.adds rest.members;
    }

pub set_text : (most : ℕ) (rs : List (Parts ℤ)) → AllByRecursion IsRecord rs
    → AllByRecursion (λ r. (b : List ℕ) → Canonical r b → length b ≤ most) rs
    → (t : List ℕ) × ArchiveText most rs t
set_text most rs valid fit =
    let all = collected most rs valid fit in (
      text_of all.entries,
      record {
        entries = all.entries;
        archive = all.archive;
        members = all.members;
        text_is =
            refl;
      },
    )

-- ---- the entries of a union

pub record Both (most : ℕ) (es fs : List Entry) : Type 0 where
  pub entries : List Entry
  pub archive : IsArchive most entries
  pub has : (x : Entry) → Has entries x ↔ (Has es x ⊎ Has fs x)

-- the entries of the first list, and then each of the second
both_more : (most : ℕ) (es fs : List Entry) (f : Entry) (b : Both most es fs) → With most f b.entries
    → Both most es (f ∷ fs)
both_more most es fs f b w = record {
  entries = w.new;
  archive = w.archive;
  has = λ x. (
    λ h.
        elim ((adds_has f b.entries w.new w.added w.adds x).0 h) [
          | inl same ↦ inr (inl same)
          | inr old ↦ elim ((b.has x).0 old) [ inl left ↦ inl left | inr right ↦ inr (inr right) ]
        ],
    λ h.
        (adds_has f b.entries w.new w.added w.adds x).1
        (elim h [
          | inl left ↦ inr ((b.has x).1 (inl left))
          | inr (inl same) ↦ inl same
          | inr (inr right) ↦ inr ((b.has x).1 (inr right))
        ]),
  );
}

pub both : (most : ℕ) (es fs : List Entry) → IsArchive most es → AllByRecursion IsEntry fs
    → AllByRecursion (λ e. length e.octets ≤ most) fs → Both most es fs
both most es [] h entries fit = record {
  entries = es;
  archive = h;
  has =
      λ x. (λ k. inl k, λ k. elim k [ inl left ↦ left | inr right ↦ absurd right ]);
}
both most es (f ∷ fs) h entries fit =
    let b = both most es fs h entries.1 fit.1 in
    both_more most es fs f b (with_entry most f b.entries b.archive entries.0 fit.0)

pub union_text : (most : ℕ) (rs qs : List (Parts ℤ)) (t u : List ℕ) → ArchiveText most rs t → ArchiveText most qs u
    → (v : List ℕ) × IsUnion most t u v
union_text most rs qs t u h k =
    let b = both most h.entries k.entries h.archive k.archive.entries k.archive.fits in (
      text_of b.entries,
      record {
        left = rs;
        right = qs;
        left_text = h;
        right_text = k;
        union_text = record {
          entries = b.entries;
          archive = b.archive;
          members =
              entries_union rs qs h.entries k.entries b.entries h.members k.members b.has;
          text_is = refl;
        };
      },
    )
