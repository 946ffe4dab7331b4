-- Ranges of an archive's order, and what is told of the entries there.
use Rattle.std.specs.Prelude.{◌≡◌, ◌↔◌, ◌⊎◌, List, [], ◌∷◌, Option, None, Some, ⊤, length}
use Rattle.std.specs.List.{AllByRecursion}
use Rattle.sha2.specs.Sha256.{sha256}
use Rattle.archive_text.specs.Entries.{Entry, Has, IsAscending, IsBelow}
use Rattle.archive_text.specs.Text.{text_of}
use Rattle.reconcile.specs.declared.range.Range.{Range}
use Rattle.reconcile.specs.declared.sum.Sum.{Sum}
use Rattle.reconcile.specs.declared.part.Part.{Part}

-- below a bound, or there is none
abbrev pub IsUnder : Option Entry → Entry → Type 0
IsUnder None x = ⊤
IsUnder (Some h) x = IsBelow x h

-- from the lower bound on, and below the upper one
abbrev pub IsInside : Range → Entry → Type 0
IsInside r x = ¬ (IsBelow x r.low) × IsUnder r.high x

-- the upper bound is above the lower one
abbrev pub IsProper : Range → Type 0
IsProper r = IsUnder r.high r.low

-- the entries of a set of which something holds, in their order
pub record AreThose (P : Entry → Type 0) (xs ys : List Entry) : Type 0 where
  pub ascending : IsAscending ys
  pub members : (x : Entry) → Has ys x ↔ (Has xs x × P x)

-- how many entries there are, and the length and the SHA-256 of their archive
pub record IsSumOf (ys : List Entry) (s : Sum) : Type 0 where
  pub records : s.records ≡ length ys
  pub octets : s.octets ≡ length (text_of ys)
  pub digest : s.digest ≡ sha256 (text_of ys)

-- the same of the entries of a set in a range
pub record IsSumIn (xs : List Entry) (r : Range) (s : Sum) : Type 0 where
  pub entries : List Entry
  pub those : AreThose (IsInside r) xs entries
  pub sum : IsSumOf entries s

-- what is told of a part is so of this set
abbrev pub IsTold : List Entry → Part → Type 0
IsTold xs p = IsSumIn xs p.range p.sum

-- a place is in the range of one of the parts
abbrev pub Covers : List Part → Entry → Type 0
Covers [] x = ⊥
Covers (p ∷ ps) x = IsInside p.range x ⊎ Covers ps x

-- no place is in the ranges of two of them
abbrev pub AreApart : List Part → Type 0
AreApart [] = ⊤
AreApart (p ∷ ps) = ((x : Entry) → IsInside p.range x → ¬ (Covers ps x)) × AreApart ps

-- ranges, each from where the one before ends, from one bound to another
abbrev pub Chain : Option Entry → Option Entry → List Part → Type 0
Chain from to [] = to ≡ from
Chain from to (p ∷ ps) = (from ≡ Some p.range.low) × IsProper p.range × Chain p.range.high to ps

-- the range of each part has its upper bound above its lower one
abbrev pub AreAllProper : List Part → Type 0
AreAllProper ps = AllByRecursion (λ (p : Part). IsProper p.range) ps

-- the ranges of all parts lie in one range
abbrev pub AreWithin : Range → List Part → Type 0
AreWithin r ps = (x : Entry) → Covers ps x → IsInside r x
