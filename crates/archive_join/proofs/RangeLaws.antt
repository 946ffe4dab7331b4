-- Archives of half-open ranges of instants, one behind the other.
use Rattle.std.proofs.Common.{◌≡◌, ◌∙◌, ℕ, ℤ, ◌≤◌, Bool, false, List, [], ◌∷◌, ◌++◌, length, refl, ap, subst, inl, inr}
use Rattle.std.specs.Prelude.{Option, Some, None}
use Rattle.std.specs.Int.Signed.{<ℤ-≤ℤ_trans}
use Rattle.std.specs.List.{AllByRecursion, flat_map}
use Rattle.std.proofs.lemmas.Bool.{false≢true}
use Rattle.std.proofs.lemmas.Grind.{flat_map-append}
use Rattle.archive_text.specs.Entries.{Entry, Has, InstantBelow, IsBelow, IsEntry}
use Rattle.archive_text.specs.Text.{IsArchive, entry_text, text_of}
use Rattle.archive_text.proofs.Ascending.{archive_nil, ascending_join}
use Rattle.archive_text.proofs.Members.{all_append, has_either, has_left, has_right, of_member}
use Rattle.archive_sets.specs.Conditions.{IsInRange}
use Rattle.archive_sets.specs.declared.range.InRange.{InRange}
use Rattle.archive_join.specs.Holders.{AreKept, IsHeld}
use Rattle.archive_join.specs.Ranges.{AreInTurn, AreOfRanges, EndsBefore, IsOfRange, Precedes}
use Rattle.archive_join.proofs.JoinLaws.{IsKeptAlways}

-- an instant of a range is below each of a range behind it
instant_below : (from to since till : Option ℤ) (undated : Bool) (i j : Option ℤ) → EndsBefore to since
    → IsInRange from to undated i → IsInRange since till false j → InstantBelow i j
instant_below from (Some t) (Some f) till undated None (Some j) apart a b = tt
instant_below from (Some t) (Some f) till undated (Some i) (Some j) apart a b =
    <ℤ-≤ℤ_trans (<ℤ-≤ℤ_trans a.1 apart) b.0
instant_below from (Some t) (Some f) till undated i None apart a (inl (none, also)) = absurd cc
instant_below from (Some t) (Some f) till undated i None apart a (inr off) = absurd (false≢true off)
instant_below from (Some t) None till undated i j apart a b = absurd apart
instant_below from None since till undated i j apart a b = absurd apart

range_below : (r s : InRange) (x y : Entry) → Precedes r s → IsOfRange r x → IsOfRange s y → IsBelow x y
range_below r s x y p a b =
    inl (instant_below r.from r.to s.from s.to r.undated x.instant y.instant p.apart a
    (subst (λ (undated : Bool). IsInRange s.from s.to undated y.instant) p.dated b))

-- so it is below each of all that follow
below_later : (most : ℕ) (r : InRange) (rs : List InRange) (xss : List (List Entry)) (x y : Entry)
    → AllByRecursion (Precedes r) rs → AreOfRanges most rs xss → IsOfRange r x → IsHeld xss y → IsBelow x y
below_later most r [] [] x y turn of a h = absurd h
below_later most r [] (ys ∷ xss) x y turn of a h = absurd of
below_later most r (s ∷ rs) [] x y turn of a h = absurd h
below_later most r (s ∷ rs) (ys ∷ xss) x y turn of a (inl here) =
    range_below r s x y turn.0 a (of_member (IsOfRange s) ys y of.1 here)
below_later most r (s ∷ rs) (ys ∷ xss) x y turn of a (inr there) = below_later most r rs xss x y turn.1 of.2 a there

-- one list behind the other
abbrev pub joined : List (List Entry) → List Entry
joined xss = flat_map (λ (xs : List Entry). xs) xss

pub joined_held : (xss : List (List Entry)) (e : Entry) → Has (joined xss) e → IsHeld xss e
joined_held [] e h = h
joined_held (xs ∷ xss) e h =
    elim (has_either xs (joined xss) e h) [ inl here ↦ inl here | inr there ↦ inr (joined_held xss e there) ]

pub held_joined : (xss : List (List Entry)) (e : Entry) → IsHeld xss e → Has (joined xss) e
held_joined [] e h = h
held_joined (xs ∷ xss) e (inl here) = has_left xs (joined xss) e here
held_joined (xs ∷ xss) e (inr there) = has_right xs (joined xss) e (held_joined xss e there)

-- it is an archive
joined_archive : (most : ℕ) (rs : List InRange) (xss : List (List Entry)) → AreInTurn rs → AreOfRanges most rs xss
    → IsArchive most (joined xss)
joined_archive most [] [] turn of = archive_nil most
joined_archive most [] (xs ∷ xss) turn of = absurd of
joined_archive most (r ∷ rs) [] turn of = absurd of
joined_archive most (r ∷ rs) (xs ∷ xss) turn of =
    let later = joined_archive most rs xss turn.1 of.2 in
    record {
      ascending = ascending_join xs (joined xss) of.0.ascending later.ascending
          (λ x y h k. below_later most r rs xss x y turn.0 of.2 (of_member (IsOfRange r) xs x of.1 h)
          (joined_held xss y k));
      entries = all_append IsEntry xs (joined xss) of.0.entries later.entries;
      fits = all_append (λ (e : Entry). length e.octets ≤ most) xs (joined xss) of.0.fits later.fits;
    }

-- of which the text is the texts, one behind the other
joined_text : (xss : List (List Entry)) → text_of (joined xss) ≡ flat_map text_of xss
joined_text [] = refl
joined_text (xs ∷ xss) =
    flat_map-append entry_text xs (joined xss) ∙ ap (λ (t : List ℕ). text_of xs ++ t) (joined_text xss)

pub ranges_joined : (most : ℕ) (rs : List InRange) (xss : List (List Entry)) → AreInTurn rs → AreOfRanges most rs xss
    → (zs : List Entry) × IsArchive most zs × AreKept IsKeptAlways xss zs × (text_of zs ≡ flat_map text_of xss)
ranges_joined most rs xss turn of =
    let archive = joined_archive most rs xss turn of in (
      joined xss,
      archive,
      record {
        ascending = archive.ascending;
        members = λ e. (λ h. (joined_held xss e h, tt), λ h. held_joined xss e h.0);
      },
      joined_text xss,
    )
