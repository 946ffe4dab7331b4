-- Places, ranges and parts as they are told.
use Rattle.std.specs.Prelude.{ℕ, List, [], ◌∷◌, ◌++◌, Option, None, Some, ⊤, codes}
use Rattle.archive_text.specs.Entries.{Entry}
use Rattle.reconcile.specs.declared.range.Range.{Range}
use Rattle.reconcile.specs.declared.sum.Sum.{Sum}
use Rattle.reconcile.specs.declared.part.Part.{Part}
use Rattle.site_messages.specs.Words.{IsDigest, IsNumber, IsShort, IsTime, counted_and, digest_text, number_text, time_text}

-- a place: a time, counted octets, and octets behind them
abbrev pub place_and : List ℕ → Entry → List ℕ
place_and end p = time_text p.instant ++ counted_and end p.octets

pub record IsPlace (p : Entry) : Type 0 where
  pub time : IsTime p.instant
  pub short : IsShort p.octets

-- the line of an upper bound
abbrev pub high_text : Option Entry → List ℕ
high_text None = codes "open\n"
high_text (Some p) = place_and (10 ∷ []) p

abbrev pub IsHigh : Option Entry → Type 0
IsHigh None = ⊤
IsHigh (Some p) = IsPlace p

-- both bounds of a range
abbrev pub bounds_text : Range → List ℕ
bounds_text r = place_and (32 ∷ []) r.low ++ high_text r.high

pub record IsBounds (r : Range) : Type 0 where
  pub low : IsPlace r.low
  pub high : IsHigh r.high

-- the line of a range
abbrev pub range_text : Range → List ℕ
range_text r = codes "range " ++ bounds_text r

-- the count of records, the length and the SHA-256 of their archive
abbrev pub sum_text : Sum → List ℕ
sum_text s = number_text s.records ++ (number_text s.octets ++ digest_text s.digest)

pub record IsSum (s : Sum) : Type 0 where
  pub records : IsNumber s.records
  pub octets : IsNumber s.octets
  pub digest : IsDigest s.digest

-- what is told of a part, and its line
abbrev pub told_text : Part → List ℕ
told_text p = sum_text p.sum ++ bounds_text p.range

abbrev pub part_text : Part → List ℕ
part_text p = codes "part " ++ told_text p

pub record IsPart (p : Part) : Type 0 where
  pub sum : IsSum p.sum
  pub bounds : IsBounds p.range
