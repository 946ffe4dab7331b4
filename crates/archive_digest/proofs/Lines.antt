-- The lines of a digest.
use Rattle.std.proofs.Common.{◌≡◌, ℕ, ◌+◌, ◌-◌, ◌*◌, ◌^◌, ◌<◌, ◌≤◌, List, [], ◌∷◌, ◌++◌, Option, None, Some, length}
use Rattle.std.proofs.Common.{◌∙◌, refl, sym, ap, inl, append-nil, arith}
use Rattle.std.specs.Prelude.{◌≢◌, ℤ, codes, decimal}
use Rattle.std.specs.List.{AllByRecursion}
use Rattle.std.proofs.lemmas.Fmt.{length-decimal-le}
use Rattle.std.proofs.lemmas.Grind.{flat_map-append}
use Rattle.std.proofs.lemmas.List.{length-append, length-take, take_at}
use Rattle.hex.specs.Hex.{encode_lower, lower_digits}
use Rattle.hex.proofs.HexLemmas.{length-encode_with}
use Rattle.sha2.specs.Sha256.{sha256}
use Rattle.sha2.proofs.Facts256.{length-sha256}
use Rattle.archive_text.specs.Entries.{Entry, Has}
use Rattle.archive_text.specs.Text.{text_of}
use Rattle.archive_text.proofs.Texts.{text_length}
use Rattle.archive_sets.proofs.Selecting.{no_more_than_octets}
use Rattle.archive_tree.specs.Archives.{texts_of}
use Rattle.archive_tree.specs.Tree.{tree_hash}
use Rattle.archive_digest.specs.Digests.{Part, IsDivided, IsPartOf, before_last}
use Rattle.archive_digest.specs.Digests.{digest_with, entries_of, line_with, lines_with}
use Rattle.archive_text.specs.Periods.{IsPeriodOf, name_length}
use Rattle.archive_digest.specs.Putting.{line_end, root_of}
use Rattle.archive_digest.specs.Sums.{IsSumOf}
use Rattle.archive_digest.specs.declared.roots.Roots.{Roots}
use Rattle.archive_digest.specs.declared.roots.Roots.TheVariants.{Without, With}
use Rattle.archive_text.specs.declared.period.Period.{Period}
use Rattle.archive_text.specs.declared.period.Period.TheVariants.{Month, Day, Hour}
use Rattle.archive_digest.specs.declared.sum.Sum.{Sum}
use Rattle.archive_digest.proofs.TreeHashes.{length-tree_hash}

-- one part more
pub lines_more : (roots : Roots) (ps : List Part) (p : Part)
    → lines_with roots (ps ++ p ∷ []) ≡ lines_with roots ps ++ line_with roots p.name p.entries
lines_more roots ps p =
    flat_map-append (λ (q : Part). line_with roots q.name q.entries) ps (p ∷ [])
    ∙ ap (λ (text : List ℕ). lines_with roots ps ++ text) (append-nil (line_with roots p.name p.entries))

pub before_last_more : (ps : List Part) (p : Part) → before_last (ps ++ p ∷ []) ≡ ps
before_last_more ps p = take_at ps (p ∷ []) (length (ps ++ p ∷ []) - 1) (omega (arith, length-append ps (p ∷ [])))

-- a line by what was counted and hashed
line_is : (roots : Roots) (name : List ℕ) (es : List Entry)
    → name ++ 32 ∷ decimal (length es) ++ 32 ∷ decimal (length (text_of es))
    ++ (32 ∷ encode_lower (sha256 (text_of es)) ++ line_end (root_of roots es)) ≡ line_with roots name es
line_is Without name es = refl
line_is With name es = refl

pub is_line : (name : List ℕ) (sum : Sum) (hash : List ℕ) (root : Option (List ℕ))
    → ((roots : Roots) (es : List Entry) → IsSumOf roots sum es → hash ≡ encode_lower (sha256 (text_of es)))
    → ((roots : Roots) (es : List Entry) → IsSumOf roots sum es → root ≡ root_of roots es)
    → (roots : Roots) (es : List Entry) → IsSumOf roots sum es
    → name ++ 32 ∷ decimal sum.records ++ 32 ∷ decimal sum.octets ++ (32 ∷ hash ++ line_end root)
    ≡ line_with roots name es
is_line name sum hash root hashes rooted roots es h =
    ap (λ (n : ℕ). name ++ 32 ∷ decimal n ++ 32 ∷ decimal sum.octets ++ (32 ∷ hash ++ line_end root)) h.records
    ∙ ap (λ (n : ℕ). name ++ 32 ∷ decimal (length es) ++ 32 ∷ decimal n ++ (32 ∷ hash ++ line_end root)) h.octets
    ∙ ap (λ (x : List ℕ). name ++ 32 ∷ decimal (length es) ++ 32 ∷ decimal (length (text_of es))
    ++ (32 ∷ x ++ line_end root)) (hashes roots es h)
    ∙ ap (λ (x : Option (List ℕ)). name ++ 32 ∷ decimal (length es) ++ 32 ∷ decimal (length (text_of es))
    ++ (32 ∷ encode_lower (sha256 (text_of es)) ++ line_end x)) (rooted roots es h)
    ∙ line_is roots name es

-- ---- a line is short

few_octets : (period : Period) → name_length period ≤ 13
few_octets Month = omega arith
few_octets Day = omega arith
few_octets Hour = omega arith

short_name : (period : Period) (i : Option ℤ) (name : List ℕ) → IsPeriodOf period i name → length name ≤ 13
short_name period None name is = omega (arith, ap length is)
short_name period (Some i) name (time, form, is) =
    omega (arith, ap length is, length-take (name_length period) time, few_octets period)

-- a number below 2 ^ 64 has at most 20 digits
few_digits : (n : ℕ) → n < 2 ^ 64 → length (decimal n) ≤ 20
few_digits n h = length-decimal-le 20 n (omega arith) (omega arith) h

digits_of_hash : (m : List ℕ) → length (encode_lower (sha256 m)) ≡ 64
digits_of_hash m = omega (arith, length-encode_with lower_digits (sha256 m), length-sha256 m)

digits_of_root : (xs : List (List ℕ)) → length (encode_lower (tree_hash xs)) ≡ 64
digits_of_root xs = omega (arith, length-encode_with lower_digits (tree_hash xs), length-tree_hash xs)

line_length : (name a b h : List ℕ)
    → length (name ++ 32 ∷ a ++ 32 ∷ b ++ (32 ∷ h)) ≡ length name + length a + length b + length h + 3
line_length name a b h = omega (
  arith,
  length-append (name ++ 32 ∷ a ++ 32 ∷ b) (32 ∷ h),
  length-append (name ++ 32 ∷ a) (32 ∷ b),
  length-append name (32 ∷ a),
)

short_words : (name : List ℕ) (es : List Entry) (end : List ℕ)
    → length name ≤ 13 → length (text_of es) < 2 ^ 63 → length end ≤ 130
    → length (name ++ 32 ∷ decimal (length es) ++ 32 ∷ decimal (length (text_of es)) ++ (32 ∷ end)) ≤ 200
short_words name es end small short few = omega (
  arith,
  line_length name (decimal (length es)) (decimal (length (text_of es))) end,
  few_digits (length es) (omega (arith, no_more_than_octets es, short)),
  few_digits (length (text_of es)) (omega (arith, short)),
  few,
  small,
)

short_line : (roots : Roots) (name : List ℕ) (es : List Entry) → length name ≤ 13 → length (text_of es) < 2 ^ 63
    → length (line_with roots name es) ≤ 200
short_line Without name es small short =
    short_words name es (encode_lower (sha256 (text_of es)) ++ 10 ∷ []) small short (omega (
      arith,
      length-append (encode_lower (sha256 (text_of es))) (10 ∷ []),
      digits_of_hash (text_of es),
    ))
short_line With name es small short =
    let root : List ℕ = encode_lower (tree_hash (texts_of es)) in
    short_words name es (encode_lower (sha256 (text_of es)) ++ (32 ∷ root ++ 10 ∷ [])) small short (omega (
      arith,
      length-append (encode_lower (sha256 (text_of es))) (32 ∷ root ++ 10 ∷ []),
      length-append root (10 ∷ []),
      digits_of_hash (text_of es),
      digits_of_root (texts_of es),
    ))

some_length : (es : List Entry) → es ≢ [] → 1 ≤ length es
some_length [] some = absurd (some refl)
some_length (e ∷ es) some = omega arith

part_name : (period : Period) (xs : List Entry) (p : Part) → IsPartOf period xs p → length p.name ≤ 13
part_name period xs p h = named p.entries h.some (λ e k. short_name period e.instant p.name ((h.selection.members e).0 k).1)
  where
    named : (es : List Entry) → es ≢ [] → ((e : Entry) → Has es e → length p.name ≤ 13) → length p.name ≤ 13
    named [] some each = absurd (some refl)
    named (e ∷ es) some each = each e (inl refl)

short_lines : (roots : Roots) (period : Period) (xs : List Entry) (ps : List Part)
    → AllByRecursion (IsPartOf period xs) ps
    → length (text_of (entries_of ps)) < 2 ^ 63 → length (lines_with roots ps) ≤ 200 * length (entries_of ps)
short_lines roots period xs [] each short = omega arith
short_lines roots period xs (p ∷ ps) each short =
    let parts = text_length p.entries (entries_of ps) in
    omega (
      arith,
      length-append (line_with roots p.name p.entries) (lines_with roots ps),
      length-append p.entries (entries_of ps),
      short_line roots p.name p.entries (part_name period xs p each.0) (omega (arith, parts, short)),
      some_length p.entries each.0.some,
      short_lines roots period xs ps each.1 (omega (arith, parts, short)),
    )

-- the digest of few entries is short
pub short_digest : (roots : Roots) (period : Period) (xs : List Entry) (ps : List Part) → IsDivided period xs ps
    → length (text_of xs) < 2 ^ 40 → length (digest_with roots xs ps) < 2 ^ 60
short_digest roots period xs ps d short =
    let same : length (entries_of ps) ≡ length xs = ap (length {A = Entry}) (sym d.all) in
    let text : length (text_of (entries_of ps)) ≡ length (text_of xs) =
    ap (λ (es : List Entry). length (text_of es)) (sym d.all) in
    omega (
      arith,
      length-append (lines_with roots ps) (line_with roots (codes "total") xs),
      short_lines roots period xs ps d.each (omega (arith, text, short)),
      short_line roots (codes "total") xs (omega arith) (omega (arith, short)),
      no_more_than_octets xs,
      same,
      short,
    )

-- and so are the lines before the last
pub short_before : (roots : Roots) (period : Period) (xs : List Entry) (ps : List Part) (p : Part)
    → IsDivided period xs (ps ++ p ∷ [])
    → length (text_of xs) < 2 ^ 40 → length (lines_with roots ps) < 2 ^ 60
short_before roots period xs ps p d short = omega (
  arith,
  short_digest roots period xs (ps ++ p ∷ []) d short,
  length-append (lines_with roots (ps ++ p ∷ [])) (line_with roots (codes "total") xs),
  ap length (lines_more roots ps p),
  length-append (lines_with roots ps) (line_with roots p.name p.entries),
)
