-- Entries are counted and hashed one by one.
use Rattle.std.proofs.Common.{◌≡◌, ℕ, ◌+◌, ◌-◌, ◌^◌, ◌<◌, List, [], ◌∷◌, ◌++◌, length, min, refl, sym, subst, ap, arith}
use Rattle.std.proofs.Common.{Option, None, Some}
use Rattle.std.proofs.lemmas.List.{length-append}
use Rattle.sha2.specs.Hashers.{Holds256}
use Rattle.syslog_frame.specs.Frames.{framed}
use Rattle.syslog_frame.specs.declared.framing.Framing.TheVariants.{Counted}
use Rattle.archive_text.specs.Entries.{Entry}
use Rattle.archive_text.specs.Text.{entry_text, text_of}
use Rattle.archive_text.proofs.Texts.{text_push}
use Rattle.archive_sets.proofs.Selecting.{no_more_than_octets}
use Rattle.archive_digest.specs.Sums.{IsLatestSum, IsSumOf, IsTreeOf}
use Rattle.archive_digest.specs.declared.roots.Roots.{Roots}
use Rattle.archive_digest.specs.declared.sum.Sum.{Sum}

-- how many octets the text has with one entry more
longer : (es : List Entry) (e : Entry) → length (text_of (es ++ e ∷ [])) ≡ length (text_of es) + length (entry_text e)
longer es e = omega (arith, ap length (text_push es e), length-append (text_of es) (entry_text e))

-- one entry more
pub sum_more : (roots : Roots) (s t : Sum) (es : List Entry) (e : Entry) (octets : List ℕ) (size : ℕ)
    → e.octets ≡ octets
    → length (text_of (es ++ e ∷ [])) < 2 ^ 64
    → (length (framed Counted octets) < 2 ^ 64 → size ≡ length (framed Counted octets))
    → ((m : List ℕ) → Holds256 s.hasher m → Holds256 t.hasher (m ++ framed Counted octets))
    → t.octets ≡ min (s.octets + size) (2 ^ 64 - 1) → t.records ≡ min (s.records + 1) (2 ^ 64 - 1)
    → (length es + 1 < 2 ^ 64 → IsTreeOf roots s.tree es → IsTreeOf roots t.tree (es ++ e ∷ []))
    → IsSumOf roots s es → IsSumOf roots t (es ++ e ∷ [])
sum_more roots s t es e octets size is short sized hashed count records grows h =
    let text : length (framed Counted octets) ≡ length (entry_text e) =
    ap (λ (o : List ℕ). length (framed Counted o)) (sym is) in
    let exact : size ≡ length (framed Counted octets) = sized (omega (arith, text, longer es e, short)) in
    record {
      records = omega (
        arith,
        records,
        h.records,
        length-append es (e ∷ []),
        no_more_than_octets (es ++ e ∷ []),
        short,
      );
      octets = omega (arith, count, h.octets, exact, text, longer es e, short);
      hashed = subst (Holds256 t.hasher) (sym (text_push es e))
          (subst (λ (o : List ℕ). Holds256 t.hasher (text_of es ++ framed Counted o)) (sym is)
          (hashed (text_of es) h.hashed));
      tree = grows (omega (arith, length-append es (e ∷ []), no_more_than_octets (es ++ e ∷ []), short)) h.tree;
    }

-- where the latest entries are all of them, their sum is that of all
pub last_grows : (roots : Roots) (own : Option Sum) (s t : Sum) (xs ys : List Entry) → ((x : Sum) → ¬ (own ≡ Some x))
    → (IsSumOf roots s xs → IsSumOf roots t ys) → IsLatestSum roots own s xs → IsLatestSum roots own t ys
last_grows roots None s t xs ys none grows h = grows h
last_grows roots (Some x) s t xs ys none grows h = absurd (none x refl)
