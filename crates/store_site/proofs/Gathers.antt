-- Facts on an archive that becomes records as it is written.
use Rattle.std.proofs.Common.{◌≡◌, ℕ, ◌-◌, ◌<◌, ◌≤◌, List, [], ◌∷◌, ◌++◌, ◌∙◌, ap, append_assoc, arith, inl, inr, length}
use Rattle.std.proofs.Common.{refl, subst, sym, take, drop}
use Rattle.std.specs.Prelude.{◌⊎◌}
use Rattle.std.proofs.lemmas.List.{append-nil, length-append, length-drop, take-append-drop, take_at}
use Rattle.archive_text.specs.Entries.{Entry}
use Rattle.archive_text.specs.Text.{entry_text, text_of}
use Rattle.archive_text.proofs.Texts.{text_push, text_some}
use Rattle.reconcile.specs.Texts.{IsOfNoArchive, IsReadingFault}
use Rattle.reconcile.specs.declared.stopped.Stopped.{Stopped}
use Rattle.reconcile.specs.declared.stopped.Stopped.TheVariants.{Lied, Memory}
use Rattle.store_site.specs.Gatherings.{gathered}

-- of a text a front was read behind others
pub record HasRead (old now text rest : List ℕ) : Type 0 where
  pub front : List ℕ
  pub parts : text ≡ front ++ rest
  pub behind : now ≡ old ++ front

pub read_none : (old text : List ℕ) → HasRead old old text text
read_none old text = record { front = []; parts = refl; behind = sym (append-nil old) }

-- one entry more
pub read_more : (old text rest behind : List ℕ) (es now : List Entry) (e : Entry) → HasRead old (text_of es) text rest
    → rest ≡ entry_text e ++ behind → now ≡ es ++ e ∷ [] → HasRead old (text_of now) text behind
read_more old text rest behind es now e h parts is = record {
  front = h.front ++ entry_text e;
  parts = h.parts ∙ ap (λ (l : List ℕ). h.front ++ l) parts ∙ sym (append_assoc h.front (entry_text e) behind);
  behind = ap text_of is ∙ text_push es e ∙ ap (λ (l : List ℕ). l ++ entry_text e) h.behind
      ∙ append_assoc old h.front (entry_text e);
}

pub read_nearer : (text rest : List ℕ) (e : Entry) → text ≡ entry_text e ++ rest → length rest < length text
read_nearer text rest e parts = omega (arith, ap length parts, length-append (entry_text e) rest, text_some e)

pub read_within : (old now text rest : List ℕ) → HasRead old now text rest → length rest ≤ length text
read_within old now text rest h = omega (arith, ap length h.parts, length-append h.front rest)

-- so many octets of it
pub read_count : (old now text rest : List ℕ) → HasRead old now text rest
    → now ≡ old ++ take (length text - length rest) text
read_count old now text rest h =
    let count : length h.front ≡ length text - length rest = omega (arith, ap length h.parts, length-append h.front rest)
    in
    h.behind ∙ ap (λ (l : List ℕ). old ++ l)
    (sym (ap (take (length text - length rest)) h.parts ∙ take_at h.front rest (length text - length rest) count))

pub read_all : (old now text rest : List ℕ) → HasRead old now text rest → length rest ≡ 0 → now ≡ old ++ text
read_all old now text [] h none = h.behind ∙ ap (λ (l : List ℕ). old ++ l) (sym (h.parts ∙ append-nil h.front))
read_all old now text (x ∷ rest) h none = absurd (omega arith)

-- what stands behind what was read is what stood there
pub read_whole : (old now text rest : List ℕ) → HasRead old now text rest → now ++ rest ≡ old ++ text
read_whole old now text rest h =
    ap (λ (l : List ℕ). l ++ rest) h.behind ∙ append_assoc old h.front rest
    ∙ ap (λ (l : List ℕ). old ++ l) (sym h.parts)

pub front_forgotten : (xs : List ℕ) (n left : ℕ) → n ≤ length xs → left ≡ length xs - n
    → take left (drop n xs ++ take n xs) ≡ drop n xs
front_forgotten xs n left le is = take_at (drop n xs) (take n xs) left (omega (arith, length-drop n xs))

pub settled : (old now rest : List ℕ) (n : ℕ) → now ≡ old ++ take n rest → now ++ drop n rest ≡ old ++ rest
settled old now rest n h =
    ap (λ (l : List ℕ). l ++ drop n rest) h ∙ append_assoc old (take n rest) (drop n rest)
    ∙ ap (λ (l : List ℕ). old ++ l) (take-append-drop n rest)

-- a fault that is not want of memory: what was to be read is the text of no archive
pub not_archive : (old now text rest : List ℕ) (fault : Stopped) → HasRead old now text rest → 0 < length rest
    → IsReadingFault now rest fault → ¬ (fault ≡ Memory) → IsOfNoArchive (old ++ text)
not_archive old now text rest fault h some cause not =
    elim cause [
      | inl lied ↦ subst IsOfNoArchive (read_whole old now text rest h) (lied.1 some)
      | inr memory ↦ absurd (not memory)
    ]
