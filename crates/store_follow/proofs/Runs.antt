-- Batches between two offsets of a file.
use Rattle.std.proofs.Common.{◌≡◌, ◌≢◌, ℕ, ◌+◌, ◌<◌, List, [], ◌∷◌, ◌++◌, Option, length, take, drop}
use Rattle.std.proofs.Common.{refl, sym, ap, subst, ◌∙◌, append_assoc, arith, length-append, take-append-drop}
use Rattle.std.proofs.KnownBytes.{Appends-nil, Appends-trans}
use Rattle.std.proofs.lemmas.List.{append-nil, drop-drop, drop_at, length-take}
use Rattle.std.specs.Io.KnownBytes.{Appends}
use Rattle.std.specs.Int.{to_le_bytes, w32}
use Rattle.archive_text.proofs.Members.{all_append}
use Rattle.journal.specs.Batches.{BeginsWithBatch, IsBody, batches_text, open_batch}
use Rattle.store_follow.specs.Batches.{AreBetween, BatchTexts, BeginsWithText, Stops, Writes, WritesPart}
use Rattle.store_follow.specs.declared.fault.BatchFault.{BatchFault}
use Rattle.store_follow.specs.declared.fault.BatchFault.TheVariants.{Disk, Damaged, Write}

abbrev pub Bodies : Type 0
Bodies = List (List ℕ)

-- ---- texts

pub text_append : (xs ys : Bodies) → batches_text (xs ++ ys) ≡ batches_text xs ++ batches_text ys
text_append [] ys = refl
text_append (x ∷ xs) ys =
    ap (λ (l : List ℕ). open_batch x ++ l) (text_append xs ys)
    ∙ sym (append_assoc (open_batch x) (batches_text xs) (batches_text ys))

pub texts_append : (xs ys : Bodies) (a b : List ℕ) → BatchTexts xs a → BatchTexts ys b → BatchTexts (xs ++ ys) (a ++ b)
texts_append [] ys a b xs_are ys_are = subst (λ (l : List ℕ). BatchTexts ys (l ++ b)) (sym xs_are) ys_are
texts_append (x ∷ xs) ys a b (first, rest, one, more, is) ys_are = (
  first,
  rest ++ b,
  one,
  texts_append xs ys rest b more ys_are,
  ap (λ (l : List ℕ). l ++ b) is ∙ append_assoc first rest b,
)

-- ---- between two offsets

pub between_none : (file : List ℕ) (at : ℕ) → AreBetween file at at []
between_none file at = record { sized = tt; parts = refl; end_is = omega arith }

pub between_then : (file : List ℕ) (at mid end : ℕ) (xs ys : Bodies) → AreBetween file at mid xs
    → AreBetween file mid end ys → AreBetween file at end (xs ++ ys)
between_then file at mid end xs ys x y = record {
  sized = all_append IsBody xs ys x.sized y.sized;
  parts = x.parts ∙ ap (λ (l : List ℕ). batches_text xs ++ l) y.parts
      ∙ sym (append_assoc (batches_text xs) (batches_text ys) (drop end file))
      ∙ ap (λ (l : List ℕ). l ++ drop end file) (sym (text_append xs ys));
  end_is = omega (
    arith,
    x.end_is,
    y.end_is,
    ap (λ (l : List ℕ). length l) (text_append xs ys),
    length-append (batches_text xs) (batches_text ys),
  );
}

-- the batch that is at an offset
pub between_one : (file body rest : List ℕ) (at len : ℕ) → drop at file ≡ open_batch body ++ rest → IsBody body
    → len ≡ length (open_batch body) → AreBetween file at (at + len) (body ∷ [])
between_one file body rest at len is sized size =
    let behind : rest ≡ drop (at + len) file =
    sym (drop_at (open_batch body) rest len (sym size)) ∙ ap (drop len) (sym is) ∙ drop-drop len at file in
    let one : batches_text (body ∷ []) ≡ open_batch body = append-nil (open_batch body) in
    record {
      sized = (sized, tt);
      parts = is ∙ ap (λ (l : List ℕ). open_batch body ++ l) behind
          ∙ ap (λ (l : List ℕ). l ++ drop (at + len) file) (sym one);
      end_is = ap (λ (n : ℕ). at + n) (size ∙ ap (λ (l : List ℕ). length l) (sym one));
    }

-- ---- what was written

pub writes_none : (file : List ℕ) (at : ℕ) (taken : Option (List ℕ)) → Writes file at at taken taken
writes_none file at taken = record {
  bodies = [];
  between = between_none file at;
  text = [];
  texts = refl;
  appends = Appends-nil taken;
}

pub writes_then : (file : List ℕ) (at mid end : ℕ) (a b c : Option (List ℕ)) → Writes file at mid a b
    → Writes file mid end b c → Writes file at end a c
writes_then file at mid end a b c x y = record {
  bodies = x.bodies ++ y.bodies;
  between = between_then file at mid end x.bodies y.bodies x.between y.between;
  text = x.text ++ y.text;
  texts = texts_append x.bodies y.bodies x.text y.text x.texts y.texts;
  appends = Appends-trans a b c x.text y.text x.appends y.appends;
}

part_then : (file : List ℕ) (at mid end : ℕ) (a b c : Option (List ℕ)) → Writes file at mid a b
    → WritesPart file mid end b c → WritesPart file at end a c
part_then file at mid end a b c x y = record {
  middle = y.middle;
  writes = writes_then file at mid end a b y.middle x y.writes;
  text = y.text;
  len = y.len;
  next = y.next;
  part = y.part;
  left = y.left;
  parts = y.parts;
  some_left = y.some_left;
  appends = y.appends;
}

pub stops_then : (fault : BatchFault) (file : List ℕ) (at mid end : ℕ) (a b c : Option (List ℕ))
    → Writes file at mid a b → Stops fault file mid end b c → Stops fault file at end a c
stops_then (Disk fault) file at mid end a b c x y = writes_then file at mid end a b c x y
stops_then Damaged file at mid end a b c x y = writes_then file at mid end a b c x y
stops_then Write file at mid end a b c x y = part_then file at mid end a b c x y

-- ---- a batch that was read

-- what the first octets of some begin with, all of them do
pub begins_whole : (octets all text : List ℕ) (n len : ℕ) → octets ≡ take n all → BeginsWithText octets text len
    → BeginsWithText all text len
begins_whole octets all text n len is b = record {
  body = b.body;
  rest = b.rest ++ drop n all;
  sized = b.sized;
  parts = sym (take-append-drop n all) ∙ ap (λ (l : List ℕ). l ++ drop n all) (sym is ∙ b.parts)
      ∙ append_assoc (open_batch b.body) b.rest (drop n all);
  len_is = b.len_is;
  batch = b.batch;
}

pub one_written : (file text : List ℕ) (at len : ℕ) (before now : Option (List ℕ)) → BeginsWithText (drop at file) text len
    → Appends before now text → Writes file at (at + len) before now
one_written file text at len before now b appends = record {
  bodies = b.body ∷ [];
  between = between_one file b.body b.rest at len b.parts b.sized b.len_is;
  text = text;
  texts = (text, [], b.batch, refl, sym (append-nil text));
  appends = appends;
}

some_behind : (text : List ℕ) (n : ℕ) → n < length text → drop n text ≢ []
some_behind text n short none =
    omega (
      arith,
      short,
      ap (λ (l : List ℕ). length l) (take-append-drop n text),
      length-append (take n text) (drop n text),
      ap (λ (l : List ℕ). length l) none,
      length-take n text,
    )

pub one_in_part : (file text : List ℕ) (at len sent : ℕ) (before now : Option (List ℕ))
    → BeginsWithText (drop at file) text len → sent < length text → Appends before now (take sent text)
    → WritesPart file at at before now
one_in_part file text at len sent before now b short appends = record {
  middle = before;
  writes = writes_none file at before;
  text = text;
  len = len;
  next = b;
  part = take sent text;
  left = drop sent text;
  parts = sym (take-append-drop sent text);
  some_left = some_behind text sent short;
  appends = appends;
}

pub head_size : (body : List ℕ) → length (open_batch body) ≡ 5 + length body
head_size body = omega (arith, length-append (to_le_bytes w32 (length body)) body)

-- one batch more that was read
pub next_between : (file octets : List ℕ) (at len n : ℕ) (bodies : Bodies) → AreBetween file 0 at bodies
    → octets ≡ take n (drop at file) → BeginsWithBatch octets len
    → (more : Bodies) × AreBetween file 0 (at + (5 + len)) more
next_between file octets at len n bodies b is begins =
    let all : drop at file ≡ open_batch begins.body ++ (begins.rest ++ drop n (drop at file)) =
    sym (take-append-drop n (drop at file)) ∙ ap (λ (l : List ℕ). l ++ drop n (drop at file)) (sym is ∙ begins.text)
    ∙ append_assoc (open_batch begins.body) begins.rest (drop n (drop at file)) in
    let size : 5 + len ≡ length (open_batch begins.body) = omega (arith, begins.len_is, head_size begins.body) in (
      bodies ++ begins.body ∷ [],
      between_then file 0 at (at + (5 + len)) bodies (begins.body ∷ []) b
          (between_one file begins.body (begins.rest ++ drop n (drop at file)) at (5 + len) all begins.sized size),
    )

pub stops_none : (fault : BatchFault) (file : List ℕ) (at : ℕ) (taken : Option (List ℕ)) → fault ≢ Write
    → Stops fault file at at taken taken
stops_none (Disk fault) file at taken not = writes_none file at taken
stops_none Damaged file at taken not = writes_none file at taken
stops_none Write file at taken not = absurd (not refl)
