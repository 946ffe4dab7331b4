-- Each file has batches, if none.
use Rattle.std.proofs.Common.{◌≡◌, ◌⊎◌, inl, inr, ⊎_elim, ℕ, zero, suc, ◌+◌, ◌<◌, ◌≤◌, ◌^◌, List, [], ◌∷◌, ◌++◌, length}
use Rattle.std.proofs.Common.{take, drop, refl, sym, ap, ◌∙◌, arith, append_assoc, length-append, length-take}
use Rattle.std.proofs.Common.{take-append-drop}
use Rattle.std.specs.Int.{w32, to_le_bytes, from_le_bytes}
use Rattle.std.specs.Prelude.{bytes_eq, true}
use Rattle.std.proofs.lemmas.Bool.{cases_Bool, cases_lt}
use Rattle.std.proofs.lemmas.List.{take_at}
use Rattle.std.proofs.lemmas.Nat.{from_le_bytes-to_le_bytes_4}
use Rattle.std.proofs.lemmas.Slice.Eq.{bytes_eq-Decides}
use Rattle.journal.specs.Batches.{BeginsWithBatch, HasBatches, IsBody, IsClosed, batches_text, open_batch}
use Rattle.journal.proofs.Readings.{body_is, head_is}

-- the number behind the first octet, and as many octets behind that
abbrev len_of : List ℕ → ℕ
len_of file = from_le_bytes w32 (take 4 (drop 1 file))

abbrev body_of : List ℕ → List ℕ
body_of file = take (len_of file) (drop 5 file)

-- where a batch is at the beginning it is this
len_is : (file body rest : List ℕ) → IsBody body → file ≡ open_batch body ++ rest → len_of file ≡ length body
len_is file body rest sized is =
    ap (λ (l : List ℕ). len_of l) is ∙ ap (from_le_bytes w32) (head_is body rest)
    ∙ from_le_bytes-to_le_bytes_4 (length body) sized

front_is : (file body rest : List ℕ) → IsBody body → file ≡ open_batch body ++ rest
    → take (5 + len_of file) file ≡ open_batch (body_of file)
front_is file body rest sized is =
    let len = len_is file body rest sized is in
    let size : length (open_batch body) ≡ 5 + length body =
    omega (arith, length-append (to_le_bytes w32 (length body)) body) in
    let same : body_of file ≡ body =
    ap (λ (n : ℕ). take n (drop 5 file)) len ∙ ap (λ (l : List ℕ). take (length body) (drop 5 l)) is
    ∙ ap (λ (l : List ℕ). take (length body) l) (body_is body rest) ∙ take_at body rest (length body) refl in
    ap (λ (n : ℕ). take (5 + n) file) len
    ∙ ap (λ (l : List ℕ). take (5 + length body) l) is
    ∙ take_at (open_batch body) rest (5 + length body) size
    ∙ ap open_batch (sym same)

begins_with : (file : List ℕ) → len_of file < 2 ^ 32 → take (5 + len_of file) file ≡ open_batch (body_of file)
    → BeginsWithBatch file (length (body_of file))
begins_with file small front = record {
  body = body_of file;
  rest = drop (5 + len_of file) file;
  text = sym (take-append-drop (5 + len_of file) file)
      ∙ ap (λ (l : List ℕ). l ++ drop (5 + len_of file) file) front;
  len_is = refl;
  sized = omega (arith, small, length-take (len_of file) (drop 5 file));
}

first_batch : (file : List ℕ) → ((len : ℕ) × BeginsWithBatch file len) ⊎ IsClosed file
first_batch file = ⊎_elim
    (λ small. ⊎_elim
    (λ yes. inl (
      length (body_of file),
      begins_with file small
          ((bytes_eq-Decides (take (5 + len_of file) file) (open_batch (body_of file))).0 yes),
    ))
    (λ no. inr (λ body rest sized is.
    let yes : bytes_eq (take (5 + len_of file) file) (open_batch (body_of file)) ≡ true =
    (bytes_eq-Decides (take (5 + len_of file) file) (open_batch (body_of file))).1 (front_is file body rest sized is) in
    absurd (cc (yes, no))))
    (cases_Bool (bytes_eq (take (5 + len_of file) file) (open_batch (body_of file)))))
    (λ large. inr (λ body rest sized is. omega (arith, large, sized, len_is file body rest sized is)))
    (cases_lt (len_of file) (2 ^ 32))

pub none_short : (file : List ℕ) → length file ≤ 0 → IsClosed file
none_short file short body rest sized is =
    omega (arith, short, ap length is, length-append (open_batch body) rest)

batches_within : (fuel : ℕ) (file : List ℕ) → length file ≤ fuel → (bodies : List (List ℕ)) × HasBatches file bodies
batches_within zero file short =
    ([], record { tail = file; text = refl; closed = none_short file short; sized = tt })
batches_within (suc fuel) file short = ⊎_elim
    (λ (first : (len : ℕ) × BeginsWithBatch file len).
    let one = first.1 in
    let more = batches_within fuel one.rest
    (omega (arith, short, ap length one.text, length-append (open_batch one.body) one.rest)) in (
      one.body ∷ more.0,
      record {
        tail = more.1.tail;
        text = one.text ∙ ap (λ (l : List ℕ). open_batch one.body ++ l) more.1.text
            ∙ sym (append_assoc (open_batch one.body) (batches_text more.0) more.1.tail);
        closed = more.1.closed;
        sized = (one.sized, more.1.sized);
      },
    ))
    (λ closed. ([], record { tail = file; text = refl; closed = closed; sized = tt }))
    (first_batch file)

pub some_batches : (file : List ℕ) → (bodies : List (List ℕ)) × HasBatches file bodies
some_batches file = batches_within (length file) file (omega arith)
