use Rattle.std.proofs.Common.{◌≡◌, ◌++◌, ◌∷◌, [], ◌+◌, List, ℕ, length, sym, ap, ◌∙◌, arith}
use Rattle.std.proofs.Common.{append_assoc, length-append}
use Rattle.archive_proof.proofs.Readings.{first_hash, some_then}
use Rattle.archive_proof.proofs.reading.+push_hashes.Goals as goal

pub returns-in_err-next : goal.returns-in_err-next
returns-in_err-next t c =
    λ hs rest size room all is.
    let f = first_hash c.args.number hs c.args.text.now rest c.if-number-eq0.false size all is in
    absurd (c.in_err-next.ensures f.first _ f.hash f.begins)

pub returns-in-Ok : goal.returns-in-Ok
returns-in-Ok t c =
    λ hs rest size room all is.
    let f = first_hash c.args.number hs c.args.text.now rest c.if-number-eq0.false size all is in
    let next = c.in_ok-next.ensures f.first _ f.hash f.begins in
    let count : length hs ≡ length f.others + 1 = ap (λ (l : List (List ℕ)). length l) f.all ∙ omega arith in
    let items : c.try_push.new.self.items ≡ c.args.hashes.now.items ++ f.first ∷ [] =
    c.in-Ok.ensures.ok ∙ ap (λ (h : List ℕ). c.args.hashes.now.items ++ h ∷ []) next.0 in
    let held : length c.try_push.new.self.items ≡ length c.args.hashes.now.items + 1 =
    ap (λ (l : List (List ℕ)). length l) items ∙ length-append c.args.hashes.now.items (f.first ∷ []) in
    some_then c.push_hashes.result _ _
    (λ x done. (
      done.0 ∙ ap (λ (l : List (List ℕ)). l ++ f.others) items
          ∙ append_assoc c.args.hashes.now.items (f.first ∷ []) f.others
          ∙ ap (λ (l : List (List ℕ)). c.args.hashes.now.items ++ l) (sym f.all),
      done.1,
    ))
    (c.push_hashes.ensures f.others rest (omega arith) (omega arith) f.hashes next.1)

pub returns-in-Err : goal.returns-in-Err
returns-in-Err t c =
    λ hs rest size room all is. omega (arith, c.in-Err.ensures.full, room, size, c.if-number-eq0.false)
