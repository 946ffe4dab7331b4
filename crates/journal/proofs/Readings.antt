-- Batches are read.
use Rattle.std.proofs.Common.{◌≡◌, ℕ, zero, suc, lit<, ◌+◌, ◌-◌, ◌^◌, ◌<◌, ◌≤◌, List, [], ◌∷◌, ◌++◌, length, get_or}
use Rattle.std.proofs.Common.{take, drop, refl, sym, ◌∙◌, ap, subst, arith, append_assoc, length-append, length-take}
use Rattle.std.proofs.Common.{take-append-drop}
use Rattle.std.specs.List.{AllByRecursion}
use Rattle.std.specs.Int.{w32, to_le_bytes, from_le_bytes}
use Rattle.std.proofs.lemmas.List.{append-nil, take_at, drop_at}
use Rattle.std.proofs.lemmas.Nat.{from_le_bytes-to_le_bytes_4, le_bytes_4}
use Rattle.journal.specs.Batches.{open_batch, batches_text, IsBody, IsClosed, HasBatches, BeginsWithBatch}
use Rattle.std.specs.Prelude.{Option, Some, IsSomeAnd}
use Rattle.disk.specs.States.{State, NameMayLeave}
use Rattle.journal.specs.Journals.{EndsAt, LeavesBatches, WithOrWithout}
use Rattle.journal.proofs.Batches.{text-push, sized_push}

-- whole open batches and nothing else
pub record IsText (octets : List ℕ) : Type 0 where
  pub bodies : List (List ℕ)
  pub text : octets ≡ batches_text bodies
  pub sized : AllByRecursion IsBody bodies

pub no_text : IsText []
no_text = record { bodies = []; text = refl; sized = tt }

-- the parts of a batch and what is behind it
pub behind_gate : (body rest : List ℕ) → drop 1 (open_batch body ++ rest) ≡ to_le_bytes w32 (length body) ++
    (body ++ rest)
behind_gate body rest = append_assoc (to_le_bytes w32 (length body)) body rest

pub head_is : (body rest : List ℕ) → take 4 (drop 1 (open_batch body ++ rest)) ≡ to_le_bytes w32 (length body)
head_is body rest = ap (λ (l : List ℕ). take 4 l) (behind_gate body rest) ∙ take_at (to_le_bytes w32 (length body))
    (body ++ rest) 4 refl

pub body_is : (body rest : List ℕ) → drop 5 (open_batch body ++ rest) ≡ body ++ rest
body_is body rest = ap (λ (l : List ℕ). drop 4 l) (behind_gate body rest) ∙ drop_at (to_le_bytes w32 (length body))
    (body ++ rest) 4 refl

pub same_batch : (b c x y : List ℕ) → IsBody b → IsBody c → open_batch b ++ x ≡ open_batch c ++ y → (b ≡ c) × (x ≡ y)
same_batch b c x y b_sized c_sized is =
    let heads : to_le_bytes w32 (length b) ≡ to_le_bytes w32 (length c) = sym (head_is b x) ∙ ap
    (λ (l : List ℕ). take 4 (drop 1 l)) is ∙ head_is c y in
    let lengths : length b ≡ length c =
    sym (from_le_bytes-to_le_bytes_4 (length b) b_sized) ∙ ap (from_le_bytes w32) heads ∙ from_le_bytes-to_le_bytes_4
    (length c) c_sized in
    let tails : b ++ x ≡ c ++ y = sym (body_is b x) ∙ ap (λ (l : List ℕ). drop 5 l) is ∙ body_is c y in (
      sym (take_at b x (length b) refl) ∙ ap (λ (l : List ℕ). take (length b) l) tails ∙ take_at c y (length b)
          (sym lengths),
      sym (drop_at b x (length b) refl) ∙ ap (λ (l : List ℕ). drop (length b) l) tails ∙ drop_at c y (length b)
          (sym lengths),
    )

one_text : (bs cs : List (List ℕ)) (x y : List ℕ) → batches_text bs ++ x ≡ batches_text cs ++ y → IsClosed x
    → IsClosed y → AllByRecursion IsBody bs → AllByRecursion IsBody cs → bs ≡ cs
one_text [] [] x y is x_closed y_closed b_sized c_sized = refl
one_text [] (c ∷ cs) x y is x_closed y_closed b_sized c_sized = absurd
    (x_closed c (batches_text cs ++ y) c_sized.0 (is ∙ append_assoc (open_batch c) (batches_text cs) y))
one_text (b ∷ bs) [] x y is x_closed y_closed b_sized c_sized = absurd
    (y_closed b (batches_text bs ++ x) b_sized.0 (sym is ∙ append_assoc (open_batch b) (batches_text bs) x))
one_text (b ∷ bs) (c ∷ cs) x y is x_closed y_closed b_sized c_sized =
    let same = same_batch b c (batches_text bs ++ x) (batches_text cs ++ y) b_sized.0 c_sized.0
    (sym (append_assoc (open_batch b) (batches_text bs) x) ∙ is ∙ append_assoc (open_batch c) (batches_text cs) y) in
    let more = one_text bs cs x y same.1 x_closed y_closed b_sized.1 c_sized.1 in
    ap (λ (h : List ℕ). h ∷ bs) same.0 ∙ ap (λ (t : List (List ℕ)). c ∷ t) more

-- a file has these batches or others, and not both
pub one_reading : (file : List ℕ) (bs cs : List (List ℕ)) → HasBatches file bs → HasBatches file cs → bs ≡ cs
one_reading file bs cs b c = one_text bs cs b.tail c.tail (sym b.text ∙ c.text) b.closed c.closed b.sized c.sized

-- one batch more
pub more_text : (file : List ℕ) (end len : ℕ) → end ≤ length file → IsText (take end file)
    → BeginsWithBatch (drop end file) len → (end + (5 + len) ≤ length file) × IsText (take (end + (5 + len)) file)
more_text file end len within before next =
    let front : file ≡ batches_text before.bodies ++ open_batch next.body ++ next.rest =
    sym (take-append-drop end file) ∙ ap (λ (l : List ℕ). l ++ drop end file) before.text ∙ ap
    (λ (l : List ℕ). batches_text before.bodies ++ l) next.text
    ∙ sym (append_assoc (batches_text before.bodies) (open_batch next.body) next.rest) in
    let size : length (open_batch next.body) ≡ 5 + len = omega
    (arith, next.len_is, length-append (to_le_bytes w32 (length next.body)) next.body) in
    let end_is : length (batches_text before.bodies) ≡ end = ap (λ (l : List ℕ). length l) (sym before.text) ∙
    length-take end file ∙ (omega (arith, within)) in
    let whole : length (batches_text before.bodies ++ open_batch next.body) ≡ end + (5 + len) = omega
    (arith, length-append (batches_text before.bodies) (open_batch next.body), size, end_is) in
    let more = ap (λ (l : List ℕ). take (end + (5 + len)) l) front ∙ take_at
    (batches_text before.bodies ++ open_batch next.body) next.rest (end + (5 + len)) whole in
    let push = sym (append-nil (batches_text (before.bodies ++ next.body ∷ []))) ∙ text-push before.bodies next.body []
    ∙ append-nil (batches_text before.bodies ++ open_batch next.body) in (
      omega (
        arith,
        ap (λ (l : List ℕ). length l) front,
        length-append
            (batches_text before.bodies ++ open_batch next.body) next.rest,
        whole,
      ),
      record {
        bodies = before.bodies ++ next.body ∷ [];
        text = more ∙ sym push;
        sized = sized_push before.bodies
            next.body before.sized next.sized;
      },
    )

-- the batches end where none begins
pub ends : (file : List ℕ) (end : ℕ) → end ≤ length file → IsText (take end file) → IsClosed (drop end file)
    → (bodies : List (List ℕ)) × EndsAt file bodies end
ends file end within before closed = (
  before.bodies,
  record {
    tail = drop end file;
    text = sym (take-append-drop end file) ∙ ap (λ (l : List ℕ). l ++ drop end file) before.text;
    closed = closed;
    sized = before.sized;
    end_is = sym (ap (λ (l : List ℕ). length l) (sym before.text) ∙ length-take end file ∙ (omega (arith, within)));
  },
)

-- an open octet, a number, and at least so many octets behind
pub begins : (octets : List ℕ) (len : ℕ) → 5 ≤ length octets → get_or octets 0 0 ≡ 1 → len ≤ length octets - 5
    → ((i : ℕ) → get_or octets i 0 < 256)
    → len ≡ from_le_bytes w32 (get_or octets 1 0 ∷ get_or octets 2 0 ∷ get_or octets 3 0 ∷ get_or octets 4 0 ∷ [])
    → len < 2 ^ 32 → BeginsWithBatch octets len
begins [] len long open_gate fits bytes number small = absurd (omega (arith, long))
begins (g ∷ []) len long open_gate fits bytes number small = absurd (omega (arith, long))
begins (g ∷ h ∷ []) len long open_gate fits bytes number small = absurd (omega (arith, long))
begins (g ∷ h ∷ i ∷ []) len long open_gate fits bytes number small = absurd (omega (arith, long))
begins (g ∷ h ∷ i ∷ j ∷ []) len long open_gate fits bytes number small = absurd (omega (arith, long))
begins (g ∷ h ∷ i ∷ j ∷ k ∷ behind) len long open_gate fits bytes number small =
    let head = h ∷ i ∷ j ∷ k ∷ [] in
    let body = take len behind in
    let body_len : length body ≡ len = omega (arith, length-take len behind, fits, long) in
    let encoded : to_le_bytes w32 len ≡ head = le_bytes_4 head len refl below number in
    let written : to_le_bytes w32 (length body) ≡ head = ap (to_le_bytes w32) body_len ∙ encoded in
    record {
      body = body;
      rest = drop len behind;
      text =
          ap (λ (n : ℕ). n ∷ head ++ behind) open_gate
          ∙ ap (λ (l : List ℕ). 1 ∷ head ++ l) (sym (take-append-drop len behind))
          ∙ ap (λ (l : List ℕ). 1 ∷ l ++ (body ++ drop len behind)) (sym written)
          ∙ ap (λ (l : List ℕ). 1 ∷ l) (sym (append_assoc (to_le_bytes w32 (length body)) body (drop len behind)));
      len_is = sym body_len;
      sized = omega (arith, body_len, small);
    }
  where
    below : (n : ℕ) → get_or (h ∷ i ∷ j ∷ k ∷ []) n 0 < 256
    below zero = bytes 1
    below (suc zero) = bytes 2
    below (suc (suc zero)) = bytes 3
    below (suc (suc (suc zero))) = bytes 4
    below (suc (suc (suc (suc n)))) = lit< tt

-- what is found after a crash is what it left
pub found_after : (state : State) (name : List ℕ) (bodies : List (List ℕ)) (body : List ℕ) (octets : Option (List ℕ))
    (file : List ℕ) (found : List (List ℕ)) → LeavesBatches state name (WithOrWithout bodies body)
    → NameMayLeave (state.entries name) octets → octets ≡ Some file → HasBatches file found
    → WithOrWithout bodies body found
found_after state name bodies body octets file found leaves may is has =
    let left = subst (λ (o : Option (List ℕ)). IsSomeAnd o
    (λ c. (b : List (List ℕ)) × HasBatches c b × WithOrWithout bodies body b)) is (leaves octets may) in
    subst (WithOrWithout bodies body) (one_reading file left.0 found left.1 has) left.2
