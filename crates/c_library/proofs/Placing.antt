-- Items that are put into a room from an index on.
use Rattle.std.proofs.Common.{◌≡◌, ℕ, zero, suc, ◌+◌, ◌≤◌, ◌<◌, List, [], ◌∷◌, ◌++◌, length, take, drop, refl, ap, arith}
use Rattle.c_library.specs.PartSpans.{placed}

pub placed_none : {X : Type 0} (n : ℕ) (room : List X) → placed n [] room ≡ room
unfolding placed
placed_none zero [] = refl
placed_none (suc n) [] = refl
placed_none zero (y ∷ room) = refl
placed_none (suc n) (y ∷ room) = ap (λ u. y ∷ u) (placed_none n room)

-- behind those that were put, others are
pub placed_more : {X : Type 0} (n m : ℕ) (xs ys room : List X) → m ≡ n + length xs
    → placed m ys (placed n xs room) ≡ placed n (xs ++ ys) room
unfolding placed
placed_more n m xs ys [] e = refl
placed_more (suc n) zero xs ys (y ∷ room) e = absurd (omega (arith, e))
placed_more (suc n) (suc m) xs ys (y ∷ room) e = ap (λ u. y ∷ u) (placed_more n m xs ys room (omega (arith, e)))
placed_more zero m [] ys (y ∷ room) e = let f : m ≡ 0 = omega (arith, e) in rw f refl
placed_more zero zero (x ∷ xs) ys (y ∷ room) e = absurd (omega (arith, e))
placed_more zero (suc m) (x ∷ xs) ys (y ∷ room) e = ap (λ u. x ∷ u) (placed_more zero m xs ys room (omega (arith, e)))

-- an index behind the room changes nothing
pub placed_behind : {X : Type 0} (n : ℕ) (xs room : List X) → length room ≤ n → placed n xs room ≡ room
unfolding placed
placed_behind n xs [] le = refl
placed_behind zero xs (y ∷ room) le = absurd (omega (arith, le))
placed_behind (suc n) xs (y ∷ room) le = ap (λ u. y ∷ u) (placed_behind n xs room (omega (arith, le)))

-- as many as fit stand between the front of the room and its end
pub placed_parts : {X : Type 0} (n : ℕ) (xs room : List X) (k : ℕ) → n ≤ length room → k ≤ length xs
    → n + k ≤ length room → (k < length xs → n + k ≡ length room)
    → placed n xs room ≡ take n room ++ (take k xs ++ drop k (drop n room))
unfolding placed
placed_parts zero [] [] k a b c d = let e : k ≡ 0 = omega (arith, b) in rw e refl
placed_parts zero (x ∷ xs) [] k a b c d = let e : k ≡ 0 = omega (arith, c) in rw e refl
placed_parts (suc n) xs [] k a b c d = absurd (omega (arith, a))
placed_parts (suc n) xs (y ∷ room) k a b c d =
    ap (λ u. y ∷ u)
    (placed_parts n xs room k (omega (arith, a)) b (omega (arith, c)) (λ lt. omega (arith, d lt)))
placed_parts zero [] (y ∷ room) k a b c d = let e : k ≡ 0 = omega (arith, b) in rw e refl
placed_parts zero (x ∷ xs) (y ∷ room) zero a b c d = absurd (omega (arith, d (omega arith)))
placed_parts zero (x ∷ xs) (y ∷ room) (suc k) a b c d =
    ap (λ u. x ∷ u)
    (placed_parts 0 xs room k (omega arith) (omega (arith, b)) (omega (arith, c))
    (λ lt. omega (arith, d (omega (arith, lt)))))
