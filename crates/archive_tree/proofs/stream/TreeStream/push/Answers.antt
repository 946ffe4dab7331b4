use Rattle.std.proofs.Common.{◌≡◌, ◌<◌, ◌≤◌, ◌^◌, ◌∷◌, [], ◌++◌, ◌+◌, List, ℕ, length, reverse, refl, sym, ap, subst}
use Rattle.std.proofs.Common.{◌∙◌, arith, length-append}
use Rattle.std.specs.Prelude.{Result, Ok, Err, IsOk, OnOk}
use Rattle.archive_tree.specs.Trees.{IsAny, IsCarried, IsFollowed, IsStack, IsNotLarger, IsPathIn}
use Rattle.archive_tree.proofs.Stacks.{one_not_larger, put_last, reverse_last}
use Rattle.archive_tree.proofs.Rooms.{has_room}
use Rattle.archive_tree.proofs.Paths.{path_of_one}
use Rattle.archive_tree.specs.declared.head.TreeHead.{TreeHead}
use Rattle.archive_tree.proofs.stream.TreeStream.push.Goals as goal

pushed : {T E : Type 0} (r : Result T E) (P : Type 0) → IsOk r → OnOk r P → P
pushed (Ok x) P is h = h
pushed (Err e) P is h = absurd (cc is)

pub returns-clause-taken : goal.returns-clause-taken
returns-clause-taken c =
    λ xs room h.
    let all : List (List ℕ) = xs ++ c.args.octets.now ∷ [] in
    let more : length all ≡ length xs + 1 = length-append xs (c.args.octets.now ∷ []) in
    let old : List TreeHead = c.args.self.now.heads.items in
    let new : List TreeHead = c.carry-tree.new.heads.items in
    let one : c.of_one.result.size ≡ 1 = c.of_one.ensures.size in
    let begun : IsCarried IsAny (reverse old) c.of_one.result all = record {
      before = xs;
      inside = c.args.octets.now ∷ [];
      all = refl;
      stack = h.stack;
      head = c.of_one.ensures;
      also = tt;
      perfect = (0, one);
    } in
    let most : IsNotLarger c.of_one.result.size (reverse old) =
    subst (λ (n : ℕ). IsNotLarger n (reverse old)) (sym one) (one_not_larger IsAny (reverse old) xs h.stack) in
    let count : c.saturating_add-count.result ≡ length all =
    c.saturating_add-count.ensures ∙ omega (arith, h.count, more, room) in
    let carried = c.carry-tree.ensures.taken all (omega arith) count begun most in
    let stack : IsStack IsAny (c.carry-tree.result ∷ reverse new) all =
    put_last IsAny all (reverse new) c.carry-tree.result carried.0 carried.1 in
    let fits : length new < 64 = has_room IsAny new c.carry-tree.result all (omega arith) stack in
    record {
      count = count;
      stack = subst (λ (l : List TreeHead). IsStack IsAny l all)
          (sym (reverse_last c.try_push.new.self.items new c.carry-tree.result
          (pushed c.try_push.result _ (c.try_push.ensures.variant.1 fits) c.try_push.ensures.ok))) stack;
    }

pub returns-clause-followed : goal.returns-clause-followed
returns-clause-followed c =
    λ index p q xs at room h.
    let all : List (List ℕ) = xs ++ c.args.octets.now ∷ [] in
    let more : length all ≡ length xs + 1 = length-append xs (c.args.octets.now ∷ []) in
    let old : List TreeHead = c.args.self.now.heads.items in
    let new : List TreeHead = c.carry-tree.new.heads.items in
    let one : c.of_one.result.size ≡ 1 = c.of_one.ensures.size in
    let own : p.index ≡ index = h.own in
    let begun : IsCarried (IsPathIn p) (reverse old) c.of_one.result all = record {
      before = xs;
      inside = c.args.octets.now ∷ [];
      all = refl;
      stack = h.stack;
      head = c.of_one.ensures;
      also = path_of_one p (length xs) c.args.octets.now (λ (behind : length xs ≤ p.index). h.begins (omega arith));
      perfect = (0, one);
    } in
    let most : IsNotLarger c.of_one.result.size (reverse old) =
    subst (λ (n : ℕ). IsNotLarger n (reverse old)) (sym one) (one_not_larger (IsPathIn p) (reverse old) xs h.stack) in
    let count : c.saturating_add-count.result ≡ length all =
    c.saturating_add-count.ensures ∙ omega (arith, h.count, more, room) in
    let carried = c.carry-tree.ensures.followed p q all at (omega arith) count begun most in
    let stack : IsStack (IsPathIn q) (c.carry-tree.result ∷ reverse new) all =
    put_last (IsPathIn q) all (reverse new) c.carry-tree.result carried.2 carried.3 in
    let fits : length new < 64 = has_room (IsPathIn q) new c.carry-tree.result all (omega arith) stack in
    record {
      own = carried.0 ∙ own;
      count = count;
      stack = subst (λ (l : List TreeHead). IsStack (IsPathIn q) l all)
          (sym (reverse_last c.try_push.new.self.items new c.carry-tree.result
          (pushed c.try_push.result _ (c.try_push.ensures.variant.1 fits) c.try_push.ensures.ok))) stack;
      begins = λ behind. carried.1 (omega arith) ∙ h.begins (omega arith);
    }
