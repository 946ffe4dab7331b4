use Rattle.std.proofs.Common.{◌≡◌, ◌<◌, ◌^◌, List, ℕ, [], ◌∷◌, ◌++◌, arith, rules, take, sym, ap, subst, ◌∙◌}
use Rattle.std.proofs.lemmas.List.{take_all, take_more}
use Rattle.record_store.specs.Names.{AreNumbersOf, journal_name}
use Rattle.record_store.proofs.Numbers.{numbers_more, numbers_none, numbers_same}
use Rattle.record_store.proofs.names.numbers_up_to.Goals as goal
use Rattle.record_store.proofs.names.numbers_up_to.Goals.{in-Some+in_ok-push, in_default}

pub loop-name-init : goal.loop-name-init
loop-name-init c = subst (AreNumbersOf [] c.args.last) (sym c.new-numbers.ensures.items) (numbers_none c.args.last)

pub loop-name-preserved : goal.loop-name-preserved
loop-name-preserved c =
    let names = c.args.names.now in
    let first = take c.loop-name.name-index names in
    let name = c.name-item.result in
    let last = c.args.last in
    let before = c.loop-name.numbers.items in
    let after = c.match-number_up_to.numbers.items in
    let small : last < 2 ^ 64 = omega (arith, c.ranges.last.fits) in
    let more = take_more names c.loop-name.name-index name c.loop-name-test.true
    ∙ ap (λ (n : List ℕ). first ++ n ∷ []) (sym c.name-item.is) in
    subst (λ (l : List (List ℕ)). AreNumbersOf l last after) (sym more)
    (elim c.match-number_up_to.branch [
      | in-Some+in_ok-push w ↦
          let number = w.in-Some.number in
          let is : after ≡ before ++ number ∷ [] = search rules in
          let some = w.in-Some.ensures.some in
          subst (AreNumbersOf (first ++ name ∷ []) last) (sym is)
          (numbers_more first name last before small c.loop-name.invariant number some.0
          (sym c.as_octets.ensures.value ∙ some.1))
      | in_default w ↦
          let is : after ≡ before = search rules in
          subst (AreNumbersOf (first ++ name ∷ []) last) (sym is)
          (numbers_same first name last before small c.loop-name.invariant
          (λ n up named. w.in_default.ensures.none n up (c.as_octets.ensures.value ∙ named)))
    ])

pub returns : goal.returns
returns c =
    subst (λ (l : List (List ℕ)). AreNumbersOf l c.args.last c.loop-name.numbers.items)
    (take_all c.loop-name.name-index c.args.names.now c.loop-name-test.false) c.loop-name.invariant
