use Rattle.std.proofs.Common.{List, ℕ, subst, sym, take_all, refl, ◌≡◌, ◌++◌, ◌∷◌, []}
use Rattle.std.specs.Prelude.{Contains}
use Rattle.read_engine.proofs.Outside.{inside_next, outside_push}
use Rattle.read_engine.proofs.damaged.outside_of.Goals as goal
use Rattle.read_engine.proofs.damaged.outside_of.Goals.{then-is_outside_name+in_ok-copy+in_ok-push, else-is_outside_name}

pub names-preserved : goal.names-preserved
names-preserved c = elim c.if-is_outside_name.branch [
  | then-is_outside_name+in_ok-copy+in_ok-push w ↦
      let next = c.name-item.result in
      let old = c.names.outside.items in
      let copied : w.in_ok-copy.field-0 ≡ next = w.in_ok-copy.ensures in
      let new : w.push.new.self.items ≡ old ++ next ∷ [] = rw (sym copied) w.in_ok-push.ensures.items in
      let both = outside_push c.args.range.now c.args.names.now old c.names.name-index next c.names-test.true
      c.name-item.is (w.if-is_outside_name.ensures.outside refl) c.names.invariant.outside c.names.invariant.others in
      rw w.outside-is (rw new (record { outside = both.0; others = both.1 }))
  | else-is_outside_name w ↦
      rw w.outside-is (record {
        outside = c.names.invariant.outside;
        others = inside_next c.args.range.now c.args.names.now c.names.outside.items c.names.name-index c.name-item.result
            c.names-test.true c.name-item.is (w.if-is_outside_name.ensures.inside refl) c.names.invariant.others;
      })
]

pub returns-clause-others : goal.returns-clause-others
returns-clause-others c = λ name has.
    c.names.invariant.others name (subst (λ (l : List (List ℕ)). Contains l name)
    (sym (take_all c.names.name-index c.args.names.now c.names-test.false)) has)
