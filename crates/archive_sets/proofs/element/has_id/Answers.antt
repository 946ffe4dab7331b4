use Rattle.std.proofs.Common.{rules, ◌≡◌, IsTrue, false, refl}
use Rattle.syslog_reading.specs.PartsLeft.{elements_left}
use Rattle.syslog_reading.specs.Views.{element_span}
use Rattle.archive_sets.proofs.Ids.{searched_all, searched_found, searched_more}
use Rattle.archive_sets.proofs.element.has_id.Goals as goal

pub returns-then-eq : goal.returns-then-eq
returns-then-eq c = λ es h.
    let v = element_span c.in-Some.element in
    let this : v.id ≡ c.args.id.now = search rules in (
      λ on. searched_found c.args.id.now (elements_left c.args.elements) _ _ v c.in-Some.ensures.steps this
          c.elements.invariant es h,
      λ has. refl,
    )

pub elements-preserved : goal.elements-preserved
elements-preserved c =
    let v = element_span c.in-Some.element in
    let other : ¬ (v.id ≡ c.args.id.now) =
    λ this. (let off : c.eq.result ≡ false = search rules in let on : IsTrue c.eq.result = search rules in absurd cc) in
    searched_more c.args.id.now (elements_left c.args.elements) _ _ v c.in-Some.ensures.steps other c.elements.invariant

pub returns : goal.returns
returns c = λ es h. (
  λ on. absurd cc,
  λ has. absurd (searched_all c.args.id.now (elements_left c.args.elements) _ c.in_default.ensures.steps.0
      c.elements.invariant es h has),
)
