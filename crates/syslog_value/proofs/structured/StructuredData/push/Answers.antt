use Rattle.std.proofs.Common.{◌∙◌, refl}
use Rattle.syslog_value.proofs.Ids.{all_insert, id_found, offset_found, fits_absent, fits_by_id, fits_adds}
use Rattle.syslog_value.specs.Parts.{IsElement}
use Rattle.syslog_value.proofs.structured.StructuredData.push.Goals as goal

pub returns-in-Ok-clause-err : goal.returns-in-Ok-clause-err
returns-in-Ok-clause-err c =
    let bound = rw c.as_slice.ensures.value at c.in-Ok.ensures.bound in
    let offset = rw (c.as_slice.ensures.value, c.id.ensures.value) at c.in-Ok.ensures.offset in (
      refl,
      rw (← c.self.view_is) (id_found c.args.element c.self.inside.elements.items c.in-Ok.field-0 bound offset),
      refl,
    )

pub returns-in-Err-insert-clause-err : goal.returns-in-Err-insert-clause-err
returns-in-Err-insert-clause-err c =
    let bound = rw c.as_slice.ensures.value at c.in-Err.ensures.bound in
    let offset = rw (c.as_slice.ensures.value, c.id.ensures.value) at c.in-Err.ensures.offset in
    let fits = offset_found c.args.element c.self.inside.elements.items c.in-Err.offset bound c.self.invariant.1 offset
    in (
      c.in-Err-insert.ensures.value_returned,
      rw (← c.self.view_is) (fits_absent c.args.element _ _ fits),
      c.in-Err-insert.ensures.items ∙ c.self.view_is,
    )

pub invariant_of-self-2 : goal.invariant_of-self-2
invariant_of-self-2 c =
    let bound = rw c.as_slice.ensures.value at c.in-Err.ensures.bound in
    let offset = rw (c.as_slice.ensures.value, c.id.ensures.value) at c.in-Err.ensures.offset in
    let fits = offset_found c.args.element c.self.inside.elements.items c.in-Err.offset bound c.self.invariant.1 offset
    in
    rw c.in_default.ensures.items (
      all_insert IsElement c.in-Err.offset c.args.element _ c.id.ensures.valid c.self.invariant.0,
      fits_by_id c.args.element _ _ fits c.self.invariant.1,
    )

pub returns-clause-ok : goal.returns-clause-ok
returns-clause-ok c =
    let bound = rw c.as_slice.ensures.value at c.in-Err.ensures.bound in
    let offset = rw (c.as_slice.ensures.value, c.id.ensures.value) at c.in-Err.ensures.offset in
    let fits = offset_found c.args.element c.self.inside.elements.items c.in-Err.offset bound c.self.invariant.1 offset
    in
    rw (← c.self.view_is) (fits_adds c.args.element _ _ c.in-Err.offset fits c.self.invariant.1
    c.in_default.ensures.items)
